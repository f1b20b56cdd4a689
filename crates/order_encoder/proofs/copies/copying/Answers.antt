use Rattle.std.proofs.Common.{◌≡◌, ◌++◌, subst, sym, ap, ◌∙◌}
use Rattle.std.proofs.lemmas.Result.{IfOk-weaker}
use Rattle.plan_model.specs.declared.options.Style.{Style}
use Rattle.plan_model.specs.declared.options.Style.TheVariants.{Adl, Flat}
use Rattle.plan_model.specs.declared.terms.Term.TheVariants.{Var}
use Rattle.plan_model.specs.declared.effects.Effect.TheVariants.{And}
use Rattle.order_encoder.specs.OrderNames.{numbers}
use Rattle.order_encoder.specs.NamedOrders.{copy_all, copies, copying, Copies}
use Rattle.order_encoder.proofs.Meanings.{copies-means}
use Rattle.order_encoder.proofs.copies.copying.Goals as goal

pub returns-in-Adl-clause-means : goal.returns-in-Adl-clause-means
returns-in-Adl-clause-means c i j e f l k =
    let n = c.args.n.now in
    let b = c.args.slots in
    let d = c.args.depth in
    IfOk-weaker c.copy_all.result (λ x. x ≡ copy_all n d c.args.h c.args.child) (Copies n b d i j)
    (λ x g. subst (Copies n b d i j) (sym (g ∙ ap (λ t. copy_all n d t c.args.child) e ∙ ap (copy_all n d (Var i)) f)) (copies-means (numbers n) b d Adl i j l k)) c.copy_all.ensures

pub returns-in_ok-push_copying-in-Flat-clause-means : goal.returns-in_ok-push_copying-in-Flat-clause-means
returns-in_ok-push_copying-in-Flat-clause-means c i j e f l k =
    let n = c.args.n.now in
    let b = c.args.slots in
    let d = c.args.depth in
    let parts = λ (style : Style). copies n b d style c.args.h c.args.child in
    let is = c.in_ok-push_copying-in-Flat.ensures.parts ∙ ap (λ old. old ++ parts c.args.style.now) c.new-parts.ensures.empty ∙ ap parts c.in-Flat.is in
    subst (Copies n b d i j) (sym (ap And is ∙ ap (λ t. copying n b d Flat t c.args.child) e ∙ ap (copying n b d Flat (Var i)) f)) (copies-means (numbers n) b d Flat i j l k)
