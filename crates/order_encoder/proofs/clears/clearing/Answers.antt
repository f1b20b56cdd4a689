use Rattle.std.proofs.Common.{◌≡◌, ◌++◌, subst, sym, ap, ◌∙◌}
use Rattle.std.proofs.lemmas.Result.{IfOk-weaker}
use Rattle.plan_model.specs.declared.options.Style.{Style}
use Rattle.plan_model.specs.declared.options.Style.TheVariants.{Adl, Flat}
use Rattle.plan_model.specs.declared.effects.Effect.TheVariants.{And}
use Rattle.order_encoder.specs.OrderNames.{numbers}
use Rattle.order_encoder.specs.NamedOrders.{clear_all, clears, clearing, Clears}
use Rattle.order_encoder.proofs.Meanings.{clears-means}
use Rattle.order_encoder.proofs.clears.clearing.Goals as goal

pub returns-in-Adl-clause-means : goal.returns-in-Adl-clause-means
returns-in-Adl-clause-means c i e l =
    let n = c.args.n.now in
    let b = c.args.slots in
    let d = c.args.depth in
    IfOk-weaker c.clear_all.result (λ f. f ≡ clear_all n d c.args.h) (Clears n b d i)
    (λ f g. subst (Clears n b d i) (sym (g ∙ ap (clear_all n d) e)) (clears-means (numbers n) b d Adl i l)) c.clear_all.ensures

pub returns-in_ok-push_clearing-in-Flat-clause-means : goal.returns-in_ok-push_clearing-in-Flat-clause-means
returns-in_ok-push_clearing-in-Flat-clause-means c i e l =
    let n = c.args.n.now in
    let b = c.args.slots in
    let d = c.args.depth in
    let parts = λ (style : Style). clears n b d style c.args.h in
    let is = c.in_ok-push_clearing-in-Flat.ensures.parts ∙ ap (λ old. old ++ parts c.args.style.now) c.new-parts.ensures.empty ∙ ap parts c.in-Flat.is in
    subst (Clears n b d i) (sym (ap And is ∙ ap (clearing n b d Flat) e)) (clears-means (numbers n) b d Flat i l)
