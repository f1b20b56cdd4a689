use Rattle.std.proofs.Common.{◌≡◌, ◌++◌, subst, sym, ap, ◌∙◌}
use Rattle.std.proofs.lemmas.Result.{IfOk-weaker}
use Rattle.plan_model.specs.declared.options.Style.{Style}
use Rattle.plan_model.specs.declared.options.Style.TheVariants.{Adl, Flat}
use Rattle.plan_model.specs.declared.formulas.Formula.TheVariants.{And}
use Rattle.order_encoder.specs.OrderNames.{numbers}
use Rattle.order_encoder.specs.NamedOrders.{wait_for_all, waits, waiting, Waits}
use Rattle.order_encoder.proofs.Meanings.{waits-means}
use Rattle.order_encoder.proofs.waits.waiting.Goals as goal

pub returns-in-Adl-clause-means : goal.returns-in-Adl-clause-means
returns-in-Adl-clause-means c i e l =
    let n = c.args.n.now in
    let b = c.args.slots in
    let d = c.args.depth in
    IfOk-weaker c.wait_for_all.result (λ f. f ≡ wait_for_all n d c.args.h) (Waits n b d i)
    (λ f g. subst (Waits n b d i) (sym (g ∙ ap (wait_for_all n d) e)) (waits-means (numbers n) b d Adl i l)) c.wait_for_all.ensures

pub returns-in_ok-push_waiting-in-Flat-clause-means : goal.returns-in_ok-push_waiting-in-Flat-clause-means
returns-in_ok-push_waiting-in-Flat-clause-means c i e l =
    let n = c.args.n.now in
    let b = c.args.slots in
    let d = c.args.depth in
    let parts = λ (style : Style). waits n b d style c.args.h in
    let is = c.in_ok-push_waiting-in-Flat.ensures.parts ∙ ap (λ old. old ++ parts c.args.style.now) c.new-parts.ensures.empty ∙ ap parts c.in-Flat.is in
    subst (Waits n b d i) (sym (ap And is ∙ ap (waiting n b d Flat) e)) (waits-means (numbers n) b d Flat i l)
