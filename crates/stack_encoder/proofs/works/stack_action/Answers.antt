use Rattle.std.proofs.Common.{Some, ap, ◌∙◌, ◌≡◌, ◌+◌}
use Rattle.std.proofs.lemmas.Result.{IfOk-weaker}
use Rattle.plan_model.specs.declared.schemas.ActionSchema.{ActionSchema}
use Rattle.slot_encoding.specs.EncodedNames.{action_predicate}
use Rattle.stack_encoder.specs.Made as made
use Rattle.stack_encoder.proofs.works.stack_action.Goals as goal

pub returns : goal.returns
returns c =
    let f = c.args.frame.now in
    let s = c.args.action.now in
    let p : c.in_ok-predicate.predicate ≡ action_predicate f.compiled.now c.args.a = c.in_ok-predicate.ensures ∙ ap (λ k. k + c.args.a) c.requires.numbers.first_action in
    let params = c.as_slice-params.ensures.items in
    IfOk-weaker c.tip_action.result (λ (a : ActionSchema). a ≡ made.tip_action f c.renamed-name.result c.in_ok-predicate.predicate c.as_slice-params.result.now s.pre (Some s.eff)) (λ (a : ActionSchema). a ≡ made.source_action f c.args.a s)
    (λ a e. e ∙ (λ i. made.tip_action f (c.renamed-name.ensures i) (p i) (params i) s.pre (Some s.eff))) c.tip_action.ensures
