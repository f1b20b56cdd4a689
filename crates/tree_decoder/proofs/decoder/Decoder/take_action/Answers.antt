use Rattle.std.proofs.Common.{take_all, subst, ap, ◌∙◌, arith}
use Rattle.std.specs.Prelude.{IfOk}
use Rattle.std.proofs.lemmas.Grind.{common_steps}
use Rattle.plan_model.specs.declared.steps.GroundAction.{GroundAction}
use Rattle.ground_state.specs.Runs.{texts}
use Rattle.ground_state.proofs.RunLaws.{same_step}
use Rattle.tree_decoder.specs.Decoding.{Takes}
use Rattle.tree_decoder.proofs.decoder.Decoder.take_action.Goals as goal

pub loop-word-preserved : goal.loop-word-preserved
loop-word-preserved c = grind (arith, common_steps)

pub returns : goal.returns
returns c =
    let whole = take_all c.loop-word.word-index c.as_slice-word-items.result.now c.loop-word-test.false in
    let args = ap texts c.as_slice-3.ensures.value ∙ (c.loop-word.invariant ∙ (whole ∙ c.as_slice-word-items.ensures.items)) in
    let same = same_step c.args.step.now c.as_slice-2.result.now c.as_slice-3.result.now c.as_slice-2.ensures.bytes args in
    record { taken = subst (λ (s : GroundAction). IfOk c.take.result (Takes s c.args.self.now c.take.new.self)) same c.take.ensures.taken }
