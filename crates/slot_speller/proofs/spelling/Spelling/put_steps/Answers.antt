use Rattle.slot_speller.specs.Steps.{step_at}
use Rattle.slot_speller.proofs.PutWords.{step-next}
use Rattle.slot_speller.proofs.spelling.Spelling.put_steps.Goals as goal

pub loop-node-preserved : goal.loop-node-preserved
loop-node-preserved c =
    step-next (step_at c.args.c.now c.args.run.now.tree c.args.self.now.slots.by_node.items) c.as_slice-order.result.now
    c.loop-node.node-index 0 c.loop-node-test.true c.loop-node.invariant c.put_step.ensures
