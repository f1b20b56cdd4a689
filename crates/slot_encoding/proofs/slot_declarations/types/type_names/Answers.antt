use Rattle.slot_encoding.specs.slot_declarations.Made as made
use Rattle.slot_encoding.proofs.slot_declarations.Appended.{map_next}
use Rattle.slot_encoding.proofs.slot_declarations.types.type_names.Goals as goal

pub loop-name-preserved : goal.loop-name-preserved
loop-name-preserved c = map_next (made.renamed c.args.frame.now) _ c.loop-name.name-index _ _ c.loop-name.into _ _ c.loop-name-test.true c.loop-name.invariant c.renamed.ensures c.in_ok-push-4.ensures.pushed
