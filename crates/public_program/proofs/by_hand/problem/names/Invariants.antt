use Rattle.htn_base.specs.Table.{IsTable}
use Rattle.public_program.proofs.by_hand.problem.names.Given as goal

abbrev pub invariant-loop-word : goal.invariant-loop-word
invariant-loop-word l = IsTable l.names
