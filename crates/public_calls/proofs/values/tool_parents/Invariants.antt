use Rattle.plan_model.specs.Parts.{AreListedParents}
use Rattle.public_calls.proofs.values.tool_parents.Given as goal

abbrev pub invariant-loop-child : goal.invariant-loop-child
invariant-loop-child l = AreListedParents 5 l.parents
