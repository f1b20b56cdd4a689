use Rattle.std.proofs.Common.{◌≡◌, ◌++◌, take}
use Rattle.stack_encoder.proofs.declarations.push_predicates.Given as goal

abbrev pub invariant-loop-predicate : goal.invariant-loop-predicate
invariant-loop-predicate l = l.into ≡ l.initial.into ++ take l.predicate-index l.predicates
