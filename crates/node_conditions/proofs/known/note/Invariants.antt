use Rattle.std.proofs.Common.{List, ◌++◌, take}
use Rattle.plan_model.specs.declared.terms.Term.{Term}
use Rattle.node_conditions.specs.Taken.{IsKnown}
use Rattle.node_conditions.proofs.known.note.Given as goal

abbrev pub invariant-loop-term : goal.invariant-loop-term
invariant-loop-term l = (done : List Term) → IsKnown l.values done l.initial.known
    → IsKnown l.values (done ++ take l.term-index l.terms) l.known
