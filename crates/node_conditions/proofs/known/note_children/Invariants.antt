use Rattle.std.proofs.Common.{List, ◌++◌, take}
use Rattle.plan_model.specs.declared.terms.Term.{Term}
use Rattle.node_conditions.specs.Taken.{IsKnown, said_by}
use Rattle.node_conditions.proofs.known.note_children.Given as goal

abbrev pub invariant-loop-child : goal.invariant-loop-child
invariant-loop-child l = (done : List Term) → IsKnown l.values done l.initial.known
    → IsKnown l.values (done ++ said_by (take l.child-index l.children)) l.known
