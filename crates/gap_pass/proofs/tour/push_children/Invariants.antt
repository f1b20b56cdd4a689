use Rattle.std.proofs.Common.{◌≡◌, ◌++◌, drop}
use Rattle.gap_pass.specs.Tours.{entered}
use Rattle.gap_pass.proofs.tour.push_children.Given as goal

abbrev pub invariant-loop-number : goal.invariant-loop-number
invariant-loop-number l = l.stack.items ++ entered l.children (drop l.number-index l.line) ≡ l.initial.stack.items ++ entered
    l.children l.line
