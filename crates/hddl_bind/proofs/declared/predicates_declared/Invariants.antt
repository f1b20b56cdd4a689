use Rattle.std.proofs.Common.{◌≡◌, take}
use Rattle.hddl_bind.specs.DeclaredNames.{heads_declared}
use Rattle.hddl_bind.proofs.declared.predicates_declared.Given as goal

abbrev pub invariant-loop-head : goal.invariant-loop-head
invariant-loop-head l = record {
  declared : l.predicates ≡ heads_declared (take l.head-index l.heads);
}
