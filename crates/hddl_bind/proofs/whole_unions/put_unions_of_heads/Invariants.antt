use Rattle.std.proofs.Common.{◌≡◌, ◌++◌, take}
use Rattle.hddl_bind.specs.WholeUnions.{heads_unions}
use Rattle.hddl_bind.proofs.whole_unions.put_unions_of_heads.Given as goal

abbrev pub invariant-loop-head : goal.invariant-loop-head
invariant-loop-head l = l.into.items ≡ l.fn.into.items ++ heads_unions l.types (take l.head-index l.heads)
