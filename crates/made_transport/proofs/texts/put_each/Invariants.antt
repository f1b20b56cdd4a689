use Rattle.std.proofs.Common.{◌≡◌, ◌++◌}
use Rattle.made_transport.specs.Made.{each_package}
use Rattle.made_transport.proofs.texts.put_each.Given as goal

abbrev pub invariant-loop-i : goal.invariant-loop-i
invariant-loop-i l = l.into ≡ l.initial.into ++ each_package l.i l.front l.back
