use Rattle.std.proofs.Common.{◌≡◌, map, take}
use Rattle.name_binding.specs.Listed.{name_of}
use Rattle.name_binding.proofs.listed.types_of.Given as goal

abbrev pub invariant-loop-number : goal.invariant-loop-number
invariant-loop-number l = l.names ≡ map name_of (take l.number-index l.number-items)
