use Rattle.std.proofs.Common.{◌≡◌, map, take}
use Rattle.std.specs.List.{fold}
use Rattle.name_binding.specs.Parents.{place_of}
use Rattle.name_binding.specs.Seen.{with_number}
use Rattle.name_binding.proofs.parents.put_parents.Given as goal

abbrev pub invariant-loop-parent : goal.invariant-loop-parent
invariant-loop-parent l = l.into ≡ fold with_number l.fn.into (map (place_of l.types) (take l.parent-index l.written))
