use Rattle.std.proofs.Common.{◌≡◌, ◌++◌, map, take}
use Rattle.name_binding.specs.Unions.{joined, effect_unions}
use Rattle.name_binding.proofs.unions.+effect.Given as goal

abbrev pub invariant-put_unions_of_effects-loop-part : goal.invariant-put_unions_of_effects-loop-part
invariant-put_unions_of_effects-loop-part l = l.into.items ≡ l.fn.into.items ++ joined (map (effect_unions l.table) (take l.part-index l.effects))
