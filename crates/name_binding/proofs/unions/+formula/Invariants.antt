use Rattle.std.proofs.Common.{◌≡◌, ◌++◌, map, take}
use Rattle.name_binding.specs.Unions.{joined, formula_unions}
use Rattle.name_binding.proofs.unions.+formula.Given as goal

abbrev pub invariant-put_unions_of_formulas-loop-part : goal.invariant-put_unions_of_formulas-loop-part
invariant-put_unions_of_formulas-loop-part l = l.into.items ≡ l.fn.into.items ++ joined (map (formula_unions l.table) (take l.part-index l.formulas))
