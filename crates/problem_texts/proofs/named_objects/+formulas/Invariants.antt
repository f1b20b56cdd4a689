use Rattle.std.proofs.Common.{◌≡◌, map, take}
use Rattle.slot_encoding.specs.encoded_texts.NamedObjects.{greatest, of_formula}
use Rattle.problem_texts.proofs.named_objects.+formulas.Given as goal

abbrev pub invariant-by_formulas-loop-formula : goal.invariant-by_formulas-loop-formula
invariant-by_formulas-loop-formula l = l.most ≡ greatest (map of_formula (take l.formula-index l.formulas))
