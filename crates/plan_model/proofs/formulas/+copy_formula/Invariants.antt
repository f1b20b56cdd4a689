use Rattle.std.proofs.Common.{◌≡◌, take}
use Rattle.plan_model.proofs.formulas.+copy_formula.Given as goal

abbrev pub invariant-copy_list-loop-part : goal.invariant-copy_list-loop-part
invariant-copy_list-loop-part l = l.copies ≡ take l.part-index l.parts
