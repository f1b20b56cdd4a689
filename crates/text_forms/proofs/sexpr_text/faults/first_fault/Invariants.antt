use Rattle.std.proofs.Common.{◌≡◌, reverse, drop}
use Rattle.text_forms.specs.Bytes.{classes_from}
use Rattle.text_forms.specs.Least.{least, least_fault}
use Rattle.text_forms.proofs.sexpr_text.faults.first_fault.Given as goal

abbrev pub invariant-loop-i : goal.invariant-loop-i
invariant-loop-i l = least (reverse l.open_lists.items) l.i (classes_from l.comment (drop l.i l.source)) ≡ least_fault l.source
