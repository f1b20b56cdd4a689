use Rattle.std.proofs.Common.{◌+◌, ◌*◌, ◌/◌}
use Rattle.text_forms.specs.sexpr_text.Places.{IsPlace}
use Rattle.text_forms.proofs.sexpr_text.marks.Marks.place_of.Given as goal

abbrev pub invariant-loop : goal.invariant-loop
invariant-loop l = IsPlace l.source (l.i / 8 * 8 + l.counter) l.place
