use Rattle.std.proofs.Common.{◌-◌, length}
use Rattle.text_forms.specs.sexpr_text.Places.{IsReadTo}
use Rattle.text_forms.proofs.sexpr_text.marks.marks_of.Given as goal

abbrev pub invariant-loop-place : goal.invariant-loop-place
invariant-loop-place l = IsReadTo l.source l.marks l.place

abbrev pub decreases-loop-place : goal.decreases-loop-place
decreases-loop-place l = length l.source - l.place.at
