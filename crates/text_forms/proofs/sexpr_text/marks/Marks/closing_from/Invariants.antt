use Rattle.std.proofs.Common.{◌≡◌, ◌-◌, ◌≤◌}
use Rattle.text_forms.specs.Closing.{close_after}
use Rattle.text_forms.specs.sexpr_text.Places.{tokens_at, IsPlace}
use Rattle.text_forms.proofs.sexpr_text.marks.Marks.closing_from.Given as goal

abbrev pub invariant-loop-i : goal.invariant-loop-i
invariant-loop-i l = record {
  place : IsPlace l.source l.i l.place;
  depth : l.depth ≤ l.place.depth;
  rest : close_after 0 l.initial.i (tokens_at l.source l.initial.place.at) ≡ close_after (l.place.depth - l.depth) l.i (tokens_at l.source l.place.at);
}

abbrev pub decreases-loop-i : goal.decreases-loop-i
decreases-loop-i l = l.self.count - l.i
