use Rattle.std.proofs.Common.{◌≡◌, ◌≤◌, ◌-◌, length}
use Rattle.text_forms.specs.sexpr_text.Places.{tokens_at}
use Rattle.text_forms.proofs.sexpr_text.tokens.next_piece.Given as goal

abbrev pub decreases-loop-at : goal.decreases-loop-at
decreases-loop-at l = length l.source - l.at

abbrev pub invariant-loop-at : goal.invariant-loop-at
invariant-loop-at l = record { later : l.from ≤ l.at; tokens : tokens_at l.source l.from ≡ tokens_at l.source l.at }
