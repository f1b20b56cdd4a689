use Rattle.std.proofs.Common.{◌≡◌, ◌-◌}
use Rattle.text_forms.specs.Placed.{parts_at}
use Rattle.text_forms.specs.Tokens.{token_count}
use Rattle.gd_reader.specs.Answers.{passed}
use Rattle.gd_reader.proofs.cursor.pass.Given as goal

abbrev pub invariant-loop-i : goal.invariant-loop-i
invariant-loop-i l = passed (parts_at l.s l.i) ≡ passed (parts_at l.s l.initial.i)

abbrev pub decreases-loop-i : goal.decreases-loop-i
decreases-loop-i l = token_count l.s - l.i
