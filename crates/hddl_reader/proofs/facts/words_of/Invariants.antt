use Rattle.std.proofs.Common.{◌≡◌, ◌-◌}
use Rattle.text_forms.specs.Placed.{parts_at}
use Rattle.text_forms.specs.Tokens.{token_count}
use Rattle.hddl_reader.specs.Sections.{words}
use Rattle.hddl_reader.proofs.facts.words_of.Given as goal

abbrev pub invariant-loop-i : goal.invariant-loop-i
invariant-loop-i l = words (parts_at l.s l.i) ≡ words (parts_at l.s l.initial.i)

abbrev pub decreases-loop-i : goal.decreases-loop-i
decreases-loop-i l = token_count l.s - l.i
