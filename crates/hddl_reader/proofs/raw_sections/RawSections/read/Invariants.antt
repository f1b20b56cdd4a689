use Rattle.std.proofs.Common.{◌≡◌, ◌-◌}
use Rattle.text_forms.specs.Placed.{parts_at}
use Rattle.text_forms.specs.Tokens.{token_count}
use Rattle.gd_reader.specs.Added.{AddsOf}
use Rattle.gd_reader.specs.Terms.{Keeps}
use Rattle.hddl_reader.specs.Sections.{sections}
use Rattle.hddl_reader.proofs.raw_sections.RawSections.read.Given as goal

abbrev pub invariant-loop-self : goal.invariant-loop-self
invariant-loop-self l = record {
  keeps : Keeps l.initial.names l.names;
  adds : AddsOf l.s l.initial.names l.names;
  rest : sections l.language l.definition l.self l.names (parts_at l.s l.i) ≡ sections l.initial.language l.initial.definition l.initial.self l.initial.names (parts_at l.s l.initial.i);
}

abbrev pub decreases-loop-self : goal.decreases-loop-self
decreases-loop-self l = token_count l.s - l.i
