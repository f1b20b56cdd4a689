use Rattle.std.proofs.Common.{◌≡◌, ◌-◌}
use Rattle.text_forms.specs.Placed.{parts_at}
use Rattle.text_forms.specs.Tokens.{token_count}
use Rattle.text_forms.specs.sexpr_text.Positions.{IsPosition}
use Rattle.gd_reader.specs.Added.{AddsOf}
use Rattle.gd_reader.specs.Answers.{with_front}
use Rattle.gd_reader.specs.Terms.{Keeps}
use Rattle.hddl_reader.specs.Sections.{facts}
use Rattle.hddl_reader.proofs.facts.put_each.Given as goal

abbrev pub invariant-loop-inside : goal.invariant-loop-inside
invariant-loop-inside l = record {
  here : IsPosition l.s l.p;
  keeps : Keeps l.initial.names l.names;
  adds : AddsOf l.s l.initial.names l.names;
  rest : with_front l.into (facts l.names (parts_at l.s l.p.token)) ≡ with_front l.initial.into (facts l.initial.names (parts_at l.s l.initial.p.token));
}

abbrev pub decreases-loop-inside : goal.decreases-loop-inside
decreases-loop-inside l = token_count l.s - l.p.token
