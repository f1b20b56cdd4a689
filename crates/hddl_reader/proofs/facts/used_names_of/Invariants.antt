use Rattle.std.proofs.Common.{◌≡◌, ◌-◌, ◌≤◌}
use Rattle.text_forms.specs.Placed.{parts_at}
use Rattle.text_forms.specs.Tokens.{token_count}
use Rattle.text_forms.specs.sexpr_text.Positions.{IsPosition}
use Rattle.gd_reader.specs.Added.{AddsOf}
use Rattle.gd_reader.specs.Answers.{with_front}
use Rattle.gd_reader.specs.ShownFrom.{behind_at}
use Rattle.gd_reader.specs.Terms.{Keeps}
use Rattle.hddl_reader.specs.Sections.{used_names}
use Rattle.hddl_reader.proofs.facts.used_names_of.Given as goal

abbrev pub invariant-loop-at : goal.invariant-loop-at
invariant-loop-at l = record {
  here : IsPosition l.s l.p;
  later : l.initial.p.token ≤ l.p.token;
  behind : behind_at l.s l.p.token ≡ behind_at l.s l.initial.p.token;
  keeps : Keeps l.initial.names l.names;
  adds : AddsOf l.s l.initial.names l.names;
  rest : with_front l.used.items (used_names l.names (parts_at l.s l.p.token)) ≡ used_names l.initial.names (parts_at l.s l.initial.p.token);
}

abbrev pub decreases-loop-at : goal.decreases-loop-at
decreases-loop-at l = token_count l.s - l.p.token
