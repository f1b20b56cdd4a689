use Rattle.std.proofs.Common.{◌≡◌, ◌-◌}
use Rattle.text_forms.specs.Placed.{parts_at}
use Rattle.text_forms.specs.Tokens.{token_count}
use Rattle.gd_reader.specs.Added.{AddsOf}
use Rattle.gd_reader.specs.Answers.{with_front}
use Rattle.gd_reader.specs.Terms.{Keeps, terms}
use Rattle.gd_reader.proofs.term.terms_of.Given as goal

abbrev pub invariant-loop-terms : goal.invariant-loop-terms
invariant-loop-terms l = record {
  keeps : Keeps l.initial.names l.names;
  adds : AddsOf l.s l.initial.names l.names;
  rest : with_front l.terms (terms l.names (parts_at l.s l.i)) ≡ terms l.initial.names (parts_at l.s l.initial.i);
}

abbrev pub decreases-loop-terms : goal.decreases-loop-terms
decreases-loop-terms l = token_count l.s - l.i
