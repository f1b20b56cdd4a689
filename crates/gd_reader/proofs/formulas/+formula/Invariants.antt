use Rattle.std.proofs.Common.{◌≡◌, ◌-◌, ◌*◌, ◌≤◌}
use Rattle.text_forms.specs.Placed.{parts_at}
use Rattle.text_forms.specs.Tokens.{token_count}
use Rattle.gd_reader.specs.Added.{AddsOf}
use Rattle.gd_reader.specs.Answers.{with_front}
use Rattle.gd_reader.specs.Formulas.{formulas}
use Rattle.gd_reader.specs.Terms.{Keeps}
use Rattle.gd_reader.proofs.formulas.+formula.Given as goal

abbrev pub decreases-formulas_of : goal.decreases-formulas_of
decreases-formulas_of l = 2 * (token_count l.s.now - l.i)

abbrev pub decreases-inside_of : goal.decreases-inside_of
decreases-inside_of l = 2 * (token_count l.s.now - l.i)

abbrev pub decreases-one_of : goal.decreases-one_of
decreases-one_of l = 2 * (token_count l.s.now - l.i)

abbrev pub decreases-bound_of : goal.decreases-bound_of
decreases-bound_of l = 2 * (token_count l.s.now - l.i)

abbrev pub invariant-formulas_of-loop-parts : goal.invariant-formulas_of-loop-parts
invariant-formulas_of-loop-parts l = record {
  rest : with_front l.parts (formulas l.names (parts_at l.s l.i)) ≡ formulas l.initial.names (parts_at l.s l.initial.i);
  later : l.initial.i ≤ l.i;
  keeps : Keeps l.initial.names l.names;
  adds : AddsOf l.s l.initial.names l.names;
}

abbrev pub decreases-formulas_of-loop-parts : goal.decreases-formulas_of-loop-parts
decreases-formulas_of-loop-parts l = token_count l.s - l.i
