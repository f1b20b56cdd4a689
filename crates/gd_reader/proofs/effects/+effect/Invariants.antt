use Rattle.std.proofs.Common.{◌≡◌, ◌-◌, ◌*◌, ◌≤◌}
use Rattle.text_forms.specs.Placed.{parts_at}
use Rattle.text_forms.specs.Tokens.{token_count}
use Rattle.gd_reader.specs.Added.{AddsOf}
use Rattle.gd_reader.specs.Answers.{with_front}
use Rattle.gd_reader.specs.Effects.{effects}
use Rattle.gd_reader.specs.Terms.{Keeps}
use Rattle.gd_reader.proofs.effects.+effect.Given as goal

abbrev pub decreases-effects_of : goal.decreases-effects_of
decreases-effects_of l = 2 * (token_count l.s.now - l.i)

abbrev pub decreases-effect_inside_of : goal.decreases-effect_inside_of
decreases-effect_inside_of l = 2 * (token_count l.s.now - l.i)

abbrev pub decreases-one_effect_of : goal.decreases-one_effect_of
decreases-one_effect_of l = 2 * (token_count l.s.now - l.i)

abbrev pub invariant-effects_of-loop-parts : goal.invariant-effects_of-loop-parts
invariant-effects_of-loop-parts l = record {
  rest : with_front l.parts (effects l.names (parts_at l.s l.i)) ≡ effects l.initial.names (parts_at l.s l.initial.i);
  later : l.initial.i ≤ l.i;
  keeps : Keeps l.initial.names l.names;
  adds : AddsOf l.s l.initial.names l.names;
}

abbrev pub decreases-effects_of-loop-parts : goal.decreases-effects_of-loop-parts
decreases-effects_of-loop-parts l = token_count l.s - l.i
