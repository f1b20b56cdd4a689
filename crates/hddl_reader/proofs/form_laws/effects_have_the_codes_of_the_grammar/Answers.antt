use Rattle.std.proofs.Common.{[]}
use Rattle.text_forms.specs.form_grammar.Effects.{eff, effect_rows, effect_form}
use Rattle.gd_reader.specs.Effects.{effect_read}
use Rattle.gd_reader.specs.Grammar as plain
use Rattle.gd_reader.proofs.EffectExact.{effect_exact}
use Rattle.text_forms.proofs.form_grammar.TextLaws.{list_cuttable, prefix_laws}
use Rattle.hddl_reader.proofs.Calls.{reads_whole, faults_depart, same_form}
use Rattle.hddl_reader.proofs.EffectsSaid.{effect_said}
use Rattle.hddl_reader.proofs.form_laws.effects_have_the_codes_of_the_grammar.Goals as goal

pub returns : goal.returns
returns c = record {
  answers = λ names p. effect_said p names;
  read = reads_whole plain.effect_form effect_form effect_read (λ names p. effect_said p names);
  refused = faults_depart plain.effect_form effect_form effect_read (λ names p. effect_said p names);
  same = λ p. same_form (plain.effect_form p) (effect_form p) (effect_read [] p) (effect_exact p []).tells (effect_said p []);
  prefixes = prefix_laws effect_form (list_cuttable effect_rows 8 eff);
}
