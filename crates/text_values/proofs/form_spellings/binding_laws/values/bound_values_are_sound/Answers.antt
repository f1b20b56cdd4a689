use Rattle.text_values.proofs.form_spellings.binding_laws.sound.Ordered.{is_ordered_both}
use Rattle.text_values.proofs.form_spellings.binding_laws.sound.FewUnions.{has_few_unions}
use Rattle.text_values.proofs.form_spellings.binding_laws.sound.Limits.{is_sound_both}
use Rattle.text_values.proofs.form_spellings.binding_laws.values.bound_values_are_sound.Goals as goal

pub returns : goal.returns
returns c = record { ordered = is_ordered_both; sound = is_sound_both; unions = has_few_unions }
