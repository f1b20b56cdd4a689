use Rattle.text_values.proofs.form_spellings.binding_laws.EffectFaults.{has_effect_faults}
use Rattle.text_values.proofs.form_spellings.binding_laws.EffectValues.{is_effect_bound}
use Rattle.text_values.proofs.form_spellings.binding_laws.laws.effects_are_bound.Goals as goal

pub returns : goal.returns
returns c = record { faults = has_effect_faults; bound = is_effect_bound }
