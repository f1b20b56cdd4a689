use Rattle.text_values.proofs.form_spellings.WholeForms.{whole_effects}
use Rattle.text_values.proofs.form_spellings.laws.whole_effects.Goals as goal

pub returns : goal.returns
returns c = whole_effects
