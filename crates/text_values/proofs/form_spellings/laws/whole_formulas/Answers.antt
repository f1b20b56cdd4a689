use Rattle.text_values.proofs.form_spellings.WholeForms.{whole_formulas}
use Rattle.text_values.proofs.form_spellings.laws.whole_formulas.Goals as goal

pub returns : goal.returns
returns c = whole_formulas
