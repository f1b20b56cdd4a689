use Rattle.text_values.proofs.form_spellings.WholeForms.{whole_lists}
use Rattle.text_values.proofs.form_spellings.laws.whole_lists.Goals as goal

pub returns : goal.returns
returns c = whole_lists
