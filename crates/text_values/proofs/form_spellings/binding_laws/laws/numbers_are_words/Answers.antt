use Rattle.text_values.proofs.form_spellings.binding_laws.Places.{have_one_place}
use Rattle.text_values.proofs.form_spellings.binding_laws.laws.numbers_are_words.Goals as goal

pub returns : goal.returns
returns c = have_one_place
