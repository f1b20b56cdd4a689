use Rattle.text_values.proofs.form_spellings.binding_laws.WholeValues.{is_bound_both}
use Rattle.text_values.proofs.form_spellings.binding_laws.texts.whole_texts_are_bound.Goals as goal

pub returns : goal.returns
returns c = record { bound = is_bound_both }
