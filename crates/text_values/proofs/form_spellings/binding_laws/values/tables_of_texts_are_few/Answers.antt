use Rattle.text_values.proofs.form_spellings.binding_laws.sound.FewWords.{tables_few}
use Rattle.text_values.proofs.form_spellings.binding_laws.values.tables_of_texts_are_few.Goals as goal

pub returns : goal.returns
returns c = tables_few c.at_most_one_word_is_added_for_each_token.ensures.few
