use Rattle.text_values.proofs.form_spellings.order.OneWord.{one_word, one_name}
use Rattle.text_values.proofs.form_spellings.rising.one_word_stands_at_one_offset.Goals as goal

pub returns : goal.returns
returns c = record { words = one_word; names = one_name }
