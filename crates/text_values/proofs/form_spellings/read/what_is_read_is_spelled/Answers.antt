use Rattle.text_values.proofs.form_spellings.BoundForms.{formulas_spell, effects_spell, lists_spell}
use Rattle.text_values.proofs.form_spellings.read.what_is_read_is_spelled.Goals as goal

pub returns : goal.returns
returns c = record { formulas = formulas_spell; effects = effects_spell; lists = lists_spell }
