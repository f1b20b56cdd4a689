use Rattle.text_values.proofs.form_spellings.SaidForms.{formulas_bind, effects_bind, lists_bind}
use Rattle.text_values.proofs.form_spellings.read.what_is_spelled_is_read.Goals as goal

pub returns : goal.returns
returns c = record { formulas = formulas_bind; effects = effects_bind; lists = lists_bind }
