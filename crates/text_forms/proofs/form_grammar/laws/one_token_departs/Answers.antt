use Rattle.text_forms.proofs.form_grammar.Meaning.{sequence}
use Rattle.text_forms.proofs.form_grammar.TextLaws.{one_departure}
use Rattle.text_forms.proofs.form_grammar.laws.one_token_departs.Goals as goal

pub returns : goal.returns
returns c = record { one = one_departure; sequences = sequence }
