use Rattle.text_values.proofs.form_spellings.WholeDefinitions.{whole_definitions}
use Rattle.text_values.proofs.form_spellings.laws.whole_definitions.Goals as goal

pub returns : goal.returns
returns c = whole_definitions
