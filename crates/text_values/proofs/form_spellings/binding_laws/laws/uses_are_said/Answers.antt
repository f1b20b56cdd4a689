use Rattle.text_values.proofs.form_spellings.binding_laws.Said.{said_of_domains, said_of_problems}
use Rattle.text_values.proofs.form_spellings.binding_laws.laws.uses_are_said.Goals as goal

pub returns : goal.returns
returns c = record { domains = said_of_domains; problems = said_of_problems }
