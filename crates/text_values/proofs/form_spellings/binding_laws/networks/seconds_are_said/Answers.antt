use Rattle.text_values.proofs.form_spellings.binding_laws.SecondCallables.{has_second_callables}
use Rattle.text_values.proofs.form_spellings.binding_laws.SecondWords.{has_seconds}
use Rattle.text_values.proofs.form_spellings.binding_laws.networks.seconds_are_said.Goals as goal

pub returns : goal.returns
returns c = record {
  terms = has_seconds (λ t. t.name.number) (λ t. t.at);
  params = has_seconds (λ x. x.name.number) (λ x. x.at);
  heads = has_seconds (λ h. h.name.name.number) (λ h. h.name.at);
  methods = has_seconds (λ m. m.head.name.name.number) (λ m. m.head.name.at);
  callables = has_second_callables;
}
