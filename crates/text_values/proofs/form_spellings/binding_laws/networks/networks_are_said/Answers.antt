use Rattle.text_values.proofs.form_spellings.binding_laws.NetworkValues.{is_network_bound}
use Rattle.text_values.proofs.form_spellings.binding_laws.NetworkWords.{has_network_faults}
use Rattle.text_values.proofs.form_spellings.binding_laws.networks.networks_are_said.Goals as goal

pub returns : goal.returns
returns c = record { faults = has_network_faults; bound = is_network_bound }
