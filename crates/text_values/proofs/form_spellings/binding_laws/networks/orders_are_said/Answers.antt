use Rattle.text_values.proofs.form_spellings.binding_laws.OrderWords.{has_unknown_ids, has_cycle, has_limit}
use Rattle.text_values.proofs.form_spellings.binding_laws.networks.orders_are_said.Goals as goal

pub returns : goal.returns
returns c = record { unknown = has_unknown_ids; cycle = has_cycle; limit = has_limit }
