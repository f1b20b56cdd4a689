use Rattle.text_values.proofs.form_spellings.NetworksRead.{subtasks_read, pairs_read, constraints_read}
use Rattle.text_values.proofs.form_spellings.bound.networks_spell_what_is_bound.Goals as goal

pub returns : goal.returns
returns c = record { subtasks = subtasks_read; pairs = pairs_read; constraints = constraints_read }
