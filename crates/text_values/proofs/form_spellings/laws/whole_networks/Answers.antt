use Rattle.text_values.proofs.form_spellings.WholeNetworks.{whole_subtasks, whole_pairs, whole_constraints}
use Rattle.text_values.proofs.form_spellings.laws.whole_networks.Goals as goal

pub returns : goal.returns
returns c = record { subtasks = whole_subtasks; pairs = whole_pairs; constraints = whole_constraints }
