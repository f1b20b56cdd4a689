use Rattle.htn_base.proofs.EscapeLemmas.{names_apart}
use Rattle.htn_base.proofs.words.names_stay_apart.Goals as goal

pub returns : goal.returns
returns c = record { apart = names_apart }
