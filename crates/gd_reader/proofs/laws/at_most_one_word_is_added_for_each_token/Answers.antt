use Rattle.gd_reader.proofs.Counted.{at_most_one}
use Rattle.gd_reader.proofs.laws.at_most_one_word_is_added_for_each_token.Goals as goal

pub returns : goal.returns
returns c = record { few = at_most_one }
