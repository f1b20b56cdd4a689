use Rattle.encode_answers.proofs.OnceSpelled.{each_is_spelled_once}
use Rattle.encode_answers.proofs.laws.each_is_spelled_once.Goals as goal

pub returns : goal.returns
returns c = each_is_spelled_once
