use Rattle.slot_encoding.proofs.first_free.FirstExists.{has_encoded_value-by}
use Rattle.slot_encoding.proofs.value_laws.every_problem_has_an_encoded_value_by.Goals as goal

pub returns : goal.returns
returns c = has_encoded_value-by c.args.rule.now c.args.compiled.now c.args.slots c.args.style.now
