use Rattle.slot_encoding.proofs.existence.Encoded.{has_encoded_value}
use Rattle.slot_encoding.proofs.value_laws.every_problem_has_an_encoded_value.Goals as goal

pub returns : goal.returns
returns c = has_encoded_value c.args.compiled.now c.args.slots c.args.style.now
