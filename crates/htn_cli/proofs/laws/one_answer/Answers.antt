use Rattle.htn_cli.proofs.DecodedByForm as decoding
use Rattle.htn_cli.proofs.EncodedByForm as encoding
use Rattle.htn_cli.proofs.OneAnswers.{each_has_one_answer}
use Rattle.htn_cli.proofs.laws.one_answer.Goals as goal

pub returns : goal.returns
returns c =
    each_has_one_answer
    (decoding.once_as c.each_is_decoded_once.ensures c.each_is_stack_decoded_once.ensures)
    (decoding.alike_as c.values_are_decoded_alike.ensures c.values_are_stack_decoded_alike.ensures)
    (encoding.once_as c.each_is_encoded_once.ensures c.each_is_stacked_once.ensures)
    (encoding.alike_as c.values_are_encoded_alike.ensures c.values_are_stacked_alike.ensures)
    c.each_is_encoded_once.ensures c.values_are_encoded_alike.ensures c.each_is_spelled_once.ensures c.values_have_one_ground_bound.ensures
