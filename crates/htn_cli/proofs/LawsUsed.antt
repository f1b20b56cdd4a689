-- The laws of the crates below that a run's promise rests on, as one record.
use Rattle.decode_answers.specs.DecodeLaws.{ValuesAreDecodedAlike}
use Rattle.stack_answers.specs.StackDecodeLaws.{ValuesAreStackDecodedAlike}
use Rattle.ground_answers.specs.GroundLaws.{ValuesHaveOneGroundBound}
use Rattle.encode_answers.specs.EncodeLaws.{NoWidthIsPastTheBound, ValuesAreEncodedAlike}
use Rattle.stack_encode_answers.specs.StackEncodeLaws.{ValuesAreStackedAlike}
use Rattle.htn_cli.proofs.DecodedByForm as decoding
use Rattle.htn_cli.proofs.DecodedByForm.{ValuesAreDecodedAlikeAs}
use Rattle.htn_cli.proofs.EncodedByForm as encoding
use Rattle.htn_cli.proofs.EncodedByForm.{ValuesAreEncodedAlikeAs}

pub record LawsUsed : Type 0 where
  pub decoded : ValuesAreDecodedAlike
  pub stack_decoded : ValuesAreStackDecodedAlike
  pub encoded : ValuesAreEncodedAlike
  pub stacked : ValuesAreStackedAlike
  pub within : NoWidthIsPastTheBound
  pub ground : ValuesHaveOneGroundBound

-- by each form
pub decoded_as : LawsUsed → ValuesAreDecodedAlikeAs
decoded_as laws = decoding.alike_as laws.decoded laws.stack_decoded

pub encoded_as : LawsUsed → ValuesAreEncodedAlikeAs
encoded_as laws = encoding.alike_as laws.encoded laws.stacked
