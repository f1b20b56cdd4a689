use Rattle.std.proofs.Common.{List}
use Rattle.command_words.specs.Names.{Word, words_of}
use Rattle.command_words.specs.Words.{Asks, translation_of, decode_of, encode_of, request_of}
use Rattle.command_words.specs.declared.asking.Asked.{Asked}
use Rattle.command_words.specs.declared.asking.Asked.TheVariants as asked
use Rattle.command_words.proofs.Requests.{numeral_is, decode_numeral_is, encode_numeral_is}
use Rattle.htn_cli.specs.Stops.{IsWellAsked}
use Rattle.htn_cli.proofs.Results.{on_ok_too, if_err_too}
use Rattle.htn_cli.proofs.CallsMade.{passes_done, calls_before}
use Rattle.htn_cli.proofs.program.act.Goals as goal

well_asked : (words : List Word) (a : Asked) → Asks words (request_of a) → IsWellAsked a
well_asked words (asked.Translation t) asks = (numeral_is words (translation_of t) asks, asks.3.apart)
well_asked words (asked.Bound b) asks = tt
well_asked words (asked.Decoding d) asks = decode_numeral_is words (decode_of d) asks
well_asked words (asked.Encoding e) asks = encode_numeral_is words (encode_of e) asks
well_asked words (asked.Validation v) asks = tt
well_asked words (asked.Making m) asks = (asks.3.count, asks.3.apart)
well_asked words (asked.Pruning p) asks = asks.3.apart

pub perform-requires : goal.perform-requires
perform-requires g c = record { well = well_asked (words_of c.args.words.now) c.in-Some.asked c.in-Some.ensures.asked }

pub returns-in-Some-clause-passed : goal.returns-in-Some-clause-passed
returns-in-Some-clause-passed g c =
    on_ok_too c.perform.result
    (passes_done (words_of c.args.words.now) (g.F.Files.passed c.args.files.now) (g.F.Files.passed c.perform.new.files) (record { decoded = c.values_are_decoded_alike.ensures; stack_decoded = c.values_are_stack_decoded_alike.ensures; encoded = c.values_are_encoded_alike.ensures; stacked = c.values_are_stacked_alike.ensures; within = c.no_width_is_past_the_bound.ensures; ground = c.values_have_one_ground_bound.ensures }) (request_of c.in-Some.asked) c.in-Some.ensures.asked (g.O.Sink.state c.args.out.now) (g.O.Sink.state c.perform.new.out))
    c.perform.ensures.passed

pub returns-in-Some-clause-stopped : goal.returns-in-Some-clause-stopped
returns-in-Some-clause-stopped g c =
    if_err_too c.perform.result
    (calls_before (words_of c.args.words.now) (g.F.Files.passed c.args.files.now) (g.F.Files.passed c.perform.new.files) (request_of c.in-Some.asked) c.in-Some.ensures.asked)
    c.perform.ensures.stopped
