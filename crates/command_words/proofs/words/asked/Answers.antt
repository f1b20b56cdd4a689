use Rattle.command_words.specs.Names.{words_of}
use Rattle.command_words.proofs.Requests.{no_form, on_none}
use Rattle.command_words.proofs.words.asked.Goals as goal

pub returns-in_err-asked-clause-formless : goal.returns-in_err-asked-clause-formless
returns-in_err-asked-clause-formless c =
    on_none c.from_residual.result
    (no_form (words_of c.args.words.now) c.in_default.ensures.other c.in_default-asked_bound.ensures.other c.in_default-asked_decoding.ensures.other c.in_default-asked_encoding.ensures.other c.in_default-asked_validation.ensures.other c.in_default-asked_pruning.ensures.other c.in_err-asked.ensures.other)
