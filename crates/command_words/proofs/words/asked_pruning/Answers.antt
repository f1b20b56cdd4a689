use Rattle.command_words.specs.Names.{words_of}
use Rattle.command_words.specs.Forms.{prune_form}
use Rattle.command_words.specs.Words.{SayPrune}
use Rattle.command_words.proofs.Requests.{not_said, none_too}
use Rattle.command_words.proofs.words.asked_pruning.Goals as goal

pub returns-clause-other : goal.returns-clause-other
returns-clause-other c =
    let parts = c.in_ok-parts.parts in
    none_too c.pruning.result (not_said prune_form SayPrune (words_of c.args.words.now) (words_of parts.names.now) (words_of parts.options.now) c.in_ok-parts.ensures.parts) c.pruning.ensures.other
