use Rattle.command_words.specs.Names.{words_of}
use Rattle.command_words.specs.Forms.{decode_form}
use Rattle.command_words.specs.Words.{SayDecode}
use Rattle.command_words.proofs.Requests.{not_said, none_too}
use Rattle.command_words.proofs.words.asked_decoding.Goals as goal

pub returns-clause-other : goal.returns-clause-other
returns-clause-other c =
    let parts = c.in_ok-parts.parts in
    none_too c.decoding.result (not_said decode_form SayDecode (words_of c.args.words.now) (words_of parts.names.now) (words_of parts.options.now) c.in_ok-parts.ensures.parts) c.decoding.ensures.other
