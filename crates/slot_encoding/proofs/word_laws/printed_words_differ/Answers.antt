use Rattle.slot_encoding.proofs.words.PrintedDiffer.{printed_differ}
use Rattle.slot_encoding.proofs.word_laws.printed_words_differ.Goals as goal

pub returns : goal.returns
returns c = printed_differ c.args.value.now c.requires.printable
