use Rattle.command_words.proofs.Numerals.{count_is_read}
use Rattle.command_words.proofs.bounds.count_of.Goals as goal

pub unreachable-requires : goal.unreachable-requires
unreachable-requires c = count_is_read c.args.word.now c.parse.result c.in-Err.field-0 c.parse.ensures.value.0 c.requires c.in-Err.is
