use Rattle.slot_encoding.proofs.first_free.FirstPrintable.{printable-by}
use Rattle.slot_encoding.proofs.word_laws.encoded_is_printable_by.Goals as goal

pub returns : goal.returns
returns c = printable-by c.args.rule.now c.args.problem.now c.args.checks.now c.args.compiled.now c.args.slots c.args.style.now c.args.value.now c.requires.sound c.requires.compiled c.requires.encoded c.requires.words c.requires.numberable
