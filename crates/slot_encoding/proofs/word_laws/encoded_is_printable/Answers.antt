use Rattle.slot_encoding.proofs.words.EncodedIsPrintable.{encoded_printable}
use Rattle.slot_encoding.proofs.word_laws.encoded_is_printable.Goals as goal

pub returns : goal.returns
returns c = encoded_printable c.args.problem.now c.args.checks.now c.args.compiled.now c.args.slots c.args.style.now c.args.value.now c.requires.sound c.requires.compiled c.requires.encoded c.requires.words c.requires.numberable
