use Rattle.stack_encoding.proofs.words.StackIsPrintable.{stack_printable}
use Rattle.stack_encoding.proofs.stack_laws.stack_encoded_is_printable.Goals as goal

pub returns : goal.returns
returns c = stack_printable c.args.problem.now c.args.checks.now c.args.compiled.now c.args.cells c.args.value.now c.requires.sound c.requires.compiled c.requires.encoded c.requires.words c.requires.numberable
