use Rattle.std.proofs.Common.{subst}
use Rattle.htn_base.specs.Limits.{longest_output}
use Rattle.hddl_texts.specs.Lengths.{ArePrintedWithin}
use Rattle.htn_cli.proofs.Prunings.{whole_texts, past_text}
use Rattle.htn_cli.proofs.prune.printed.Goals as goal

pub returns-in-Ok-Whole-clause-whole : goal.returns-in-Ok-Whole-clause-whole
returns-in-Ok-Whole-clause-whole c =
    whole_texts c.args.value c.in-Ok-Whole.texts (subst (ArePrintedWithin c.args.value longest_output) c.in-Ok-Whole.field-0-is c.in-Ok-Whole.ensures.printed)

pub returns-in-Ok-TooLong-clause-refused : goal.returns-in-Ok-TooLong-clause-refused
returns-in-Ok-TooLong-clause-refused c =
    past_text c.args.value c.in-Ok-TooLong.size (subst (ArePrintedWithin c.args.value longest_output) c.in-Ok-TooLong.field-0-is c.in-Ok-TooLong.ensures.printed)
