use Rattle.std.proofs.Common.{subst}
use Rattle.problem_texts.specs.declared.printing.Printed.TheVariants.{Whole, TooLong}
use Rattle.htn_cli.specs.Printing.{IsPrintedWithin}
use Rattle.htn_cli.proofs.Printed.{past_is_long, whole_is_printed}
use Rattle.htn_cli.proofs.building.printed.Goals as goal

pub returns-in-Ok-TooLong-clause-refused : goal.returns-in-Ok-TooLong-clause-refused
returns-in-Ok-TooLong-clause-refused c =
    let compiled = c.args.compiled.now in
    let manner = c.args.manner.now in
    past_is_long compiled manner c.in-Ok-TooLong.size (subst (IsPrintedWithin compiled manner) c.in-Ok-TooLong.field-0-is c.in-Ok-TooLong.ensures.printed)

pub returns-in-Ok-Whole-clause-whole : goal.returns-in-Ok-Whole-clause-whole
returns-in-Ok-Whole-clause-whole c =
    let compiled = c.args.compiled.now in
    let manner = c.args.manner.now in
    whole_is_printed compiled manner c.in-Ok-Whole.texts (subst (IsPrintedWithin compiled manner) c.in-Ok-Whole.field-0-is c.in-Ok-Whole.ensures.printed)
