use Rattle.std.proofs.Common.{IfOk, subst}
use Rattle.hddl_texts.specs.Lengths.{ArePrintedWithin}
use Rattle.hddl_texts.proofs.texts.hddl_texts.Goals as goal

pub returns : goal.returns
returns c = record { printed = subst (λ h. IfOk c.texts_within-printed.result (ArePrintedWithin h c.args.limit)) c.of-p.ensures.same c.texts_within-printed.ensures }
