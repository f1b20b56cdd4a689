use Rattle.std.proofs.Common.{ap, sym}
use Rattle.hddl_texts.specs.Texts.{is_listed}
use Rattle.hddl_texts.proofs.pages.is_listed.Goals as goal

pub returns-then-constants : goal.returns-then-constants
returns-then-constants c = ap (λ b. is_listed b c.args.object) (sym c.if-constants.true)

pub returns-else-constants : goal.returns-else-constants
returns-else-constants c = ap (λ b. is_listed b c.args.object) (sym c.if-constants.false)
