use Rattle.std.proofs.Common.{sym, ◌∙◌}
use Rattle.hplan_text.proofs.Drafted.{has-root, no-root-least}
use Rattle.hplan_text.proofs.judging.root_fault.Goals as goal

pub returns-then-rooted : goal.returns-then-rooted
returns-then-rooted c = λ places e. has-root places c.args.end (sym e ∙ c.if-rooted.true)

pub returns-else-rooted : goal.returns-else-rooted
returns-else-rooted c = λ places e. no-root-least places c.args.end (sym e ∙ c.if-rooted.false)
