use Rattle.std.proofs.Common.{ap, sym, ◌∙◌}
use Rattle.hddl_texts.specs.PrintedHddl.{head_word}
use Rattle.hddl_texts.specs.Texts.{hddl_of}
use Rattle.hddl_texts.proofs.words.head_word.Goals as goal

pub returns-in-Task : goal.returns-in-Task
returns-in-Task c = c.task_word.ensures ∙ ap (head_word (hddl_of c.args.p.now)) (sym c.in-Task.is)

pub returns-in-Action : goal.returns-in-Action
returns-in-Action c = c.action_word.ensures ∙ ap (head_word (hddl_of c.args.p.now)) (sym c.in-Action.is)

pub returns-in-Check : goal.returns-in-Check
returns-in-Check c = ap (head_word (hddl_of c.args.p.now)) (sym c.in-Check.is)
