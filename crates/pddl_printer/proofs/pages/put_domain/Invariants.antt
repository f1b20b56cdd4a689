use Rattle.std.proofs.Common.{None, take}
use Rattle.plan_texts.specs.SpellsPddl.{pddl_words}
use Rattle.plan_texts.specs.PrintedTexts.{action_part}
use Rattle.pddl_printer.specs.Behind.{line, of_each}
use Rattle.pddl_printer.specs.InForm.{action_in}
use Rattle.text_forms.specs.sheets.Sheets.{Wrote}
use Rattle.pddl_printer.proofs.pages.put_domain.Given as goal

abbrev pub invariant-loop-action : goal.invariant-loop-action
invariant-loop-action l = Wrote (of_each (λ a. line (action_part (pddl_words l.p) (action_in None a))) (take l.action-index l.actions)) l.initial.sheet l.sheet
