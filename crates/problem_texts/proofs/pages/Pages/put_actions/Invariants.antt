use Rattle.std.proofs.Common.{take}
use Rattle.text_forms.specs.sheets.Sheets.{Wrote}
use Rattle.problem_texts.specs.Pages.{actions, actions_in}
use Rattle.problem_texts.proofs.pages.Pages.put_actions.Given as goal

abbrev pub invariant-loop-k : goal.invariant-loop-k
invariant-loop-k l = Wrote (actions_in l.self (take l.k (actions l.self))) l.fn.sheet l.sheet
