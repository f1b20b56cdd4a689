use Rattle.std.proofs.Common.{take}
use Rattle.plan_texts.specs.PlanText.{plan_text}
use Rattle.text_forms.specs.sheets.Sheets.{Wrote}
use Rattle.plan_text.proofs.printing.put_plan.Given as goal

abbrev pub invariant-loop-step : goal.invariant-loop-step
invariant-loop-step l = Wrote (plan_text (take l.step-index l.plan)) l.initial.sheet l.sheet
