use Rattle.std.proofs.Common.{◌≡◌, take}
use Rattle.plan_texts.specs.PlanText.{plan_text}
use Rattle.text_forms.specs.sheets.Sheets.{Wrote}
use Rattle.stack_speller.specs.Tips.{tip_after}
use Rattle.stack_speller.specs.StackSteps.{steps_from}
use Rattle.stack_speller.proofs.spelling.put_each.Given as goal

abbrev pub invariant-loop-node : goal.invariant-loop-node
invariant-loop-node l = record {
  tip : l.tip ≡ tip_after l.c l.run.tree 1 (take l.node-index l.order);
  steps : Wrote (plan_text (steps_from l.c l.run.tree 1 (take l.node-index l.order))) l.initial.sheet l.sheet;
}
