use Rattle.std.proofs.Common.{map, take}
use Rattle.plan_texts.specs.PlanText.{plan_text}
use Rattle.text_forms.specs.sheets.Sheets.{Wrote}
use Rattle.slot_speller.specs.Steps.{step_at}
use Rattle.slot_speller.proofs.spelling.Spelling.put_steps.Given as goal

abbrev pub invariant-loop-node : goal.invariant-loop-node
invariant-loop-node l =
    Wrote (plan_text (map (step_at l.c l.run.tree l.self.slots.by_node.items) (take l.node-index l.order))) l.initial.sheet l.sheet
