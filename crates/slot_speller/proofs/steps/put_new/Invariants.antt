use Rattle.std.proofs.Common.{◌≡◌, map}
use Rattle.htn_base.specs.Escapes.{slot_word}
use Rattle.plan_text.specs.Printing.{args_text}
use Rattle.text_forms.specs.sheets.Sheets.{Wrote}
use Rattle.slot_speller.specs.Children.{child_in}
use Rattle.slot_speller.specs.Steps.{new_among}
use Rattle.slot_speller.proofs.steps.put_new.Given as goal

abbrev pub invariant-loop-number : goal.invariant-loop-number
invariant-loop-number l = record {
  child : l.child ≡ child_in l.tree l.node l.number;
  words : Wrote (args_text (map slot_word (new_among l.tree l.slots.by_node.items l.node l.heir l.number))) l.initial.sheet l.sheet;
}
