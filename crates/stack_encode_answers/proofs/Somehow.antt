-- As a stack each plan comes to some text: where one is spelled with slots, one is spelled with cells.
use Rattle.std.proofs.Common.{ℕ, ◌<◌, ◌≤◌, ◌-◌, ◌^◌, inl, inr, List, length, map, Option, Some, None, IfSome, refl, arith}
use Rattle.std.proofs.lemmas.Bool.{cases_lt}
use Rattle.htn_base.specs.Limits.{most_slots}
use Rattle.text_forms.specs.sheets.Sheets.{capped}
use Rattle.plan_model.specs.declared.options.Checks.{Checks}
use Rattle.plan_model.specs.declared.steps.GroundAction.{GroundAction}
use Rattle.plan_model.specs.declared.values.Hddl.{Hddl}
use Rattle.plan_model.specs.declared.values.Compiled.{Compiled}
use Rattle.plan_model.specs.plan_meaning.Network.{network}
use Rattle.plan_model.specs.plan_meaning.Solution.{top_work}
use Rattle.hplan_text.specs.declared.values.HPlan.{HPlan}
use Rattle.plan_encoder.specs.Laws.{IsOf}
use Rattle.stack_machine.proofs.StackPlans.{cells_exactly_where_within}
use Rattle.stack_encoding.specs.StackSpelling.{stack_step}
use Rattle.stack_encoding.specs.TotalOrder.{IsTotallyOrdered}
use Rattle.stack_speller.proofs.Totals.{law, total}
use Rattle.step_texts.specs.declared.text.StepText.{StepText}
use Rattle.step_texts.specs.declared.text.StepText.TheVariants.{Whole, TooLong, NoMatch, NotExecutable, GoalFalse, NoPlacement}
use Rattle.step_texts.specs.declared.text.StepText.TheVariants.{NeedsBound, TooWide}
use Rattle.step_texts.specs.StepTexts.{steps_text, slots_for, IsSpelled, IsTextOf, IsStepText}
use Rattle.step_texts.specs.StackTexts.{IsStackSpelled, IsStackText}
use Rattle.encode_answers.proofs.Somehow.{each_is_encoded_somehow}
use Rattle.stack_encode_answers.specs.StackEncodeLaws.{EachIsStackedSomehow}
use Rattle.stack_encode_answers.proofs.OneStack.{soundly}

module _ (h : Hddl) (mode : Checks) (c : Compiled) (of : IsOf h mode c) (ordered : IsTotallyOrdered c) (plan : HPlan) where
  -- with as many cells as slots
  stacked : (slots width : ℕ) (steps : List GroundAction) → IsSpelled c plan slots width steps
      → (others : List GroundAction) × IsStackSpelled c plan slots width others
  stacked slots width steps x =
      let (acts, cell, s) = (cells_exactly_where_within (network c) (law c (soundly h mode c of)) (total c (soundly h mode c of) ordered) slots
      (top_work c) x.tree x.order x.lowest.spells.front).0
      (λ taken rest nodes e a. (let l = x.width_is.within taken rest nodes e a in let b = x.within in omega arith)) in (
        map (stack_step c) acts,
        record {
          tree = x.tree;
          order = x.order;
          placed = x.placed;
          width_is = x.width_is;
          within = x.within;
          few = x.few;
          cell = cell;
          spelling = (acts, s, refl);
        },
      )

  module _ (given : Option ℕ) (most : ℕ) (small : most < 2 ^ 64 - 1) where
    abbrev Comes : Type 0
    Comes = (text : StepText) × IsStackText c plan given most text

    -- the text of spelled steps, or its length
    written : (width : ℕ) (steps : List GroundAction) → IsStackSpelled c plan (slots_for given width) width steps → Comes
    written width steps s = elim (cases_lt most (length text)) [
      | inl l ↦ (TooLong (capped (length text)), (text, (width, steps, s, refl), refl, capped_too (length text) l))
      | inr l ↦ (Whole text, ((width, steps, s, refl), l))
    ]
      where
        text : List ℕ
        text = steps_text width steps

        capped_too : (n : ℕ) → most < n → most < capped n
        capped_too n l = omega arith

    of_slots : (text : List ℕ) → IsTextOf c plan given text → Comes
    of_slots text (width, steps, x, e) = let (others, s) = stacked (slots_for given width) width steps x in written width others s

    comes : (t : StepText) → IsStepText c plan given most t → Comes
    comes (Whole text) x = of_slots text x.0
    comes (TooLong n) x = of_slots x.0 x.1
    comes (NoMatch id) x = (NoMatch id, x)
    comes (NotExecutable id) x = (NotExecutable id, x)
    comes GoalFalse x = (GoalFalse, x)
    comes NoPlacement x = (NoPlacement, x)
    comes (NeedsBound w) x = (NeedsBound w, x)
    comes (TooWide w) x = (TooWide w, x)

pub each_is_stacked_somehow : EachIsStackedSomehow
each_is_stacked_somehow h mode c of ordered plan sound printable given most small few =
    let (t, is) = each_is_encoded_somehow h mode c of plan sound printable given most small few in
    comes h mode c of ordered plan given most small t is
