-- One node more that is taken.
use Rattle.std.proofs.Common.{ℕ, ◌≡◌, ◌+◌, ◌-◌, ◌<◌, List, [], ◌∷◌, ◌++◌, length, take, get_or, max, refl, ap, sym, ◌∙◌}
use Rattle.std.proofs.lemmas.List.{take_more}
use Rattle.plan_model.specs.declared.steps.GroundAction.{GroundAction}
use Rattle.plan_model.specs.declared.values.Compiled.{Compiled}
use Rattle.plan_text.specs.Printing.{line_text}
use Rattle.plan_texts.specs.PlanText.{plan_text}
use Rattle.text_forms.specs.sheets.Sheets.{Wrote}
use Rattle.text_forms.specs.declared.sheets.sheet.Sheet.{Sheet}
use Rattle.text_forms.proofs.sheets.Written.{wrote-as, wrote-then}
use Rattle.tree_core.specs.Tables.{Row}
use Rattle.tree_core.specs.Labels.{labels}
use Rattle.stack_speller.proofs.PutSteps.{steps-append}
use Rattle.stack_speller.specs.Tips.{count_at, next_tip, tip_after, cells_from, greatest}
use Rattle.stack_speller.proofs.Greatest.{greatest-push}
use Rattle.stack_speller.specs.StackSteps.{step_at, steps_from}

module _ (c : Compiled) (rows : List (Row labels)) where
  tip-push : (h : ℕ) (ks : List ℕ) (k : ℕ) → tip_after c rows h (ks ++ k ∷ []) ≡ next_tip c rows (tip_after c rows h ks) k
  tip-push h [] k = refl
  tip-push h (x ∷ ks) k = tip-push (next_tip c rows h x) ks k

  cells-push : (h : ℕ) (ks : List ℕ) (k : ℕ) → cells_from c rows h (ks ++ k ∷ []) ≡ cells_from c rows h ks ++ tip_after c rows h ks ∷ []
  cells-push h [] k = refl
  cells-push h (x ∷ ks) k = ap (λ xs. h ∷ xs) (cells-push (next_tip c rows h x) ks k)

  steps-push : (h : ℕ) (ks : List ℕ) (k : ℕ)
      → steps_from c rows h (ks ++ k ∷ []) ≡ steps_from c rows h ks ++ step_at c rows (tip_after c rows h ks) k ∷ []
  steps-push h [] k = refl
  steps-push h (x ∷ ks) k = ap (λ (ss : List GroundAction). step_at c rows h x ∷ ss) (steps-push (next_tip c rows h x) ks k)

  module _ (order : List ℕ) (n : ℕ) (less : n < length order) where
    pub next_tip_is : (tip next children : ℕ) → tip ≡ tip_after c rows 1 (take n order) → children ≡ count_at c rows (get_or order n 0)
        → next ≡ (tip - 1) + children → next ≡ tip_after c rows 1 (take (n + 1) order)
    next_tip_is tip next children e many f = f ∙ (λ i. (e i - 1) + many i) ∙ sym (tip-push 1 (take n order) (get_or order n 0))
        ∙ ap (tip_after c rows 1) (sym (take_more order n 0 less))

    next_cells : (tip : ℕ) → tip ≡ tip_after c rows 1 (take n order)
        → cells_from c rows 1 (take (n + 1) order) ≡ cells_from c rows 1 (take n order) ++ tip ∷ []
    next_cells tip e = ap (cells_from c rows 1) (take_more order n 0 less) ∙ cells-push 1 (take n order) (get_or order n 0)
        ∙ ap (λ h. cells_from c rows 1 (take n order) ++ h ∷ []) (sym e)

    pub next_width : (tip width more : ℕ) → tip ≡ tip_after c rows 1 (take n order) → width ≡ greatest (cells_from c rows 1 (take n order))
        → more ≡ max width tip → more ≡ greatest (cells_from c rows 1 (take (n + 1) order))
    next_width tip width more e f g =
        g ∙ ap (λ z. max z tip) f ∙ sym (greatest-push (cells_from c rows 1 (take n order)) tip) ∙ ap greatest (sym (next_cells tip e))

    pub next_step : (tip : ℕ) → tip ≡ tip_after c rows 1 (take n order) → {s t u : Sheet}
        → Wrote (plan_text (steps_from c rows 1 (take n order))) s t → Wrote (line_text (step_at c rows tip (get_or order n 0))) t u
        → Wrote (plan_text (steps_from c rows 1 (take (n + 1) order))) s u
    next_step tip e v w =
        let f = ap (steps_from c rows 1) (take_more order n 0 less) ∙ steps-push 1 (take n order) (get_or order n 0)
        ∙ ap (λ h. steps_from c rows 1 (take n order) ++ step_at c rows h (get_or order n 0) ∷ []) (sym e) in
        let g = ap plan_text f ∙ steps-append (steps_from c rows 1 (take n order)) (step_at c rows tip (get_or order n 0) ∷ []) in
        wrote-as (sym g) (wrote-then v w)
