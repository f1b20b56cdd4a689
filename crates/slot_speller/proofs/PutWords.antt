-- Words and steps that are put one after another.
use Rattle.std.proofs.Common.{ℕ, ◌≡◌, ◌+◌, ◌<◌, List, [], ◌∷◌, ◌++◌, length, map, take, get_or, slice_index}
use Rattle.std.proofs.Common.{refl, ap, sym, ◌∙◌, append_assoc, append-nil}
use Rattle.std.proofs.lemmas.List.{take_more, map-append}
use Rattle.htn_base.specs.Escapes.{slot_word}
use Rattle.plan_model.specs.declared.steps.GroundAction.{GroundAction}
use Rattle.plan_model.specs.declared.values.Compiled.{Compiled}
use Rattle.plan_model.specs.plan_meaning.SpelledPlan.{object_word}
use Rattle.plan_text.specs.Printing.{args_text, line_text}
use Rattle.plan_text.proofs.PrintedParts.{line-wrote}
use Rattle.plan_texts.specs.PlanText.{step_part, plan_text}
use Rattle.text_forms.specs.Printing.{bytes}
use Rattle.text_forms.specs.Words.{Word}
use Rattle.text_forms.specs.sheets.Sheets.{Wrote}
use Rattle.text_forms.specs.declared.sheets.sheet.Sheet.{Sheet}
use Rattle.text_forms.proofs.sheets.Written.{wrote-as, wrote-then}
use Rattle.tree_core.specs.Tables.{Row}
use Rattle.tree_core.specs.Labels.{labels}
use Rattle.tree_core.specs.Runs.{label_in}
use Rattle.slot_speller.specs.Children.{plan_by}
use Rattle.slot_speller.specs.Steps.{objects_by, name_by, new_by, slots_by, step_at}

args-append : (ws vs : List Word) → args_text (ws ++ vs) ≡ args_text ws ++ args_text vs
args-append [] vs = refl
args-append (w ∷ ws) vs = ap (λ z. (32 ∷ w) ++ z) (args-append ws vs) ∙ sym (append_assoc (32 ∷ w) (args_text ws) (args_text vs))

steps-append : (ss us : List GroundAction) → plan_text (ss ++ us) ≡ plan_text ss ++ plan_text us
steps-append [] us = refl
steps-append (s ∷ ss) us = ap (λ z. bytes (step_part s) ++ 10 ∷ z) (steps-append ss us)
    ∙ sym (append_assoc (bytes (step_part s)) (10 ∷ plan_text ss) (plan_text us))

-- the words of one more
module _ (f : ℕ → Word) where
  words-more : (xs : List ℕ) (x : ℕ) → args_text (map f (xs ++ x ∷ [])) ≡ args_text (map f xs) ++ 32 ∷ f x
  words-more xs x = ap args_text (map-append f xs (x ∷ [])) ∙ args-append (map f xs) (f x ∷ [])
      ∙ ap (λ z. args_text (map f xs) ++ 32 ∷ z) (append-nil (f x))

  pub word-put : (xs : List ℕ) (x : ℕ) {s t u : Sheet} → Wrote (args_text (map f xs)) s t → Wrote (32 ∷ f x) t u
      → Wrote (args_text (map f (xs ++ x ∷ []))) s u
  word-put xs x v w = wrote-as (sym (words-more xs x)) (wrote-then v w)

  pub word-next : (xs : List ℕ) (n x : ℕ) {s t u v : Sheet} → n < length xs → Wrote (args_text (map f (take n xs))) s t
      → Wrote (32 ∷ []) t u → Wrote (f (get_or xs n x)) u v → Wrote (args_text (map f (take (n + 1) xs))) s v
  word-next xs n x l v w y = wrote-as (ap (λ z. args_text (map f z)) (sym (take_more xs n x l)))
      (word-put (take n xs) (get_or xs n x) v (wrote-then w y))

-- one more step
pub step-next : (f : ℕ → GroundAction) (xs : List ℕ) (n x : ℕ) {s t u : Sheet} → n < length xs
    → Wrote (plan_text (map f (take n xs))) s t → Wrote (line_text (f (get_or xs n x))) t u
    → Wrote (plan_text (map f (take (n + 1) xs))) s u
step-next f xs n x l v w = wrote-as (sym (ap (λ z. plan_text (map f z)) (take_more xs n x l)
    ∙ ap plan_text (map-append f (take n xs) (get_or xs n x ∷ []))
    ∙ steps-append (map f (take n xs)) (f (get_or xs n x) ∷ []))) (wrote-then v w)

-- a step by its parts
pub step-put : (c : Compiled) (rows : List (Row labels)) (nodes : List ℕ) (k own : ℕ) {s t u v w x y : Sheet}
    → own ≡ slice_index nodes k → Wrote (40 ∷ []) s t → Wrote (name_by c (label_in rows k)) t u → Wrote (32 ∷ slot_word own) u v
    → Wrote (args_text (map slot_word (new_by rows nodes k (plan_by c (label_in rows k))))) v w
    → Wrote (args_text (map (object_word c) (objects_by c (label_in rows k)))) w x → Wrote (41 ∷ 10 ∷ []) x y
    → Wrote (line_text (step_at c rows nodes k)) s y
step-put c rows nodes k own is begin name first new objects end =
    let slots = wrote-then (wrote-as (ap (λ z. 32 ∷ slot_word z) is) first) new in
    line-wrote (step_at c rows nodes k) begin name
    (wrote-as (sym (args-append (map slot_word (slots_by rows nodes k (plan_by c (label_in rows k))))
    (map (object_word c) (objects_by c (label_in rows k))))) (wrote-then slots objects)) end
