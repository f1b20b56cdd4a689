-- Words and steps that are put one after another.
use Rattle.std.proofs.Common.{ℕ, zero, suc, ◌≡◌, ◌+◌, ◌-◌, List, [], ◌∷◌, ◌++◌, map, refl, ap, sym, ◌∙◌, append_assoc, append-nil, arith}
use Rattle.htn_base.specs.Escapes.{slot_word}
use Rattle.plan_model.specs.declared.steps.GroundAction.{GroundAction}
use Rattle.plan_model.specs.declared.values.Compiled.{Compiled}
use Rattle.plan_model.specs.task_networks.Spelling.{numbers}
use Rattle.plan_model.specs.plan_meaning.SpelledPlan.{object_word}
use Rattle.plan_text.specs.Printing.{args_text, line_text}
use Rattle.plan_text.proofs.PrintedParts.{line-wrote}
use Rattle.plan_texts.specs.PlanText.{step_part, plan_text}
use Rattle.text_forms.specs.Printing.{bytes}
use Rattle.text_forms.specs.Words.{Word}
use Rattle.text_forms.specs.sheets.Sheets.{Wrote}
use Rattle.text_forms.specs.declared.sheets.sheet.Sheet.{Sheet}
use Rattle.text_forms.proofs.sheets.Written.{wrote-as, wrote-then}
use Rattle.tree_core.specs.Tables.{Row}
use Rattle.tree_core.specs.Labels.{labels}
use Rattle.tree_core.specs.Runs.{label_in}
use Rattle.slot_speller.specs.Steps.{objects_by, name_by}
use Rattle.slot_speller.proofs.PutWords.{word-put}
use Rattle.stack_encoding.specs.StackSpelling.{cells_of}
use Rattle.stack_speller.specs.Tips.{count_at}
use Rattle.stack_speller.specs.StackSteps.{step_at}

args-append : (ws vs : List Word) → args_text (ws ++ vs) ≡ args_text ws ++ args_text vs
args-append [] vs = refl
args-append (w ∷ ws) vs = ap (λ z. (32 ∷ w) ++ z) (args-append ws vs) ∙ sym (append_assoc (32 ∷ w) (args_text ws) (args_text vs))

pub steps-append : (ss us : List GroundAction) → plan_text (ss ++ us) ≡ plan_text ss ++ plan_text us
steps-append [] us = refl
steps-append (s ∷ ss) us = ap (λ z. bytes (step_part s) ++ 10 ∷ z) (steps-append ss us)
    ∙ sym (append_assoc (bytes (step_part s)) (10 ∷ plan_text ss) (plan_text us))

numbers-push : (i n : ℕ) → numbers i (suc n) ≡ numbers i n ++ (i + n) ∷ []
numbers-push i zero = ap (λ x. x ∷ []) (let e : i ≡ i + 0 = omega arith in e)
numbers-push i (suc n) = ap (λ xs. i ∷ xs) (numbers-push (suc i) n)
    ∙ ap (λ x. i ∷ (numbers (suc i) n ++ x ∷ [])) (let e : suc i + n ≡ i + suc n = omega arith in e)

-- one cell more
pub cell-put : (h n : ℕ) {s t u : Sheet} → Wrote (args_text (map slot_word (numbers h n))) s t → Wrote (32 ∷ slot_word (h + n)) t u
    → Wrote (args_text (map slot_word (numbers h (n + 1)))) s u
cell-put h n v w = wrote-as (ap (λ xs. args_text (map slot_word xs))
    (sym (numbers-push h n) ∙ ap (numbers h) (let e : suc n ≡ n + 1 = omega arith in e))) (word-put slot_word (numbers h n) (h + n) v w)

-- a step by its parts
pub step-put : (c : Compiled) (rows : List (Row labels)) (h k n : ℕ) {s t u v w x : Sheet} → n ≡ count_at c rows k
    → Wrote (40 ∷ []) s t → Wrote (name_by c (label_in rows k)) t u → Wrote (args_text (map slot_word (cells_of h n))) u v
    → Wrote (args_text (map (object_word c) (objects_by c (label_in rows k)))) v w → Wrote (41 ∷ 10 ∷ []) w x
    → Wrote (line_text (step_at c rows h k)) s x
step-put c rows h k n many begin name cells objects end =
    let named = wrote-as (ap (λ z. args_text (map slot_word (cells_of h z))) many) cells in
    line-wrote (step_at c rows h k) begin name
    (wrote-as (sym (args-append (map slot_word (cells_of h (count_at c rows k))) (map (object_word c) (objects_by c (label_in rows k)))))
    (wrote-then named objects)) end

-- where nothing comes in its place, the cell below, and its own
pub fall-put : (h n d : ℕ) {s t u : Sheet} → n ≡ 0 → d ≡ h - 1 → Wrote (32 ∷ slot_word d) s t → Wrote (32 ∷ slot_word h) t u
    → Wrote (args_text (map slot_word (cells_of h n))) s u
fall-put h n d {s} {t} {u} none e v w =
    let below : Wrote (args_text (map slot_word ((h - 1) ∷ []))) s t = wrote-as (ap (λ z. 32 ∷ slot_word z) e ∙ sym (append-nil (32 ∷ slot_word (h - 1)))) v in
    let both : Wrote (args_text (map slot_word (cells_of h 0))) s u = word-put slot_word ((h - 1) ∷ []) h below w in
    wrote-as (ap (λ z. args_text (map slot_word (cells_of h z))) (sym none)) both

-- where some come, those from its own on
pub climb-put : (h n m : ℕ) {s t : Sheet} → m ≡ n → (n ≡ 0 → ⊥) → Wrote (args_text (map slot_word (numbers h m))) s t
    → Wrote (args_text (map slot_word (cells_of h n))) s t
climb-put h n m e some v = wrote-as (ap (λ z. args_text (map slot_word z)) (ap (numbers h) e ∙ same n some)) v
  where
    same : (n : ℕ) → (n ≡ 0 → ⊥) → numbers h n ≡ cells_of h n
    same zero x = absurd (x refl)
    same (suc n) x = refl
