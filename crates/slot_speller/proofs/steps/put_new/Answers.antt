use Rattle.std.proofs.Common.{ℕ, zero, suc, ◌≡◌, ◌+◌, List, [], ◌∷◌, ◌++◌, map, filter, slice_index, Bool, true, false, not, cond, ◌==◌}
use Rattle.std.proofs.Common.{ap, sym, subst, ◌∙◌, eq-eqb, append-nil, arith}
use Rattle.std.proofs.lemmas.List.{map-append}
use Rattle.std.proofs.lemmas.List.Elements.{filter-append}
use Rattle.htn_base.specs.Escapes.{slot_word}
use Rattle.plan_model.specs.task_networks.Spelling.{numbers}
use Rattle.plan_text.specs.Printing.{args_text}
use Rattle.text_forms.specs.sheets.Sheets.{Wrote}
use Rattle.text_forms.specs.declared.sheets.sheet.Sheet.{Sheet}
use Rattle.text_forms.proofs.sheets.Written.{wrote-as}
use Rattle.tree_core.specs.Tables.{Row}
use Rattle.tree_core.specs.Labels.{labels}
use Rattle.slot_speller.specs.Children.{after_in, child_in}
use Rattle.slot_speller.specs.Steps.{new_among}
use Rattle.slot_speller.proofs.PutWords.{word-put}
use Rattle.slot_speller.proofs.steps.put_new.Goals as goal
use Rattle.slot_speller.proofs.steps.put_new.Goals.{then-number-heir, else-number-heir}

numbers-push : (i n : ℕ) → numbers i (suc n) ≡ numbers i n ++ (i + n) ∷ []
numbers-push i zero = ap (λ x. x ∷ []) (let e : i ≡ i + 0 = omega arith in e)
numbers-push i (suc n) = ap (λ xs. i ∷ xs) (numbers-push (suc i) n)
    ∙ ap (λ x. i ∷ (numbers (suc i) n ++ x ∷ [])) (let e : suc i + n ≡ i + suc n = omega arith in e)

numbers-more : (n : ℕ) → numbers 0 (n + 1) ≡ numbers 0 n ++ n ∷ []
numbers-more n = ap (numbers 0) (let e : n + 1 ≡ suc n = omega arith in e) ∙ numbers-push 0 n
    ∙ ap (λ m. numbers 0 n ++ m ∷ []) (let e : 0 + n ≡ n = omega arith in e)

-- of the numbers up to n those that pass, by the last
module _ (f : ℕ → ℕ) (heir n : ℕ) where
  abbrev passes : ℕ → Bool
  passes i = not (heir == i)

  with_last : map f (filter passes (numbers 0 (n + 1))) ≡ map f (filter passes (numbers 0 n)) ++ map f (filter passes (n ∷ []))
  with_last = ap (λ xs. map f (filter passes xs)) (numbers-more n) ∙ ap (map f) (filter-append passes (numbers 0 n) (n ∷ []))
      ∙ map-append f (filter passes (numbers 0 n)) (filter passes (n ∷ []))

  is_last : n ≡ heir → map f (filter passes (numbers 0 (n + 1))) ≡ map f (filter passes (numbers 0 n))
  is_last e =
      let t : (heir == n) ≡ true = eq-eqb heir n (sym e) in
      with_last ∙ ap (λ b. map f (filter passes (numbers 0 n)) ++ map f (cond (not b) (n ∷ []) [])) t
      ∙ append-nil (map f (filter passes (numbers 0 n)))

  is_not_last : (n ≡ heir → ⊥) → map f (filter passes (numbers 0 (n + 1))) ≡ map f (filter passes (numbers 0 n)) ++ f n ∷ []
  is_not_last d =
      let t : (heir == n) ≡ false = grind arith in
      with_last ∙ ap (λ b. map f (filter passes (numbers 0 n)) ++ map f (cond (not b) (n ∷ []) [])) t

module _ (rows : List (Row labels)) (nodes : List ℕ) (k heir n : ℕ) {s t : Sheet}
    (now : Wrote (args_text (map slot_word (new_among rows nodes k heir n))) s t) where
  -- one child more, the heir or another one
  skipped : n ≡ heir → Wrote (args_text (map slot_word (new_among rows nodes k heir (n + 1)))) s t
  skipped e = wrote-as (ap (λ xs. args_text (map slot_word xs)) (sym (is_last _ heir n e))) now

  put : (n ≡ heir → ⊥) → (child : ℕ) → child ≡ child_in rows k n → (slot : ℕ) → slot ≡ slice_index nodes child → {u : Sheet}
      → Wrote (32 ∷ slot_word slot) t u → Wrote (args_text (map slot_word (new_among rows nodes k heir (n + 1)))) s u
  put d child c slot e w =
      let f : ℕ → ℕ = λ i. slice_index nodes (child_in rows k i) in
      let g : slot ≡ f n = e ∙ ap (slice_index nodes) c in
      wrote-as (ap (λ xs. args_text (map slot_word xs)) (sym (is_not_last f heir n d)))
      (word-put slot_word (new_among rows nodes k heir n) (f n) now (wrote-as (ap (λ z. 32 ∷ slot_word z) g) w))

pub loop-number-preserved : goal.loop-number-preserved
loop-number-preserved c = record {
  child = c.after-child.ensures ∙ ap (after_in rows) c.loop-number.invariant.child
      ∙ ap (child_in rows c.args.node) (let e : suc c.loop-number.number ≡ c.loop-number.number + 1 = omega arith in e);
  words = elim c.if-number-heir.branch [
    | then-number-heir w ↦ subst (Wrote more c.args.sheet.now) (sym w.sheet-is)
        (put rows nodes c.args.node heir c.loop-number.number c.loop-number.invariant.words
        w.if-number-heir.true c.loop-number.child c.loop-number.invariant.child w.at.result w.at.ensures w.put_slot.ensures)
    | else-number-heir w ↦ subst (Wrote more c.args.sheet.now) (sym w.sheet-is)
        (skipped rows nodes c.args.node heir c.loop-number.number c.loop-number.invariant.words w.if-number-heir.false)
  ];
}
  where
    rows : List (Row labels)
    rows = c.args.tree.now

    nodes : List ℕ
    nodes = c.args.slots.now.by_node.items

    heir : ℕ
    heir = c.in-Some-heir.heir

    more : List ℕ
    more = args_text (map slot_word (new_among rows nodes c.args.node heir (c.loop-number.number + 1)))
