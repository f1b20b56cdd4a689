-- How many children come after each in a line, as the line is gone through from its end.
use Rattle.std.proofs.Common.{ℕ, suc, ◌≡◌, ◌≢◌, ◌+◌, ◌-◌, ◌<◌, ◌≤◌, inl, inr, cond, List, [], ◌∷◌, map, drop, length, get_or, ap, sym, ◌∙◌, arith}
use Rattle.std.proofs.Math.ListN.{set, replicate, length-set, length-replicate}
use Rattle.std.proofs.Math.Seq.{drop-cons}
use Rattle.std.proofs.Math.Decide.{ℕ_discrete}
use Rattle.std.proofs.lemmas.Bool.Decides.{eqb_tells}
use Rattle.std.proofs.lemmas.List.{length-map, length-drop, ext_get_or, get_or-replicate, get_or-set_same, get_or-set_other}
use Rattle.plan_model.specs.task_networks.Spelling.{numbers}
use Rattle.plan_model.proofs.task_networks.Numbers.{length-numbers}
use Rattle.slot_encoder.proofs.ActionPlaces.{map_numbers-at}
use Rattle.stack_machine.specs.Stack.{behind}

module _ (n : ℕ) where
  abbrev pub cells : List ℕ → List ℕ
  cells l = map (behind l) (numbers 0 n)

  length-cells : (l : List ℕ) → length (cells l) ≡ n
  length-cells l = length-map (numbers 0 n) (behind l) ∙ length-numbers 0 n

  cell-at : (l : List ℕ) (i : ℕ) → i < n → get_or (cells l) i 0 ≡ behind l i
  cell-at l i h = map_numbers-at (behind l) 0 n i h ∙ ap (behind l) (let e : 0 + i ≡ i = omega arith in e)

  -- another one, and this one
  behind-other : (x : ℕ) (l : List ℕ) (i : ℕ) → x ≢ i → behind (x ∷ l) i ≡ behind l i
  behind-other x l i other = elim (eqb_tells x i) [ inl t ↦ absurd (other t.1) | inr t ↦ ap (λ b. cond b (length l) (behind l i)) t.0 ]

  behind-this : (x : ℕ) (l : List ℕ) (i : ℕ) → x ≡ i → behind (x ∷ l) i ≡ length l
  behind-this x l i same = elim (eqb_tells x i) [ inl t ↦ ap (λ b. cond b (length l) (behind l i)) t.0 | inr t ↦ absurd (t.1 same) ]

  abbrev zeros : List ℕ
  zeros = replicate n 0

  length-zeros : length zeros ≡ n
  length-zeros = length-replicate n 0

  pub cells-none : zeros ≡ cells []
  cells-none =
      ext_get_or 0 zeros (cells []) (length-zeros ∙ sym (length-cells []))
      (λ i h. let l : i < n = omega (arith, h, length-zeros) in get_or-replicate n i 0 0 l ∙ sym (cell-at [] i l))

  cells-past : (x : ℕ) (l : List ℕ) → n ≤ x → cells l ≡ cells (x ∷ l)
  cells-past x l past =
      ext_get_or 0 (cells l) (cells (x ∷ l)) (length-cells l ∙ sym (length-cells (x ∷ l)))
      (λ i h.
      let k : i < n = omega (arith, h, length-cells l) in
      let other : x ≢ i = omega (arith, k, past) in
      cell-at l i k ∙ sym (behind-other x l i other) ∙ sym (cell-at (x ∷ l) i k))

  cells-set : (x : ℕ) (l : List ℕ) → x < n → set (cells l) x (length l) ≡ cells (x ∷ l)
  cells-set x l within =
      ext_get_or 0 (set (cells l) x (length l)) (cells (x ∷ l)) (length-set (cells l) x (length l) ∙ length-cells l ∙ sym (length-cells (x ∷ l)))
      (λ i h. let k : i < n = omega (arith, h, length-set (cells l) x (length l), length-cells l) in by i k)
    where
      by : (i : ℕ) → i < n → get_or (set (cells l) x (length l)) i 0 ≡ get_or (cells (x ∷ l)) i 0
      by i k = elim (ℕ_discrete x i) [
        | yes same ↦
            (let there : x < length (cells l) = omega (arith, within, length-cells l) in
            ap (λ j. get_or (set (cells l) x (length l)) j 0) (sym same) ∙ get_or-set_same (cells l) x (length l) 0 there
            ∙ sym (behind-this x l i same) ∙ sym (cell-at (x ∷ l) i k))
        | no other ↦
            (let turned : i ≢ x = omega (arith, other) in
            get_or-set_other (cells l) x i (length l) 0 turned ∙ cell-at l i k ∙ sym (behind-other x l i other) ∙ sym (cell-at (x ∷ l) i k))
      ]

  -- one child more of the line
  module _ (line : List ℕ) (k : ℕ) (some : 0 < k) (within : k ≤ length line) (now next : List ℕ) (are : now ≡ cells (drop k line)) where
    one-more : drop (k - 1) line ≡ get_or line (k - 1) 0 ∷ drop k line
    one-more = drop-cons line (k - 1) 0 (omega (arith, some, within)) ∙ ap (λ j. get_or line (k - 1) 0 ∷ drop j line) (let e : suc (k - 1) ≡ k = omega (arith, some) in e)

    pub cells-more : (v : ℕ) → v ≡ length line - 1 - (k - 1) → get_or line (k - 1) 0 < length now → next ≡ set now (get_or line (k - 1) 0) v → next ≡ cells (drop (k - 1) line)
    cells-more v count there e =
        let x = get_or line (k - 1) 0 in
        let after : v ≡ length (drop k line) = omega (arith, count, length-drop k line, some) in
        let in_n : x < n = omega (arith, there, ap length are, length-cells (drop k line)) in
        e ∙ (λ i. set (are i) x (after i)) ∙ cells-set x (drop k line) in_n ∙ ap cells (sym one-more)

    pub cells-same : length now ≤ get_or line (k - 1) 0 → next ≡ now → next ≡ cells (drop (k - 1) line)
    cells-same past e =
        let x = get_or line (k - 1) 0 in
        let out : n ≤ x = omega (arith, past, ap length are, length-cells (drop k line)) in
        e ∙ are ∙ cells-past x (drop k line) out ∙ ap cells (sym one-more)

  pub cells-whole : (line now : List ℕ) (k : ℕ) → k ≡ 0 → now ≡ cells (drop k line) → now ≡ cells line
  cells-whole line now k none e = e ∙ ap (λ j. cells (drop j line)) none
