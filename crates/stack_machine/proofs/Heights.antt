-- The line of a totally ordered method: how many stand after a child.
use Rattle.std.proofs.Common.{ℕ, suc, ◌≡◌, ◌≢◌, ◌<◌, ◌↔◌, inl, inr, List, [], ◌∷◌, ◌++◌, length, take, drop, true, false, cond, ◌==◌, Some, refl, ap, sym, subst, ◌∙◌, Contains, append_assoc, arith, eq-eqb}
use Rattle.std.proofs.Math.Decide.{ℕ_discrete}
use Rattle.std.proofs.lemmas.List.{length-append}
use Rattle.std.proofs.lemmas.List.Elements.{Contains-append_right, Contains-append_cases}
use Rattle.htn_base.specs.Different.{AreDifferent}
use Rattle.plan_model.specs.task_networks.Order.{IsLine, IsCut, Precedes}
use Rattle.plan_model.specs.task_networks.Net.{Net, count}
use Rattle.plan_model.specs.task_networks.Spelling.{numbers}
use Rattle.plan_model.proofs.task_networks.Different.{no_more}
use Rattle.plan_model.proofs.task_networks.Lists.{head_or_tail, cut_at, Contains-here, Contains-later}
use Rattle.plan_model.proofs.task_networks.Numbers.{length-numbers, numbers_to, to_numbers, different-numbers}
use Rattle.plan_model.proofs.task_networks.ScheduleLaws.{line_is_the_only_one}
use Rattle.stack_machine.specs.Stack.{IsTotal, behind}

behind_at : (before rest : List ℕ) (i : ℕ) → (Contains before i → ⊥) → behind (before ++ i ∷ rest) i ≡ length rest
behind_at [] rest i n = let t : (i == i) ≡ true = eq-eqb i i refl in ap (λ b. cond b (length rest) (behind rest i)) t
behind_at (x ∷ before) rest i n =
    let f : (x == i) ≡ false = (let k : x ≢ i = (λ e. n (0, omega arith, e)) in grind arith) in
    ap (λ b. cond b (length (before ++ i ∷ rest)) (behind (before ++ i ∷ rest) i)) f ∙ behind_at before rest i (λ c. n (Contains-later x before i c))

first_taken : (before rest : List ℕ) (i : ℕ) → Contains (take (suc (length before)) (before ++ i ∷ rest)) i
first_taken [] rest i = Contains-here i []
first_taken (x ∷ before) rest i = Contains-later x (take (suc (length before)) (before ++ i ∷ rest)) i (first_taken before rest i)

rest_dropped : (before rest : List ℕ) (i j : ℕ) → Contains rest j → Contains (drop (suc (length before)) (before ++ i ∷ rest)) j
rest_dropped [] rest i j c = c
rest_dropped (x ∷ before) rest i j c = rest_dropped before rest i j c

-- each number below the length has its place
place_behind : (xs : List ℕ) (k : ℕ) → k < length xs → (before : List ℕ) × (i : ℕ) × (rest : List ℕ) × (xs ≡ before ++ i ∷ rest) × (length rest ≡ k)
place_behind [] k h = absurd (omega arith)
place_behind (x ∷ xs) k h = elim (ℕ_discrete k (length xs)) [
  | yes e ↦ ([], x, xs, refl, sym e)
  | no n ↦ (let (before, i, rest, e, f) = place_behind xs k (omega arith) in (x ∷ before, i, rest, ap (λ z. x ∷ z) e, f))
]

-- n children, each with a number below n, the heir with 0, and one precedes another exactly where its number is greater
pub record AreHeights (n : ℕ) (Before : ℕ → ℕ → Type 0) (high : ℕ → ℕ) : Type 0 where
  pub below : (i : ℕ) → i < n → high i < n
  pub full : (k : ℕ) → k < n → (i : ℕ) × (i < n) × (high i ≡ k)
  pub apart : (i j : ℕ) → i < n → j < n → high i ≡ high j → i ≡ j
  pub order : (i j : ℕ) → i < n → j < n → Before i j ↔ (high j < high i)

module _ (Pair : ℕ → ℕ → Type 0) (n : ℕ) (line : List ℕ) (l : IsLine Pair n line) where
  -- before it is cut, what stands there isn't yet listed
  pub at_cut : (before rest : List ℕ) (i : ℕ) → line ≡ before ++ i ∷ rest → behind line i ≡ length rest
  at_cut before rest i e = ap (λ z. behind z i) e ∙ behind_at before rest i (λ c. (l.each before rest i e).ready.unlisted c)

  different : (xs before : List ℕ) → line ≡ before ++ xs → AreDifferent xs
  different [] before e = tt
  different (x ∷ xs) before e = (new, different xs (before ++ x ∷ []) (e ∙ sym (append_assoc before (x ∷ []) xs)))
    where
      new : Contains xs x → ⊥
      new c =
          let (ls, rs, f) = cut_at xs x c in
          (l.each (before ++ x ∷ ls) rs x (e ∙ ap (λ z. before ++ x ∷ z) f ∙ sym (append_assoc before (x ∷ ls) (x ∷ rs)))).ready.unlisted (Contains-append_right before (x ∷ ls) x (Contains-here x ls))

  within : (i : ℕ) → Contains line i → i < n
  within i c = let (ls, rs, f) = cut_at line i c in (l.each ls rs i f).ready.child

  pub whole_length : length line ≡ n
  whole_length =
      let a = no_more line (numbers 0 n) (different line [] refl) (λ i c. to_numbers 0 n i (omega arith) (let x = within i c in omega arith)) in
      let b = no_more (numbers 0 n) line (different-numbers 0 n) (λ i c. l.whole i (let x = (numbers_to 0 n i c).1 in omega arith)) in
      let c = length-numbers 0 n in
      omega arith

  -- what stands earlier in the line has more behind it
  earlier : (before rest : List ℕ) (i j : ℕ) → line ≡ before ++ j ∷ rest → Contains before i → behind line j < behind line i
  earlier before rest i j e c =
      let (ls, rs, f) = cut_at before i c in
      let x = at_cut before rest j e in
      let y = at_cut ls (rs ++ j ∷ rest) i (e ∙ ap (λ z. z ++ j ∷ rest) f ∙ append_assoc ls (i ∷ rs) (j ∷ rest)) in
      let z = length-append rs (j ∷ rest) in
      omega arith

  later : (before rest : List ℕ) (i j : ℕ) → line ≡ before ++ i ∷ rest → Contains rest j → behind line j < behind line i
  later before rest i j e c =
      let (ls, rs, f) = cut_at rest j c in
      let x = at_cut before rest i e in
      let y = at_cut (before ++ i ∷ ls) rs j (e ∙ ap (λ z. before ++ i ∷ z) f ∙ sym (append_assoc before (i ∷ ls) (j ∷ rs))) in
      let z = ap length f in
      let w = length-append ls (j ∷ rs) in
      omega arith

  pub are_heights : ((k : ℕ) → k < length line → IsCut Pair line k) → AreHeights n (Precedes Pair) (behind line)
  are_heights cuts = record {
    below = λ i h. (let (ls, rs, e) = cut_at line i (l.whole i h) in let x = at_cut ls rs i e in let y = ap length e in let z = length-append ls (i ∷ rs) in let w = whole_length in omega arith);
    full = λ k h. (let (ls, i, rs, e, f) = place_behind line k (let w = whole_length in omega arith) in (i, (l.each ls rs i e).ready.child, at_cut ls rs i e ∙ f));
    apart = λ i j h g e. apart i j h g e;
    order = λ i j h g. (to i j g, from i j h g);
  }
    where
      apart : (i j : ℕ) → i < n → j < n → behind line i ≡ behind line j → i ≡ j
      apart i j h g e =
          let (ls, rs, f) = cut_at line i (l.whole i h) in
          elim (Contains-append_cases ls (i ∷ rs) j (subst (λ z. Contains z j) f (l.whole j g))) [
            | inl c ↦ absurd (let x = earlier ls rs j i f c in omega arith)
            | inr c ↦ elim (head_or_tail i rs j c) [ inl d ↦ d | inr d ↦ absurd (let x = later ls rs i j f d in omega arith) ]
          ]

      to : (i j : ℕ) → j < n → Precedes Pair i j → behind line j < behind line i
      to i j g p =
          let (ls, rs, f) = cut_at line j (l.whole j g) in
          earlier ls rs i j f ((l.each ls rs j f).ready.preceded i p)

      inside : (ls rs : List ℕ) (i j : ℕ) → line ≡ ls ++ i ∷ rs → Contains rs j → suc (length ls) < length line
      inside ls rs i j f d = let x = ap length f in let y = length-append ls (i ∷ rs) in let z = d.1 in omega arith

      from : (i j : ℕ) → i < n → j < n → behind line j < behind line i → Precedes Pair i j
      from i j h g x =
          let (ls, rs, f) = cut_at line i (l.whole i h) in
          elim (Contains-append_cases ls (i ∷ rs) j (subst (λ z. Contains z j) f (l.whole j g))) [
            | inl c ↦ absurd (let y = earlier ls rs j i f c in omega arith)
            | inr c ↦ elim (head_or_tail i rs j c) [
              | inl d ↦ absurd (let y = ap (behind line) d in omega arith)
              | inr d ↦ cuts (suc (length ls)) (inside ls rs i j f d) i j (subst (λ z. Contains (take (suc (length ls)) z) i) (sym f) (first_taken ls rs i)) (subst (λ z. Contains (drop (suc (length ls)) z) j) (sym f) (rest_dropped ls rs i j d))
            ]
          ]

module _ (N : Net) (total : IsTotal N) (m : N.Method) where
  abbrev pub line_of : List ℕ
  line_of = (total.ordered m).0

  abbrev pub is_line : IsLine (N.Pair m) (count N m) line_of
  is_line = (total.ordered m).1

  pub high : ℕ → ℕ
  high i = behind line_of i

  pub heights : AreHeights (count N m) (Precedes (N.Pair m)) high
  unfolding high
  heights = are_heights (N.Pair m) (count N m) line_of is_line (total.ordered m).2

  pub high_of : (line : List ℕ) → IsLine (N.Pair m) (count N m) line → (i : ℕ) → behind line i ≡ high i
  unfolding high
  high_of line l i = ap (λ z. behind z i) (line_is_the_only_one N m line line_of l is_line)

  pub heir_lowest : (i : ℕ) → N.heir m ≡ Some i → high i ≡ 0
  heir_lowest i e = let (others, l) = total.heir_is_last m i e in sym (high_of (others ++ i ∷ []) l i) ∙ at_cut (N.Pair m) (count N m) (others ++ i ∷ []) l others [] i refl
