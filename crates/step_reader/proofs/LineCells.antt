-- The cells of a method's children, by its line.
use Rattle.std.proofs.Common.{ℕ, zero, suc, ◌≡◌, ◌+◌, ◌<◌, List, [], ◌∷◌, ◌++◌, length, map, filter, not, get_or, slice_get, All, Option, Some, refl, ap, sym, subst, ◌∙◌, Contains, append_assoc, arith}
use Rattle.std.proofs.lemmas.List.{length-append}
use Rattle.std.proofs.lemmas.List.Elements.{Contains-append_right}
use Rattle.htn_base.specs.Different.{AreDifferent}
use Rattle.plan_model.specs.task_networks.Order.{IsLine}
use Rattle.plan_model.specs.task_networks.Spelling.{numbers, is_heir}
use Rattle.plan_model.proofs.task_networks.Lists.{cut_at, Contains-here, Contains-later}
use Rattle.plan_model.proofs.task_networks.OtherChildren.{rest_of, rest_cases}
use Rattle.slot_machine.proofs.OtherChildren.{map_same}
use Rattle.stack_machine.specs.Stack.{behind}
use Rattle.stack_machine.proofs.Heights.{at_cut, whole_length}
use Rattle.step_reader.specs.Cells.{ArePlaced, AreOnce, others_in}

at_place : {A : Type 0} (ls rs : List A) (x : A) → slice_get (ls ++ x ∷ rs) (length ls) ≡ Some x
at_place [] rs x = refl
at_place (y ∷ ls) rs x = at_place ls rs x

contains_at : (xs : List ℕ) (k x : ℕ) → slice_get xs k ≡ Some x → Contains xs x
contains_at [] k x e = absurd cc
contains_at (y ∷ xs) zero x e = subst (Contains (y ∷ xs)) (let f : y ≡ x = cc in f) (Contains-here y xs)
contains_at (y ∷ xs) (suc k) x e = Contains-later y xs x (contains_at xs k x e)

member : (xs : List ℕ) (k d : ℕ) → k < length xs → Contains xs (get_or xs k d)
member [] k d r = absurd (omega arith)
member (x ∷ xs) zero d r = Contains-here x xs
member (x ∷ xs) (suc k) d r = Contains-later x xs (get_or xs k d) (member xs k d (omega arith))

once_of : (xs : List ℕ) → AreDifferent xs → AreOnce xs
once_of [] d j k i e f = absurd cc
once_of (x ∷ xs) d zero zero i e f = refl
once_of (x ∷ xs) d zero (suc k) i e f = absurd (d.0 (contains_at xs k x (f ∙ sym e)))
once_of (x ∷ xs) d (suc j) zero i e f = absurd (d.0 (contains_at xs j x (e ∙ sym f)))
once_of (x ∷ xs) d (suc j) (suc k) i e f = ap suc (once_of xs d.1 j k i e f)

module _ (Pair : ℕ → ℕ → Type 0) (n : ℕ) (line : List ℕ) (l : IsLine Pair n line) where
  different : (xs before : List ℕ) → line ≡ before ++ xs → AreDifferent xs
  different [] before e = tt
  different (x ∷ xs) before e = (new, different xs (before ++ x ∷ []) (e ∙ sym (append_assoc before (x ∷ []) xs)))
    where
      new : Contains xs x → ⊥
      new c =
          let (ls, rs, f) = cut_at xs x c in
          (l.each (before ++ x ∷ ls) rs x (e ∙ ap (λ z. before ++ x ∷ z) f ∙ sym (append_assoc before (x ∷ ls) (x ∷ rs)))).ready.unlisted (Contains-append_right before (x ∷ ls) x (Contains-here x ls))

  pub once : AreOnce line
  once = once_of line (different line [] refl)

  pub long : length line ≡ n
  long = whole_length Pair n line l

  pub all_within : All (λ i. i < length line) line
  all_within k d r =
      let (ls, rs, e) = cut_at line (get_or line k d) (member line k d r) in
      let child = (l.each ls rs (get_or line k d) e).ready.child in
      omega (child, long, arith)

  -- what is placed is told by the line
  pub placed_by : (cell : ℕ) (cells : List ℕ) → ArePlaced line cell (length line) cells → (i : ℕ) → i < n → get_or cells i 0 ≡ cell + behind line i
  placed_by cell cells placed i r =
      let (ls, rs, e) = cut_at line i (l.whole i r) in
      let here = ap (λ z. slice_get z (length ls)) e ∙ at_place ls rs i in
      let size = ap length e ∙ length-append ls (i ∷ rs) in
      let after = at_cut Pair n line l ls rs i e in
      let at = placed (length ls) i (omega (size, arith)) here in
      omega (at, size, after, arith)

  pub others_by : (heir : Option ℕ) (cell : ℕ) (cells : List ℕ) → length cells ≡ length line → ArePlaced line cell (length line) cells
      → others_in heir cells ≡ map (λ i. cell + behind line i) (filter (λ i. not (is_heir heir i)) (numbers 0 n))
  others_by heir cell cells size placed =
      ap (λ m. map (λ i. get_or cells i 0) (filter (λ i. not (is_heir heir i)) (numbers 0 m))) (size ∙ long)
      ∙ map_same (λ i. get_or cells i 0) (λ i. cell + behind line i) (rest_of heir n) (λ i k. placed_by cell cells placed i ((rest_cases heir n i).0 k).0)
