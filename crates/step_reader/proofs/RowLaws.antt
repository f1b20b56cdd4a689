-- Rows of cells, and the cells of children by the line.
use Rattle.std.proofs.Common.{ℕ, zero, suc, ◌≡◌, ◌+◌, ◌-◌, ◌<◌, List, [], ◌∷◌, ◌++◌, length, map, get_or, set, take, filter, not, cond, true, false, slice_get, Option, Some, None, ◌≢◌, ◌==◌, eq-eqb, true≢false, append-nil, refl, ap, sym, ◌∙◌, get_or-set_same, get_or-set_other, arith}
use Rattle.std.specs.Prelude.{nat_eq}
use Rattle.std.specs.Option.{option_eq}
use Rattle.std.proofs.Math.Decide.{ℕ_discrete}
use Rattle.std.proofs.lemmas.List.{take_more, map-append}
use Rattle.std.proofs.lemmas.List.Elements.{filter-append}
use Rattle.plan_model.specs.task_networks.Spelling.{numbers, is_heir}
use Rattle.stack_encoding.specs.StackSpelling.{cells_of}
use Rattle.step_reader.specs.Cells.{ArePlaced, AreOnce}

pub length_numbers : (i n : ℕ) → length (numbers i n) ≡ n
length_numbers i zero = refl
length_numbers i (suc n) = ap suc (length_numbers (suc i) n)

pub at_numbers : (i n k d : ℕ) → k < n → get_or (numbers i n) k d ≡ i + k
at_numbers i zero k d l = absurd (omega arith)
at_numbers i (suc n) zero d l = omega arith
at_numbers i (suc n) (suc k) d l = at_numbers (suc i) n k d (omega arith) ∙ (let e : suc i + k ≡ i + suc k = omega arith in e)

pub more_numbers : (i n : ℕ) → numbers i n ++ (i + n) ∷ [] ≡ numbers i (suc n)
more_numbers i zero = let e : i + 0 ≡ i = omega arith in ap (λ x. x ∷ []) e
more_numbers i (suc n) = let e : i + suc n ≡ suc i + n = omega arith in ap (λ x. i ∷ (numbers (suc i) n ++ x ∷ [])) e ∙ ap (λ xs. i ∷ xs) (more_numbers (suc i) n)

-- a step with children names as many cells
pub row_of : (h n : ℕ) → 0 < n → cells_of h n ≡ numbers h n
row_of h zero l = absurd (omega arith)
row_of h (suc n) l = refl

pub length_cells : (h n : ℕ) → 0 < n → length (cells_of h n) ≡ n
length_cells h n l = ap length (row_of h n l) ∙ length_numbers h n

-- one more cell of a row
pub row_more : (cells : List ℕ) (h k x : ℕ) → k < length cells → take k cells ≡ numbers h k → get_or cells k x ≡ h + k → take (k + 1) cells ≡ numbers h (k + 1)
row_more cells h k x l are e =
    let more = take_more cells k x l in
    let one : numbers h (suc k) ≡ numbers h (k + 1) = ap (numbers h) (let z : suc k ≡ k + 1 = omega arith in z) in
    more ∙ (λ i. are i ++ e i ∷ []) ∙ more_numbers h k ∙ one

-- a child more is placed
module _ (line : List ℕ) (cell k child : ℕ) (cells : List ℕ) (once : AreOnce line) (is : slice_get line k ≡ Some child) (here : child < length cells) (placed : ArePlaced line cell k cells) where
  pub placed_more : ArePlaced line cell (k + 1) (set cells child (cell + (length line - 1 - k)))
  placed_more j i l e = elim (ℕ_discrete j k) [
    | yes f ↦ (
        let same : child ≡ i = (let g : Some child ≡ Some i = sym is ∙ ap (slice_get line) (sym f) ∙ e in cc) in
        ap (λ z. get_or (set cells child (cell + (length line - 1 - k))) z 0) (sym same) ∙ get_or-set_same cells child (cell + (length line - 1 - k)) 0 here ∙ ap (λ z. cell + (length line - 1 - z)) (sym f))
    | no n ↦ (
        let other : (child ≡ i → ⊥) = (λ f. n (once j k i e (is ∙ ap Some f))) in
        get_or-set_other cells child i (cell + (length line - 1 - k)) 0 (λ f. other (sym f)) ∙ placed j i (omega arith) e)
  ]

module _ (h n : ℕ) (cells : List ℕ) (some : 0 < n) (are : cells ≡ cells_of h n) where
  pub row_length : length cells ≡ n
  row_length = ap length are ∙ length_cells h n some

  pub row_at : (k d : ℕ) → k < n → get_or cells k d ≡ h + k
  row_at k d l = ap (λ z. get_or z k d) (are ∙ row_of h n some) ∙ at_numbers h n k d l

-- the cells of the first k children other than the heir
abbrev pub others_to : Option ℕ → List ℕ → ℕ → List ℕ
others_to heir cells k = map (λ i. get_or cells i 0) (filter (λ i. not (is_heir heir i)) (numbers 0 k))

one_more : (heir : Option ℕ) (cells : List ℕ) (k : ℕ) → others_to heir cells (k + 1) ≡ others_to heir cells k ++ map (λ i. get_or cells i 0) (filter (λ i. not (is_heir heir i)) (k ∷ []))
one_more heir cells k =
    let e : numbers 0 (k + 1) ≡ numbers 0 k ++ k ∷ [] = ap (numbers 0) (let z : k + 1 ≡ suc k = omega arith in z) ∙ sym (more_numbers 0 k) ∙ ap (λ x. numbers 0 k ++ x ∷ []) (let z : 0 + k ≡ k = omega arith in z) in
    ap (λ xs. map (λ i. get_or cells i 0) (filter (λ i. not (is_heir heir i)) xs)) e
    ∙ ap (map (λ i. get_or cells i 0)) (filter-append (λ i. not (is_heir heir i)) (numbers 0 k) (k ∷ []))
    ∙ map-append (λ i. get_or cells i 0) (filter (λ i. not (is_heir heir i)) (numbers 0 k)) (filter (λ i. not (is_heir heir i)) (k ∷ []))

pub heir_more : (heir : Option ℕ) (cells : List ℕ) (k : ℕ) → heir ≡ Some k → others_to heir cells (k + 1) ≡ others_to heir cells k
heir_more heir cells k e = one_more heir cells k ∙ ap (λ o. others_to heir cells k ++ map (λ i. get_or cells i 0) (filter (λ i. not (is_heir o i)) (k ∷ []))) e
    ∙ ap (λ t. others_to heir cells k ++ map (λ i. get_or cells i 0) (cond (not t) (k ∷ []) [])) (eq-eqb k k refl) ∙ append-nil (others_to heir cells k)

pub other_more : (heir : Option ℕ) (cells : List ℕ) (k : ℕ) → (heir ≡ Some k → ⊥) → others_to heir cells (k + 1) ≡ others_to heir cells k ++ get_or cells k 0 ∷ []
other_more heir cells k n = one_more heir cells k ∙ ap (λ t. others_to heir cells k ++ map (λ i. get_or cells i 0) (cond (not t) (k ∷ []) [])) (is_other heir n)
  where
    is_other : (o : Option ℕ) → (o ≡ Some k → ⊥) → is_heir o k ≡ false
    is_other None n = refl
    is_other (Some j) n = let d : j ≢ k = (λ e. n (ap Some e)) in grind arith

-- what is at the first place
pub first_of : (xs : List ℕ) (x : ℕ) → Some x ≡ slice_get xs 0 → get_or xs 0 0 ≡ x
first_of [] x e = absurd cc
first_of (y ∷ xs) x e = let f : x ≡ y = cc in sym f

-- whether a child is the heir
pub heir_is : (heir : Option ℕ) (k : ℕ) → option_eq nat_eq heir (Some k) ≡ true → heir ≡ Some k
heir_is None k e = absurd cc
heir_is (Some j) k e = elim (ℕ_discrete j k) [ yes f ↦ ap Some f | no n ↦ absurd (let d : j ≢ k = n in let f : (j == k) ≡ false = grind arith in true≢false (sym e ∙ f)) ]

pub heir_is_not : (heir : Option ℕ) (k : ℕ) → option_eq nat_eq heir (Some k) ≡ false → heir ≡ Some k → ⊥
heir_is_not heir k e f = true≢false (sym (eq-eqb k k refl) ∙ sym (ap (λ o. option_eq nat_eq o (Some k)) f) ∙ e)
