-- Items at the places of lists; increasing lists.
use Rattle.std.proofs.Common.{ℕ, zero, suc, ◌≡◌, ◌<◌, ◌⊎◌, inl, inr, List, [], ◌∷◌, map, slice_get, Some, Contains, refl, ap, sym, ◌∙◌, arith}
use Rattle.std.specs.List.{AllPairs}
use Rattle.std.specs.List.Sorted.{IsStrictlyIncreasing}
use Rattle.std.proofs.lemmas.List.Kept.{AllPairs-from_increasing}
use Rattle.plan_model.proofs.task_networks.Lists.{Contains-here, Contains-later, head_or_tail, not-in_empty}

-- at one place
pub got : {X Y Z : Type 0} (u : X → Z) (w : Y → Z) (xs : List X) (ys : List Y) → map u xs ≡ map w ys → (k : ℕ) (y : Y) → slice_get ys k ≡ Some y → (x : X) × (slice_get xs k ≡ Some x) × (u x ≡ w y)
got u w [] [] e k y f = cc
got u w [] (z ∷ ys) e k y f = cc
got u w (x ∷ xs) [] e k y f = cc
got u w (x ∷ xs) (z ∷ ys) e zero y f = let g : z ≡ y = cc in let h : u x ≡ w z = cc in (x, refl, h ∙ ap w g)
got u w (x ∷ xs) (z ∷ ys) e (suc k) y f = got u w xs ys (cc) k y f

-- strictly increasing lists with the same members are the same
above : (x : ℕ) (xs : List ℕ) → AllPairs (λ a b. a < b) (x ∷ xs) → (y : ℕ) → Contains xs y → x < y
above x xs r y (k, l, e) = let h = r 0 (suc k) y (omega arith) (omega arith) in omega arith

tail_rises : (x : ℕ) (xs : List ℕ) → AllPairs (λ a b. a < b) (x ∷ xs) → AllPairs (λ a b. a < b) xs
tail_rises x xs r i j d l m = r (suc i) (suc j) d (omega arith) (omega arith)

rising-same : (xs ys : List ℕ) → AllPairs (λ a b. a < b) xs → AllPairs (λ a b. a < b) ys → ((i : ℕ) → Contains xs i → Contains ys i) → ((i : ℕ) → Contains ys i → Contains xs i) → xs ≡ ys
rising-same [] [] r s f g = refl
rising-same [] (y ∷ ys) r s f g = absurd (not-in_empty y (g y (Contains-here y ys)))
rising-same (x ∷ xs) [] r s f g = absurd (not-in_empty x (f x (Contains-here x xs)))
rising-same (x ∷ xs) (y ∷ ys) r s f g =
    let e : x ≡ y = first (head_or_tail y ys x (f x (Contains-here x xs))) (head_or_tail x xs y (g y (Contains-here y ys))) in
    let t : xs ≡ ys = rising-same xs ys (tail_rises x xs r) (tail_rises y ys s)
    (λ i c. later y ys i (above x xs r i c) e (head_or_tail y ys i (f i (Contains-later x xs i c))))
    (λ i c. later x xs i (above y ys s i c) (sym e) (head_or_tail x xs i (g i (Contains-later y ys i c)))) in
    cc
  where
    first : (y ≡ x) ⊎ Contains ys x → (x ≡ y) ⊎ Contains xs y → x ≡ y
    first (inl e) k = sym e
    first (inr c) (inl e) = e
    first (inr c) (inr d) = absurd (let a = above y ys s x c in let b = above x xs r y d in omega arith)

    later : (z : ℕ) (zs : List ℕ) (i : ℕ) {u : ℕ} → u < i → u ≡ z → (z ≡ i) ⊎ Contains zs i → Contains zs i
    later z zs i l e (inl f) = absurd (omega arith)
    later z zs i l e (inr c) = c

pub increasing-same : (xs ys : List ℕ) → IsStrictlyIncreasing xs → IsStrictlyIncreasing ys → ((i : ℕ) → Contains xs i → Contains ys i) → ((i : ℕ) → Contains ys i → Contains xs i) → xs ≡ ys
increasing-same xs ys r s = rising-same xs ys (AllPairs-from_increasing xs r) (AllPairs-from_increasing ys s)
