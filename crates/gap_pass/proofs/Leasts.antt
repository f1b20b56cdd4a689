-- The least of a number and of those at some places, found place by place.
use Rattle.std.proofs.Common.{ℕ, suc, ◌≡◌, ◌+◌, ◌<◌, ◌≤◌, ◌↔◌, ◌⊎◌, inl, inr, List, ◌∷◌, length, min, get_or, drop, Some, None, slice_get, ap, sym, subst, ◌∙◌, Contains, drop-cons, arith}
use Rattle.std.proofs.lemmas.List.{drop_all}
use Rattle.plan_model.proofs.task_networks.Lists.{Contains-here, Contains-later, head_or_tail, not-in_empty}
use Rattle.gap_pass.specs.Least.{IsLeast}

-- the least so far, and what is left to be gone through
pub record IsLeastSo (numbers : List ℕ) (most : ℕ) (P Q : ℕ → Type 0) (least : ℕ) : Type 0 where
  pub is : (k : ℕ) → ((k ≤ least) × ((x : ℕ) → Q x → k ≤ get_or numbers x 0)) ↔ ((k ≤ most) × ((x : ℕ) → P x → k ≤ get_or numbers x 0))

pub none_so_far : (numbers : List ℕ) (most : ℕ) (P : ℕ → Type 0) → IsLeastSo numbers most P P most
none_so_far numbers most P = record { is = λ k. (λ a. a, λ a. a) }

module _ (numbers : List ℕ) (most least : ℕ) (P Q R : ℕ → Type 0) (so : IsLeastSo numbers most P Q least) where
  -- one place, and the others
  pub one_so_far : (x lesser : ℕ) → lesser ≡ min least (get_or numbers x 0) → Q x → ((y : ℕ) → R y → Q y)
      → ((y : ℕ) → Q y → (x ≡ y) ⊎ R y) → IsLeastSo numbers most P R lesser
  one_so_far x lesser e q up down = record { is = λ k. (to k, from k) }
    where
      to : (k : ℕ) → (k ≤ lesser) × ((y : ℕ) → R y → k ≤ get_or numbers y 0) → (k ≤ most) × ((y : ℕ) → P y → k ≤ get_or numbers y 0)
      to k a =
          let l = a.0 in
          (so.is k).0 (
            omega arith,
            λ y d. elim (down y d) [
              | inl f ↦ subst (λ z. k ≤ get_or numbers z 0) f (omega arith)
              | inr r ↦ a.1 y r
            ],
          )

      from : (k : ℕ) → (k ≤ most) × ((y : ℕ) → P y → k ≤ get_or numbers y 0) → (k ≤ lesser) × ((y : ℕ) → R y → k ≤ get_or numbers y 0)
      from k a =
          let b = (so.is k).1 a in
          let l = b.0 in
          let m = b.1 x q in
          (omega arith, λ y r. b.1 y (up y r))

  -- no place
  pub same_so_far : ((y : ℕ) → R y → Q y) → ((y : ℕ) → Q y → R y) → IsLeastSo numbers most P R least
  same_so_far up down = record {
    is = λ k. (
      λ a. (so.is k).0 (a.0, λ y d. a.1 y (down y d)),
      λ a. (let b = (so.is k).1 a in (b.0, λ y d. b.1 y (up y d))),
    );
  }

pub all_so_far : (numbers : List ℕ) (most least : ℕ) (P Q : ℕ → Type 0) → ((x : ℕ) → Q x → ⊥) → IsLeastSo numbers most P Q least
    → IsLeast numbers most P least
all_so_far numbers most least P Q none so k = (
  λ l. (so.is k).0 (l, λ x q. absurd (none x q)),
  λ a. ((so.is k).1 a).0,
)

-- the places that are left
module _ (places : List ℕ) (n : ℕ) where
  none_left : length places ≤ n → (x : ℕ) → Contains (drop n places) x → ⊥
  none_left l x c = not-in_empty x (subst (λ zs. Contains zs x) (drop_all n places l) c)

  module _ (l : n < length places) where
    left : drop n places ≡ get_or places n 0 ∷ drop (n + 1) places
    left = drop-cons places n 0 l ∙ ap (λ j. get_or places n 0 ∷ drop j places) (let e : suc n ≡ n + 1 = omega arith in e)

    here : Contains (drop n places) (get_or places n 0)
    here = subst (λ zs. Contains zs (get_or places n 0)) (sym left) (Contains-here (get_or places n 0) (drop (n + 1) places))

    behind : (y : ℕ) → Contains (drop (n + 1) places) y → Contains (drop n places) y
    behind y c = subst (λ zs. Contains zs y) (sym left) (Contains-later (get_or places n 0) (drop (n + 1) places) y c)

    either : (y : ℕ) → Contains (drop n places) y → (get_or places n 0 ≡ y) ⊎ Contains (drop (n + 1) places) y
    either y c = head_or_tail (get_or places n 0) (drop (n + 1) places) y (subst (λ zs. Contains zs y) left c)

    pub next_place : (numbers : List ℕ) (most least lesser : ℕ) → lesser ≡ min least (get_or numbers (get_or places n 0) 0)
        → IsLeastSo numbers most (Contains places) (Contains (drop n places)) least → IsLeastSo numbers most (Contains places)
        (Contains (drop (n + 1) places)) lesser
    next_place numbers most least lesser e so = one_so_far numbers most least (Contains places) (Contains (drop n places))
        (Contains (drop (n + 1) places)) so (get_or places n 0) lesser e here behind either

  pub last_place : (numbers : List ℕ) (most least : ℕ) → length places ≤ n → IsLeastSo numbers most (Contains places)
      (Contains (drop n places)) least → IsLeast numbers most (Contains places) least
  last_place numbers most least l so = all_so_far numbers most least (Contains places) (Contains (drop n places)) (none_left l) so

-- the places of children
module _ (children : List ℕ) where
  abbrev pub Among : List ℕ → ℕ → Type 0
  Among of x = (j : ℕ) × Contains of j × (slice_get children j ≡ Some x)

  module _ (of : List ℕ) (n : ℕ) (numbers : List ℕ) (most least : ℕ) where
    module _ (l : n < length of) (so : IsLeastSo numbers most (Among of) (Among (drop n of)) least) where
      pub next_child : (x lesser : ℕ) → slice_get children (get_or of n 0) ≡ Some x → lesser ≡ min least (get_or numbers x 0)
          → IsLeastSo numbers most (Among of) (Among (drop (n + 1) of)) lesser
      next_child x lesser e f = one_so_far numbers most least (Among of) (Among (drop n of)) (Among (drop (n + 1) of)) so x lesser f
          (get_or of n 0, here of n l, e)
          (λ y r. (r.0, behind of n l r.0 r.1, r.2)) (λ y q. elim (either of n l q.0 q.1)
          [ inl g ↦ (let h = ap (slice_get children) g in let m = q.2 in inl cc) | inr c ↦ inr (q.0, c, q.2) ])

      pub no_child : (same : ℕ) → slice_get children (get_or of n 0) ≡ None → same ≡ least
          → IsLeastSo numbers most (Among of) (Among (drop (n + 1) of)) same
      no_child same e f = subst (IsLeastSo numbers most (Among of) (Among (drop (n + 1) of))) (sym f)
          (same_so_far numbers most least (Among of) (Among (drop n of)) (Among (drop (n + 1) of)) so
          (λ y r. (r.0, behind of n l r.0 r.1, r.2)) (λ y q. elim (either of n l q.0 q.1)
          [ inl g ↦ (let h = ap (slice_get children) g in let m = q.2 in absurd cc) | inr c ↦ (q.0, c, q.2) ]))

    pub last_child : length of ≤ n → IsLeastSo numbers most (Among of) (Among (drop n of)) least → IsLeast numbers most (Among of) least
    last_child l so = all_so_far numbers most least (Among of) (Among (drop n of)) (λ x q. none_left of n l q.0 q.1) so
