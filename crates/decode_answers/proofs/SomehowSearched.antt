-- Finite searches: for a place of a list, for a list of a given length, for slots; and which words are equal.
use Rattle.std.proofs.Common.{ℕ, zero, suc, ◌≡◌, ◌≤◌, inl, inr, Bool, true, false, IsTrue, List, [], ◌∷◌, map, length, slice_get}
use Rattle.std.proofs.Common.{Option, Some, None, refl, ap, sym, subst, Contains, arith}
use Rattle.plan_model.specs.declared.steps.GroundAction.{GroundAction}
use Rattle.plan_model.specs.task_networks.Spelling.{numbers}
use Rattle.plan_model.proofs.task_networks.Lists.{Contains-here, Contains-later}
use Rattle.plan_model.proofs.task_networks.Numbers.{numbers_to, to_numbers}
use Rattle.slot_machine.proofs.bound_laws.Decided.{Or_not, AreTold, same_or_not, both, each_or_not, some_or_not, has_or_not}
use Rattle.decode_answers.proofs.SomehowTruth.{same_list, spread, to_spread, to_map}

some_once : {A : Type 0} (x y : A) → Some x ≡ Some y → x ≡ y
some_once x y e = cc

pub true_told : (b : Bool) → Or_not (IsTrue b)
true_told true = inl refl
true_told false = inr (λ e. cc)

-- a property of what is there, if something is
pub given_told : {A : Type 0} (P : A → Type 0) → ((x : A) → Or_not (P x)) → (o : Option A) → Or_not ((x : A) × (o ≡ Some x) × P x)
given_told P d None = inr (λ h. (let e = h.1 in cc))
given_told {A = A} P d (Some x) = elim (d x) [
  | inl p ↦ inl (x, refl, p)
  | inr n ↦ inr (λ h. n (subst P (sym (some_once x h.0 h.1)) h.2))
]

-- a property of some place and what is there
pub place_told : {A : Type 0} (P : ℕ → A → Type 0) → ((k : ℕ) (x : A) → Or_not (P k x)) → (xs : List A)
    → Or_not ((k : ℕ) × (x : A) × (slice_get xs k ≡ Some x) × P k x)
place_told P d [] = inr (λ h. (let e = h.2 in cc))
place_told {A = A} P d (x ∷ xs) = go (d 0 x) (place_told (λ k. P (suc k)) (λ k. d (suc k)) xs)
  where
    neither : (P 0 x → ⊥) → (((k : ℕ) × (y : A) × (slice_get xs k ≡ Some y) × P (suc k) y) → ⊥) → (k : ℕ) (y : A)
        → slice_get (x ∷ xs) k ≡ Some y → P k y → ⊥
    neither n m zero y e p = n (subst (P 0) (sym (some_once x y e)) p)
    neither n m (suc k) y e p = m (k, y, e, p)

    go : Or_not (P 0 x) → Or_not ((k : ℕ) × (y : A) × (slice_get xs k ≡ Some y) × P (suc k) y)
        → Or_not ((k : ℕ) × (y : A) × (slice_get (x ∷ xs) k ≡ Some y) × P k y)
    go (inl p) e = inl (0, x, refl, p)
    go (inr n) (inl h) = inl (suc h.0, h.1, h.2, h.3)
    go (inr n) (inr m) = inr (λ h. neither n m h.0 h.1 h.2 h.3)

-- lists
pub lists_told : {A : Type 0} → AreTold A → AreTold (List A)
lists_told d [] [] = inl refl
lists_told d [] (y ∷ ys) = inr (λ e. cc)
lists_told d (x ∷ xs) [] = inr (λ e. cc)
lists_told d (x ∷ xs) (y ∷ ys) = go (d x y) (lists_told d xs ys)
  where
    go : Or_not (x ≡ y) → Or_not (xs ≡ ys) → Or_not (x ∷ xs ≡ y ∷ ys)
    go (inl e) (inl f) = inl (λ i. e i ∷ f i)
    go (inr n) r = inr (λ e. n (let f : x ≡ y = cc in f))
    go (inl e) (inr n) = inr (λ f. n (let g : xs ≡ ys = cc in g))

pub same_step : AreTold GroundAction
same_step s t = go (same_list s.name t.name) (lists_told same_list s.args t.args)
  where
    go : Or_not (s.name ≡ t.name) → Or_not (s.args ≡ t.args) → Or_not (s ≡ t)
    go (inl p) (inl q) = inl (λ i. record { name = p i; args = q i })
    go (inr n) d = inr (λ e. n (ap (λ (z : GroundAction). z.name) e))
    go (inl p) (inr n) = inr (λ e. n (ap (λ (z : GroundAction). z.args) e))

-- all lists of n of these numbers
pub lists_of : ℕ → List ℕ → List (List ℕ)
lists_of zero xs = [] ∷ []
lists_of (suc n) xs = spread (λ x. map (λ r. x ∷ r) (lists_of n xs)) xs

pub to_lists : (xs ys : List ℕ) → ((x : ℕ) → Contains ys x → Contains xs x) → Contains (lists_of (length ys) xs) ys
unfolding lists_of
to_lists xs [] h = Contains-here [] []
to_lists xs (y ∷ ys) h = to_spread (λ x. map (λ r. x ∷ r) (lists_of (length ys) xs)) xs y (y ∷ ys) (h y (Contains-here y ys))
    (to_map (λ r. y ∷ r) (lists_of (length ys) xs) ys (to_lists xs ys (λ x k. h x (Contains-later y ys x k))))

-- slots from 1 to b
module _ (b : ℕ) where
  abbrev pub IsSlot : ℕ → Type 0
  IsSlot x = (1 ≤ x) × (x ≤ b)

  listed : (x : ℕ) → IsSlot x → Contains (numbers 1 b) x
  listed x s = let l = s.0 in let k = s.1 in to_numbers 1 b x l (omega arith)

  unlisted : (x : ℕ) → Contains (numbers 1 b) x → IsSlot x
  unlisted x k = let h = numbers_to 1 b x k in let l = h.1 in (h.0, omega arith)

  pub slot_told : (P : ℕ → Type 0) → ((x : ℕ) → Or_not (P x)) → Or_not ((x : ℕ) × IsSlot x × P x)
  slot_told P d = elim (some_or_not P d (numbers 1 b)) [
    | inl h ↦ inl (h.0, unlisted h.0 h.1, h.2)
    | inr n ↦ inr (λ h. n (h.0, listed h.0 h.1, h.2))
  ]

  module _ (n : ℕ) (P : List ℕ → Type 0) (d : (new : List ℕ) → Or_not (P new)) where
    abbrev Fits : List ℕ → Type 0
    Fits new = (length new ≡ n) × (((x : ℕ) → Contains new x → Contains (numbers 1 b) x) × P new)

    fits : (new : List ℕ) → Or_not (Fits new)
    fits new = both (same_or_not (length new) n) (both (each_or_not (Contains (numbers 1 b)) (has_or_not (numbers 1 b)) new) (d new))

    -- n slots
    pub slots_told : Or_not ((new : List ℕ) × (length new ≡ n) × ((x : ℕ) → Contains new x → IsSlot x) × P new)
    slots_told = elim (some_or_not Fits fits (lists_of n (numbers 1 b))) [
      | inl h ↦ inl (h.0, h.2.0, λ x k. unlisted x (h.2.1.0 x k), h.2.1.1)
      | inr m ↦ inr (λ h. (
          let are : (x : ℕ) → Contains h.0 x → Contains (numbers 1 b) x = λ x k. listed x (h.2 x k) in
          m (h.0, subst (λ k. Contains (lists_of k (numbers 1 b)) h.0) h.1 (to_lists (numbers 1 b) h.0 are), (h.1, (are, h.3)))
          ))
    ]
