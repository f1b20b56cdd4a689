-- Chains of types over pairs without a cycle: one leads up from each type to type 0, and whether one leads to a type is decided.
use Rattle.std.proofs.Common.{ℕ, zero, suc, ◌≡◌, ◌+◌, ◌<◌, ◌≤◌, ◌⊎◌, inl, inr, List, [], ◌∷◌, length, refl, sym, subst, Contains, arith}
use Rattle.std.proofs.Math.Decide.{ℕ_discrete}
use Rattle.plan_model.specs.declared.types.Parent.{Parent}
use Rattle.plan_model.specs.Typing.{Leads, stay, climb}
use Rattle.htn_base.specs.Different.{AreDifferent}
use Rattle.plan_model.specs.task_networks.Spelling.{numbers}
use Rattle.plan_model.proofs.task_networks.Lists.{not-in_empty, head_or_tail, Contains-here, Contains-later}
use Rattle.plan_model.proofs.task_networks.Different.{no_more}
use Rattle.plan_model.proofs.task_networks.Numbers.{length-numbers, to_numbers}

pub leads_on : (parents : List Parent) (a b t : ℕ) → Leads parents a b → Leads parents b t → Leads parents a t
leads_on parents a b t stay m = m
leads_on parents a b t (climb {parent = u} c l) m = climb c (leads_on parents u b t l m)

-- the first pair of a chain, if it has one
pub first_pair : (parents : List Parent) (a t : ℕ) → Leads parents a t → (a ≡ t) ⊎ ((x : Parent) × Contains parents x × (x.child ≡ a) × Leads parents x.parent t)
first_pair parents a t (stay {ty}) = inl refl
first_pair parents a t (climb {ty} {parent} {of} c l) = inr (record { child = ty; parent = parent }, c, refl, l)

pub climb_by : (parents : List Parent) (a t : ℕ) (x : Parent) → Contains parents x → x.child ≡ a → Leads parents x.parent t → Leads parents a t
climb_by parents a t x c e l = climb (subst (λ z. Contains parents (record { child = z; parent = x.parent })) e c) l

module _ (parents : List Parent) (n : ℕ)
    (range : (x : Parent) → Contains parents x → (x.child < n) × (x.parent < n) × (0 < x.child))
    (has_parent : (k : ℕ) → 0 < k → k < n → (x : Parent) × Contains parents x × (x.child ≡ k))
    (no_cycle : (x : Parent) → Contains parents x → Leads parents x.parent x.child → ⊥) where
  -- a pair of this type begins a chain to a
  abbrev Passes : ℕ → ℕ → Type 0
  Passes a v = (x : Parent) × Contains parents x × (x.child ≡ v) × Leads parents x.parent a

  -- the types before a on a way to it
  abbrev IsTrail : ℕ → List ℕ → Type 0
  IsTrail a vs = AreDifferent vs × ((v : ℕ) → Contains vs v → (v < n) × Passes a v)

  not_passed : (a : ℕ) (vs : List ℕ) → IsTrail a vs → Contains vs a → ⊥
  not_passed a vs t c = let (x, d, e, l) = (t.1 a c).1 in no_cycle x d (subst (Leads parents x.parent) (sym e) l)

  trail_on : (a : ℕ) (vs : List ℕ) (x : Parent) → IsTrail a vs → a < n → Contains parents x → x.child ≡ a → IsTrail x.parent (a ∷ vs)
  trail_on a vs x t l c e = ((not_passed a vs t, t.0), each)
    where
      each : (v : ℕ) → Contains (a ∷ vs) v → (v < n) × Passes x.parent v
      each v d = elim (head_or_tail a vs v d) [
        | inl f ↦ subst (λ z. (z < n) × Passes x.parent z) f (l, (x, c, e, stay))
        | inr k ↦ (let (m, r) = t.1 v k in let (y, i, j, w) = r in (m, (y, i, j, leads_on parents y.parent a x.parent w (climb_by parents a x.parent x c e stay))))
      ]

  -- no way is longer than the types are many
  short : (a : ℕ) (vs : List ℕ) → IsTrail a vs → a < n → length vs < n
  short a vs t l =
      let h = no_more (a ∷ vs) (numbers 0 n) (not_passed a vs t, t.0) (λ v c. elim (head_or_tail a vs v c) [ inl e ↦ to_numbers 0 n v (omega arith) (omega arith) | inr k ↦ (let m = (t.1 v k).0 in to_numbers 0 n v (omega arith) (omega arith)) ]) in
      let k = length-numbers 0 n in
      omega arith

  up_from : (fuel a : ℕ) (vs : List ℕ) → a < n → IsTrail a vs → n ≤ fuel + length vs → Leads parents a 0
  up_from zero a vs l t f = absurd (let s = short a vs t l in omega arith)
  up_from (suc fuel) zero vs l t f = stay
  up_from (suc fuel) (suc a) vs l t f =
      let (x, c, e) = has_parent (suc a) (omega arith) l in
      climb_by parents (suc a) 0 x c e (up_from fuel x.parent (suc a ∷ vs) (range x c).1 (trail_on (suc a) vs x t l c e) (omega arith))

  no_trail : (a : ℕ) → IsTrail a []
  no_trail a = (tt, λ v c. absurd (not-in_empty v c))

  -- each type is a part of type 0
  pub leads_to_object : (a : ℕ) → a < n → Leads parents a 0
  leads_to_object a l = up_from n a [] l (no_trail a) (omega arith)

  -- type 0 is a part of no other
  pub from_object : (t : ℕ) → Leads parents 0 t → t ≡ 0
  from_object t l = elim (first_pair parents 0 t l) [ inl e ↦ sym e | inr (x, c, e, m) ↦ absurd (let h = (range x c).2 in omega arith) ]

  some_pair : (a t : ℕ) → ((x : Parent) → Contains parents x → x.child ≡ a → Dec (Leads parents x.parent t)) → (xs : List Parent) → ((x : Parent) → Contains xs x → Contains parents x)
      → Dec ((x : Parent) × Contains xs x × (x.child ≡ a) × Leads parents x.parent t)
  some_pair a t decide [] within = no (λ h. not-in_empty h.0 h.1)
  some_pair a t decide (y ∷ xs) within = go (ℕ_discrete y.child a) (some_pair a t decide xs (λ x c. within x (Contains-later y xs x c)))
    where
      by : Dec (Leads parents y.parent t) → y.child ≡ a → ((x : Parent) × Contains xs x × (x.child ≡ a) × Leads parents x.parent t → ⊥) → Dec ((x : Parent) × Contains (y ∷ xs) x × (x.child ≡ a) × Leads parents x.parent t)
      by (yes l) e m = yes (y, Contains-here y xs, e, l)
      by (no l) e m = no (λ h. elim (head_or_tail y xs h.0 h.1) [ inl f ↦ l (subst (λ (z : Parent). Leads parents z.parent t) (sym f) h.3) | inr c ↦ m (h.0, c, h.2, h.3) ])

      go : Dec (y.child ≡ a) → Dec ((x : Parent) × Contains xs x × (x.child ≡ a) × Leads parents x.parent t) → Dec ((x : Parent) × Contains (y ∷ xs) x × (x.child ≡ a) × Leads parents x.parent t)
      go d (yes h) = yes (h.0, Contains-later y xs h.0 h.1, h.2, h.3)
      go (yes e) (no m) = by (decide y (within y (Contains-here y xs)) e) e m
      go (no e) (no m) = no (λ h. elim (head_or_tail y xs h.0 h.1) [ inl f ↦ e (subst (λ (z : Parent). z.child ≡ a) (sym f) h.2) | inr c ↦ m (h.0, c, h.2, h.3) ])

  from_pair : (a t : ℕ) → Dec (a ≡ t) → Dec ((x : Parent) × Contains parents x × (x.child ≡ a) × Leads parents x.parent t) → Dec (Leads parents a t)
  from_pair a t (yes e) d = yes (subst (Leads parents a) e stay)
  from_pair a t (no e) (yes (x, c, f, l)) = yes (climb_by parents a t x c f l)
  from_pair a t (no e) (no m) = no (λ l. elim (first_pair parents a t l) [ inl f ↦ e f | inr h ↦ m h ])

  decide_from : (fuel a t : ℕ) (vs : List ℕ) → a < n → IsTrail a vs → n ≤ fuel + length vs → Dec (Leads parents a t)
  decide_from zero a t vs l w f = absurd (let s = short a vs w l in omega arith)
  decide_from (suc fuel) a t vs l w f =
      from_pair a t (ℕ_discrete a t) (some_pair a t (λ x c e. decide_from fuel x.parent t (a ∷ vs) (range x c).1 (trail_on a vs x w l c e) (omega arith)) parents (λ x c. c))

  pub leads_decided : (a t : ℕ) → a < n → Dec (Leads parents a t)
  leads_decided a t l = decide_from n a t [] l (no_trail a) (omega arith)
