-- Whether an object is in a type is decided, over any types: the listed pairs are few.
use Rattle.std.proofs.Common.{ℕ, zero, suc, ◌≡◌, ◌⊎◌, inl, inr, List, [], ◌∷◌, slice_get, Option, Some, None, refl, ap, sym, subst, Contains, arith}
use Rattle.std.specs.Prelude.{Any}
use Rattle.std.proofs.Math.Decide.{ℕ_discrete}
use Rattle.plan_model.specs.declared.types.Object.{Object}
use Rattle.plan_model.specs.declared.types.Parent.{Parent}
use Rattle.plan_model.specs.declared.types.Types.{Types}
use Rattle.plan_model.specs.Typing.{Leads, stay, climb, union_at, IsBelow, IsPart, InType}
use Rattle.plan_model.proofs.task_networks.Lists.{not-in_empty, head_or_tail, Contains-here, Contains-later}
use Rattle.slot_encoding.proofs.places.TypeChains.{leads_on, first_pair, climb_by}

either : {A B : Type 0} → Dec A → Dec B → Dec (A ⊎ B)
either (yes a) d = yes (inl a)
either (no n) (yes b) = yes (inr b)
either (no n) (no m) = no (λ s. elim s [ inl a ↦ n a | inr b ↦ m b ])

any_decided : {A : Type 0} (P : A → Type 0) → ((x : A) → Dec (P x)) → (xs : List A) → Dec (Any P xs)
any_decided P decide [] = no (λ a. let h = a.2 in omega arith)
any_decided {A = A} P decide (x ∷ xs) = go (decide x) (any_decided P decide xs)
  where
    neither : (P x → ⊥) → (Any P xs → ⊥) → Any P (x ∷ xs) → ⊥
    neither n m (zero, y, l, e, p) = n (subst P (sym e) p)
    neither n m (suc k, y, l, e, p) = m (k, y, omega arith, e, p)

    go : Dec (P x) → Dec (Any P xs) → Dec (Any P (x ∷ xs))
    go (yes p) d = yes (0, x, omega arith, refl, p)
    go (no n) (yes (k, y, l, e, p)) = yes (suc k, y, omega arith, e, p)
    go (no n) (no m) = no (neither n m)

-- a chain over one more pair goes by this pair or it doesn't
module _ (pair : Parent) (pairs : List Parent) where
  wider : (a b : ℕ) → Leads pairs a b → Leads (pair ∷ pairs) a b
  wider a b stay = stay
  wider a b (climb {parent = u} c l) = climb (Contains-later pair pairs _ c) (wider u b l)

  by_pair : (a b : ℕ) → Leads pairs a pair.child → Leads pairs pair.parent b → Leads (pair ∷ pairs) a b
  by_pair a b l m = leads_on (pair ∷ pairs) a pair.child b (wider a pair.child l) (climb_by (pair ∷ pairs) pair.child b pair (Contains-here pair pairs) refl (wider pair.parent b m))

  chain_cases : (a b : ℕ) → Leads (pair ∷ pairs) a b → Leads pairs a b ⊎ (Leads pairs a pair.child × Leads pairs pair.parent b)
  chain_cases a b stay = inl stay
  chain_cases a b (climb {parent = u} c l) = go (head_or_tail pair pairs (record { child = a; parent = u }) c) (chain_cases u b l)
    where
      go : (pair ≡ record { child = a; parent = u }) ⊎ Contains pairs (record { child = a; parent = u }) → Leads pairs u b ⊎ (Leads pairs u pair.child × Leads pairs pair.parent b)
          → Leads pairs a b ⊎ (Leads pairs a pair.child × Leads pairs pair.parent b)
      go (inl e) (inl m) = inr (subst (Leads pairs a) (sym (ap (λ (x : Parent). x.child) e)) stay, subst (λ z. Leads pairs z b) (sym (ap (λ (x : Parent). x.parent) e)) m)
      go (inl e) (inr m) = inr (subst (Leads pairs a) (sym (ap (λ (x : Parent). x.child) e)) stay, m.1)
      go (inr d) (inl m) = inl (climb d m)
      go (inr d) (inr m) = inr (climb d m.0, m.1)

leads_decided : (pairs : List Parent) (a b : ℕ) → Dec (Leads pairs a b)
leads_decided [] a b = go (ℕ_discrete a b)
  where
    go : Dec (a ≡ b) → Dec (Leads [] a b)
    go (yes e) = yes (subst (Leads [] a) e stay)
    go (no n) = no (λ l. elim (first_pair [] a b l) [ inl e ↦ n e | inr h ↦ not-in_empty h.0 h.1 ])
leads_decided (pair ∷ pairs) a b = go (leads_decided pairs a b) (leads_decided pairs a pair.child) (leads_decided pairs pair.parent b)
  where
    go : Dec (Leads pairs a b) → Dec (Leads pairs a pair.child) → Dec (Leads pairs pair.parent b) → Dec (Leads (pair ∷ pairs) a b)
    go (yes l) x y = yes (wider pair pairs a b l)
    go (no n) (yes l) (yes m) = yes (by_pair pair pairs a b l m)
    go (no n) (no x) y = no (λ l. elim (chain_cases pair pairs a b l) [ inl m ↦ n m | inr m ↦ x m.0 ])
    go (no n) (yes l) (no y) = no (λ l. elim (chain_cases pair pairs a b l) [ inl m ↦ n m | inr m ↦ y m.1 ])

below_decided : (types : Types) (ty of : ℕ) → Dec (IsBelow types ty of)
below_decided types ty of = either (ℕ_discrete of 0) (leads_decided types.parents ty of)

-- a property of the value that is there, if one is
given_decided : {A : Type 0} (P : A → Type 0) → ((x : A) → Dec (P x)) → (o : Option A) → Dec ((x : A) × (o ≡ Some x) × P x)
given_decided P decide None = no (λ h. let e : None ≡ Some h.0 = h.1 in absurd cc)
given_decided {A = A} P decide (Some x) = go (decide x)
  where
    go : Dec (P x) → Dec ((y : A) × (Some x ≡ Some y) × P y)
    go (yes p) = yes (x, refl, p)
    go (no n) = no (λ h. let f : Some x ≡ Some h.0 = h.1 in let e : h.0 ≡ x = cc in n (subst P e h.2))

part_decided : (types : Types) (ty of : ℕ) → Dec (IsPart types ty of)
part_decided types ty of =
    either (below_decided types ty of) (given_decided (Any (IsBelow types ty)) (any_decided (IsBelow types ty) (below_decided types ty)) (union_at types of))

pub in_type_decided : (types : Types) (objects : List Object) (o ty : ℕ) → Dec (InType types objects o ty)
in_type_decided types objects o ty = given_decided (λ (x : Object). IsPart types x.ty ty) (λ x. part_decided types x.ty ty) (slice_get objects o)
