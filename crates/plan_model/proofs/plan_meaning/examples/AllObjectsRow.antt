-- All objects: of a printed problem with the objects o1 and o2 and a slot, a `forall` over `htn_object` ranges over o1 and o2 alone.
use Rattle.std.proofs.Common.{true, ℕ, zero, suc, ◌≡◌, ◌⊎◌, inl, inr, List, [], ◌∷◌, ◌++◌, refl, sym, ap, subst, Contains, arith}
use Rattle.plan_model.specs.declared.terms.Term.TheVariants.{Var}
use Rattle.plan_model.specs.declared.terms.Atom.{Atom}
use Rattle.plan_model.specs.declared.terms.GroundAtom.{GroundAtom}
use Rattle.plan_model.specs.declared.terms.Param.{Param}
use Rattle.plan_model.specs.declared.types.Parent.{Parent}
use Rattle.plan_model.specs.declared.types.Types.{Types}
use Rattle.plan_model.specs.declared.types.Object.{Object}
use Rattle.plan_model.specs.declared.formulas.Formula.TheVariants.{Holds, Forall}
use Rattle.plan_model.specs.Typing.{Leads, stay, climb, IsPart, InType}
use Rattle.plan_model.specs.plan_meaning.Truth.{State, AreTyped, IsTrueIn}
use Rattle.plan_model.proofs.plan_meaning.TruthEquations.{truth-Holds, truth-Forall}
use Rattle.plan_model.proofs.plan_meaning.examples.TruthExamples.{to, from, object_of}
use Rattle.plan_model.proofs.plan_meaning.examples.Unequal.{less}
use Rattle.plan_model.proofs.plan_meaning.ListedItems.{of_each}

-- type 0 is object, type 1 is htn_slot, type 2 is htn_object
abbrev types : Types
types = record {
  names = record { number = 0 } ∷ record { number = 1 } ∷ record { number = 2 } ∷ [];
  parents = record { child = 1; parent = 0 } ∷ record { child = 2; parent = 0 } ∷ [];
  unions = [];
}

abbrev object : ℕ → ℕ → Object
object word ty = record { name = record { number = word }; ty = ty; constant = true }

-- o1, o2 and htn_s1
abbrev objects : List Object
objects = object 3 2 ∷ object 4 2 ∷ object 5 1 ∷ []

abbrev InThis : ℕ → ℕ → Type 0
InThis = InType types objects

abbrev any : ℕ → List Param
any ty = record { name = record { number = 6 }; ty = ty } ∷ []

abbrev seen : Atom
seen = record { predicate = 0; args = Var 0 ∷ [] }

abbrev was_seen : ℕ → GroundAtom
was_seen o = record { predicate = 0; args = o ∷ [] }

-- o1 and o2 are seen
abbrev both_seen : State
both_seen = Contains (was_seen 0 ∷ was_seen 1 ∷ [])

-- no chain of parents leads from object or from htn_slot to htn_object
object_is_not_below : Leads types.parents 0 2 → ⊥
object_is_not_below l = up l refl refl
  where
    up : {ty of : ℕ} → Leads types.parents ty of → ty ≡ 0 → of ≡ 2 → ⊥
    up stay e f = omega arith
    up (climb c l) e f = of_each (λ (p : Parent). p.child ≡ 0 → ⊥) types.parents ((λ x. omega arith), ((λ x. omega arith), tt)) _ c e

slot_is_no_object : IsPart types 1 2 → ⊥
slot_is_no_object (inl (inl e)) = omega arith
slot_is_no_object (inl (inr l)) = up l refl refl
  where
    up : {ty of : ℕ} → Leads types.parents ty of → ty ≡ 1 → of ≡ 2 → ⊥
    up stay e f = omega arith
    up (climb {ty = ty} {parent = parent} {of = of} c l) e f =
        let p : parent ≡ 0 = of_each (λ (p : Parent). p.child ≡ 1 → p.parent ≡ 0) types.parents ((λ x. refl), ((λ x. absurd (omega arith)), tt)) _ c e in
        object_is_not_below (subst (λ z. Leads types.parents z 2) p (subst (λ z. Leads types.parents parent z) f l))
slot_is_no_object (inr (members, e, a)) = cc

-- so the objects of type htn_object are o1 and o2
source_objects : (k : ℕ) → InThis k 2 → (0 ≡ k) ⊎ (1 ≡ k)
source_objects zero i = inl refl
source_objects (suc zero) i = inr refl
source_objects (suc (suc zero)) (x, e, part) = absurd (slot_is_no_object (subst (λ (z : Object). IsPart types z.ty 2) (let f : x ≡ object 5 1 = cc in f) part))
source_objects (suc (suc (suc k))) (x, e, part) = absurd cc

o1_is_one : InThis 0 2
o1_is_one = (object 3 2, refl, inl (inr stay))

-- (forall (?x - htn_object) (seen ?x)) is true, though the slot was never seen
all_are_seen : IsTrueIn InThis both_seen (Forall (any 2) (Holds seen)) []
all_are_seen = from (λ i. truth-Forall InThis both_seen (any 2) (Holds seen) i []) each
  where
    one : (o : ℕ) → (0 ≡ o) ⊎ (1 ≡ o) → IsTrueIn InThis both_seen (Holds seen) (o ∷ [])
    one o (inl e) = subst (λ z. IsTrueIn InThis both_seen (Holds seen) (z ∷ [])) e (from (λ i. truth-Holds InThis both_seen seen i (0 ∷ [])) (0, omega arith, refl))
    one o (inr e) = subst (λ z. IsTrueIn InThis both_seen (Holds seen) (z ∷ [])) e (from (λ i. truth-Holds InThis both_seen seen i (1 ∷ [])) (1, omega arith, refl))

    each : (os : List ℕ) → AreTyped InThis (any 2) os → IsTrueIn InThis both_seen (Holds seen) ([] ++ os)
    each [] a = absurd a
    each (o ∷ []) a = one o (source_objects o a.0)
    each (o ∷ p ∷ os) a = absurd a.1

-- over `object`, which has the slot too, it isn't
slot_is_not_seen : IsTrueIn InThis both_seen (Forall (any 0) (Holds seen)) [] → ⊥
slot_is_not_seen h =
    let s : both_seen (was_seen 2) = to (λ i. truth-Holds InThis both_seen seen i (2 ∷ [])) (to (λ i. truth-Forall InThis both_seen (any 0) (Holds seen) i []) h (2 ∷ []) ((object 5 1, refl, inl (inl refl)), tt)) in
    of_each (λ g. g ≡ was_seen 2 → ⊥) (was_seen 0 ∷ was_seen 1 ∷ []) ((λ e. less 0 2 (omega arith) (sym (ap object_of e))), ((λ e. less 1 2 (omega arith) (sym (ap object_of e))), tt)) (was_seen 2) s refl
