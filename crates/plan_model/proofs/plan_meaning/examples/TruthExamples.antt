-- Truth and effects, worked out: two objects o0 and o1 of type 0, and the predicate `seen` of one object.
use Rattle.std.proofs.Common.{ℕ, zero, suc, ◌≡◌, ◌⊎◌, inl, inr, ◌++◌, List, [], ◌∷◌, refl, ap, sym, subst, Contains, arith, lit<}
use Rattle.plan_model.specs.declared.terms.Term.TheVariants.{Var, Obj}
use Rattle.plan_model.specs.declared.terms.Atom.{Atom}
use Rattle.plan_model.specs.declared.terms.GroundAtom.{GroundAtom}
use Rattle.plan_model.specs.declared.terms.Param.{Param}
use Rattle.plan_model.specs.declared.formulas.Formula.{Formula}
use Rattle.plan_model.specs.declared.formulas.Formula.TheVariants.{Holds, Equal, Not, And, Or, Imply, Forall, Exists}
use Rattle.plan_model.specs.declared.effects.Effect.{Effect}
use Rattle.plan_model.specs.declared.effects.Effect.TheVariants as E
use Rattle.plan_model.specs.plan_meaning.Truth.{State, AreTyped, IsTrueIn, Adds, Deletes, after}
use Rattle.plan_model.proofs.plan_meaning.TruthEquations.{truth-Holds, truth-Equal, truth-Not, truth-And, truth-Or, truth-Imply, truth-Forall, truth-Exists}
use Rattle.plan_model.proofs.plan_meaning.EffectEquations.{adds-Add, adds-Delete, adds-And, adds-Forall, adds-When, deletes-Add, deletes-Delete, deletes-And, deletes-Forall, deletes-When}

-- both objects are in type 0, and no other number is
abbrev InType : ℕ → ℕ → Type 0
InType o t = (o ≡ 0) ⊎ (o ≡ 1)

abbrev seen : ℕ → Atom
seen v = record { predicate = 0; args = Var v ∷ [] }

abbrev seen_object : ℕ → Atom
seen_object o = record { predicate = 0; args = Obj o ∷ [] }

abbrev was_seen : ℕ → GroundAtom
was_seen o = record { predicate = 0; args = o ∷ [] }

-- o0 is seen, o1 is not
abbrev half : State
half = Contains (was_seen 0 ∷ [])

-- both are seen
abbrev whole : State
whole = Contains (was_seen 0 ∷ was_seen 1 ∷ [])

abbrev any : List Param
any = record { name = record { number = 0 }; ty = 0 } ∷ []

abbrev holds : State → Formula → Type 0
holds S f = IsTrueIn InType S f []

pub to : {A B : Type 0} → A ≡ B → A → B
to e a = subst (λ t. t) e a

pub from : {A B : Type 0} → A ≡ B → B → A
from e b = subst (λ t. t) (sym e) b

zero_is_not_one : (n : ℕ) → n ≡ 0 → n ≡ 1 → ⊥
zero_is_not_one n a b = omega arith

abbrev pub first_of : List ℕ → ℕ
first_of [] = 0
first_of (x ∷ xs) = x

-- the first object of an atom
abbrev pub object_of : GroundAtom → ℕ
object_of g = first_of g.args

apart : was_seen 0 ≡ was_seen 1 → ⊥
apart e = zero_is_not_one 0 refl (ap object_of e)

not_seen : half (was_seen 1) → ⊥
not_seen (zero, l, e) = apart e
not_seen (suc k, l, e) = omega arith

atom_true : holds half (Holds (seen_object 0))
atom_true = from (λ i. truth-Holds InType half (seen_object 0) i []) (0, lit< tt, refl)

atom_false : holds half (Holds (seen_object 1)) → ⊥
atom_false h = not_seen (to (λ i. truth-Holds InType half (seen_object 1) i []) h)

equal_true : holds half (Equal (Obj 1) (Obj 1))
equal_true = from (λ i. truth-Equal InType half (Obj 1) (Obj 1) i []) refl

equal_false : holds half (Equal (Obj 0) (Obj 1)) → ⊥
equal_false h = zero_is_not_one 0 refl (to (λ i. truth-Equal InType half (Obj 0) (Obj 1) i []) h)

not_true : holds half (Not (Holds (seen_object 1)))
not_true = from (λ i. truth-Not InType half (Holds (seen_object 1)) i []) atom_false

-- the empty conjunction is true, the empty disjunction is not
and_empty : holds half (And [])
and_empty = from (λ i. truth-And InType half [] i []) tt

and_false : holds half (And (Holds (seen_object 0) ∷ Holds (seen_object 1) ∷ [])) → ⊥
and_false h = atom_false (to (λ i. truth-And InType half (Holds (seen_object 0) ∷ Holds (seen_object 1) ∷ []) i []) h).1.0

or_empty : holds half (Or []) → ⊥
or_empty h = to (λ i. truth-Or InType half [] i []) h

or_true : holds half (Or (Holds (seen_object 1) ∷ Holds (seen_object 0) ∷ []))
or_true = from (λ i. truth-Or InType half (Holds (seen_object 1) ∷ Holds (seen_object 0) ∷ []) i []) (inr (inl atom_true))

imply_true : holds half (Imply (Holds (seen_object 1)) (Holds (seen_object 0)))
imply_true = from (λ i. truth-Imply InType half (Holds (seen_object 1)) (Holds (seen_object 0)) i []) (λ h. atom_true)

imply_false : holds half (Imply (Holds (seen_object 0)) (Holds (seen_object 1))) → ⊥
imply_false h = atom_false (to (λ i. truth-Imply InType half (Holds (seen_object 0)) (Holds (seen_object 1)) i []) h atom_true)

-- some object is seen, and not all are
exists_true : holds half (Exists any (Holds (seen 0)))
exists_true = from (λ i. truth-Exists InType half any (Holds (seen 0)) i []) (0 ∷ [], (inl refl, tt), from (λ i. truth-Holds InType half (seen 0) i (0 ∷ [])) (0, lit< tt, refl))

forall_false : holds half (Forall any (Holds (seen 0))) → ⊥
forall_false h = not_seen (to (λ i. truth-Holds InType half (seen 0) i (1 ∷ [])) (to (λ i. truth-Forall InType half any (Holds (seen 0)) i []) h (1 ∷ []) (inr refl, tt)))

-- in the other state all are
forall_true : holds whole (Forall any (Holds (seen 0)))
forall_true = from (λ i. truth-Forall InType whole any (Holds (seen 0)) i []) each
  where
    one : (o : ℕ) → (o ≡ 0) ⊎ (o ≡ 1) → IsTrueIn InType whole (Holds (seen 0)) (o ∷ [])
    one o (inl e) = subst (λ z. IsTrueIn InType whole (Holds (seen 0)) (z ∷ [])) (sym e) (from (λ i. truth-Holds InType whole (seen 0) i (0 ∷ [])) (0, lit< tt, refl))
    one o (inr e) = subst (λ z. IsTrueIn InType whole (Holds (seen 0)) (z ∷ [])) (sym e) (from (λ i. truth-Holds InType whole (seen 0) i (1 ∷ [])) (1, lit< tt, refl))

    each : (os : List ℕ) → AreTyped InType any os → IsTrueIn InType whole (Holds (seen 0)) ([] ++ os)
    each [] a = absurd a
    each (o ∷ []) a = one o a.0
    each (o ∷ p ∷ os) a = absurd a.1

-- what effects do to the state in which o0 alone is seen
abbrev adds : Effect → ℕ → Type 0
adds e o = Adds InType half e [] (was_seen o)

abbrev deletes : Effect → ℕ → Type 0
deletes e o = Deletes InType half e [] (was_seen o)

abbrev and_then : Effect → ℕ → Type 0
and_then e o = after InType half e [] (was_seen o)

add_adds : adds (E.Add (seen_object 1)) 1
add_adds = from (λ i. adds-Add InType half (seen_object 1) i [] (was_seen 1)) refl

-- what isn't touched stays
add_keeps : and_then (E.Add (seen_object 1)) 0
add_keeps = inl ((0, lit< tt, refl), λ d. to (λ i. deletes-Add InType half (seen_object 1) i [] (was_seen 0)) d)

delete_deletes : and_then (E.Delete (seen_object 0)) 0 → ⊥
delete_deletes (inl (s, n)) = n (from (λ i. deletes-Delete InType half (seen_object 0) i [] (was_seen 0)) refl)
delete_deletes (inr a) = to (λ i. adds-Delete InType half (seen_object 0) i [] (was_seen 0)) a

-- an add wins over a delete of the same atom, in any order
abbrev both : Effect
both = E.And (E.Add (seen_object 0) ∷ E.Delete (seen_object 0) ∷ [])

add_wins : and_then both 0
add_wins = inr (from (λ i. adds-And InType half (E.Add (seen_object 0) ∷ E.Delete (seen_object 0) ∷ []) i [] (was_seen 0)) (inl (from (λ i. adds-Add InType half (seen_object 0) i [] (was_seen 0)) refl)))

it_is_deleted_too : deletes both 0
it_is_deleted_too = from (λ i. deletes-And InType half (E.Add (seen_object 0) ∷ E.Delete (seen_object 0) ∷ []) i [] (was_seen 0)) (inr (inl (from (λ i. deletes-Delete InType half (seen_object 0) i [] (was_seen 0)) refl)))

-- a condition is read in the old state: that o1 is added beside it changes nothing
abbrev read_old : Effect
read_old = E.And (E.Add (seen_object 1) ∷ E.When (Holds (seen_object 1)) (E.Delete (seen_object 0)) ∷ [])

condition_is_old : deletes read_old 0 → ⊥
condition_is_old d = go (to (λ i. deletes-And InType half (E.Add (seen_object 1) ∷ E.When (Holds (seen_object 1)) (E.Delete (seen_object 0)) ∷ []) i [] (was_seen 0)) d)
  where
    go : Deletes InType half (E.Add (seen_object 1)) [] (was_seen 0) ⊎ (Deletes InType half (E.When (Holds (seen_object 1)) (E.Delete (seen_object 0))) [] (was_seen 0) ⊎ ⊥) → ⊥
    go (inl x) = to (λ i. deletes-Add InType half (seen_object 1) i [] (was_seen 0)) x
    go (inr (inl x)) = atom_false (to (λ i. deletes-When InType half (Holds (seen_object 1)) (E.Delete (seen_object 0)) i [] (was_seen 0)) x).0
    go (inr (inr x)) = x

when_adds : adds (E.When (Holds (seen_object 0)) (E.Add (seen_object 1))) 1
when_adds = from (λ i. adds-When InType half (Holds (seen_object 0)) (E.Add (seen_object 1)) i [] (was_seen 1)) (atom_true, add_adds)

-- an effect for each object
forall_adds : adds (E.Forall any (E.Add (seen 0))) 1
forall_adds = from (λ i. adds-Forall InType half any (E.Add (seen 0)) i [] (was_seen 1)) (1 ∷ [], (inr refl, tt), from (λ i. adds-Add InType half (seen 0) i (1 ∷ []) (was_seen 1)) refl)

forall_deletes : and_then (E.Forall any (E.Delete (seen 0))) 0 → ⊥
forall_deletes (inl (s, n)) = n (from (λ i. deletes-Forall InType half any (E.Delete (seen 0)) i [] (was_seen 0)) (0 ∷ [], (inl refl, tt), from (λ i. deletes-Delete InType half (seen 0) i (0 ∷ []) (was_seen 0)) refl))
forall_deletes (inr a) = (let x = to (λ i. adds-Forall InType half any (E.Delete (seen 0)) i [] (was_seen 0)) a in to (λ i. adds-Delete InType half (seen 0) i x.0 (was_seen 0)) x.2)
