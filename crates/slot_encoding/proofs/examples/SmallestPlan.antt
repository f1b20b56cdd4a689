-- The three steps of the smallest problem are a plan of its printed problem.
use Rattle.std.proofs.Common.{ℕ, zero, suc, ◌≡◌, ◌⊎◌, inl, inr, List, [], ◌∷◌, ◌++◌, refl, ap, sym, Contains, arith}
use Rattle.plan_model.specs.declared.options.Style.TheVariants.{Adl}
use Rattle.plan_model.specs.declared.terms.Term.TheVariants.{Var}
use Rattle.plan_model.specs.declared.terms.GroundAtom.{GroundAtom}
use Rattle.plan_model.specs.declared.formulas.Formula.TheVariants.{Holds, Not, And}
use Rattle.plan_model.specs.declared.effects.Effect.{Effect}
use Rattle.plan_model.specs.declared.effects.Effect.TheVariants as E
use Rattle.plan_model.specs.declared.values.Pddl.{Pddl}
use Rattle.plan_model.specs.Typing.{stay}
use Rattle.plan_model.specs.plan_meaning.Truth.{State, AreTyped, IsTrueIn, Adds, after}
use Rattle.plan_model.specs.plan_meaning.ClassicalPlan.{InTypeOf, IsPlan}
use Rattle.plan_model.proofs.plan_meaning.TruthEquations.{truth-Holds, truth-Not, truth-And, truth-Forall}
use Rattle.plan_model.proofs.plan_meaning.EffectEquations.{adds-Add, adds-Delete, adds-And}
use Rattle.plan_model.proofs.plan_meaning.examples.TruthExamples.{to, from}
use Rattle.plan_model.proofs.plan_meaning.examples.Unequal.{less}
use Rattle.plan_model.proofs.plan_meaning.ListedItems.{of_each}
use Rattle.plan_model.proofs.plan_meaning.examples.SmallestRow.{steps}
use Rattle.slot_encoding.proofs.examples.EncodedSmallest.{printed, x, of_h, before, waits, clears, all_free, start, of_t, a, slot_object}

abbrev problem : Pddl
problem = printed Adl

abbrev In : ℕ → ℕ → Type 0
In = InTypeOf problem

-- the atom of this predicate and the slot, which is object 0
abbrev of_slot : ℕ → GroundAtom
of_slot n = record { predicate = n; args = 0 ∷ [] }

abbrev predicate_of : GroundAtom → ℕ
predicate_of g = g.predicate

-- no pair of slots is ordered
NoPairs : State → Type 0
NoPairs S = (args : List ℕ) → S (record { predicate = 2; args = args }) → ⊥

-- what is held in the slot can be taken
may_be_taken : (S : State) (n : ℕ) → S (of_slot n) → NoPairs S → IsTrueIn In S (And (Holds (of_h n) ∷ waits Adl ∷ [])) (0 ∷ [])
unfolding NoPairs
may_be_taken S n held none = from (λ i. truth-And In S (Holds (of_h n) ∷ waits Adl ∷ []) i (0 ∷ [])) (
  from (λ i. truth-Holds In S (of_h n) i (0 ∷ [])) held,
  (from (λ i. truth-Forall In S (x ∷ []) (Not (Holds (before (Var 1) (Var 0)))) i (0 ∷ [])) each, tt),
)
  where
    each : (os : List ℕ) → AreTyped In (x ∷ []) os → IsTrueIn In S (Not (Holds (before (Var 1) (Var 0)))) (0 ∷ os)
    each os t = from (λ i. truth-Not In S (Holds (before (Var 1) (Var 0))) i (0 ∷ os)) (λ k. none _ (to (λ i. truth-Holds In S (before (Var 1) (Var 0)) i (0 ∷ os)) k))

-- a method of one child puts it into the slot
abbrev replaces : ℕ → ℕ → Effect
replaces d n = E.And (E.Delete (of_h d) ∷ E.Add (of_h n) ∷ [])

held_then : (S : State) (d n : ℕ) → after In S (replaces d n) (0 ∷ []) (of_slot n)
held_then S d n = inr (from (λ i. adds-And In S (E.Delete (of_h d) ∷ E.Add (of_h n) ∷ []) i (0 ∷ []) (of_slot n)) (inr (inl (from (λ i. adds-Add In S (of_h n) i (0 ∷ []) (of_slot n)) refl))))

no_pairs_then : (S : State) (d n : ℕ) → (2 ≡ n → ⊥) → NoPairs S → NoPairs (after In S (replaces d n) (0 ∷ []))
unfolding NoPairs
no_pairs_then S d n other none args (inl s) = none args s.0
no_pairs_then S d n other none args (inr added) = go (to (λ i. adds-And In S (E.Delete (of_h d) ∷ E.Add (of_h n) ∷ []) i (0 ∷ []) (record { predicate = 2; args = args })) added)
  where
    go : Adds In S (E.Delete (of_h d)) (0 ∷ []) (record { predicate = 2; args = args }) ⊎ (Adds In S (E.Add (of_h n)) (0 ∷ []) (record { predicate = 2; args = args }) ⊎ ⊥) → ⊥
    go (inl e) = to (λ i. adds-Delete In S (of_h d) i (0 ∷ []) (record { predicate = 2; args = args })) e
    go (inr (inl e)) = other (ap predicate_of (to (λ i. adds-Add In S (of_h n) i (0 ∷ []) (record { predicate = 2; args = args })) e))
    go (inr (inr e)) = e

-- the states after each step
abbrev first : State
first = Contains problem.init

abbrev second : State
second = after In first (start Adl).eff (0 ∷ [])

abbrev third : State
third = after In second (of_t Adl).eff (0 ∷ [])

abbrev last : State
last = after In third (a Adl [] []).eff (0 ∷ [])

no_pairs_first : NoPairs first
unfolding NoPairs
no_pairs_first args c = of_each (λ g. g ≡ record { predicate = 2; args = args } → ⊥) problem.init ((λ e. less 0 2 (omega arith) (sym (ap predicate_of e))), tt) (record { predicate = 2; args = args }) c refl

no_pairs_second : NoPairs second
no_pairs_second = no_pairs_then first 0 3 (λ e. less 2 3 (omega arith) (sym e)) no_pairs_first

no_pairs_third : NoPairs third
no_pairs_third = no_pairs_then second 3 4 (λ e. less 2 4 (omega arith) (sym e)) no_pairs_second

-- at the end the slot, which is the one object, is free
slot_is_free : last (of_slot 1)
slot_is_free = inr (from (λ i. adds-And In third (E.Delete (of_h 4) ∷ E.Add (of_h 1) ∷ clears Adl ∷ []) i (0 ∷ []) (of_slot 1)) (inr (inl (from (λ i. adds-Add In third (of_h 1) i (0 ∷ []) (of_slot 1)) refl))))

goal_is_true : IsTrueIn In last problem.goal []
goal_is_true = from (λ i. truth-And In last (all_free Adl ∷ []) i []) (from (λ i. truth-Forall In last (x ∷ []) (Holds (of_h 1)) i []) each, tt)
  where
    one : (k : ℕ) → In k 1 → IsTrueIn In last (Holds (of_h 1)) (k ∷ [])
    one zero t = from (λ i. truth-Holds In last (of_h 1) i (0 ∷ [])) slot_is_free
    one (suc k) (object, e, part) = absurd cc

    each : (os : List ℕ) → AreTyped In (x ∷ []) os → IsTrueIn In last (Holds (of_h 1)) ([] ++ os)
    each [] t = absurd t
    each (k ∷ []) t = one k t.0
    each (k ∷ l ∷ os) t = absurd t.1

plan : IsPlan problem steps
plan = (
  start Adl,
  0 ∷ [],
  record { action = (0, omega arith, refl); name = refl; objects_are = ((slot_object, refl, refl), tt); typed = ((slot_object, refl, inl (inr stay)), tt); condition = may_be_taken first 0 (0, omega arith, refl) no_pairs_first },
  (
    of_t Adl,
    0 ∷ [],
    record { action = (1, omega arith, refl); name = refl; objects_are = ((slot_object, refl, refl), tt); typed = ((slot_object, refl, inl (inr stay)), tt); condition = may_be_taken second 3 (held_then first 0 3) no_pairs_second },
    (
      a Adl [] [],
      0 ∷ [],
      record { action = (2, omega arith, refl); name = refl; objects_are = ((slot_object, refl, refl), tt); typed = ((slot_object, refl, inl (inr stay)), tt); condition = may_be_taken third 4 (held_then second 3 4) no_pairs_third },
      goal_is_true,
    ),
  ),
)
