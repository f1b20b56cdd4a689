-- The plan of the smallest problem is a plan of its two printed texts, byte for byte.
use Rattle.std.proofs.Common.{ℕ, zero, suc, ◌≡◌, ◌⊎◌, inl, inr, List, [], ◌∷◌, ◌++◌, codes, slice_get, true, Some, refl, ap, sym, subst, ◌∙◌, arith}
use Rattle.std.specs.Prelude.{Contains}
use Rattle.text_forms.specs.Words.{Word}
use Rattle.plan_model.specs.declared.terms.Atom.{Atom}
use Rattle.plan_model.specs.declared.terms.GroundAtom.{GroundAtom}
use Rattle.plan_model.specs.declared.terms.Term.TheVariants.{Var}
use Rattle.plan_model.specs.declared.types.Object.{Object}
use Rattle.plan_model.specs.declared.formulas.Formula.{Formula, roll-Formula}
use Rattle.plan_model.specs.declared.formulas.Formula.TheOpen.{Formula-F}
use Rattle.plan_model.specs.declared.formulas.Formula.TheVariants.{Holds, Not, rolls-Holds, rolls-Not, rolls-And, rolls-Forall}
use Rattle.plan_model.specs.declared.effects.Effect.{Effect, roll-Effect}
use Rattle.plan_model.specs.declared.effects.Effect.TheOpen.{Effect-F}
use Rattle.plan_model.specs.declared.effects.Effect.TheVariants.{Add, Delete, rolls-Add, rolls-Delete, rolls-And as rolls-Both}
use Rattle.plan_model.specs.declared.schemas.ActionSchema.{ActionSchema}
use Rattle.plan_model.specs.declared.steps.GroundAction.{GroundAction}
use Rattle.plan_model.specs.Typing.{stay}
use Rattle.plan_model.specs.plan_meaning.Truth.{State, ground, AreTyped, truth_step, IsTrueIn, adds_step, Adds, after}
use Rattle.plan_model.specs.plan_meaning.ClassicalPlan.{InTypeOf, IsPlan}
use Rattle.plan_texts.specs.PrintedTexts.{domain_text}
use Rattle.plan_texts.proofs.PrintedSpells.{printed_spells}
use Rattle.plan_texts.proofs.examples.SmallestRow.{h, x, wait, held, turned, freed, all_free, smallest, domain_bytes, problem_bytes, domain_row, problem_row}
use Rattle.plan_texts.proofs.examples.SmallestPrintable.{smallest_printable}
use Rattle.plan_proof.specs.TextPlans.{IsPlanOf}
use Rattle.plan_texts.proofs.Members.{contains-has}
use Rattle.plan_model.proofs.plan_meaning.TruthEquations.{truth_roll}
use Rattle.plan_model.proofs.plan_meaning.EffectEquations.{adds_roll}

abbrev T : ℕ → ℕ → Type 0
T = InTypeOf smallest

true-in : (S : State) (f : Formula) (l : Formula-F Formula) (values : List ℕ) → roll-Formula l ≡ f → truth_step T S (IsTrueIn T S) l values → IsTrueIn T S f values
true-in S f l values e t = subst (λ g. IsTrueIn T S g values) e (subst (λ (z : List ℕ → Type 0). z values) (sym (truth_roll T S l)) t)

truth-in : (S : State) (f : Formula) (l : Formula-F Formula) (values : List ℕ) → roll-Formula l ≡ f → IsTrueIn T S f values → truth_step T S (IsTrueIn T S) l values
truth-in S f l values e t = subst (λ (z : List ℕ → Type 0). z values) (truth_roll T S l) (subst (λ g. IsTrueIn T S g values) (sym e) t)

adds-in : (S : State) (f : Effect) (l : Effect-F Effect) (values : List ℕ) (g : GroundAtom) → roll-Effect l ≡ f → adds_step T S (Adds T S) l values g → Adds T S f values g
adds-in S f l values g e t = subst (λ d. Adds T S d values g) e (subst (λ (z : List ℕ → GroundAtom → Type 0). z values g) (sym (adds_roll T S l)) t)

added-in : (S : State) (f : Effect) (l : Effect-F Effect) (values : List ℕ) (g : GroundAtom) → roll-Effect l ≡ f → Adds T S f values g → adds_step T S (Adds T S) l values g
added-in S f l values g e t = subst (λ (z : List ℕ → GroundAtom → Type 0). z values g) (adds_roll T S l) (subst (λ d. Adds T S d values g) (sym e) t)

abbrev atom : ℕ → GroundAtom
atom k = record { predicate = k; args = 0 ∷ [] }

abbrev of_h : ℕ → Atom
of_h k = record { predicate = k; args = Var 0 ∷ [] }

abbrev values : List ℕ
values = 0 ∷ []

-- no slot waits for another
abbrev NoneWaits : State → Type 0
NoneWaits S = (g : GroundAtom) → S g → g.predicate ≡ 2 → ⊥

wait-true : (S : State) → NoneWaits S → IsTrueIn T S wait values
wait-true S n = true-in S wait (Formula-F.Forall (x ∷ []) (Not (Holds (record { predicate = 2; args = Var 1 ∷ Var 0 ∷ [] })))) values (rolls-Forall _ _) (λ os t.
    true-in S _ (Formula-F.Not (Holds (record { predicate = 2; args = Var 1 ∷ Var 0 ∷ [] }))) (values ++ os) (rolls-Not _)
    (λ b. n (ground (values ++ os) (record { predicate = 2; args = Var 1 ∷ Var 0 ∷ [] })) (truth-in S _ (Formula-F.Holds (record { predicate = 2; args = Var 1 ∷ Var 0 ∷ [] })) (values ++ os) (rolls-Holds _) b) refl))

held-true : (S : State) (k : ℕ) → S (atom k) → NoneWaits S → IsTrueIn T S (held k) values
held-true S k s n = true-in S (held k) (Formula-F.And _) values (rolls-And _) (true-in S _ (Formula-F.Holds (of_h k)) values (rolls-Holds (of_h k)) s, (wait-true S n, tt))

turned-adds : (S : State) (k l : ℕ) → Adds T S (turned k l) values (atom l)
turned-adds S k l = adds-in S (turned k l) (Effect-F.And _) values (atom l) (rolls-Both _) (inr (inl (adds-in S _ (Effect-F.Add (of_h l)) values (atom l) (rolls-Add (of_h l)) refl)))

-- what is added is no waiting
turned-none : (S : State) (k l : ℕ) → (l ≡ 2 → ⊥) → NoneWaits S → NoneWaits (after T S (turned k l) values)
turned-none S k l d n g (inl s) e = n g s.0 e
turned-none S k l d n g (inr a) e = go (added-in S (turned k l) (Effect-F.And _) values g (rolls-Both _) a)
  where
    go : Adds T S (Delete (of_h k)) values g ⊎ (Adds T S (Add (of_h l)) values g ⊎ ⊥) → ⊥
    go (inl b) = added-in S _ (Effect-F.Delete (of_h k)) values g (rolls-Delete (of_h k)) b
    go (inr (inl b)) = d (sym (ap (λ (z : GroundAtom). z.predicate) (added-in S _ (Effect-F.Add (of_h l)) values g (rolls-Add (of_h l)) b)) ∙ e)
    go (inr (inr b)) = b

abbrev first : State
first = Contains smallest.init

first-none : NoneWaits first
first-none g c e = go (contains-has smallest.init g c)
  where
    go : (atom 0 ≡ g) ⊎ ⊥ → ⊥
    go (inl f) = let i : 0 ≡ g.predicate = ap (λ (z : GroundAtom). z.predicate) f in let j = e in omega arith
    go (inr f) = f

abbrev second : State
second = after T first (turned 0 3) values

abbrev third : State
third = after T second (turned 3 4) values

abbrev fourth : State
fourth = after T third freed values

second-none : NoneWaits second
second-none = turned-none first 0 3 (λ e. omega arith) first-none

third-none : NoneWaits third
third-none = turned-none second 3 4 (λ e. omega arith) second-none

-- the only object of the slots' type
one-object : (o : ℕ) → T o 1 → o ≡ 0
one-object zero t = refl
one-object (suc o) t = absurd (let e = t.1 in none o t.0 e)
  where
    none : (o : ℕ) (y : Object) → slice_get {X = Object} [] o ≡ Some y → ⊥
    none o y e = cc

freed-free : fourth (atom 1)
freed-free = inr (adds-in third freed (Effect-F.And _) values (atom 1) (rolls-Both _) (inr (inl (adds-in third _ (Effect-F.Add (of_h 1)) values (atom 1) (rolls-Add (of_h 1)) refl))))

goal-true : IsTrueIn T fourth all_free []
goal-true = true-in fourth all_free (Formula-F.And _) [] (rolls-And _) (true-in fourth _ (Formula-F.Forall (x ∷ []) (Holds (of_h 1))) [] (rolls-Forall _ _) free, tt)
  where
    free : (os : List ℕ) → AreTyped T (x ∷ []) os → IsTrueIn T fourth (Holds (of_h 1)) ([] ++ os)
    free [] t = absurd t
    free (o ∷ p ∷ os) t = absurd t.1
    free (o ∷ []) t = true-in fourth _ (Formula-F.Holds (of_h 1)) (o ∷ []) (rolls-Holds (of_h 1)) (subst (λ k. fourth (record { predicate = 1; args = k ∷ [] })) (sym (one-object o t.0)) freed-free)

abbrev slot : Object
slot = record { name = record { number = 5 }; ty = 1; constant = true }

abbrev step : Word → GroundAction
step w = record { name = w; args = codes "htn_s1" ∷ [] }

abbrev act : ℕ → Formula → Effect → ActionSchema
act k f e = record { name = record { number = k }; params = h ∷ []; pre = f; eff = e }

typed : T 0 1
typed = (slot, refl, inl (inr stay))

abbrev steps : List GroundAction
steps = step (codes "htn_start") ∷ step (codes "htn_m_m") ∷ step (codes "a") ∷ []

smallest-plan : IsPlan smallest steps
smallest-plan = (
  act 13 (held 0) (turned 0 3),
  values,
  record { action = (0, omega arith, refl); name = refl; objects_are = ((slot, refl, refl), tt); typed = (typed, tt); condition = held-true first 0 (0, omega arith, refl) first-none },
  (
    act 14 (held 3) (turned 3 4),
    values,
    record { action = (1, omega arith, refl); name = refl; objects_are = ((slot, refl, refl), tt); typed = (typed, tt); condition = held-true second 3 (inr (turned-adds first 0 3)) second-none },
    (
      act 15 (held 4) freed,
      values,
      record { action = (2, omega arith, refl); name = refl; objects_are = ((slot, refl, refl), tt); typed = (typed, tt); condition = held-true third 4 (inr (turned-adds second 3 4)) third-none },
      goal-true,
    ),
  ),
)

-- over the bytes of the two texts
pub plan_row : IsPlanOf domain_bytes problem_bytes steps
plan_row = subst (λ d. IsPlanOf d problem_bytes steps) domain_row (subst (λ p. IsPlanOf (domain_text smallest) p steps) problem_row (smallest, printed_spells smallest smallest_printable, smallest-plan))
