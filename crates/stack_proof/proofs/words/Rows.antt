-- What the condition of a printed action says of its cells: they lie one above the other, and the one that it takes is the tip.
-- Source: this project's.
use Rattle.std.proofs.Common.{ℕ, zero, suc, ◌≡◌, ◌+◌, ◌-◌, ◌<◌, ◌≤◌, List, [], ◌∷◌, ◌++◌, map, length, slice_index, refl, ap, subst, ◌∙◌, arith}
use Rattle.std.proofs.Math.Decide.{ℕ_discrete}
use Rattle.plan_model.specs.declared.terms.Atom.{Atom}
use Rattle.plan_model.specs.declared.formulas.Formula.{Formula}
use Rattle.plan_model.specs.declared.formulas.Formula.TheVariants.{Holds, And}
use Rattle.plan_model.specs.declared.schemas.MethodPlan.{MethodPlan}
use Rattle.plan_model.specs.declared.values.Compiled.{Compiled}
use Rattle.plan_model.specs.declared.values.Pddl.{Pddl}
use Rattle.plan_model.specs.task_networks.Spelling.{numbers}
use Rattle.plan_model.proofs.task_networks.Numbers.{length-numbers}
use Rattle.plan_model.specs.plan_meaning.Truth.{State, EachTrue, IsTrueIn, values_of, ground}
use Rattle.plan_model.specs.plan_meaning.ClassicalPlan as Printed
use Rattle.plan_model.specs.plan_meaning.Network.{task, network}
use Rattle.plan_model.proofs.plan_meaning.TruthEquations.{truth-And, truth-Holds}
use Rattle.plan_texts.specs.Types.{EachIs}
use Rattle.slot_encoding.specs.SourceParts.{moved}
use Rattle.slot_encoding.specs.MethodParts.{task_in}
use Rattle.slot_encoding.proofs.places.Sums.{each-append}
use Rattle.plan_proof.proofs.machine.Reading.{IsKnown}
use Rattle.stack_machine.specs.StackMachine.{StackState}
use Rattle.stack_encoding.specs.StackNames.{cell_object}
use Rattle.stack_encoding.specs.StackActions.{is_up, at_tip, rising, asked, method_pre}
use Rattle.stack_encoding.specs.StackSpelling.{cells_of}
use Rattle.stack_proof.proofs.machine.StackReading.{IsCell, held, up_atom, Reads}
use Rattle.stack_proof.proofs.words.Cells.{IsCellNumber}

-- what is one more each time is a row of numbers
pub row_from : (k : ℕ) (ks : List ℕ) → ((i : ℕ) → i < length ks → slice_index (k ∷ ks) (suc i) ≡ suc (slice_index (k ∷ ks) i)) → k ∷ ks ≡ numbers k (suc (length ks))
row_from k [] each = refl
row_from k (j ∷ ks) each =
    let e : j ≡ suc k = each 0 (omega arith) in
    let r = row_from j ks (λ i l. each (suc i) (omega arith)) in
    ap (λ z. k ∷ z) (r ∙ ap (λ z. numbers z (suc (length ks))) e)

-- numbers of cells, with other objects behind
index_left : (c : Compiled) (ks values : List ℕ) (i : ℕ) → i < length ks → slice_index (map (cell_object c) ks ++ values) i ≡ cell_object c (slice_index ks i)
index_left c [] values i l = absurd (omega arith)
index_left c (k ∷ ks) values zero l = refl
index_left c (k ∷ ks) values (suc i) l = index_left c ks values i (omega arith)

index_within : (b : ℕ) (ks : List ℕ) (i : ℕ) → EachIs (IsCellNumber b) ks → i < length ks → slice_index ks i ≤ b
index_within b [] i e l = absurd (omega arith)
index_within b (k ∷ ks) zero e l = e.0
index_within b (k ∷ ks) (suc i) e l = index_within b ks i e.1 (omega arith)

numbers_within : (b h n : ℕ) → EachIs (IsCellNumber b) (numbers h (suc n)) → h + n ≤ b
numbers_within b h zero e = let l = e.0 in omega arith
numbers_within b h (suc n) e = let l = numbers_within b (suc h) n e.1 in omega arith

module _ (c : Compiled) (b : ℕ) (p : Pddl) where
  module _ (S : State) (t : StackState (network c)) (T : State) (reads : Reads c b p S t T) where
    abbrev True : Formula → List ℕ → Type 0
    True = IsTrueIn (Printed.InTypeOf p) S

    held_true : (a : Atom) (os : List ℕ) → True (Holds a) os → S (ground os a)
    held_true a os k = subst (λ z. z os) (truth-Holds (Printed.InTypeOf p) S a) k

    -- one cell above the other, where a condition says so
    up_is : (u v : ℕ) (ks values : List ℕ) → EachIs (IsCellNumber b) ks → u < length ks → v < length ks → True (Holds (is_up c p.names b u v)) (map (cell_object c) ks ++ values) → slice_index ks v ≡ suc (slice_index ks u)
    up_is u v ks values e l m k =
        let os = map (cell_object c) ks ++ values in
        let s = held_true (is_up c p.names b u v) os k in
        let f = index_left c ks values u l in
        let g = index_left c ks values v m in
        let here : ground os (is_up c p.names b u v) ≡ up_atom c b p (slice_index ks u) (slice_index ks v) = λ i. record { predicate = (up_atom c b p 0 0).predicate; args = f i ∷ g i ∷ [] } in
        (reads.ups (slice_index ks u) (slice_index ks v) (index_within b ks u e l) (index_within b ks v e m)).0 (subst S here s)

    -- where nothing comes in its place
    pub fallen : (held_atom : Atom) (rest : List Formula) (ks values : List ℕ) → length ks ≡ 2 → EachIs (IsCellNumber b) ks → True (And (at_tip c p.names b held_atom ++ rest)) (map (cell_object c) ks ++ values)
        → (h : ℕ) × IsCell c b p h × (ks ≡ cells_of h 0)
    fallen held_atom rest [] values l e k = absurd (omega arith)
    fallen held_atom rest (d ∷ []) values l e k = absurd (omega arith)
    fallen held_atom rest (d ∷ h ∷ x ∷ ks) values l e k = absurd (omega arith)
    fallen held_atom rest (d ∷ h ∷ []) values l e k =
        let os = map (cell_object c) (d ∷ h ∷ []) ++ values in
        let all = subst (λ z. z os) (truth-And (Printed.InTypeOf p) S (at_tip c p.names b held_atom ++ rest)) k in
        let f : h ≡ suc d = up_is 0 1 (d ∷ h ∷ []) values e (omega arith) (omega arith) all.1.1.0 in
        let g : d ≡ h - 1 = omega arith in
        let r = e.1.0 in
        (h, (omega arith, r), λ i. g i ∷ h ∷ [])

    each_up : (i n k : ℕ) (os : List ℕ) → EachTrue True (map (λ k. Holds (is_up c p.names b k (suc k))) (numbers i n)) os → i ≤ k → k < i + n → True (Holds (is_up c p.names b k (suc k))) os
    each_up i zero k os e l m = absurd (omega arith)
    each_up i (suc n) k os e l m = elim (ℕ_discrete i k) [
      | yes f ↦ subst (λ z. True (Holds (is_up c p.names b z (suc z))) os) f e.0
      | no f ↦ each_up (suc i) n k os e.1 (omega arith) (omega arith)
    ]

    risen : (n k : ℕ) (ks values : List ℕ) → length ks ≡ n → EachIs (IsCellNumber b) (k ∷ ks) → EachTrue True (rising c p.names b (suc n)) (map (cell_object c) (k ∷ ks) ++ values) → k ∷ ks ≡ numbers k (suc n)
    risen n k ks values l e r =
        row_from k ks (λ i m. up_is i (suc i) (k ∷ ks) values e (omega arith) (omega arith) (each_up 0 n i (map (cell_object c) (k ∷ ks) ++ values) r (omega arith) (omega arith)))
        ∙ ap (λ z. numbers k (suc z)) l

    module _ (m : ℕ) (plan : MethodPlan) (known : (args : List ℕ) → IsKnown c (task plan.schema.task args)) where
      -- the cells of a method
      abbrev pub HasCells : ℕ → List ℕ → Type 0
      HasCells n ks = (h : ℕ) × IsCell c b p h × (h + n ≤ suc b) × (ks ≡ cells_of h n)

      pub method_cells : (n : ℕ) (ks values : List ℕ) → length ks ≡ length (cells_of 0 n) → EachIs (IsCellNumber b) ks → True (And (method_pre c p.names b m plan n)) (map (cell_object c) ks ++ values) → HasCells n ks
      method_cells zero ks values l e k = let (h, cell, f) = fallen (task_in c p.names 2 1 plan) (asked c p.names b 2 plan) ks values l e k in let r = cell.1 in (h, cell, omega arith, f)
      method_cells (suc n) [] values l e k = absurd (omega arith)
      method_cells (suc n) (h ∷ ks) values l e k = (h, (positive, e.0), within, row)
        where
          os : List ℕ
          os = map (cell_object c) (h ∷ ks) ++ values

          all : EachTrue True (method_pre c p.names b m plan (suc n)) os
          all = subst (λ z. z os) (truth-And (Printed.InTypeOf p) S (method_pre c p.names b m plan (suc n))) k

          positive : 1 ≤ h
          positive = elim (ℕ_discrete h 0) [
            | yes f ↦ (
                let args = values_of os (map (moved p.names c.hddl.names (suc n)) plan.schema.task_args) in
                absurd (reads.bottom (task plan.schema.task args) (known args) (subst (λ z. S (held c b p z (task plan.schema.task args))) f (held_true (task_in c p.names (suc n) 0 plan) os all.0)))
                )
            | no f ↦ omega arith
          ]

          row : h ∷ ks ≡ numbers h (suc n)
          row = risen n h ks values (let f = length-numbers 1 n in omega arith) e ((each-append True (rising c p.names b (suc n)) (asked c p.names b (suc n) plan) os).0 all.1.1).0

          within : h + suc n ≤ suc b
          within = let f = numbers_within b h n (subst (EachIs (IsCellNumber b)) row e) in omega arith
