-- A method with children: what its printed action's condition says.
use Rattle.std.proofs.Common.{ℕ, zero, suc, ◌≡◌, ◌↔◌, ◌+◌, ◌<◌, ◌≤◌, List, [], ◌∷◌, ◌++◌, map, length, slice_index, slice_get, Some, refl, ap, sym, subst, ◌∙◌, Contains, arith}
use Rattle.std.proofs.lemmas.List.{length-map}
use Rattle.plan_model.specs.declared.terms.Atom.{Atom}
use Rattle.plan_model.specs.declared.formulas.Formula.{Formula}
use Rattle.plan_model.specs.declared.formulas.Formula.TheVariants.{Holds, And}
use Rattle.plan_model.specs.declared.schemas.MethodPlan.{MethodPlan}
use Rattle.plan_model.specs.declared.values.Compiled.{Compiled}
use Rattle.plan_model.specs.declared.values.Pddl.{Pddl}
use Rattle.plan_model.specs.task_networks.Net.{Net, count}
use Rattle.plan_model.specs.task_networks.Spelling.{numbers}
use Rattle.plan_model.proofs.task_networks.Numbers.{length-numbers, numbers_to}
use Rattle.plan_model.specs.plan_meaning.Truth.{State, ground, EachTrue, IsTrueIn}
use Rattle.plan_model.specs.plan_meaning.ClassicalPlan as Printed
use Rattle.plan_model.specs.plan_meaning.Network.{GroundMethod, network}
use Rattle.plan_model.proofs.plan_meaning.EachPart.{each_map}
use Rattle.plan_model.proofs.plan_meaning.TruthEquations.{truth-And, truth-Holds}
use Rattle.slot_machine.proofs.OtherChildren.{index-map_numbers}
use Rattle.slot_encoding.specs.MethodParts.{task_in}
use Rattle.slot_encoding.proofs.places.Sums.{each-append}
use Rattle.plan_proof.proofs.machine.MethodChildren.{count_is}
use Rattle.stack_machine.specs.StackMachine.{StackState}
use Rattle.stack_encoding.specs.StackNames.{cell_object}
use Rattle.stack_encoding.specs.StackActions.{is_tip, is_up, asked, rising, method_pre}
use Rattle.stack_proof.proofs.machine.StackReading.{IsCell, held, tip_atom, up_atom, Reads}
use Rattle.stack_proof.proofs.machine.StackFacts.{StackPieces}
use Rattle.stack_proof.proofs.machine.Asked.{Asks, asked_true, task_ground}

index_left : (xs ys : List ℕ) (k : ℕ) → k < length xs → slice_index (xs ++ ys) k ≡ slice_index xs k
index_left [] ys k l = absurd (omega arith)
index_left (x ∷ xs) ys zero l = refl
index_left (x ∷ xs) ys (suc k) l = index_left xs ys k (omega arith)

module _ (c : Compiled) (b : ℕ) (p : Pddl) (means : StackPieces c b p) (S : State) (h : ℕ) (g : GroundMethod) (plan : MethodPlan) (is : slice_get c.methods g.number ≡ Some plan)
    (n : ℕ) (many : length plan.schema.children ≡ suc n) where
  abbrev N : Net
  N = network c

  abbrev InT : ℕ → ℕ → Type 0
  InT = Printed.InTypeOf p

  abbrev pub cells : List ℕ
  cells = map (cell_object c) (numbers h (suc n))

  pub long : length cells ≡ suc n
  long = length-map (numbers h (suc n)) (cell_object c) ∙ length-numbers h (suc n)

  -- its own cell and those above it, and the objects of the node
  abbrev pub xs : List ℕ
  xs = cells ++ g.values

  pub cell_at : (k : ℕ) → k < suc n → slice_index xs k ≡ cell_object c (h + k)
  cell_at k l = let e = long in index_left cells g.values k (omega arith) ∙ index-map_numbers (cell_object c) h (suc n) k l

  abbrev pub head : Atom
  head = task_in c p.names (suc n) 0 plan

  pub head_ground : ground xs head ≡ held c b p h (N.head g)
  head_ground = task_ground c b p means g plan is (suc n) cells long 0 h refl

  pub count_many : count N g ≡ suc n
  count_many = count_is c means.fits g plan is ∙ many

  -- the condition
  module _ (t : StackState N) (T : State) (r : Reads c b p S t T) (cell : IsCell c b p h) (room : h + n ≤ b) where
    abbrev True : Formula → List ℕ → Type 0
    True = IsTrueIn InT S

    rising_true : EachTrue True (rising c p.names b (suc n)) xs
    rising_true = (each_map True (λ k. Holds (is_up c p.names b k (suc k))) (numbers 0 n) xs).1 one
      where
        one : (k : ℕ) → Contains (numbers 0 n) k → True (Holds (is_up c p.names b k (suc k))) xs
        one k d =
            let l = (numbers_to 0 n k d).1 in
            let e : ground xs (is_up c p.names b k (suc k)) ≡ up_atom c b p (h + k) (h + suc k) =
            (let x = cell_at k (omega arith) in let y = cell_at (suc k) (omega arith) in λ i. record { predicate = (up_atom c b p h h).predicate; args = x i ∷ y i ∷ [] }) in
            subst (λ z. z xs) (sym (truth-Holds InT S (is_up c p.names b k (suc k)))) (subst S (sym e) ((r.ups (h + k) (h + suc k) (omega arith) (omega arith)).1 (omega arith)))

    pub climbing_true : True (And (method_pre c p.names b g.number plan (suc n))) xs ↔ (S (held c b p h (N.head g)) × t.tip h × Asks c T g plan)
    climbing_true = (to, from)
      where
        parts : List Formula
        parts = rising c p.names b (suc n) ++ asked c p.names b (suc n) plan

        e : True (And (method_pre c p.names b g.number plan (suc n))) ≡ EachTrue True (Holds head ∷ Holds (is_tip c p.names b 0) ∷ parts)
        e = truth-And InT S (Holds head ∷ Holds (is_tip c p.names b 0) ∷ parts)

        held' : True (Holds head) xs ≡ S (held c b p h (N.head g))
        held' = ap (λ z. z xs) (truth-Holds InT S head) ∙ ap S head_ground

        tip' : True (Holds (is_tip c p.names b 0)) xs ≡ S (tip_atom c b p h)
        tip' = ap (λ z. z xs) (truth-Holds InT S (is_tip c p.names b 0))

        cut : EachTrue True parts xs ↔ (EachTrue True (rising c p.names b (suc n)) xs × EachTrue True (asked c p.names b (suc n) plan) xs)
        cut = each-append True (rising c p.names b (suc n)) (asked c p.names b (suc n) plan) xs

        asks : EachTrue True (asked c p.names b (suc n) plan) xs ↔ Asks c T g plan
        asks = asked_true c b p means g plan is (suc n) cells long S t T r

        to : True (And (method_pre c p.names b g.number plan (suc n))) xs → S (held c b p h (N.head g)) × t.tip h × Asks c T g plan
        to k = let (x, (y, m)) = subst (λ z. z xs) e k in (subst (λ z. z) held' x, (r.tip h).1 (cell.1, subst (λ z. z) tip' y), asks.0 (cut.0 m).1)

        from : S (held c b p h (N.head g)) × t.tip h × Asks c T g plan → True (And (method_pre c p.names b g.number plan (suc n))) xs
        from (x, y, m) = subst (λ z. z xs) (sym e) (subst (λ z. z) (sym held') x, (subst (λ z. z) (sym tip') ((r.tip h).0 y).1, cut.1 (rising_true, asks.1 m)))
