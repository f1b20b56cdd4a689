-- What a method's printed action says behind the variables of cells: its task, its children, and what it asks of its parameters.
use Rattle.std.proofs.Common.{ℕ, ◌≡◌, ◌↔◌, Bool, true, false, MatchBool, cond, List, [], ◌∷◌, ◌++◌, map, length, slice_index, slice_get, Some, refl, ap, sym, subst, ◌∙◌, Contains}
use Rattle.std.specs.Prelude.{IsTrue}
use Rattle.plan_model.specs.declared.options.Style.TheVariants.{Adl}
use Rattle.plan_model.specs.declared.terms.Term.{Term}
use Rattle.plan_model.specs.declared.terms.Term.TheVariants.{Var}
use Rattle.plan_model.specs.declared.terms.Atom.{Atom}
use Rattle.plan_model.specs.declared.formulas.Formula.{Formula}
use Rattle.plan_model.specs.declared.formulas.Formula.TheVariants.{Holds, Equal, Not}
use Rattle.plan_model.specs.declared.networks.Head.{Head}
use Rattle.plan_model.specs.declared.networks.Head.TheVariants.{Task, Action, Check}
use Rattle.plan_model.specs.declared.networks.Child.{Child}
use Rattle.plan_model.specs.declared.networks.Constraint.{Constraint}
use Rattle.plan_model.specs.declared.networks.Guard.{Guard}
use Rattle.plan_model.specs.declared.schemas.MethodPlan.{MethodPlan}
use Rattle.plan_model.specs.declared.values.Compiled.{Compiled}
use Rattle.plan_model.specs.declared.values.Pddl.{Pddl}
use Rattle.plan_model.specs.task_networks.Net.{Net}
use Rattle.plan_model.specs.task_networks.Spelling.{numbers}
use Rattle.plan_model.specs.plan_meaning.Truth.{State, ground, value_of, values_of, AreTyped, EachTrue, IsTrueIn}
use Rattle.plan_model.specs.plan_meaning.ClassicalPlan as Printed
use Rattle.plan_model.specs.plan_meaning.Network.{task, GroundMethod, network, InTypeOf, Meets, child_of, ground_work}
use Rattle.plan_model.proofs.plan_meaning.EachPart.{each_map}
use Rattle.plan_model.proofs.plan_meaning.MethodParts.{head_by}
use Rattle.plan_model.proofs.plan_meaning.TruthEquations.{truth-Holds, truth-Not, truth-Equal}
use Rattle.slot_encoding.specs.SourceParts.{moved}
use Rattle.slot_encoding.specs.EncodedNames.{guard_predicate, task_predicate, action_predicate, check_predicate}
use Rattle.slot_encoding.specs.EncodedValue.{atom}
use Rattle.slot_encoding.specs.MethodParts.{test, condition_part, task_in, child_in, constraint_parts, guard_parts, tested_part}
use Rattle.slot_encoding.proofs.Pieces.{SourceMeaning}
use Rattle.slot_encoding.proofs.places.Guards.{guard_type}
use Rattle.slot_encoding.proofs.places.Sums.{each-append, value-moved, values-moved, own_vars}
use Rattle.plan_proof.proofs.machine.Running.{typed_long}
use Rattle.stack_machine.specs.StackMachine.{StackState}
use Rattle.stack_encoding.specs.StackNames.{cell_object}
use Rattle.stack_encoding.specs.StackActions.{asked}
use Rattle.stack_proof.proofs.machine.StackReading.{held, Reads}
use Rattle.stack_proof.proofs.machine.StackFacts.{StackPieces}

-- what a method asks of its parameters, in a state of the source
pub record Asks (c : Compiled) (T : State) (g : GroundMethod) (plan : MethodPlan) : Type 0 where
  pub constraints : (con : Constraint) → Contains plan.schema.constraints con → Meets g.values con
  pub guards : (k : Guard) → Contains plan.guards k → InTypeOf c (value_of g.values k.term) k.ty
  pub tested : IsTrue plan.tested → IsTrueIn (InTypeOf c) T plan.schema.pre g.values

-- cells: the objects of the cells, which stand in front of the node's own
module _ (c : Compiled) (b : ℕ) (p : Pddl) (means : StackPieces c b p) (g : GroundMethod) (plan : MethodPlan) (is : slice_get c.methods g.number ≡ Some plan)
    (front : ℕ) (cells : List ℕ) (long : length cells ≡ front) where
  abbrev N : Net
  N = network c

  abbrev xs : List ℕ
  xs = cells ++ g.values

  term_value : (u : Term) → value_of xs (moved p.names c.hddl.names front u) ≡ value_of g.values u
  term_value u = ap (λ z. value_of xs (moved p.names c.hddl.names z u)) (sym long) ∙ value-moved p.names c.hddl.names cells g.values u

  term_values : (us : List Term) → map (value_of xs) (map (moved p.names c.hddl.names front) us) ≡ values_of g.values us
  term_values us = ap (λ z. map (value_of xs) (map (moved p.names c.hddl.names z) us)) (sym long) ∙ values-moved p.names c.hddl.names cells g.values us

  -- the task's atom, where its variable has the value of cell h
  pub task_ground : (v h : ℕ) → slice_index xs v ≡ cell_object c h → ground xs (task_in c p.names front v plan) ≡ held c b p h (N.head g)
  task_ground v h e = λ i. (let f : ground xs (task_in c p.names front v plan) ≡ held c b p h (N.head g) = same ∙ ap (held c b p h) (sym (ap (head_by g) is)) in f i)
    where
      args : values_of xs (map (moved p.names c.hddl.names front) plan.schema.task_args) ≡ values_of g.values plan.schema.task_args
      args = term_values plan.schema.task_args

      same : ground xs (task_in c p.names front v plan) ≡ held c b p h (task plan.schema.task (values_of g.values plan.schema.task_args))
      same = λ i. record { predicate = task_predicate c plan.schema.task; args = e i ∷ args i }

  -- a child's atom, where its variable has the value of cell x
  pub child_ground : AreTyped (InTypeOf c) plan.schema.params g.values → (child : Child) (v x : ℕ) → Contains plan.schema.children child → slice_index xs v ≡ cell_object c x
      → ground xs (child_in c p.names front g.number v child) ≡ held c b p x (child_of g child)
  child_ground typed child v x k e = by_head child.head refl
    where
      ts : map (value_of xs) (map (moved p.names c.hddl.names front) child.args) ≡ values_of g.values child.args
      ts = term_values child.args

      own : child.head ≡ Check → values_of g.values child.args ≡ g.values
      own f = ap (values_of g.values) (means.fits.check_args g.number plan child is k f)
          ∙ ap (λ n. values_of g.values (map Var (numbers 0 n))) (sym (typed_long (InTypeOf c) plan.schema.params g.values typed))
          ∙ own_vars g.values

      by_head : (hd : Head) → child.head ≡ hd → ground xs (child_in c p.names front g.number v (record child { head = hd })) ≡ held c b p x (ground_work g hd (values_of g.values child.args))
      by_head (Task t) f = λ i. record { predicate = task_predicate c t; args = e i ∷ ts i }
      by_head (Action a) f = λ i. record { predicate = action_predicate c a; args = e i ∷ ts i }
      by_head Check f = let q : map (value_of xs) (map (moved p.names c.hddl.names front) child.args) ≡ g.values = ts ∙ own f in
          λ i. record { predicate = check_predicate c g.number; args = e i ∷ q i }

  module _ (S : State) (t : StackState (network c)) (T : State) (r : Reads c b p S t T) where
    abbrev InT : ℕ → ℕ → Type 0
    InT = Printed.InTypeOf p

    abbrev True : Formula → List ℕ → Type 0
    True = IsTrueIn InT S

    constraint_true : (con : Constraint) → True (test con.equal (moved p.names c.hddl.names front con.left) (moved p.names c.hddl.names front con.right)) xs ↔ Meets g.values con
    constraint_true con = go con.equal
      where
        left : Term
        left = moved p.names c.hddl.names front con.left

        right : Term
        right = moved p.names c.hddl.names front con.right

        same : (value_of xs left ≡ value_of xs right) ↔ (value_of g.values con.left ≡ value_of g.values con.right)
        same = let e = term_value con.left in let f = term_value con.right in (λ k. sym e ∙ k ∙ f, λ k. e ∙ k ∙ sym f)

        go : (q : Bool) → True (test q left right) xs ↔ MatchBool q (value_of g.values con.left ≡ value_of g.values con.right) (value_of g.values con.left ≡ value_of g.values con.right → ⊥)
        go true = let e = truth-Equal InT S left right in (λ k. same.0 (subst (λ z. z xs) e k), λ k. subst (λ z. z xs) (sym e) (same.1 k))
        go false =
            let e : True (Not (Equal left right)) xs ≡ (value_of xs left ≡ value_of xs right → ⊥) = ap (λ z. z xs) (truth-Not InT S (Equal left right)) ∙ ap (λ z. z xs → ⊥) (truth-Equal InT S left right) in
            (λ k f. subst (λ z. z) e k (same.1 f), λ k. subst (λ z. z) (sym e) (λ f. k (same.0 f)))

    constraints_true : EachTrue True (constraint_parts c p.names front plan) xs ↔ ((con : Constraint) → Contains plan.schema.constraints con → Meets g.values con)
    constraints_true =
        let a = each_map True (λ (con : Constraint). test con.equal (moved p.names c.hddl.names front con.left) (moved p.names c.hddl.names front con.right)) plan.schema.constraints xs in
        (λ k con d. (constraint_true con).0 (a.0 k con d), λ k. a.1 (λ con d. (constraint_true con).1 (k con d)))

    guards_true : EachTrue True (guard_parts c p.names front plan) xs ↔ ((k : Guard) → Contains plan.guards k → InTypeOf c (value_of g.values k.term) k.ty)
    guards_true = (λ x k d. (one k d).0 (a.0 x k d), λ x. a.1 (λ k d. (one k d).1 (x k d)))
      where
        is_guard : Guard → Atom
        is_guard k = record { predicate = guard_predicate c k.ty; args = moved p.names c.hddl.names front k.term ∷ [] }

        a : EachTrue True (guard_parts c p.names front plan) xs ↔ ((k : Guard) → Contains plan.guards k → True (Holds (is_guard k)) xs)
        a = each_map True (λ (k : Guard). Holds (is_guard k)) plan.guards xs

        value : (k : Guard) → ground xs (is_guard k) ≡ atom (guard_predicate c k.ty) (value_of g.values k.term)
        value k = let e = term_value k.term in λ i. record { predicate = guard_predicate c k.ty; args = e i ∷ [] }

        one : (k : Guard) → Contains plan.guards k → True (Holds (is_guard k)) xs ↔ InTypeOf c (value_of g.values k.term) k.ty
        one k d =
            let e : True (Holds (is_guard k)) xs ≡ S (atom (guard_predicate c k.ty) (value_of g.values k.term)) = ap (λ z. z xs) (truth-Holds InT S (is_guard k)) ∙ ap S (value k) in
            let q = r.guards k.ty (value_of g.values k.term) (guard_type c g.number plan k is d) in
            (λ x. q.0 (subst (λ z. z) e x), λ x. subst (λ z. z) (sym e) (q.1 x))

    tested_true : EachTrue True (tested_part c p.names front plan) xs ↔ (IsTrue plan.tested → IsTrueIn (InTypeOf c) T plan.schema.pre g.values)
    tested_true = go plan.tested
      where
        source : SourceMeaning c b Adl p T S cells
        source = means.source T S cells r.source

        holds : EachTrue True (condition_part c p.names front plan.schema.pre) xs ↔ IsTrueIn (InTypeOf c) T plan.schema.pre g.values
        holds = subst (λ z. EachTrue True (condition_part c p.names z plan.schema.pre) xs ↔ IsTrueIn (InTypeOf c) T plan.schema.pre g.values) long
            (source.condition plan.schema.pre g.values (means.fits.method_pre g.number plan is))

        go : (q : Bool) → EachTrue True (cond q (condition_part c p.names front plan.schema.pre) []) xs ↔ (IsTrue q → IsTrueIn (InTypeOf c) T plan.schema.pre g.values)
        go true = (λ x e. holds.0 x, λ x. holds.1 (x refl))
        go false = (λ x e. absurd (let f : false ≡ true = e in cc), λ x. tt)

    pub asked_true : EachTrue True (asked c p.names b front plan) xs ↔ Asks c T g plan
    asked_true = (to, from)
      where
        f1 : List Formula
        f1 = constraint_parts c p.names front plan

        f2 : List Formula
        f2 = guard_parts c p.names front plan

        f3 : List Formula
        f3 = tested_part c p.names front plan

        c1 : EachTrue True (f1 ++ (f2 ++ f3)) xs ↔ (EachTrue True f1 xs × EachTrue True (f2 ++ f3) xs)
        c1 = each-append True f1 (f2 ++ f3) xs

        c2 : EachTrue True (f2 ++ f3) xs ↔ (EachTrue True f2 xs × EachTrue True f3 xs)
        c2 = each-append True f2 f3 xs

        to : EachTrue True (f1 ++ (f2 ++ f3)) xs → Asks c T g plan
        to k =
            let k1 = c1.0 k in let k2 = c2.0 k1.1 in
            record { constraints = constraints_true.0 k1.0; guards = guards_true.0 k2.0; tested = tested_true.0 k2.1 }

        from : Asks c T g plan → EachTrue True (f1 ++ (f2 ++ f3)) xs
        from k = c1.1 (constraints_true.1 k.constraints, c2.1 (guards_true.1 k.guards, tested_true.1 k.tested))
