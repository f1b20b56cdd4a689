-- Of a compiled problem it is told whether a method is ground, what precedes what, and what is asked of a state that labels lead to.
use Rattle.std.proofs.Common.{ℕ, ◌≡◌, ◌<◌, inl, inr, Bool, true, false, List, [], ◌∷◌, length, slice_get, Option, Some, None}
use Rattle.std.proofs.Common.{refl, sym, subst, Contains}
use Rattle.std.specs.Prelude.{MatchBool, MatchOption}
use Rattle.std.proofs.lemmas.Option.{slice_get_within}
use Rattle.plan_model.specs.declared.formulas.Formula.{Formula}
use Rattle.plan_model.specs.declared.networks.Constraint.{Constraint}
use Rattle.plan_model.specs.declared.networks.Pair.{Pair}
use Rattle.plan_model.specs.declared.schemas.ActionSchema.{ActionSchema}
use Rattle.plan_model.specs.declared.schemas.MethodPlan.{MethodPlan}
use Rattle.plan_model.specs.declared.schemas.TaskSchema.{TaskSchema}
use Rattle.plan_model.specs.declared.terms.GroundAtom.{GroundAtom}
use Rattle.plan_model.specs.declared.terms.Param.{Param}
use Rattle.plan_model.specs.declared.values.Compiled.{Compiled}
use Rattle.plan_model.specs.Pairs.{Pairs}
use Rattle.plan_model.specs.task_networks.Order.{Precedes, direct, through}
use Rattle.plan_model.specs.task_networks.Tree.{Label, waits, ran, used}
use Rattle.plan_model.specs.task_networks.Executable.{last_state}
use Rattle.plan_model.specs.plan_meaning.Truth.{State, value_of, AreTyped, IsTrueIn}
use Rattle.plan_model.specs.plan_meaning.Network.{Work, action, check, task, GroundMethod, child_of, Meets, InTypeOf, IsDeclared, IsMet}
use Rattle.plan_model.specs.plan_meaning.Network.{IsGroundMethod, network}
use Rattle.plan_model.specs.plan_meaning.Solution.{AllowsAction, AllowsCheck, AllowsMethod, Allows, after_action, next, initial, IsGoal}
use Rattle.slot_machine.proofs.bound_laws.Blocks.{precedes_or_not}
use Rattle.slot_machine.proofs.bound_laws.Decided.{Or_not, same_or_not, not_or, both, each_or_not, some_or_not}
use Rattle.slot_encoding.proofs.existence.InTypes.{in_type_decided}
use Rattle.decode_answers.proofs.SomehowTruth.{imply_told, same_list, same_atom, typed_told, some_told, truth_told, after_told}
use Rattle.decode_answers.proofs.SomehowSearched.{true_told, given_told}

-- works
same_two : {A B C : Type 0} (f : A → B → C) (a d : A) (v w : B) → Or_not (a ≡ d) → Or_not (v ≡ w) → (f a v ≡ f d w → a ≡ d)
    → (f a v ≡ f d w → v ≡ w) → Or_not (f a v ≡ f d w)
same_two f a d v w (inl p) (inl q) x y = inl (λ i. f (p i) (q i))
same_two f a d v w (inr n) e x y = inr (λ g. n (x g))
same_two f a d v w (inl p) (inr n) x y = inr (λ g. n (y g))

pub same_work : (w v : Work) → Or_not (w ≡ v)
same_work (action a v) (action d w) = same_two action a d v w (same_or_not a d) (same_list v w) (λ e. cc) (λ e. cc)
same_work (check a v) (check d w) = same_two check a d v w (same_or_not a d) (same_list v w) (λ e. cc) (λ e. cc)
same_work (task a v) (task d w) = same_two task a d v w (same_or_not a d) (same_list v w) (λ e. cc) (λ e. cc)
same_work (action a v) (check d w) = inr (λ e. cc)
same_work (action a v) (task d w) = inr (λ e. cc)
same_work (check a v) (action d w) = inr (λ e. cc)
same_work (check a v) (task d w) = inr (λ e. cc)
same_work (task a v) (action d w) = inr (λ e. cc)
same_work (task a v) (check d w) = inr (λ e. cc)

-- a constraint
meets_told : (values : List ℕ) (con : Constraint) → Or_not (Meets values con)
meets_told values con = on con.equal (same_or_not (value_of values con.left) (value_of values con.right))
  where
    on : {P : Type 0} (b : Bool) → Or_not P → Or_not (MatchBool b P (P → ⊥))
    on true d = d
    on false d = not_or d

abbrev StateTold : State → Type 0
StateTold S = (g : GroundAtom) → Or_not (S g)

module _ (c : Compiled) where
  in_told : (o t : ℕ) → Or_not (InTypeOf c o t)
  in_told o t = elim (in_type_decided c.hddl.types c.hddl.objects o t) [ yes p ↦ inl p | no n ↦ inr n ]

  pub few : (o t : ℕ) → InTypeOf c o t → o < length c.hddl.objects
  few o t i = slice_get_within c.hddl.objects o i.0 i.1

  typed : (ps : List Param) (os : List ℕ) → Or_not (AreTyped (InTypeOf c) ps os)
  typed = typed_told (InTypeOf c) in_told (length c.hddl.objects) few

  -- a question on objects of these types
  pub objects_told : (ps : List Param) (P : List ℕ → Type 0) → ((os : List ℕ) → Or_not (P os))
      → Or_not ((os : List ℕ) × AreTyped (InTypeOf c) ps os × P os)
  objects_told = some_told (InTypeOf c) in_told (length c.hddl.objects) few

  -- the order of a method's children
  pub precedes_told : (g : GroundMethod) (i j : ℕ) → Or_not (Precedes ((network c).Pair g) i j)
  precedes_told g i j = on (slice_get c.methods g.number)
    where
      none : (j : ℕ) → Precedes (λ i j. ⊥) i j → ⊥
      none j (direct h) = h
      none j (through p h) = h

      on : (o : Option MethodPlan) → Or_not (Precedes (λ i j. MatchOption o ⊥ (λ plan. Pairs plan.schema.pairs i j)) i j)
      on None = inr (none j)
      on (Some plan) = precedes_or_not (λ i j. record { first = i; then = j }) (λ (p : Pair). p.first) (λ (p : Pair). p.then) (λ p. refl)
          (λ i j. refl) (λ i j. refl) plan.schema.pairs i j

  -- a ground method
  params_told : {A : Type 0} (params : A → List Param) (o : Option A) (os : List ℕ)
      → Or_not ((ps : List Param) × ((s : A) × (o ≡ Some s) × (params s ≡ ps)) × AreTyped (InTypeOf c) ps os)
  params_told params o os = elim (given_told (λ s. AreTyped (InTypeOf c) (params s) os) (λ s. typed (params s) os) o) [
    | inl h ↦ inl (params h.0, (h.0, h.1, refl), h.2)
    | inr n ↦ inr (λ d. n (d.1.0, d.1.1, subst (λ ps. AreTyped (InTypeOf c) ps os) (sym d.1.2) d.2))
  ]

  declared_told : (w : Work) → Or_not (IsDeclared c w)
  declared_told (action a args) = params_told (λ (s : ActionSchema). s.params) (slice_get c.hddl.actions a) args
  declared_told (check m values) = params_told (λ (p : MethodPlan). p.schema.params) (slice_get c.methods m) values
  declared_told (task t args) = params_told (λ (s : TaskSchema). s.params) (slice_get c.hddl.tasks t) args

  met_told : (g : GroundMethod) (plan : MethodPlan) → Or_not (IsMet c g plan)
  met_told g plan = elim (both (each_or_not (Meets g.values) (meets_told g.values) plan.schema.constraints)
      (each_or_not (λ child. IsDeclared c (child_of g child)) (λ child. declared_told (child_of g child)) plan.schema.children)) [
        | inl h ↦ inl (record { constraints = h.0; declared = h.1 })
        | inr n ↦ inr (λ (m : IsMet c g plan). n (m.constraints, m.declared))
      ]

  pub ground_told : (g : GroundMethod) → Or_not (IsGroundMethod c g)
  ground_told g = elim (given_told (λ (p : MethodPlan). AreTyped (InTypeOf c) p.schema.params g.values × IsMet c g p)
      (λ p. both (typed p.schema.params g.values) (met_told g p)) (slice_get c.methods g.number)) [
        | inl h ↦ inl (record { plan = h.0; is = h.1; typed = h.2.0; met = h.2.1 })
        | inr n ↦ inr (λ (x : IsGroundMethod c g). n (x.plan, x.is, (x.typed, x.met)))
      ]

  -- states
  first_told : StateTold (initial c)
  first_told g = elim (some_or_not (λ h. h ≡ g) (λ h. same_atom h g) c.hddl.init) [
    | inl h ↦ inl (subst (Contains c.hddl.init) h.2 h.1)
    | inr n ↦ inr (λ d. n (g, d, refl))
  ]

  next_told : (S : State) → StateTold S → (l : Label (network c)) → StateTold (next c S l)
  next_told S told (waits w) = told
  next_told S told (ran (action a args)) = on (slice_get c.hddl.actions a)
    where
      on : (o : Option ActionSchema) → StateTold (after_action c S o args)
      on None = told
      on (Some s) = after_told (InTypeOf c) in_told (length c.hddl.objects) few S told s.eff args
  next_told S told (ran (check m values)) = told
  next_told S told (ran (task t args)) = told
  next_told S told (used g) = told

  last_told : (ls : List (Label (network c))) (S : State) → StateTold S
      → StateTold (last_state (network c) State (Allows c) (next c) S ls)
  last_told [] S told = told
  last_told (l ∷ ls) S told = last_told ls (next c S l) (next_told S told l)

  module _ (ls : List (Label (network c))) where
    abbrev Reached : State
    Reached = last_state (network c) State (Allows c) (next c) (initial c) ls

    reached_told : StateTold Reached
    reached_told = last_told ls (initial c) first_told

    truth : (f : Formula) (values : List ℕ) → Or_not (IsTrueIn (InTypeOf c) Reached f values)
    truth = truth_told (InTypeOf c) in_told (length c.hddl.objects) few Reached reached_told

    pub goal_told : Or_not (IsGoal c Reached)
    goal_told = truth c.hddl.goal []

    pub allows_told : (l : Label (network c)) → Or_not (Allows c Reached l)
    allows_told (waits w) = inr (λ x. x)
    allows_told (ran (action a args)) = on (slice_get c.hddl.actions a)
      where
        on : (o : Option ActionSchema) → Or_not (AllowsAction c Reached o args)
        on None = inr (λ x. x)
        on (Some s) = truth s.pre args
    allows_told (ran (check m values)) = on (slice_get c.methods m)
      where
        on : (o : Option MethodPlan) → Or_not (AllowsCheck c Reached o values)
        on None = inr (λ x. x)
        on (Some p) = truth p.schema.pre values
    allows_told (ran (task t args)) = inr (λ x. x)
    allows_told (used g) = on (slice_get c.methods g.number)
      where
        on : (o : Option MethodPlan) → Or_not (AllowsMethod c Reached o g.values)
        on None = inr (λ x. x)
        on (Some p) = imply_told (true_told p.tested) (truth p.schema.pre g.values)
