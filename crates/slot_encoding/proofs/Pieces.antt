-- What the pieces of the printed problem mean: its types, the formulas on order pairs, source formulas and effects, guards, predicates and words.
-- Source: this project's encoding, after Alford et al., "Bound to Plan", ICAPS 2016.
use Rattle.std.specs.Prelude.{ℕ, suc, ◌≡◌, ◌≢◌, ◌+◌, ◌-◌, ◌<◌, ◌≤◌, ◌↔◌, IsTrue, List, ◌∷◌, ◌++◌, map, length, slice_get, Some, Contains}
use Rattle.htn_base.specs.Escapes.{slot_word}
use Rattle.plan_model.specs.declared.options.Style.{Style}
use Rattle.plan_model.specs.declared.terms.GroundAtom.{GroundAtom}
use Rattle.plan_model.specs.declared.terms.Param.{Param}
use Rattle.plan_model.specs.declared.formulas.Formula.{Formula}
use Rattle.plan_model.specs.declared.effects.Effect.{Effect}
use Rattle.plan_model.specs.declared.networks.Child.{Child}
use Rattle.plan_model.specs.declared.networks.Guard.{Guard}
use Rattle.plan_model.specs.declared.schemas.ActionSchema.{ActionSchema}
use Rattle.plan_model.specs.declared.schemas.MethodPlan.{MethodPlan}
use Rattle.plan_model.specs.declared.steps.GroundAction.{GroundAction}
use Rattle.plan_model.specs.declared.values.Compiled.{Compiled}
use Rattle.plan_model.specs.declared.values.Pddl.{Pddl}
use Rattle.plan_model.specs.task_networks.Spelling.{Act, run, apply}
use Rattle.text_forms.specs.Words.{Word}
use Rattle.plan_texts.specs.Types.{EachIs}
use Rattle.plan_texts.specs.SpellsHddl.{hddl_words}
use Rattle.plan_texts.specs.Printable.{IsSound, IsSoundEffect}
use Rattle.plan_texts.specs.SoundValue.{arities}
use Rattle.plan_model.specs.plan_meaning.Truth.{State, value_of, EachTrue, OneTrue, AreTyped, IsTrueIn, Adds, Deletes}
use Rattle.plan_model.specs.plan_meaning.Network.{Work, action, check, task, GroundMethod, network, child_of, IsDeclared}
use Rattle.plan_model.specs.plan_meaning.Network as Source
use Rattle.plan_model.specs.plan_meaning.ClassicalPlan as Printed
use Rattle.plan_model.specs.plan_meaning.ClassicalPlan.{HasWord, IsApplicable}
use Rattle.plan_model.specs.plan_meaning.SpelledPlan.{object_word, step_of}
use Rattle.slot_encoding.specs.SourceParts.{retyped, source_param, source_formula}
use Rattle.slot_encoding.specs.EncodedNames.{slot_type, first_slot, first_guard, guard_types, top_predicate, free_predicate, before_predicate, task_predicate, action_predicate, check_predicate, guard_predicate}
use Rattle.slot_encoding.specs.EncodedActions.{encoded_method, encoded_check, encoded_action, spare, source_condition, source_change}
use Rattle.slot_encoding.specs.EncodedValue.{atom}

module _ (c : Compiled) where
  -- the source's part of two states is the same
  abbrev pub AreAgreed : State → State → Type 0
  AreAgreed S S' = (g : GroundAtom) → g.predicate < length c.hddl.predicates → S' g ↔ S g

  -- words of variables in force don't matter here
  abbrev pub IsSoundCondition : Formula → Type 0
  IsSoundCondition f = (scope : List Word) × IsSound (hddl_words c.hddl) (arities c.hddl) f scope

  abbrev pub IsSoundChange : Effect → Type 0
  IsSoundChange e = (scope : List Word) × IsSoundEffect (hddl_words c.hddl) (arities c.hddl) e scope

  -- the numbers of what stands in a network: declared tasks and the top task, declared actions, checked methods
  abbrev pub IsNumbered : Work → Type 0
  IsNumbered (action a args) = a < length c.hddl.actions
  IsNumbered (check m values) = (plan : MethodPlan) × (slice_get c.methods m ≡ Some plan) × IsTrue plan.checked
  IsNumbered (task t args) = t ≤ length c.hddl.tasks

  abbrev pub work_predicate : Work → ℕ
  work_predicate (action a args) = action_predicate c a
  work_predicate (check m values) = check_predicate c m
  work_predicate (task t args) = task_predicate c t

  abbrev pub work_args : Work → List ℕ
  work_args (action a args) = args
  work_args (check m values) = values
  work_args (task t args) = args

  -- the object x, a slot, holds this
  abbrev pub held_atom : ℕ → Work → GroundAtom
  held_atom x w = record { predicate = work_predicate w; args = x ∷ work_args w }

  -- Kinds of predicates differ. Works are held by different predicates.
  pub record PredicatesDiffer : Type 0 where
    pub top : top_predicate c ≡ length c.hddl.predicates
    pub free : free_predicate c ≡ suc (length c.hddl.predicates)
    pub before : before_predicate c ≡ suc (suc (length c.hddl.predicates))
    pub work_from_source : (w : Work) → IsNumbered w → length c.hddl.predicates ≤ work_predicate w
    pub work_from_free : (w : Work) → IsNumbered w → work_predicate w ≢ free_predicate c
    pub work_from_before : (w : Work) → IsNumbered w → work_predicate w ≢ before_predicate c
    pub guard_from_before : (ty : ℕ) → before_predicate c < guard_predicate c ty
    pub guard_from_work : (ty : ℕ) (w : Work) → IsNumbered w → work_predicate w < guard_predicate c ty
    pub work_below_guards : (w : Work) → IsNumbered w → work_predicate w < first_guard c
    pub held_once : (x y : ℕ) (w v : Work) → IsNumbered w → IsNumbered v → held_atom x w ≡ held_atom y v → (x ≡ y) × (w ≡ v)

  -- A method's arguments are declared where its guards hold.
  abbrev pub GuardsDeclare : Type 0
  GuardsDeclare = (g : GroundMethod) (plan : MethodPlan) → slice_get c.methods g.number ≡ Some plan → AreTyped (Source.InTypeOf c) plan.schema.params g.values
      → ((k : Guard) → Contains plan.guards k → Source.InTypeOf c (value_of g.values k.term) k.ty) ↔ ((child : Child) → Contains plan.schema.children child → IsDeclared c (child_of g child))

  module _ (b : ℕ) (style : Style) (p : Pddl) where
    -- Types and objects: those of the source, and slots.
    pub record TypesAgree : Type 0 where
      pub source : (o ty : ℕ) → Printed.InTypeOf p o (retyped ty) ↔ Source.InTypeOf c o ty
      pub slots : (o : ℕ) → Printed.InTypeOf p o slot_type ↔ ((first_slot c ≤ o) × (o < first_slot c + b))

    abbrev pub IsSlotObject : ℕ → Type 0
    IsSlotObject o = (first_slot c ≤ o) × (o < first_slot c + b)

    -- parameters that are slots, and then those of the source
    abbrev pub ListsAgree : Type 0
    ListsAgree = (front : List Param) (params : List Param) (os : List ℕ) → EachIs (λ (x : Param). x.ty ≡ slot_type) front
        → AreTyped (Printed.InTypeOf p) (front ++ map (source_param p.names c.hddl.names) params) os
        ↔ ((hs values : List ℕ) × (os ≡ hs ++ values) × (length hs ≡ length front) × EachIs IsSlotObject hs × AreTyped (Source.InTypeOf c) params values)

    -- Source formulas and effects, behind slots and in states with the same source part.
    pub record SourceMeaning (S S' : State) (front : List ℕ) : Type 0 where
      pub truth : (f : Formula) (values : List ℕ) → IsSoundCondition f
          → IsTrueIn (Printed.InTypeOf p) S' (source_formula p.names c.hddl.names (length front) f) (front ++ values) ↔ IsTrueIn (Source.InTypeOf c) S f values
      pub condition : (f : Formula) (values : List ℕ) → IsSoundCondition f
          → EachTrue (IsTrueIn (Printed.InTypeOf p) S') (source_condition c p.names b style (length front) f) (front ++ values) ↔ IsTrueIn (Source.InTypeOf c) S f values
      pub adds : (e : Effect) (values : List ℕ) (g : GroundAtom) → IsSoundChange e
          → OneTrue (λ x v. Adds (Printed.InTypeOf p) S' x v g) (source_change c p.names b style (length front) e) (front ++ values) ↔ Adds (Source.InTypeOf c) S e values g
      pub deletes : (e : Effect) (values : List ℕ) (g : GroundAtom) → IsSoundChange e
          → OneTrue (λ x v. Deletes (Printed.InTypeOf p) S' x v g) (source_change c p.names b style (length front) e) (front ++ values) ↔ Deletes (Source.InTypeOf c) S e values g
      -- atoms of source predicates alone
      pub adds_source : (e : Effect) (values : List ℕ) (g : GroundAtom) → IsSoundChange e → Adds (Source.InTypeOf c) S e values g → g.predicate < length c.hddl.predicates
      pub deletes_source : (e : Effect) (values : List ℕ) (g : GroundAtom) → IsSoundChange e → Deletes (Source.InTypeOf c) S e values g → g.predicate < length c.hddl.predicates

    abbrev pub SourceAgrees : Type 1
    SourceAgrees = (S S' : State) (front : List ℕ) → AreAgreed S S' → SourceMeaning S S' front

    -- the atoms of guards that are true at the beginning
    abbrev pub GuardAtomsAgree : Type 0
    GuardAtomsAgree = (ty o : ℕ) → Contains (guard_types c) ty → Contains p.init (atom (guard_predicate c ty) o) ↔ Source.InTypeOf c o ty

    abbrev pub IsSlot : ℕ → Type 0
    IsSlot k = (1 ≤ k) × (k ≤ b)

    -- slots are numbered from 1
    abbrev pub slot_object : ℕ → ℕ
    slot_object k = first_slot c + (k - 1)

    -- Words of objects.
    pub record ObjectWords : Type 0 where
      pub source : (o : ℕ) → o < length c.hddl.objects → HasWord p o (object_word c o)
      pub slot : (k : ℕ) → IsSlot k → HasWord p (slot_object k) (slot_word k)
      pub one : (o o' : ℕ) (w : Word) → HasWord p o w → HasWord p o' w → o ≡ o'
      pub one_word : (o : ℕ) (w w' : Word) → HasWord p o w → HasWord p o w' → w ≡ w'

    -- the printed action that the act is a step of, and its objects
    pub record IsMethodAct (h : ℕ) (new : List ℕ) (g : GroundMethod) (a : ActionSchema) (os : List ℕ) : Type 0 where
      pub plan : MethodPlan
      pub is : slice_get c.methods g.number ≡ Some plan
      pub action : a ≡ encoded_method c p.names b style g.number plan
      pub slot : IsSlot h
      pub new_slots : EachIs IsSlot new
      pub count : length new ≡ spare c p.names b style g.number plan
      pub typed : AreTyped (Source.InTypeOf c) plan.schema.params g.values
      pub objects : os ≡ slot_object h ∷ map slot_object new ++ g.values

    pub record IsCheckAct (h m : ℕ) (values : List ℕ) (a : ActionSchema) (os : List ℕ) : Type 0 where
      pub plan : MethodPlan
      pub is : slice_get c.methods m ≡ Some plan
      pub checked : IsTrue plan.checked
      pub action : a ≡ encoded_check c p.names b style m plan
      pub slot : IsSlot h
      pub typed : AreTyped (Source.InTypeOf c) plan.schema.params values
      pub objects : os ≡ slot_object h ∷ values

    pub record IsActionAct (h number : ℕ) (args : List ℕ) (a : ActionSchema) (os : List ℕ) : Type 0 where
      pub schema : ActionSchema
      pub is : slice_get c.hddl.actions number ≡ Some schema
      pub action : a ≡ encoded_action c p.names b style number schema
      pub slot : IsSlot h
      pub typed : AreTyped (Source.InTypeOf c) schema.params args
      pub objects : os ≡ slot_object h ∷ args

    abbrev pub IsActBy : Act (network c) → ActionSchema → List ℕ → Type 0
    IsActBy (run h (action number args)) a os = IsActionAct h number args a os
    IsActBy (run h (check m values)) a os = IsCheckAct h m values a os
    IsActBy (run h (task t args)) a os = ⊥
    IsActBy (apply h new g) a os = IsMethodAct h new g a os

    -- Words of steps: an applicable step is a step of one act.
    pub record StepsAreActs : Type 1 where
      pub to_act : (S : State) (step : GroundAction) (a : ActionSchema) (os : List ℕ) → IsApplicable p S step a os → (act : Act (network c)) × (step ≡ step_of c act) × IsActBy act a os
      pub from_act : (S : State) (act : Act (network c)) (a : ActionSchema) (os : List ℕ) → IsActBy act a os → IsTrueIn (Printed.InTypeOf p) S a.pre os → IsApplicable p S (step_of c act) a os
      pub one_act : (act act' : Act (network c)) (a a' : ActionSchema) (os os' : List ℕ) → IsActBy act a os → IsActBy act' a' os' → step_of c act ≡ step_of c act'
          → (act ≡ act') × (a ≡ a') × (os ≡ os')
