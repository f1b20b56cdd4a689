-- Steps by their printed words: which name a printed action, and which are read as an act with b slots.
-- Source: this project's.
use Rattle.std.specs.Prelude.{ℕ, suc, ◌≡◌, IsTrue, List, [], slice_get, slice_index_or, Some, Contains}
use Rattle.htn_base.specs.declared.name.Name.{Name}
use Rattle.plan_model.specs.declared.types.Object.{Object}
use Rattle.plan_model.specs.declared.networks.Head.TheVariants.{Check}
use Rattle.plan_model.specs.declared.networks.Child.{Child}
use Rattle.plan_model.specs.declared.terms.Param.{Param}
use Rattle.plan_model.specs.declared.schemas.ActionSchema.{ActionSchema}
use Rattle.plan_model.specs.declared.schemas.MethodPlan.{MethodPlan}
use Rattle.plan_model.specs.declared.steps.GroundAction.{GroundAction}
use Rattle.plan_model.specs.declared.values.Compiled.{Compiled}
use Rattle.plan_model.specs.task_networks.Tree.{Tree, Address}
use Rattle.plan_model.specs.task_networks.Spelling.{Act, run, apply}
use Rattle.plan_model.specs.plan_meaning.Truth.{State, AreTyped}
use Rattle.plan_model.specs.plan_meaning.Network.{action, check, task, network, InTypeOf, objects_of}
use Rattle.plan_model.specs.plan_meaning.Solution.{top_work, Allows, next, initial, IsGoal, IsSolution}
use Rattle.plan_model.specs.plan_meaning.SpelledPlan.{step_of, IsSpelling}
use Rattle.decoding.specs.declared.causes.Why.{Why}
use Rattle.decoding.specs.FailingAct.{IsFormed, Fails}

module _ (c : Compiled) where
  -- an action, a check of a checked method, or a method, with these parameters: each has one printed action
  abbrev pub HasParams : Act (network c) → List Param → Type 0
  HasParams (run h (action a args)) params = (s : ActionSchema) × (slice_get c.hddl.actions a ≡ Some s) × (s.params ≡ params)
  HasParams (run h (check m values)) params = (plan : MethodPlan) × (slice_get c.methods m ≡ Some plan) × IsTrue plan.checked
      × (plan.schema.params ≡ params)
  HasParams (run h (task t args)) params = ⊥
  HasParams (apply h new g) params = (plan : MethodPlan) × (slice_get c.methods g.number ≡ Some plan) × (plan.schema.params ≡ params)

  abbrev pub own_objects : Act (network c) → List ℕ
  own_objects (run h w) = objects_of c w
  own_objects (apply h new g) = g.values

  -- the step's name is a printed action's
  abbrev pub IsNamed : GroundAction → Type 0
  IsNamed step = (a : Act (network c)) × (params : List Param) × HasParams a params × (step.name ≡ (step_of c a).name)

  -- as many arguments as are due, slots from 1 to b where slots are due, and objects of the declared types where objects are
  pub record IsReadAs (b : ℕ) (step : GroundAction) (a : Act (network c)) : Type 0 where
    pub formed : IsFormed (network c) b a
    pub params : List Param
    pub has : HasParams a params
    pub typed : AreTyped (InTypeOf c) params (own_objects a)
    pub is : step ≡ step_of c a

  abbrev pub source_word : Name → List ℕ
  source_word name = slice_index_or c.hddl.names name.number []

  -- no two actions have one word, no two methods beside the top one, and no two objects
  pub record AreNamedApart : Type 0 where
    pub actions : (a d : ℕ) (s t : ActionSchema) → slice_get c.hddl.actions a ≡ Some s → slice_get c.hddl.actions d ≡ Some t
        → source_word s.name ≡ source_word t.name → a ≡ d
    pub methods : (m n : ℕ) (p q : MethodPlan) → slice_get c.methods (suc m) ≡ Some p → slice_get c.methods (suc n) ≡ Some q
        → source_word p.schema.name ≡ source_word q.schema.name → m ≡ n
    pub objects : (x y : ℕ) (o u : Object) → slice_get c.hddl.objects x ≡ Some o → slice_get c.hddl.objects y ≡ Some u
        → source_word o.name ≡ source_word u.name → x ≡ y

  -- checks are children of checked methods alone, and the top method is none of these
  pub record HasSoundChecks : Type 0 where
    pub marked : (plan : MethodPlan) (child : Child) → Contains c.methods plan → Contains plan.schema.children child → child.head ≡ Check
        → IsTrue plan.checked
    pub unchecked : (plan : MethodPlan) → slice_get c.methods 0 ≡ Some plan → IsTrue plan.checked → ⊥

  -- what the words owe: a step is read in one way at most, and checks are children of checked methods alone
  pub record HasSoundSteps (b : ℕ) : Type 0 where
    pub one : (step : GroundAction) (a other : Act (network c)) → IsReadAs b step a → IsReadAs b step other → a ≡ other
    pub marked : (plan : MethodPlan) (child : Child) → Contains c.methods plan → Contains plan.schema.children child → child.head ≡ Check
        → IsTrue plan.checked

  -- the list fails at step n for this cause
  abbrev pub FailsAt : ℕ → List GroundAction → ℕ → Why → Type 0
  FailsAt b steps n why = Fails (network c) State (Allows c) (next c) GroundAction IsNamed IsReadAs (top_work c) (initial c)
      (IsGoal c) b steps n why

  -- the list spells, with b slots, a schedule of a solution tree
  abbrev pub SpellsSolution : ℕ → List GroundAction → Type 0
  SpellsSolution b steps = (tree : Tree (network c)) × (order : List Address) × (slot : Address → ℕ) × IsSpelling c b steps tree order slot
      × IsSolution c tree order
