-- How a state of the printed problem reads: as a state of the slot machine, and as a state of the source.
-- Source: this project's encoding, after Alford et al., "Bound to Plan", ICAPS 2016.
use Rattle.std.specs.Prelude.{ℕ, ◌≡◌, ◌≤◌, ◌↔◌, IsTrue, List, [], ◌∷◌, length, slice_get, Some, Contains}
use Rattle.plan_model.specs.declared.options.Style.{Style}
use Rattle.plan_model.specs.declared.terms.GroundAtom.{GroundAtom}
use Rattle.plan_model.specs.declared.schemas.ActionSchema.{ActionSchema}
use Rattle.plan_model.specs.declared.schemas.MethodPlan.{MethodPlan}
use Rattle.plan_model.specs.declared.values.Compiled.{Compiled}
use Rattle.plan_model.specs.declared.values.Pddl.{Pddl}
use Rattle.plan_model.specs.task_networks.Spelling.{Act}
use Rattle.slot_machine.specs.Machine as Machine
use Rattle.plan_model.specs.plan_meaning.Truth.{State, AreTyped, IsTrueIn, after}
use Rattle.plan_model.specs.plan_meaning.ClassicalPlan as Printed
use Rattle.plan_model.specs.plan_meaning.Network.{Work, action, check, task, network, InTypeOf, IsDeclared}
use Rattle.slot_encoding.specs.EncodedNames.{guard_types, first_guard, free_predicate, before_predicate, guard_predicate}
use Rattle.slot_encoding.specs.EncodedValue.{atom}
use Rattle.slot_encoding.proofs.Pieces.{AreAgreed, held_atom, slot_object, IsSlot, IsActBy}

-- what can stand in a front: an action or a check of a checked method with typed objects, or a task
abbrev pub IsKnown : Compiled → Work → Type 0
IsKnown c (action a args) = IsDeclared c (action a args)
IsKnown c (check m values) = (plan : MethodPlan) × (slice_get c.methods m ≡ Some plan) × IsTrue plan.checked × AreTyped (InTypeOf c) plan.schema.params values
IsKnown c (task t args) = t ≤ length c.hddl.tasks

-- what has the predicate of a guard, or a later one, is in the one as in the other
abbrev pub Keeps : Compiled → State → State → Type 0
Keeps c S S' = (g : GroundAtom) → first_guard c ≤ g.predicate → S' g ↔ S g

module _ (c : Compiled) (b : ℕ) (style : Style) (p : Pddl) where
  -- slot x holds the work
  abbrev pub held : ℕ → Work → GroundAtom
  held x w = held_atom c (slot_object c b style p x) w

  abbrev pub free_atom : ℕ → GroundAtom
  free_atom x = atom (free_predicate c) (slot_object c b style p x)

  -- the object o comes before another
  abbrev pub before_atom : ℕ → ℕ → GroundAtom
  before_atom x o = record { predicate = before_predicate c; args = slot_object c b style p x ∷ o ∷ [] }

  -- slot x comes before slot y
  abbrev pub pair : ℕ → ℕ → GroundAtom
  pair x y = before_atom x (slot_object c b style p y)

  -- the atoms of S say what t says of the slots, what T says of the source, and which objects are in the types of guards
  pub record Reads (S : State) (t : Machine.SlotState (network c)) (T : State) : Type 0 where
    pub holds : (x : ℕ) (w : Work) → t.holds x w ↔ (IsKnown c w × IsSlot c b style p x × S (held x w))
    pub free : (x : ℕ) → t.free x ↔ (IsSlot c b style p x × S (free_atom x))
    pub before : (x y : ℕ) → t.before x y ↔ (IsSlot c b style p x × IsSlot c b style p y × S (pair x y))
    pub source : AreAgreed c T S
    pub guards : (ty o : ℕ) → Contains (guard_types c) ty → S (atom (guard_predicate c ty) o) ↔ InTypeOf c o ty

  -- the printed action of the act, with its objects, is applicable
  abbrev pub Applies : State → Act (network c) → ActionSchema → List ℕ → Type 0
  Applies S act a os = IsActBy c b style p act a os × IsTrueIn (Printed.InTypeOf p) S a.pre os

  -- from S on the printed action of each act is applicable in the state before it, and the state at the end is one of P
  abbrev pub LeadsBy : (State → Type 0) → State → List (Act (network c)) → Type 0
  LeadsBy P S [] = P S
  LeadsBy P S (act ∷ acts) = (a : ActionSchema) × (os : List ℕ) × Applies S act a os × LeadsBy P (after (Printed.InTypeOf p) S a.eff os) acts
