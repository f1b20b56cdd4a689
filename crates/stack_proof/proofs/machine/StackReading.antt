-- How a state of the printed problem of a stack reads: as a state of the stack, and as a state of the source.
-- Source: this project's encoding.
use Rattle.std.specs.Prelude.{ℕ, suc, ◌≡◌, ◌+◌, ◌≤◌, ◌↔◌, IsTrue, List, [], ◌∷◌, ◌++◌, map, length, slice_get, Some, Contains}
use Rattle.plan_model.specs.declared.terms.GroundAtom.{GroundAtom}
use Rattle.plan_model.specs.declared.schemas.ActionSchema.{ActionSchema}
use Rattle.plan_model.specs.declared.schemas.MethodPlan.{MethodPlan}
use Rattle.plan_model.specs.declared.values.Compiled.{Compiled}
use Rattle.plan_model.specs.declared.values.Pddl.{Pddl}
use Rattle.plan_model.specs.task_networks.Spelling.{Act, run, apply}
use Rattle.plan_model.specs.plan_meaning.Truth.{State, AreTyped, IsTrueIn, after}
use Rattle.plan_model.specs.plan_meaning.ClassicalPlan as Printed
use Rattle.plan_model.specs.plan_meaning.Network.{Work, action, check, task, GroundMethod, network, InTypeOf}
use Rattle.slot_encoding.specs.EncodedNames.{guard_types, guard_predicate}
use Rattle.slot_encoding.specs.EncodedValue.{atom}
use Rattle.slot_encoding.proofs.Pieces.{AreAgreed, held_atom}
use Rattle.plan_proof.proofs.machine.Reading.{IsKnown}
use Rattle.stack_machine.specs.Stack.{AreCellsFrom}
use Rattle.stack_machine.specs.StackMachine.{StackState}
use Rattle.stack_encoding.specs.StackNames.{tip_predicate, up_predicate, cell_object}
use Rattle.stack_encoding.specs.StackActions.{stack_method, stack_check, stack_action}
use Rattle.stack_encoding.specs.StackSpelling.{cells_of}

module _ (c : Compiled) (b : ℕ) (p : Pddl) where
  -- a cell that can hold something
  abbrev pub IsCell : ℕ → Type 0
  IsCell x = (1 ≤ x) × (x ≤ b)

  abbrev pub held : ℕ → Work → GroundAtom
  held x w = held_atom c (cell_object c x) w

  abbrev pub tip_atom : ℕ → GroundAtom
  tip_atom x = atom (tip_predicate c) (cell_object c x)

  abbrev pub up_atom : ℕ → ℕ → GroundAtom
  up_atom x y = record { predicate = up_predicate c; args = cell_object c x ∷ cell_object c y ∷ [] }

  -- the atoms of S say what t says of the cells, what T says of the source, which objects are in the types of guards, and which cell is above which; cell 0 holds nothing
  pub record Reads (S : State) (t : StackState (network c)) (T : State) : Type 0 where
    pub holds : (x : ℕ) (w : Work) → t.holds x w ↔ (IsKnown c w × IsCell x × S (held x w))
    pub bottom : (w : Work) → IsKnown c w → S (held 0 w) → ⊥
    pub tip : (x : ℕ) → t.tip x ↔ ((x ≤ b) × S (tip_atom x))
    pub source : AreAgreed c T S
    pub guards : (ty o : ℕ) → Contains (guard_types c) ty → S (atom (guard_predicate c ty) o) ↔ InTypeOf c o ty
    pub ups : (x y : ℕ) → x ≤ b → y ≤ b → S (up_atom x y) ↔ (y ≡ suc x)

  -- the printed action that the act is a step of, and its objects: the cells that a step names, and the node's own objects
  pub record IsMethodAct (h : ℕ) (new : List ℕ) (g : GroundMethod) (a : ActionSchema) (os : List ℕ) : Type 0 where
    pub plan : MethodPlan
    pub is : slice_get c.methods g.number ≡ Some plan
    pub action : a ≡ stack_method c p.names b g.number plan
    pub cell : IsCell h
    -- the cell of the line's first child is one of b
    pub room : h + length plan.schema.children ≤ suc b
    pub new_cells : AreCellsFrom (network c) h g new
    pub typed : AreTyped (InTypeOf c) plan.schema.params g.values
    pub objects : os ≡ map (cell_object c) (cells_of h (length plan.schema.children)) ++ g.values

  pub record IsCheckAct (h m : ℕ) (values : List ℕ) (a : ActionSchema) (os : List ℕ) : Type 0 where
    pub plan : MethodPlan
    pub is : slice_get c.methods m ≡ Some plan
    pub checked : IsTrue plan.checked
    pub action : a ≡ stack_check c p.names b m plan
    pub cell : IsCell h
    pub typed : AreTyped (InTypeOf c) plan.schema.params values
    pub objects : os ≡ map (cell_object c) (cells_of h 0) ++ values

  pub record IsActionAct (h number : ℕ) (args : List ℕ) (a : ActionSchema) (os : List ℕ) : Type 0 where
    pub schema : ActionSchema
    pub is : slice_get c.hddl.actions number ≡ Some schema
    pub action : a ≡ stack_action c p.names b number schema
    pub cell : IsCell h
    pub typed : AreTyped (InTypeOf c) schema.params args
    pub objects : os ≡ map (cell_object c) (cells_of h 0) ++ args

  abbrev pub IsActBy : Act (network c) → ActionSchema → List ℕ → Type 0
  IsActBy (run h (action number args)) a os = IsActionAct h number args a os
  IsActBy (run h (check m values)) a os = IsCheckAct h m values a os
  IsActBy (run h (task t args)) a os = ⊥
  IsActBy (apply h new g) a os = IsMethodAct h new g a os

  -- the printed action of the act, with its objects, is applicable
  abbrev pub Applies : State → Act (network c) → ActionSchema → List ℕ → Type 0
  Applies S act a os = IsActBy act a os × IsTrueIn (Printed.InTypeOf p) S a.pre os

  -- from S on the printed action of each act is applicable in the state before it, and the state at the end is one of P
  abbrev pub LeadsBy : (State → Type 0) → State → List (Act (network c)) → Type 0
  LeadsBy P S [] = P S
  LeadsBy P S (act ∷ acts) = (a : ActionSchema) × (os : List ℕ) × Applies S act a os × LeadsBy P (after (Printed.InTypeOf p) S a.eff os) acts
