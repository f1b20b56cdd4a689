-- What the steps of the printed problem of a stack stand on.
-- Source: this project's encoding.
use Rattle.std.specs.Prelude.{ℕ, ◌≡◌, List, length, slice_get, Some}
use Rattle.plan_model.specs.declared.options.Style.TheVariants.{Adl}
use Rattle.plan_model.specs.declared.schemas.ActionSchema.{ActionSchema}
use Rattle.plan_model.specs.declared.schemas.MethodPlan.{MethodPlan}
use Rattle.plan_model.specs.declared.values.Compiled.{Compiled}
use Rattle.plan_model.specs.declared.values.Pddl.{Pddl}
use Rattle.plan_model.specs.Pairs.{Pairs}
use Rattle.plan_model.specs.task_networks.Order.{IsLine}
use Rattle.plan_model.specs.task_networks.Lawful.{IsLawful}
use Rattle.plan_model.specs.task_networks.Spelling.{Act, label_of}
use Rattle.plan_model.specs.plan_meaning.Truth.{State, after}
use Rattle.plan_model.specs.plan_meaning.ClassicalPlan as Printed
use Rattle.plan_model.specs.plan_meaning.Network.{network}
use Rattle.plan_model.specs.plan_meaning.Solution.{Allows, next}
use Rattle.slot_encoding.proofs.Pieces.{PredicatesDiffer, SourceAgrees, GuardsDeclare}
use Rattle.plan_proof.proofs.machine.Reading.{Keeps}
use Rattle.plan_proof.proofs.machine.Facts.{FitsTogether}
use Rattle.stack_machine.specs.Stack.{IsTotal}
use Rattle.stack_machine.specs.StackMachine.{StackState, MayAtTip, after_tip}
use Rattle.stack_encoding.specs.StackValue.{IsStackEncoded}
use Rattle.stack_proof.proofs.machine.StackReading.{Reads}

-- the pieces of the printed problem mean what they should
pub record StackPieces (c : Compiled) (b : ℕ) (p : Pddl) : Type 1 where
  pub lawful : IsLawful (network c)
  pub total : IsTotal (network c)
  pub lines : (m : ℕ) (plan : MethodPlan) → slice_get c.methods m ≡ Some plan → IsLine (Pairs plan.schema.pairs) (length plan.schema.children) plan.line
  pub encoded : IsStackEncoded c b p
  pub fits : FitsTogether c
  pub differ : PredicatesDiffer c
  pub source : SourceAgrees c b Adl p
  pub guards_declare : GuardsDeclare c

-- the printed action a with these objects, where it is that of the act, is its step in the stack and in the source
pub record IsTaken (c : Compiled) (b : ℕ) (p : Pddl) (S : State) (t : StackState (network c)) (T : State) (act : Act (network c)) (a : ActionSchema) (os : List ℕ) : Type 0 where
  pub may : MayAtTip (network c) b t act
  pub allows : Allows c T (label_of (network c) act)
  pub reads : Reads c b p (after (Printed.InTypeOf p) S a.eff os) (after_tip (network c) t act) (next c T (label_of (network c) act))
  -- the objects in the types of guards never change, nor does what has a later predicate
  pub kept : Keeps c S (after (Printed.InTypeOf p) S a.eff os)
