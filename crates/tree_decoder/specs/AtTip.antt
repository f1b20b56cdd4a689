-- What a decoder has taken of the steps of a stack, and what it answers at a step and at the end.
-- Source: this project's. A stack of tasks, as in LL parsing, whose tip is the only task that can be taken.
use Rattle.std.specs.Prelude.{ℕ, ◌≡◌, ◌+◌, List, [], ◌∷◌, ◌++◌, length, map, MatchOption, Option, Some}
use Rattle.plan_model.specs.declared.steps.GroundAction.{GroundAction}
use Rattle.plan_model.specs.declared.values.Compiled.{Compiled}
use Rattle.plan_model.specs.task_networks.Spelling.{Act}
use Rattle.plan_model.specs.task_networks.Tree.{Tree, Address}
use Rattle.plan_model.specs.plan_meaning.Truth.{State}
use Rattle.plan_model.specs.plan_meaning.Network.{network}
use Rattle.plan_model.specs.plan_meaning.Solution.{Allows, next, IsSolution}
use Rattle.stack_machine.specs.Stack.{IsTotal}
use Rattle.tree_core.specs.Runs.{StandsFor}
use Rattle.decoding.specs.declared.causes.Why.{Why}
use Rattle.decoding.specs.declared.causes.Why.TheVariants.{SlotHolds, Waiting}
use Rattle.decoding.specs.FailingAct.{AreRead}
use Rattle.stack_encoding.specs.StackSpelling.{IsStackSpelling}
use Rattle.stack_decoding.specs.StackSteps.{HasArguments, IsStepOf, FailsAt}
use Rattle.tree_decoder.specs.declared.decoded.Decoded.{Decoded}
use Rattle.tree_decoder.specs.declared.decoded.DecodeError.{DecodeError}
use Rattle.tree_decoder.specs.declared.decoded.DecodeError.TheVariants.{NotAPlan, Memory}
use Rattle.tree_decoder.specs.declared.decoder.Decoder.{Decoder}
use Rattle.tree_decoder.specs.Decoding.{HasTaken}

-- a task that waits is none that the tip holds
abbrev pub at_tip : Option Why → Option Why
at_tip (Some Waiting) = Some SlotHolds
at_tip found = found

-- the steps are those of these acts, with cells 1 to b
abbrev pub AreStepsOf : (c : Compiled) → ℕ → List GroundAction → List (Act (network c)) → Type 0
AreStepsOf c b = AreRead (network c) State (Allows c) (next c) GroundAction (HasArguments c b) (IsStepOf c) b

module _ (c : Compiled) (b : ℕ) (steps : List GroundAction) where
  -- the decoder is one of the problem with b slots, and the acts that it has taken are those of these steps of a stack
  pub record HasTakenAtTip (decoder : Decoder) : Type 0 where
    pub named : List GroundAction
    pub taken : HasTaken c b named decoder
    pub acts : AreStepsOf c b steps taken.behind.acts

  -- each list that goes on with the step behind those taken fails there for this cause
  abbrev pub FailsAtTip : GroundAction → Why → Type 0
  FailsAtTip step why = (rest : List GroundAction) → FailsAt c b (steps ++ step ∷ rest) (length steps + 1) why

  -- the steps spell, with cells 1 to b, this tree's schedule, which is a solution, and these are its cells
  pub record IsStackDecoded (decoded : Decoded) : Type 0 where
    pub tree : Tree (network c)
    pub order : List Address
    pub cell : Address → ℕ
    pub spelled : IsStackSpelling c b steps tree order cell
    pub solution : IsSolution c tree order
    pub stands : StandsFor c decoded.run tree order
    pub cells_are : decoded.slots ≡ map cell order

  -- the steps spell no solution: they fail at this step for this first cause; or memory ran out
  abbrev pub IsStackRefused : DecodeError → Type 0
  IsStackRefused (NotAPlan step why) = FailsAt c b steps step why
  IsStackRefused Memory = Unit {0}

-- whatever was taken before: now the step too, or it fails there
abbrev pub TakesAtTip : GroundAction → Decoder → Decoder → Option Why → Type 0
TakesAtTip step old new found = (c : Compiled) (b : ℕ) (steps : List GroundAction) → HasTakenAtTip c b steps old
    → MatchOption found (HasTakenAtTip c b (steps ++ step ∷ []) new) (FailsAtTip c b steps step)

-- whatever was taken: the steps are decoded to this
abbrev pub FinishesAtTip : Decoder → Decoded → Type 0
FinishesAtTip decoder decoded = (c : Compiled) (b : ℕ) (steps : List GroundAction) → IsTotal (network c) → HasTakenAtTip c b steps decoder
    → IsStackDecoded c b steps decoded

-- or they spell no solution
abbrev pub LeavesAtTip : Decoder → DecodeError → Type 0
LeavesAtTip decoder why = (c : Compiled) (b : ℕ) (steps : List GroundAction) → IsTotal (network c) → HasTakenAtTip c b steps decoder
    → IsStackRefused c b steps why
