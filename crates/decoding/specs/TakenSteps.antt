-- The steps that a decoder has taken, with what is kept of the front that they spell and the state behind them.
-- Source: this project's.
use Rattle.std.specs.Prelude.{ℕ, ◌≡◌, ◌≤◌, ◌↔◌, Bool, IsTrue, List, [], map, None}
use Rattle.plan_model.specs.declared.terms.GroundAtom.{GroundAtom}
use Rattle.plan_model.specs.declared.steps.GroundAction.{GroundAction}
use Rattle.plan_model.specs.declared.values.Compiled.{Compiled}
use Rattle.plan_model.specs.task_networks.Tree.{Tree, Address}
use Rattle.plan_model.specs.task_networks.Executable.{AreAllowed, last_state}
use Rattle.plan_model.specs.task_networks.Spelling.{Act, label_of}
use Rattle.plan_model.specs.plan_meaning.Truth.{State}
use Rattle.plan_model.specs.plan_meaning.Network.{network}
use Rattle.plan_model.specs.plan_meaning.Solution.{top_work, Allows, next, initial, IsSolution}
use Rattle.plan_model.specs.plan_meaning.SpelledPlan.{IsSpelling}
use Rattle.tree_core.specs.Growths.{IsTreeOf}
use Rattle.decoding.specs.FailingAct.{AreRead}
use Rattle.decoding.specs.PrintedSteps.{IsNamed, IsReadAs}
use Rattle.decoding.specs.Keeping.{Kept, AreChildSlots, Keeps}

module _ (c : Compiled) where
  -- the state of the atoms for which a test says so
  abbrev pub true_of : (GroundAtom → Bool) → State
  true_of test g = IsTrue (test g)

  -- two states have the same atoms
  abbrev pub IsSameState : State → State → Type 0
  IsSameState S T = (g : GroundAtom) → S g ↔ T g

  -- the state behind acts
  abbrev pub state_behind : List (Act (network c)) → State
  state_behind acts = last_state (network c) State (Allows c) (next c) (initial c) (map (label_of (network c)) acts)

  module _ (b : ℕ) where
    -- the steps are read as acts, each allowed in the state before it, and this is kept of their front, and their state
    pub record HasTaken (steps : List GroundAction) (kept : Kept (network c)) (S : State) : Type 0 where
      pub acts : List (Act (network c))
      pub read : AreRead (network c) State (Allows c) (next c) GroundAction (IsNamed c) (IsReadAs c) b steps acts
      pub keeps : Keeps (network c) b (top_work c) kept acts
      pub allowed : AreAllowed (network c) State (Allows c) (next c) (initial c) (map (label_of (network c)) acts)
      pub state : IsSameState S (state_behind acts)

    -- the steps spell a solution, whose tree has these growths
    pub record IsSolvedBy (steps : List GroundAction) (kept : Kept (network c)) : Type 0 where
      pub tree : Tree (network c)
      pub order : List Address
      pub slot : Address → ℕ
      pub spelled : IsSpelling c b steps tree order slot
      pub solution : IsSolution c tree order
      pub grown : IsTreeOf (network c) kept.growths tree order
      pub root : slot [] ≡ 1
      pub child_slots : AreChildSlots (network c) tree order slot kept.child_slot

    -- no slot holds an open leaf
    abbrev pub HoldNone : Kept (network c) → Type 0
    HoldNone kept = (x : ℕ) → 1 ≤ x → x ≤ b → kept.held x ≡ None
