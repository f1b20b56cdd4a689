-- What it is to take an act that is read: the front grows by it, and the state goes on.
-- Source: this project's.
use Rattle.std.specs.Prelude.{ℕ, ◌≤◌, List, [], ◌∷◌, ◌++◌, length, Option}
use Rattle.htn_base.specs.Limits.{most_slots, most_steps}
use Rattle.plan_model.specs.declared.steps.GroundAction.{GroundAction}
use Rattle.plan_model.specs.declared.values.Compiled.{Compiled}
use Rattle.plan_model.specs.plan_meaning.Network.{network}
use Rattle.plan_model.specs.plan_meaning.Solution.{top_work, next}
use Rattle.plan_model.specs.task_networks.Spelling.{Act}
use Rattle.problem_index.specs.declared.printed_index.PrintedName.{PrintedName}
use Rattle.ground_state.specs.States.{has_ground}
use Rattle.ground_state.specs.declared.state.State.{State}
use Rattle.decoding.specs.declared.causes.Why.{Why}
use Rattle.decoding.specs.HeldLeaves.{Leaf}
use Rattle.decoding.specs.Keeping.{MayTake}
use Rattle.decoding.specs.PrintedSteps.{IsReadAs}
use Rattle.decoding.specs.TakenSteps.{true_of, IsSameState}
use Rattle.kept_front.specs.declared.front.Front.{Front}
use Rattle.kept_front.specs.Fronts.{kept, IsFrontOf, IsSized, StaysSized}
use Rattle.tree_decoder.specs.declared.decoder.Decoder.{Decoder}
use Rattle.tree_decoder.specs.Decoding.{AreLabelled, Takes}
use Rattle.tree_decoder.specs.Acts.{act_in, AreNewNoted, label_with}

-- some step is read as the act of the name at the slot, with what the decoder has noted
abbrev pub IsReadNow : PrintedName → ℕ → Decoder → GroundAction → Type 0
IsReadNow name slot decoder step = IsReadAs decoder.c.now decoder.slots step (act_in decoder.c.now name slot decoder.scratch)

pub record IsRead (name : PrintedName) (slot : ℕ) (decoder : Decoder) : Type 0 where
  pub step : GroundAction
  pub read : IsReadNow name slot decoder step
  pub new : AreNewNoted decoder.c.now name slot decoder.scratch

-- each step that is so read is taken, or fails there
abbrev pub TakesAct : PrintedName → ℕ → Decoder → Decoder → Option Why → Type 0
TakesAct name slot old new found = (step : GroundAction) → IsReadNow name slot old step → Takes step old new found

module _ (c : Compiled) (a : Act (network c)) where
  -- the front is that of the acts, and can grow by one more
  pub record CanGrow (b : ℕ) (front : Front) (acts : List (Act (network c))) : Type 0 where
    pub few : b ≤ most_slots
    pub keeps : IsFrontOf c b front acts
    pub sized : IsSized b front
    pub leaf : Leaf (network c)
    pub may : MayTake (network c) b (top_work c) (kept c front) a leaf

  abbrev pub CanGrowSome : Front → Type 0
  CanGrowSome front = (b : ℕ) × (acts : List (Act (network c))) × CanGrow b front acts

  -- it has grown by the act, whatever acts it was the front of
  pub record IsGrownBy (old new : Front) : Type 0 where
    pub front : (b : ℕ) (acts : List (Act (network c))) → CanGrow b old acts → IsFrontOf c b new (acts ++ a ∷ [])
    pub sized : StaysSized old new
    pub short : length new.growths ≤ most_steps
    pub labelled : AreLabelled c old → AreLabelled c new

-- the new state is the one behind the act of the name with these objects
abbrev pub IsAfter : Compiled → PrintedName → List ℕ → State → State → Type 0
IsAfter c name objects old new =
    IsSameState c (true_of c (has_ground new)) (next c (true_of c (has_ground old)) (label_with c name objects))
