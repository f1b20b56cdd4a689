-- What a decoder has taken, and what it answers at a step and at the end.
-- Source: this project's.
use Rattle.std.specs.Prelude.{ℕ, ◌≡◌, ◌≤◌, ◌+◌, List, [], ◌∷◌, ◌++◌, length, map, MatchOption, Option, Some, None, IsSome}
use Rattle.htn_base.specs.Limits.{most_slots, most_steps}
use Rattle.plan_texts.specs.SoundlyCompiled.{IsSoundlyCompiled}
use Rattle.plan_model.specs.declared.steps.GroundAction.{GroundAction}
use Rattle.plan_model.specs.declared.values.Compiled.{Compiled}
use Rattle.problem_index.specs.Printed.{IsPrintedIndex}
use Rattle.ground_state.specs.Frames.{frame}
use Rattle.ground_state.specs.States.{has_ground}
use Rattle.ground_state.specs.declared.state.State.{State}
use Rattle.tree_core.specs.declared.growth.Growth.{Growth}
use Rattle.tree_core.specs.Runs.{IsRun}
use Rattle.tree_core.specs.Labels.{growths_of, labelled_growth}
use Rattle.decoding.specs.declared.causes.Why.{Why}
use Rattle.decoding.specs.PrintedSteps.{FailsAt}
use Rattle.decoding.specs.TakenSteps as Steps
use Rattle.decoding.specs.TakenSteps.{true_of}
use Rattle.kept_front.specs.declared.front.Front.{Front}
use Rattle.kept_front.specs.Fronts.{kept, growths_in, IsSized}
use Rattle.kept_front.specs.Leaves.{leaf_at}
use Rattle.kept_front.specs.Nodes.{child_slot}
use Rattle.kept_front.specs.Later.{AreAllLater}
use Rattle.step_reader.specs.Readings.{HasRoomIn}
use Rattle.tree_decoder.specs.declared.decoded.Decoded.{Decoded}
use Rattle.tree_decoder.specs.declared.decoded.DecodeError.{DecodeError}
use Rattle.tree_decoder.specs.declared.decoder.Decoder.{Decoder}
use Rattle.tree_decoder.specs.Decoded.{IsDecoded, IsRefused}

-- what is kept of the front and the state are those behind the steps
abbrev pub AreBehind : Compiled → ℕ → List GroundAction → Front → State → Type 0
AreBehind c b steps front state = Steps.HasTaken c b steps (kept c front) (true_of c (has_ground state))

-- each growth's label says of a decomposed task what its method says
abbrev pub AreLabelled : Compiled → Front → Type 0
AreLabelled c front = growths_of front.growths ≡ map (labelled_growth c) (growths_in c front)

-- what a decoder holds beside the front and the state is its problem's
pub record IsReady (decoder : Decoder) : Type 0 where
  pub soundly : IsSoundlyCompiled decoder.c.now
  pub some : 1 ≤ decoder.slots
  pub few : decoder.slots ≤ most_slots
  pub printed : IsPrintedIndex decoder.c.now decoder.printed
  pub later : AreAllLater decoder.c.now decoder.later
  pub sized : IsSized decoder.slots decoder.front
  pub short : length decoder.front.growths ≤ most_steps
  pub labelled : AreLabelled decoder.c.now decoder.front
  pub room : HasRoomIn decoder.c.now (frame decoder.scratch.env)
  -- some steps were taken
  pub taken : (steps : List GroundAction) × AreBehind decoder.c.now decoder.slots steps decoder.front decoder.state

-- the decoder is one of the problem with b slots, and has taken these steps
pub record HasTaken (c : Compiled) (b : ℕ) (steps : List GroundAction) (decoder : Decoder) : Type 0 where
  pub problem : decoder.c.now ≡ c
  pub slots : decoder.slots ≡ b
  pub ready : IsReady decoder
  pub behind : AreBehind c b steps decoder.front decoder.state

-- each list that goes on with the step behind those taken fails there for this cause
abbrev pub FailsHere : Compiled → ℕ → List GroundAction → GroundAction → Why → Type 0
FailsHere c b steps step why = (rest : List GroundAction) → FailsAt c b (steps ++ step ∷ rest) (length steps + 1) why

-- whatever was taken before: now the step too, or it fails there
abbrev pub Takes : GroundAction → Decoder → Decoder → Option Why → Type 0
Takes step old new found = (c : Compiled) (b : ℕ) (steps : List GroundAction) → HasTaken c b steps old
    → MatchOption found (HasTaken c b (steps ++ step ∷ []) new) (FailsHere c b steps step)

-- whatever was taken: the steps are decoded to this
abbrev pub Finishes : Decoder → Decoded → Type 0
Finishes decoder decoded = (c : Compiled) (b : ℕ) (steps : List GroundAction) → HasTaken c b steps decoder → IsDecoded c b steps decoded

-- or they spell no solution
abbrev pub Leaves : Decoder → DecodeError → Type 0
Leaves decoder why = (c : Compiled) (b : ℕ) (steps : List GroundAction) → HasTaken c b steps decoder → IsRefused c b steps why

-- whatever was taken: the steps spell a solution, of which the front is kept, or this is left
abbrev pub IsLeft : Decoder → Option Why → Type 0
IsLeft decoder found = (c : Compiled) (b : ℕ) (steps : List GroundAction) → HasTaken c b steps decoder
    → MatchOption found (Steps.IsSolvedBy c b steps (kept c decoder.front)) (FailsAt c b steps (length steps + 1))

-- one of the first b slots holds an open leaf
abbrev pub IsSomeHeld : ℕ → Front → Type 0
IsSomeHeld b front = (x : ℕ) × (1 ≤ x) × (x ≤ b) × IsSome (leaf_at front.leaves x)

-- the slot of a growth: the root has slot 1
abbrev pub slot_under : Front → Option ℕ → ℕ → ℕ
slot_under front None child = 1
slot_under front (Some parent) child = child_slot front.nodes parent child

abbrev pub AreSlots : Front → List ℕ → Type 0
AreSlots front slots = slots ≡ map (λ (g : Growth). slot_under front g.parent g.child) front.growths

-- the tree of a front's growths, and their slots
pub record HasTree (front : Front) (decoded : Decoded) : Type 0 where
  pub run : IsRun (growths_of front.growths) decoded.run
  pub slots : AreSlots front decoded.slots
