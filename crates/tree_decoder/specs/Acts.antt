-- What the tests of an act say, where it is read from a step.
-- Source: this project's.
use Rattle.std.specs.Prelude.{ℕ, ◌≡◌, ◌≤◌, ◌⊎◌, IsSome, List, [], All, Contains, MatchOption, Option}
use Rattle.htn_base.specs.Different.{AreDifferent}
use Rattle.htn_base.specs.Limits.{most_slots}
use Rattle.plan_model.specs.declared.steps.GroundAction.{GroundAction}
use Rattle.plan_model.specs.declared.values.Compiled.{Compiled}
use Rattle.plan_model.specs.declared.networks.Constraint.{Constraint}
use Rattle.plan_model.specs.declared.networks.Guard.{Guard}
use Rattle.plan_model.specs.Typing.{InType}
use Rattle.plan_model.specs.plan_meaning.Truth.{value_of}
use Rattle.plan_model.specs.plan_meaning.Network.{Work, network, Meets}
use Rattle.plan_model.specs.task_networks.Tree as Trees
use Rattle.plan_model.specs.plan_meaning.Solution.{top_work, Allows}
use Rattle.plan_model.specs.task_networks.Spelling.{Act, label_of}
use Rattle.problem_index.specs.declared.printed_index.PrintedName.{PrintedName}
use Rattle.problem_index.specs.declared.world.World.{World}
use Rattle.problem_index.specs.Kinds.{IsWorld}
use Rattle.ground_state.specs.Frames.{frame}
use Rattle.ground_state.specs.States.{has_ground}
use Rattle.ground_state.specs.declared.state.State.{State}
use Rattle.tree_core.specs.declared.label.Label.{Label}
use Rattle.tree_core.specs.Labels as labels
use Rattle.decoding.specs.declared.causes.Why.{Why}
use Rattle.decoding.specs.FailingAct.{work_in, new_in, IsMet}
use Rattle.decoding.specs.Keeping.{MayTake}
use Rattle.decoding.specs.HeldLeaves.{Leaf}
use Rattle.decoding.specs.PrintedSteps.{IsReadAs}
use Rattle.decoding.specs.TakenSteps.{true_of}
use Rattle.kept_front.specs.declared.front.Front.{Front}
use Rattle.kept_front.specs.Fronts.{kept, label_in}
use Rattle.kept_front.specs.Leaves.{leaf_at}
use Rattle.kept_front.specs.declared.works.WorkKind.{WorkKind}
use Rattle.kept_front.specs.Works.{work_of}
use Rattle.step_reader.specs.Readings.{act_of}
use Rattle.tree_decoder.specs.declared.testing.Scratch.{Scratch}
use Rattle.tree_decoder.specs.Decoding.{AreBehind, FailsHere}

-- the act of a name at a slot, with the new slots and objects that are noted
abbrev pub act_in : (c : Compiled) → PrintedName → ℕ → Scratch → Act (network c)
act_in c name slot scratch = act_of c name slot scratch.new_slots.items (frame scratch.env).objects

-- some step is read as the act
abbrev pub IsSomeStep : (c : Compiled) → Act (network c) → Type 0
IsSomeStep c a = (b : ℕ) × (step : GroundAction) × IsReadAs c b step a

-- and its new slots are those that are noted
abbrev pub AreNewNoted : Compiled → PrintedName → ℕ → Scratch → Type 0
AreNewNoted c name slot scratch = new_in (network c) (act_in c name slot scratch) ≡ scratch.new_slots.items

-- some step is read as an act of this name with these objects
abbrev pub IsNamedWith : Compiled → PrintedName → List ℕ → Type 0
IsNamedWith c name objects = (slot : ℕ) × (new : List ℕ) × IsSomeStep c (act_of c name slot new objects)

-- what such acts process, what they say, what they ask of the state, and what else they ask: whatever their slots
abbrev pub work_with : Compiled → PrintedName → List ℕ → Work
work_with c name objects = work_in (network c) (act_of c name 0 [] objects)

abbrev pub label_with : (c : Compiled) → PrintedName → List ℕ → Trees.Label (network c)
label_with c name objects = label_of (network c) (act_of c name 0 [] objects)

abbrev pub AllowsWith : Compiled → State → PrintedName → List ℕ → Type 0
AllowsWith c state name objects = Allows c (true_of c (has_ground state)) (label_with c name objects)

abbrev pub IsMetWith : Compiled → PrintedName → List ℕ → Type 0
IsMetWith c name objects = IsMet (network c) (act_of c name 0 [] objects)

-- the objects of what is processed are noted
abbrev pub IsWorkNoted : Compiled → PrintedName → Scratch → WorkKind → Type 0
IsWorkNoted c name scratch kind = work_of kind scratch.task.items ≡ work_with c name (frame scratch.env).objects

abbrev pub HasWork : Compiled → PrintedName → Scratch → Type 0
HasWork c name scratch = (kind : WorkKind) × IsWorkNoted c name scratch kind

-- the label says what the acts do, and of a decomposed task what its method says
pub record IsLabelWith (c : Compiled) (name : PrintedName) (objects : List ℕ) (label : Label) : Type 0 where
  pub in_network : label_in c label ≡ label_with c name objects
  pub labelled : labels.label_of label ≡ labels.labelled_node c (label_with c name objects)

-- the world is the problem's
pub record IsWorldOf (c : Compiled) (world : World) : Type 0 where
  pub known : IsWorld world
  pub types : world.types.now ≡ c.hddl.types
  pub objects : world.objects.now ≡ c.hddl.objects

-- what is noted of the step stays
pub record StaysNoted (old new : Scratch) : Type 0 where
  pub slots : new.new_slots.items ≡ old.new_slots.items
  pub objects : frame new.env ≡ frame old.env

-- each of the constraints is true
abbrev pub AreMet : List ℕ → List Constraint → Type 0
AreMet objects constraints = All (Meets objects) constraints

-- each of the terms stands for an object of its type
abbrev pub AreKept : World → List ℕ → List Guard → Type 0
AreKept world objects guards = All (λ (guard : Guard). InType world.types.now world.objects.now (value_of objects guard.term) guard.ty) guards

-- a new slot holds an open leaf, or stands twice
abbrev pub IsOneHeld : Front → List ℕ → Type 0
IsOneHeld front new = ((x : ℕ) × Contains new x × IsSome (leaf_at front.leaves x)) ⊎ (AreDifferent new → ⊥)

module _ (c : Compiled) (a : Act (network c)) where
  -- the act can be taken at the front, in the state
  pub record CanTake (b : ℕ) (front : Front) (state : State) : Type 0 where
    pub leaf : Leaf (network c)
    pub may : MayTake (network c) b (top_work c) (kept c front) a leaf
    pub allowed : Allows c (true_of c (has_ground state)) (label_of (network c) a)

  -- whatever steps are behind the front and the state: the step that is read as the act can be taken, or fails there for this cause
  abbrev pub IsObstacle : Front → State → Option Why → Type 0
  IsObstacle front state found = (b : ℕ) (steps : List GroundAction) (step : GroundAction) → b ≤ most_slots → AreBehind c b steps front state
      → IsReadAs c b step a → MatchOption found (CanTake b front state) (FailsHere c b steps step)
