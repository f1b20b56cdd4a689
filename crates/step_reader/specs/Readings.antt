-- What a printed step is read as, told by what is processed, at which slot, with which new slots and objects.
-- Source: this project's.
use Rattle.std.specs.Prelude.{ℕ, ◌≡◌, ◌<◌, ◌^◌, List, length, Contains}
use Rattle.plan_model.specs.declared.types.Object.{Object}
use Rattle.plan_model.specs.declared.steps.GroundAction.{GroundAction}
use Rattle.plan_model.specs.declared.values.Compiled.{Compiled}
use Rattle.plan_model.specs.task_networks.Lawful.{IsLawful}
use Rattle.plan_model.specs.task_networks.Spelling.{run, apply}
use Rattle.plan_model.specs.task_networks.Spelling as Spellings
use Rattle.plan_model.specs.plan_meaning.Network.{action, check, network}
use Rattle.problem_index.specs.declared.printed_index.PrintedIndex.{PrintedIndex}
use Rattle.problem_index.specs.declared.printed_index.PrintedName.{PrintedName}
use Rattle.problem_index.specs.declared.printed_index.PrintedName.TheVariants.{Action, Check, Method}
use Rattle.problem_index.specs.declared.world.World.{World}
use Rattle.problem_index.specs.Kinds.{IsWorld}
use Rattle.problem_index.specs.Printed.{IsPrintedIndex, HasPrintedNames}
use Rattle.ground_state.specs.Frames.{Frame}
use Rattle.ground_state.specs.Needs.{HasRoomForCompiled}
use Rattle.decoding.specs.FailingAct.{new_in}
use Rattle.decoding.specs.PrintedSteps.{IsNamed, IsReadAs, AreNamedApart}
use Rattle.step_reader.specs.declared.answer.Read.{Read}
use Rattle.step_reader.specs.declared.answer.Read.TheVariants.{Unnamed, Unread, Act}

module _ (c : Compiled) where
  -- the act of a printed name at a slot, with new slots and objects
  abbrev pub act_of : PrintedName → ℕ → List ℕ → List ℕ → Spellings.Act (network c)
  act_of (Action a) h new objects = run h (action a objects)
  act_of (Check m) h new objects = run h (check m objects)
  act_of (Method m) h new objects = apply h new (record { number = m; values = objects })

  -- what the answer says of the step, with b slots
  abbrev pub IsReading : ℕ → GroundAction → Read → List ℕ → List ℕ → Type 0
  IsReading b step Unnamed new objects = IsNamed c step → ⊥
  IsReading b step Unread new objects = IsNamed c step × ((a : Spellings.Act (network c)) → IsReadAs c b step a → ⊥)
  IsReading b step (Act name slot) new objects = IsReadAs c b step (act_of name slot new objects)

  -- the act has these new slots
  abbrev pub HasNew : Read → List ℕ → List ℕ → Type 0
  HasNew Unnamed new objects = Unit {0}
  HasNew Unread new objects = Unit {0}
  HasNew (Act name slot) new objects = new_in (network c) (act_of name slot new objects) ≡ new

  -- what is asked of the problem: names are those of its table, words are apart, and a method with children has one of them as its heir
  pub record IsReadable : Type 0 where
    pub names : HasPrintedNames c
    pub object_names : (o : Object) → Contains c.hddl.objects o → o.name.number < length c.hddl.names
    pub apart : AreNamedApart c
    pub lawful : IsLawful (network c)
    pub few : length c.methods < 2 ^ 32

  -- the index is that of its printed words, and the world has its types and its objects
  pub record AreOwn (printed : PrintedIndex) (world : World) : Type 0 where
    pub index : IsPrintedIndex c printed
    pub world_is : IsWorld world
    pub types : world.types.now ≡ c.hddl.types
    pub objects : world.objects.now ≡ c.hddl.objects

  -- there is room for the parameters of each action and method
  abbrev pub HasRoomIn : Frame → Type 0
  HasRoomIn env = HasRoomForCompiled c env.room env.arity
