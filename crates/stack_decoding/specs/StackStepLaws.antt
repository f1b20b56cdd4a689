-- What is proved of the steps of a stack.
use Rattle.std.specs.Prelude.{ℕ, ◌≡◌, ◌≤◌, ◌<◌, ◌^◌, List}
use Rattle.plan_model.specs.declared.steps.GroundAction.{GroundAction}
use Rattle.plan_model.specs.declared.values.Compiled.{Compiled}
use Rattle.plan_model.specs.task_networks.Spelling.{Act}
use Rattle.plan_model.specs.plan_meaning.Network.{network}
use Rattle.decoding.specs.declared.causes.Why.{Why}
use Rattle.decoding.specs.PrintedSteps.{AreNamedApart, HasSoundChecks}
use Rattle.stack_decoding.specs.StackSteps.{IsStepOf, FailsAt, SpellsSolution}

module _ (c : Compiled) (b : ℕ) where
  -- a step is that of one act at most
  abbrev pub StepsAreOfOneAct : Type 0
  StepsAreOfOneAct = (step : GroundAction) (a other : Act (network c)) → IsStepOf c b step a → IsStepOf c b step other → a ≡ other

  -- a list spells a solution, or it fails at one step for one first cause, and not both
  pub record IsSolutionOrFails (steps : List GroundAction) : Type 0 where
    pub one_of : (SpellsSolution c b steps → ⊥) → ((n : ℕ) (why : Why) → FailsAt c b steps n why → ⊥) → ⊥
    pub not_both : (n : ℕ) (why : Why) → SpellsSolution c b steps → FailsAt c b steps n why → ⊥
    pub step : (n m : ℕ) (why because : Why) → FailsAt c b steps n why → FailsAt c b steps m because → n ≡ m
    pub cause : (n m : ℕ) (why because : Why) → FailsAt c b steps n why → FailsAt c b steps m because → why ≡ because

-- of a problem whose words are apart, with cells from 1 to b, which are numbers of 32 bits
pub record HasStackWords (c : Compiled) (b : ℕ) : Type 0 where
  pub some : 1 ≤ b
  pub few : b < 2 ^ 32
  pub apart : AreNamedApart c
  pub checks : HasSoundChecks c

abbrev pub EachStepIsOfOneAct : Compiled → Type 0
EachStepIsOfOneAct c = (b : ℕ) → HasStackWords c b → StepsAreOfOneAct c b

abbrev pub EachIsSolutionOrFails : Compiled → Type 0
EachIsSolutionOrFails c = (b : ℕ) (steps : List GroundAction) → HasStackWords c b → IsSolutionOrFails c b steps
