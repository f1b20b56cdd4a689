-- That a list of steps of a stack is decoded to one thing, whichever value of two texts is taken, and that it is decoded to something.
-- Source: this project's.
use Rattle.std.specs.Prelude.{ℕ, ◌≡◌, ◌⊎◌, List}
use Rattle.plan_model.specs.declared.options.Checks.{Checks}
use Rattle.plan_model.specs.declared.steps.GroundAction.{GroundAction}
use Rattle.plan_model.specs.declared.values.Hddl.{Hddl}
use Rattle.plan_model.specs.declared.values.Compiled.{Compiled}
use Rattle.plan_model.specs.plan_meaning.Compilation.{IsCompiled}
use Rattle.plan_model.specs.plan_meaning.Network.{network}
use Rattle.plan_texts.specs.FirstSeen.{IsHddlOf}
use Rattle.stack_machine.specs.Stack.{IsTotal}
use Rattle.decoding.specs.declared.causes.Why.{Why}
use Rattle.hplan_text.specs.declared.values.HPlan.{HPlan}
use Rattle.stack_decoding.specs.StackSteps.{FailsAt}
use Rattle.stack_decoding.specs.StackShown.{StackShown}
use Rattle.decode_answers.specs.DecodeLaws.{IsDecodable}

-- what can be decoded with slots, and whose methods are totally ordered
pub record IsStackDecodable (h : Hddl) (checks : Checks) (c : Compiled) (b : ℕ) : Type 0 where
  pub decodable : IsDecodable h checks c b
  pub total : IsTotal (network c)

module _ (c : Compiled) (b : ℕ) (steps : List GroundAction) where
  -- the steps show one plan, or fail at one step for one cause, and not both
  pub record IsStackDecodedOnce : Type 0 where
    pub one_plan : (shown other : HPlan) → StackShown c b steps shown → StackShown c b steps other → shown ≡ other
    pub not_both : (shown : HPlan) (n : ℕ) (why : Why) → StackShown c b steps shown → FailsAt c b steps n why → ⊥
    pub one_step : (n m : ℕ) (why because : Why) → FailsAt c b steps n why → FailsAt c b steps m because → n ≡ m
    pub one_cause : (n m : ℕ) (why because : Why) → FailsAt c b steps n why → FailsAt c b steps m because → why ≡ because

  -- they show a plan, or fail
  abbrev pub IsStackDecodedSomehow : Type 0
  IsStackDecodedSomehow = ((shown : HPlan) × StackShown c b steps shown) ⊎ ((n : ℕ) × (why : Why) × FailsAt c b steps n why)

-- what the steps show, or where and why they fail, is the same of two compiled problems
pub record AreStackDecodedAlike (c k : Compiled) (b : ℕ) (steps : List GroundAction) : Type 0 where
  pub shown : (shown : HPlan) → StackShown c b steps shown → StackShown k b steps shown
  pub fails : (n : ℕ) (why : Why) → FailsAt c b steps n why → FailsAt k b steps n why

abbrev pub EachIsStackDecodedOnce : Type 0
EachIsStackDecodedOnce = (h : Hddl) (checks : Checks) (c : Compiled) (b : ℕ) (steps : List GroundAction) → IsStackDecodable h checks c b
    → IsStackDecodedOnce c b steps

abbrev pub EachIsStackDecodedSomehow : Type 0
EachIsStackDecodedSomehow = (h : Hddl) (checks : Checks) (c : Compiled) (b : ℕ) (steps : List GroundAction) → IsStackDecodable h checks c b
    → IsStackDecodedSomehow c b steps

-- of each two values of two texts
abbrev pub ValuesAreStackDecodedAlike : Type 0
ValuesAreStackDecodedAlike = (domain problem : List ℕ) (h i : Hddl) (checks : Checks) (c k : Compiled) (b : ℕ) (steps : List GroundAction)
    → IsHddlOf domain problem h → IsHddlOf domain problem i → IsStackDecodable h checks c b → IsCompiled i checks k
    → AreStackDecodedAlike c k b steps
