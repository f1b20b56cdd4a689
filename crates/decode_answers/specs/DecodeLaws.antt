-- That a list of steps is decoded to one thing, whichever value of two texts is taken, and that it is decoded to something.
-- Source: this project's.
use Rattle.std.specs.Prelude.{ℕ, ◌≡◌, ◌≤◌, ◌⊎◌, List}
use Rattle.htn_base.specs.Limits.{most_slots}
use Rattle.plan_model.specs.declared.options.Checks.{Checks}
use Rattle.plan_model.specs.declared.steps.GroundAction.{GroundAction}
use Rattle.plan_model.specs.declared.values.Hddl.{Hddl}
use Rattle.plan_model.specs.declared.values.Compiled.{Compiled}
use Rattle.plan_model.specs.plan_meaning.Compilation.{IsCompiled}
use Rattle.plan_texts.specs.FirstSeen.{IsHddlOf}
use Rattle.plan_texts.specs.SoundProblem.{IsSoundProblem}
use Rattle.plan_model.specs.plan_meaning.Laws.{AreOrdered}
use Rattle.decoding.specs.declared.causes.Why.{Why}
use Rattle.decoding.specs.PrintedSteps.{FailsAt}
use Rattle.hplan_text.specs.declared.values.HPlan.{HPlan}
use Rattle.hplan_text.specs.ShownSolutions.{SpellShown}

-- what is compiled of a sound problem whose networks have no cycle, and a number of slots that may be asked for
pub record IsDecodable (h : Hddl) (checks : Checks) (c : Compiled) (b : ℕ) : Type 0 where
  pub sound : IsSoundProblem h
  pub ordered : AreOrdered h
  pub compiled : IsCompiled h checks c
  pub some_slot : 1 ≤ b
  pub few_slots : b ≤ most_slots

module _ (c : Compiled) (b : ℕ) (steps : List GroundAction) where
  -- the steps show one plan, or fail at one step for one cause, and not both
  pub record IsDecodedOnce : Type 0 where
    pub one_plan : (shown other : HPlan) → SpellShown c b steps shown → SpellShown c b steps other → shown ≡ other
    pub not_both : (shown : HPlan) (n : ℕ) (why : Why) → SpellShown c b steps shown → FailsAt c b steps n why → ⊥
    pub one_step : (n m : ℕ) (why because : Why) → FailsAt c b steps n why → FailsAt c b steps m because → n ≡ m
    pub one_cause : (n m : ℕ) (why because : Why) → FailsAt c b steps n why → FailsAt c b steps m because → why ≡ because

  -- they show a plan, or fail
  abbrev pub IsDecodedSomehow : Type 0
  IsDecodedSomehow = ((shown : HPlan) × SpellShown c b steps shown) ⊎ ((n : ℕ) × (why : Why) × FailsAt c b steps n why)

-- what the steps show, or where and why they fail, is the same of two compiled problems
pub record AreDecodedAlike (c k : Compiled) (b : ℕ) (steps : List GroundAction) : Type 0 where
  pub shown : (shown : HPlan) → SpellShown c b steps shown → SpellShown k b steps shown
  pub fails : (n : ℕ) (why : Why) → FailsAt c b steps n why → FailsAt k b steps n why

abbrev pub EachIsDecodedOnce : Type 0
EachIsDecodedOnce = (h : Hddl) (checks : Checks) (c : Compiled) (b : ℕ) (steps : List GroundAction) → IsDecodable h checks c b → IsDecodedOnce c b steps

abbrev pub EachIsDecodedSomehow : Type 0
EachIsDecodedSomehow = (h : Hddl) (checks : Checks) (c : Compiled) (b : ℕ) (steps : List GroundAction) → IsDecodable h checks c b
    → IsDecodedSomehow c b steps

-- of each two values of two texts
abbrev pub ValuesAreDecodedAlike : Type 0
ValuesAreDecodedAlike = (domain problem : List ℕ) (h i : Hddl) (checks : Checks) (c k : Compiled) (b : ℕ) (steps : List GroundAction)
    → IsHddlOf domain problem h → IsHddlOf domain problem i → IsDecodable h checks c b → IsCompiled i checks k
    → AreDecodedAlike c k b steps
