-- That a hierarchical plan comes to one thing alone, whichever value of two texts is taken, and that no bound is below its width.
-- Source: this project's.
use Rattle.std.specs.Prelude.{ℕ, ◌≡◌, ◌↔◌, ◌<◌, ◌≤◌, ◌-◌, ◌^◌, List, Option, IfSome}
use Rattle.htn_base.specs.Limits.{most_slots}
use Rattle.plan_model.specs.declared.options.Checks.{Checks}
use Rattle.plan_model.specs.declared.steps.GroundAction.{GroundAction}
use Rattle.plan_model.specs.declared.values.Hddl.{Hddl}
use Rattle.plan_model.specs.declared.values.Compiled.{Compiled}
use Rattle.plan_model.specs.plan_meaning.Compilation.{IsCompiled}
use Rattle.plan_model.specs.plan_meaning.Bound.{IsBound}
use Rattle.plan_texts.specs.FirstSeen.{IsHddlOf}
use Rattle.hplan_text.specs.declared.values.HPlan.{HPlan}
use Rattle.hplan_text.specs.Printable.{IsSoundHPlan, IsPrintableHPlan}
use Rattle.plan_encoder.specs.Laws.{IsOf, SomeSolutionShows}
use Rattle.placements.specs.Matching.{IsUnmatched}
use Rattle.placements.specs.Placement.{IsNotExecutable, MissesGoal, HasNoPlace}
use Rattle.step_texts.specs.declared.text.StepText.{StepText}
use Rattle.step_texts.specs.StepTexts.{HasWidth, IsSpelled, IsStepText}

-- a plan whose ids are sound comes to one text at most, with the given number of slots or without, and with any limit
abbrev pub EachIsEncodedOnce : Type 0
EachIsEncodedOnce = (h : Hddl) (mode : Checks) (c : Compiled) → IsOf h mode c → (plan : HPlan) → IsSoundHPlan plan
    → (given : Option ℕ) (most : ℕ) (one other : StepText) → IsStepText c plan given most one → IsStepText c plan given most other
    → one ≡ other

-- and to one, where a given number of slots is one that may be asked for, and the limit is less than the greatest length that is counted
abbrev pub EachIsEncodedSomehow : Type 0
EachIsEncodedSomehow = (h : Hddl) (mode : Checks) (c : Compiled) → IsOf h mode c → (plan : HPlan) → IsSoundHPlan plan
    → IsPrintableHPlan plan → (given : Option ℕ) (most : ℕ) → most < 2 ^ 64 - 1 → IfSome given (λ n. n ≤ most_slots)
    → (text : StepText) × IsStepText c plan given most text

-- whatever number of slots the steps of a plan are spelled with, they are the same, and so is the width
abbrev pub EachIsSpelledOnce : Type 0
EachIsSpelledOnce = (h : Hddl) (mode : Checks) (c : Compiled) → IsOf h mode c → (plan : HPlan)
    → (slots more width wide : ℕ) (steps others : List GroundAction)
    → IsSpelled c plan slots width steps → IsSpelled c plan more wide others → (width ≡ wide) × (steps ≡ others)

-- No plan needs more slots than the bound of its problem, which only a tail-recursive one has. So `NeedsBound` never comes where the given
-- number of slots is at or above the bound.
abbrev pub NoWidthIsPastTheBound : Type 0
NoWidthIsPastTheBound = (h : Hddl) (mode : Checks) (c : Compiled) → IsOf h mode c → (bound : ℕ) → IsBound c bound
    → (plan : HPlan) (width : ℕ) → HasWidth c plan width → width ≤ bound

-- what a plan comes to is the same of two compiled problems
pub record AreEncodedAlike (c k : Compiled) (plan : HPlan) : Type 0 where
  pub unmatched : (id : Option ℕ) → IsUnmatched c plan id → IsUnmatched k plan id
  pub not_executable : (id : ℕ) → IsNotExecutable c plan id → IsNotExecutable k plan id
  pub misses : MissesGoal c plan → MissesGoal k plan
  pub no_place : HasNoPlace c plan → HasNoPlace k plan
  pub shown : SomeSolutionShows c plan ↔ SomeSolutionShows k plan
  pub width : (width : ℕ) → HasWidth c plan width → HasWidth k plan width
  pub spelled : (slots width : ℕ) (steps : List GroundAction) → IsSpelled c plan slots width steps → IsSpelled k plan slots width steps

-- of each two values of two texts
abbrev pub ValuesAreEncodedAlike : Type 0
ValuesAreEncodedAlike = (domain problem : List ℕ) (h i : Hddl) (checks : Checks) (c k : Compiled) (plan : HPlan)
    → IsHddlOf domain problem h → IsHddlOf domain problem i → IsOf h checks c → IsCompiled i checks k
    → AreEncodedAlike c k plan
