-- That a hierarchical plan of a totally ordered problem comes to one thing alone as a stack, whichever value of two texts is taken.
-- Source: this project's.
use Rattle.std.specs.Prelude.{ℕ, ◌≡◌, ◌<◌, ◌≤◌, ◌-◌, ◌^◌, List, Option, IfSome}
use Rattle.htn_base.specs.Limits.{most_slots}
use Rattle.plan_model.specs.declared.options.Checks.{Checks}
use Rattle.plan_model.specs.declared.steps.GroundAction.{GroundAction}
use Rattle.plan_model.specs.declared.values.Hddl.{Hddl}
use Rattle.plan_model.specs.declared.values.Compiled.{Compiled}
use Rattle.plan_model.specs.plan_meaning.Compilation.{IsCompiled}
use Rattle.plan_texts.specs.FirstSeen.{IsHddlOf}
use Rattle.hplan_text.specs.declared.values.HPlan.{HPlan}
use Rattle.hplan_text.specs.Printable.{IsSoundHPlan, IsPrintableHPlan}
use Rattle.plan_encoder.specs.Laws.{IsOf}
use Rattle.stack_encoding.specs.TotalOrder.{IsTotallyOrdered}
use Rattle.step_texts.specs.declared.text.StepText.{StepText}
use Rattle.step_texts.specs.StepTexts.{IsSpelled}
use Rattle.step_texts.specs.StackTexts.{IsStackSpelled, IsStackText}

-- a plan whose ids are sound comes to one text at most, with the given number of cells or without, and with any limit
abbrev pub EachIsStackedOnce : Type 0
EachIsStackedOnce = (h : Hddl) (mode : Checks) (c : Compiled) → IsOf h mode c → IsTotallyOrdered c → (plan : HPlan) → IsSoundHPlan plan
    → (given : Option ℕ) (most : ℕ) (one other : StepText) → IsStackText c plan given most one → IsStackText c plan given most other
    → one ≡ other

-- and to one, where a given number of cells is one that may be asked for, and the limit is less than the greatest length that is counted
abbrev pub EachIsStackedSomehow : Type 0
EachIsStackedSomehow = (h : Hddl) (mode : Checks) (c : Compiled) → IsOf h mode c → IsTotallyOrdered c → (plan : HPlan) → IsSoundHPlan plan
    → IsPrintableHPlan plan → (given : Option ℕ) (most : ℕ) → most < 2 ^ 64 - 1 → IfSome given (λ n. n ≤ most_slots)
    → (text : StepText) × IsStackText c plan given most text

-- whatever number of cells the steps of a plan are spelled with, they are the same, and so is the width
abbrev pub EachIsOneStack : Type 0
EachIsOneStack = (h : Hddl) (mode : Checks) (c : Compiled) → IsOf h mode c → IsTotallyOrdered c → (plan : HPlan)
    → (cells more width wide : ℕ) (steps others : List GroundAction)
    → IsStackSpelled c plan cells width steps → IsStackSpelled c plan more wide others → (width ≡ wide) × (steps ≡ others)

-- which is the width with slots
abbrev pub WidthIsThatOfSlots : Type 0
WidthIsThatOfSlots = (h : Hddl) (mode : Checks) (c : Compiled) → IsOf h mode c → (plan : HPlan) (cells slots width wide : ℕ)
    (steps others : List GroundAction) → IsStackSpelled c plan cells width steps → IsSpelled c plan slots wide others → width ≡ wide

-- what a plan comes to as a stack is the same of two compiled problems
pub record AreStackedAlike (c k : Compiled) (plan : HPlan) : Type 0 where
  pub ordered : IsTotallyOrdered c → IsTotallyOrdered k
  pub spelled : (cells width : ℕ) (steps : List GroundAction) → IsStackSpelled c plan cells width steps → IsStackSpelled k plan cells width steps
  pub text : (given : Option ℕ) (most : ℕ) (text : StepText) → IsStackText c plan given most text → IsStackText k plan given most text

-- of each two values of two texts
abbrev pub ValuesAreStackedAlike : Type 0
ValuesAreStackedAlike = (domain problem : List ℕ) (h i : Hddl) (checks : Checks) (c k : Compiled) (plan : HPlan)
    → IsHddlOf domain problem h → IsHddlOf domain problem i → IsOf h checks c → IsCompiled i checks k
    → AreStackedAlike c k plan
