-- What is asked of a compiled problem for strata and a bound, method by method.
use Rattle.std.specs.Prelude.{ℕ, ◌≤◌}
use Rattle.plan_model.specs.declared.networks.Head.{Head}
use Rattle.plan_model.specs.declared.networks.Head.TheVariants.{Task, Action, Check}
use Rattle.plan_model.specs.declared.schemas.MethodPlan.{MethodPlan}
use Rattle.plan_model.specs.declared.values.Compiled.{Compiled}
use Rattle.bound_calc.specs.stratifier.Conditions.{IsNumbered, IsSmallMethod, IsOrdered, IsSmallCompiled, HaveNoCycle}
use Rattle.bound_calc.specs.Lines.{HasLine, HaveLines}

abbrev pub IsUpTo : ℕ → Head → Type 0
IsUpTo top (Task t) = t ≤ top
IsUpTo top (Action a) = Unit {0}
IsUpTo top Check = Unit {0}

pub record IsReady (top : ℕ) (plan : MethodPlan) : Type 0 where
  pub numbered : IsNumbered top plan
  pub small : IsSmallMethod plan
  pub ordered : IsOrdered plan
  pub line : HasLine plan

pub record AreReady (c : Compiled) : Type 0 where
  pub small : IsSmallCompiled c
  pub ordered : HaveNoCycle c
  pub lines : HaveLines c
