-- What is asked of the lines of a compiled problem.
-- Source: this project's.
use Rattle.std.specs.Prelude.{length, All}
use Rattle.plan_model.specs.declared.schemas.MethodPlan.{MethodPlan}
use Rattle.plan_model.specs.declared.values.Compiled.{Compiled}
use Rattle.plan_model.specs.Pairs.{Pairs}
use Rattle.plan_model.specs.task_networks.Order.{IsLine}

-- the line of the method is that of its children
abbrev pub HasLine : MethodPlan → Type 0
HasLine plan = IsLine (Pairs plan.schema.pairs) (length plan.schema.children) plan.line

abbrev pub HaveLines : Compiled → Type 0
HaveLines c = All HasLine c.methods
