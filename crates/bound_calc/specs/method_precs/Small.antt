-- The methods that can be compiled.
use Rattle.std.specs.Prelude.{length}
use Rattle.plan_model.specs.task_networks.Order.{ArePairsOf, IsAcyclic}
use Rattle.plan_model.specs.declared.schemas.MethodSchema.{MethodSchema}
use Rattle.plan_texts.specs.SoundProblem.{IsSmallMethod}
use Rattle.plan_model.specs.Pairs.{Pairs}

-- what is asked of one method
pub record IsFit (s : MethodSchema) : Type 0 where
  pub within : ArePairsOf (Pairs s.pairs) (length s.children)
  pub acyclic : IsAcyclic (Pairs s.pairs)
  pub small : IsSmallMethod s
