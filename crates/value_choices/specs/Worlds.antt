-- The types and the objects of a compiled problem, with what is known of the types.
-- Source: this project's.
use Rattle.std.specs.Prelude.{◌≡◌}
use Rattle.plan_model.specs.declared.values.Compiled.{Compiled}
use Rattle.problem_index.specs.declared.world.World.{World}
use Rattle.problem_index.specs.Kinds.{IsWorld}

pub record IsWorldOf (c : Compiled) (world : World) : Type 0 where
  pub is : IsWorld world
  pub types : world.types.now ≡ c.hddl.types
  pub objects : world.objects.now ≡ c.hddl.objects
