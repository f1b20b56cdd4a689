-- A ground network and the network of its schemas, whose works and methods have no arguments.
-- Source: Höller et al., "HDDL", AAAI 2020, lifted HTN planning: grounding.
use Rattle.std.specs.Prelude.{ℕ, ◌≡◌, map}
use Rattle.plan_model.specs.task_networks.Net.{Net}

-- each work and each ground method has its schema, with the same children and no further pairs
pub record IsLifted (N L : Net) (work : N.Work → L.Work) (method : N.Method → L.Method) : Type 0 where
  pub head : (m : N.Method) → work (N.head m) ≡ L.head (method m)
  pub works : (m : N.Method) → map work (N.works m) ≡ L.works (method m)
  pub pairs : (m : N.Method) (i j : ℕ) → L.Pair (method m) i j → N.Pair m i j
  pub ground : (m : N.Method) → N.IsGround m → L.IsGround (method m)
