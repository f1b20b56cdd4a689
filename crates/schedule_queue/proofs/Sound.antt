-- What is so of each problem that is compiled of a sound one.
use Rattle.std.proofs.Common.{ℕ, ◌⊎◌, inr, Option, Some, None, MatchOption, slice_get}
use Rattle.plan_model.specs.declared.schemas.MethodPlan.{MethodPlan}
use Rattle.plan_model.specs.declared.values.Compiled.{Compiled}
use Rattle.plan_model.specs.Pairs.{Pairs}
use Rattle.plan_model.specs.task_networks.Order.{Precedes, direct, through}
use Rattle.plan_model.specs.plan_meaning.Network.{network}
use Rattle.plan_model.proofs.net_order.Closures.{decide_chain}
use Rattle.plan_model.proofs.plan_meaning.CompiledNetworks.{prepared}
use Rattle.plan_texts.specs.SoundlyCompiled.{IsSoundlyCompiled}
use Rattle.schedules.specs.latest.Laws.{IsOrderDecided}
use Rattle.schedules.specs.latest.Queue.{HasPairsOfChildren}

module _ (c : Compiled) (s : IsSoundlyCompiled c) where
  pub pairs_of_children : HasPairsOfChildren (network c)
  pairs_of_children = (prepared s.problem s.checks c s.ordered s.compiled).pairs

  pub order_decided : IsOrderDecided (network c)
  order_decided = record {
    acyclic = (prepared s.problem s.checks c s.ordered s.compiled).acyclic;
    precedes = λ g i j. decided (slice_get c.methods g.number) i j;
  }
    where
      decided : (o : Option MethodPlan) (i j : ℕ)
          → Precedes (λ i j. MatchOption o ⊥ (λ plan. Pairs plan.schema.pairs i j)) i j
          ⊎ (Precedes (λ i j. MatchOption o ⊥ (λ plan. Pairs plan.schema.pairs i j)) i j → ⊥)
      decided None i j = inr (none i j)
        where
          none : (i j : ℕ) → Precedes (λ i j. MatchOption None ⊥ (λ (plan : MethodPlan). Pairs plan.schema.pairs i j)) i j → ⊥
          none i j (direct x) = x
          none i j (through y x) = x
      decided (Some p) i j = decide_chain p.schema.pairs i j
