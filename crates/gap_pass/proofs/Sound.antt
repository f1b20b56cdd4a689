-- What is so of each problem that is compiled of a sound one: lines, laws, and a decided order.
use Rattle.std.proofs.Common.{ℕ, ◌⊎◌, inr, slice_get, Option, Some, None}
use Rattle.std.specs.Prelude.{MatchOption}
use Rattle.plan_model.specs.declared.schemas.MethodPlan.{MethodPlan}
use Rattle.plan_model.specs.declared.values.Compiled.{Compiled}
use Rattle.plan_model.specs.Pairs.{Pairs}
use Rattle.plan_model.specs.task_networks.Order.{Precedes, direct, through}
use Rattle.plan_model.specs.task_networks.Lawful.{IsLawful}
use Rattle.plan_model.specs.plan_meaning.Network.{network}
use Rattle.plan_model.proofs.net_order.Closures.{decide_chain}
use Rattle.plan_model.proofs.plan_meaning.CompiledNetworks.{plan_of, prepared}
use Rattle.plan_model.proofs.task_networks.ScheduleLaws.{prepared_is_lawful}
use Rattle.plan_texts.specs.SoundlyCompiled.{IsSoundlyCompiled}
use Rattle.plan_texts.specs.SoundProblem.{all_methods}
use Rattle.schedules.specs.latest.Laws.{IsOrderDecided}
use Rattle.gap_pass.specs.Tours.{HasLines}

module _ (c : Compiled) (s : IsSoundlyCompiled c) where
  pub lines : HasLines c
  lines m plan e = let (z, i, is) = plan_of s.problem s.checks (all_methods s.problem) c.methods m plan s.compiled.methods e in is.line

  pub lawful : IsLawful (network c)
  lawful = prepared_is_lawful (network c) (prepared s.problem s.checks c s.ordered s.compiled)

  pub order_decided : IsOrderDecided (network c)
  order_decided = record { acyclic = lawful.acyclic; precedes = λ g i j. decided (slice_get c.methods g.number) i j }
    where
      decided : (o : Option MethodPlan) (i j : ℕ)
          → Precedes (λ i j. MatchOption o ⊥ (λ plan. Pairs plan.schema.pairs i j)) i j
          ⊎ (Precedes (λ i j. MatchOption o ⊥ (λ plan. Pairs plan.schema.pairs i j)) i j → ⊥)
      decided None i j = inr (none i j)
        where
          none : (i j : ℕ) → Precedes (λ i j. MatchOption None ⊥ (λ (plan : MethodPlan). Pairs plan.schema.pairs i j)) i j → ⊥
          none i j (direct x) = x
          none i j (through y x) = x
      decided (Some p) i j = decide_chain p.schema.pairs i j
