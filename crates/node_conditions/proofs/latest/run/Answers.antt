use Rattle.std.proofs.Common.{ℕ, List, Option, subst}
use Rattle.gap_pass.specs.LatestGaps.{AreLatestOrNone}
use Rattle.node_conditions.specs.Stands.{Somehow, AreFirst}
use Rattle.node_conditions.proofs.latest.run.Goals as goal

pub returns : goal.returns
returns g c =
    let stands = g.K.Standing.stands in
    record {
      latest = subst (λ (z : Option (List ℕ)). AreLatestOrNone c.args.c.now c.args.tree.now c.args.actions.now
          (Somehow stands) z) c.in-Some.is c.in_ok-gaps.ensures.gaps;
      first = subst (λ (n : ℕ). AreFirst stands n c.in-Some.gaps c.in_ok-values.values) c.size-2.ensures.size
          (subst (λ (z : List ℕ). AreFirst stands c.size-2.result z c.in_ok-values.values) c.as_slice.ensures.items c.in_ok-values.ensures);
    }
