use Rattle.std.proofs.Common.{ap, ◌∙◌}
use Rattle.std.specs.List.{flat_map}
use Rattle.name_binding.specs.Spots.{noted}
use Rattle.hddl_bind.specs.Ids.{second_ids}
use Rattle.hddl_bind.specs.Pairs.{pair_faults}
use Rattle.hddl_bind.specs.Cycle.{cycle_faults, limit_faults}
use Rattle.hddl_bind.proofs.Steps.{noted_four}
use Rattle.hddl_bind.proofs.networks.order_of.Goals as goal

pub returns-clause-faults : goal.returns-clause-faults
returns-clause-faults c =
    let n = c.args.net.now in
    let at = c.in_ok-cycle_of.field-0 in
    let ids = c.in_ok-places.ensures.faults ∙ ap (λ ss. noted c.args.faults.now.least (second_ids ss)) c.as_slice.ensures.items in
    let limit = c.note_limit.ensures.faults ∙ ap (λ ss. noted c.note_cycle.new.faults.least (limit_faults ss)) c.as_slice-3.ensures.items in (
      at,
      c.in_ok-cycle_of.ensures.cycle,
      noted_four _ _ _ _ _ (second_ids n.subs) (flat_map (pair_faults n.subs) n.pairs) (cycle_faults at) (limit_faults n.subs) ids c.in_ok-ordering.ensures.faults c.note_cycle.ensures.faults limit,
    )
