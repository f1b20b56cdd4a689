use Rattle.std.proofs.Common.{ap, ◌∙◌}
use Rattle.std.specs.List.{flat_map}
use Rattle.name_binding.specs.Spots.{noted}
use Rattle.hddl_bind.specs.Cycle.{order_faults}
use Rattle.hddl_bind.specs.Networks.{child_faults, constraint_faults}
use Rattle.hddl_bind.proofs.Steps.{noted_three}
use Rattle.hddl_bind.proofs.networks.network_of.Goals as goal

pub returns-clause-faults : goal.returns-clause-faults
returns-clause-faults c =
    let n = c.args.net.now in
    let objects = c.args.objects.now in
    let scope = c.args.scope.now in
    let of_child = child_faults c.args.callables.now objects scope in
    let of_constraint = constraint_faults objects scope in
    let order = c.in_ok-pairs.ensures.faults in
    let children = c.in_ok-children.ensures.faults ∙ ap (λ ss. noted c.order_of.new.faults.least (flat_map of_child ss)) c.as_slice.ensures.items in
    let constraints = c.in_ok-constraints.ensures.faults ∙ ap (λ ss. noted c.children_of.new.faults.least (flat_map of_constraint ss)) c.as_slice-2.ensures.items in
    (order.0, order.1, noted_three _ _ _ _ (order_faults n order.0) (flat_map of_child n.subs) (flat_map of_constraint n.constraints) order.2 children constraints)
