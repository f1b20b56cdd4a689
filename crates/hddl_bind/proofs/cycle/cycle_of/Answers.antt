use Rattle.std.proofs.Common.{◌≤◌, length, subst, sym, ◌∙◌, arith}
use Rattle.htn_base.specs.Limits.{most_subtasks}
use Rattle.plan_model.specs.net_order.Meaning.{AreBelow, IsRefusedBy}
use Rattle.hddl_bind.proofs.Cycles.{pairs_are_more, pairs_below, no_cycle, cycle_at}
use Rattle.hddl_bind.proofs.cycle.cycle_of.Goals as goal

pub new-requires-clause-below : goal.new-requires-clause-below
new-requires-clause-below c =
    let pairs = c.as_slice-pairs.ensures.items ∙ c.requires.pairs in
    let offsets = c.as_slice-offsets.ensures.items ∙ c.requires.offsets in
    subst (λ n. AreBelow n c.as_slice-pairs.result.now) (sym c.len-count.ensures.length) (pairs_below c.args.net.now c.as_slice-pairs.result.now c.as_slice-offsets.result.now pairs offsets)

pub overflow_sub-chain : goal.overflow_sub-chain
overflow_sub-chain c =
    let pairs = c.as_slice-pairs.ensures.items ∙ c.requires.pairs in
    let offsets = c.as_slice-offsets.ensures.items ∙ c.requires.offsets in
    omega (arith, pairs_are_more c.args.net.now c.as_slice-pairs.result.now c.as_slice-offsets.result.now pairs offsets)

pub overflow_sub-result : goal.overflow_sub-result
overflow_sub-result c =
    let pairs = c.as_slice-pairs.ensures.items ∙ c.requires.pairs in
    let offsets = c.as_slice-offsets.ensures.items ∙ c.requires.offsets in
    let few : length c.args.net.now.subs ≤ most_subtasks = omega (arith, c.len-count.ensures.length) in
    let refused = subst (IsRefusedBy c.as_slice-pairs.result.now) c.in-Err-Cycle.field-0-is c.in-Err-Cycle.ensures.refused in
    (cycle_at c.args.net.now c.as_slice-pairs.result.now c.as_slice-offsets.result.now pairs offsets c.in-Err-Cycle.pair few refused.0).behind

pub returns-in-Ok : goal.returns-in-Ok
returns-in-Ok c =
    let pairs = c.as_slice-pairs.ensures.items ∙ c.requires.pairs in
    let offsets = c.as_slice-offsets.ensures.items ∙ c.requires.offsets in
    record { cycle = no_cycle c.args.net.now c.as_slice-pairs.result.now c.as_slice-offsets.result.now pairs offsets c.in-Ok.ensures.order.acyclic }

pub returns-in-Err-Cycle : goal.returns-in-Err-Cycle
returns-in-Err-Cycle c =
    let pairs = c.as_slice-pairs.ensures.items ∙ c.requires.pairs in
    let offsets = c.as_slice-offsets.ensures.items ∙ c.requires.offsets in
    let few : length c.args.net.now.subs ≤ most_subtasks = omega (arith, c.len-count.ensures.length) in
    let refused = subst (IsRefusedBy c.as_slice-pairs.result.now) c.in-Err-Cycle.field-0-is c.in-Err-Cycle.ensures.refused in
    record { cycle = (cycle_at c.args.net.now c.as_slice-pairs.result.now c.as_slice-offsets.result.now pairs offsets c.in-Err-Cycle.pair few refused.0).cycle }
