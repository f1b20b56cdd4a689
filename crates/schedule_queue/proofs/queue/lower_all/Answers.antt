use Rattle.std.proofs.Common.{arith}
use Rattle.schedule_queue.proofs.Lowering.{none_lowered, one_lowered, all_lowered}
use Rattle.schedule_queue.proofs.queue.lower_all.Goals as goal

pub loop-address-init : goal.loop-address-init
loop-address-init c = λ d. none_lowered c.args.addresses.now c.args.counts.now.items

pub loop-address-preserved : goal.loop-address-preserved
loop-address-preserved c = λ d.
    one_lowered c.args.addresses.now c.args.counts.now.items c.loop-address.counts.items c.lower.new.counts.items
    c.loop-address.address-index d c.loop-address-test.true
    (c.loop-address.invariant d) c.lower.ensures.here c.lower.ensures.others

pub returns : goal.returns
returns c = λ d. all_lowered c.args.addresses.now c.args.counts.now.items c.loop-address.counts.items c.loop-address.address-index
    (omega arith) (c.loop-address.invariant d)
