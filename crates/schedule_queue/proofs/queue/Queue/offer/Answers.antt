use Rattle.std.proofs.Common.{refl, arith}
use Rattle.schedule_queue.proofs.Lowering.{none_offered, one_offered, all_offered}
use Rattle.schedule_queue.proofs.queue.Queue.offer.Goals as goal

pub loop-address-init : goal.loop-address-init
loop-address-init c = none_offered c.args.given.now.actions.now c.args.given.now.gaps.now c.args.addresses.now c.args.self.now

pub loop-address-preserved : goal.loop-address-preserved
loop-address-preserved c = one_offered c.args.given.now.actions.now c.args.given.now.gaps.now c.args.addresses.now c.args.self.now
    c.loop-address.self c.offer_one.new.self
    c.loop-address.address-index _ refl c.loop-address.invariant c.in_ok-offer_one.ensures

pub returns : goal.returns
returns c = all_offered c.args.given.now.actions.now c.args.given.now.gaps.now c.args.addresses.now c.args.self.now c.loop-address.self
    c.loop-address.address-index (omega arith) c.loop-address.invariant
