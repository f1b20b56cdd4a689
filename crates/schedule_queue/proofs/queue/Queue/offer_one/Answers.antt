use Rattle.schedule_queue.proofs.Waiting.{offered_one}
use Rattle.schedule_queue.proofs.queue.Queue.offer_one.Goals as goal

pub returns-in_ok-insert : goal.returns-in_ok-insert
returns-in_ok-insert c = offered_one c.args.given.now.actions.now c.args.given.now.gaps.now c.args.address c.in-Some.gap c.blocked.result
    c.waits_in.result c.args.self.now c.insert.new.self
    c.blocked.ensures c.if-blocked-eq0.true c.waits_in.ensures c.in-Some.is c.in_ok-insert.ensures.updates.0
