use Rattle.std.proofs.Common.{refl, ap, arith}
use Rattle.schedule_queue.proofs.Waiting.{out_of, all_later, one_first}
use Rattle.schedule_queue.proofs.queue.Queue.pop.Goals as goal

pub returns-then-gap-self : goal.returns-then-gap-self
returns-then-gap-self c = (all_later c.in_ok-gap.field-0.now c.args.self.now c.if-gap-self.true c.in_ok-gap.ensures.least, refl)

pub returns : goal.returns
returns c =
    let e = ap (λ z. z.0) (one_first c.args.self.now.waiting.keys c.pop_first.new.self.keys c.in_ok-gap.field-0.now _
    c.in_ok-gap.ensures.first c.in_ok-address.ensures.removal) in
    let l = c.if-gap-self.false in
    out_of c.in_ok-address.address c.in_ok-address.field-0-0 c.args.self.now c.pop_first.new.self c.in_ok-address.ensures.member
    (omega arith)
    c.in_ok-address.ensures.least c.in_ok-address.ensures.updates.0
