use Rattle.std.proofs.Common.{◌≡◌, ap, arith}
use Rattle.order_encoder.proofs.NextSlot.{push_next}
use Rattle.order_encoder.specs.OrderFormulas.{OrderNumbers}
use Rattle.stack_encoder.proofs.CellFacts.{up_fact, up-at, cells-put}
use Rattle.stack_encoder.proofs.initial.push_cells.Goals as goal

pub loop-k-preserved : goal.loop-k-preserved
loop-k-preserved c =
    let f = c.args.frame.now in
    let v = f.basis.now in
    push_next (up_fact f) 0 c.loop-k.k c.push-2.new.self c.loop-k.into c.push-in-loop-k.new.self _ c.loop-k.invariant (up-at f v.numbers.before v.order.first_slot c.loop-k.k c.requires.numbers.before (ap (λ (o : OrderNumbers). o.first_slot) c.requires.order)) c.in_ok-push-3.ensures.pushed

pub returns : goal.returns
returns c =
    let f = c.args.frame.now in
    let v = f.basis.now in
    let all : c.loop-k.k ≡ f.slots = omega arith in
    cells-put f v.numbers.top v.numbers.free v.order.first_slot c.in_ok-first.first c.loop-k.k c.args.into.now c.push.new.self c.push-2.new.self c.loop-k.into
    c.requires.numbers.top c.requires.numbers.free (ap (λ (o : OrderNumbers). o.first_slot) c.requires.order) c.in_ok-first.ensures c.in_ok-push.ensures.pushed c.in_ok-push-2.ensures.pushed c.loop-k.invariant all
