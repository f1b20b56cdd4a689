use Rattle.std.proofs.Common.{inl, sym, ◌∙◌, arith}
use Rattle.plan_model.proofs.net_order.Fronts.{least_free, none_free}
use Rattle.plan_model.proofs.net_order.Lines.{line_none, none_ready, line_more}
use Rattle.plan_model.proofs.net_order.line.line_of.Goals as goal

pub loop-init : goal.loop-init
loop-init c = record {
  so_far = line_none c.args.before.now c.in_ok-front.front.listed c.new-line.result c.in_ok-front.ensures.front.listed_room c.in_ok-front.ensures.none c.new-line.ensures.empty;
  front = c.in_ok-front.ensures.front;
}

pub next-requires : goal.next-requires
next-requires c = c.loop.invariant.front.listed_room ∙ sym c.loop.invariant.front.ready_room

pub overflow_cast-child : goal.overflow_cast-child
overflow_cast-child c = let l = c.in-Some.ensures.least.child in let r = c.loop.invariant.front.ready_room in let s = c.requires.small in omega arith

pub list-requires-clause-child : goal.list-requires-clause-child
list-requires-clause-child c = let l = c.in-Some.ensures.least.child in let r = c.loop.invariant.front.ready_room in omega arith

pub list-requires-clause-front : goal.list-requires-clause-front
list-requires-clause-front c = c.loop.invariant.front

pub returns-in-None : goal.returns-in-None
returns-in-None c = record {
  greedy = none_ready c.args.before.now c.loop.front.listed c.loop.line c.loop.counter c.loop.invariant.so_far
      (none_free c.args.before.now c.loop.front.listed c.loop.front.ready c.loop.front.waiting.items c.loop.invariant.front c.in-None.ensures.least);
}

pub loop-preserved : goal.loop-preserved
loop-preserved c =
    let next = least_free c.args.before.now c.loop.front.listed c.loop.front.ready c.loop.front.waiting.items c.loop.invariant.front c.in-Some.child c.in-Some.ensures.least in
    record {
      so_far = rw (c.in_ok-list-in-Some.ensures.listed, c.in_ok-push-in-Some.ensures.pushed) (line_more c.args.before.now c.loop.front.listed c.loop.line c.loop.counter c.loop.invariant.so_far c.in-Some.child next);
      front = c.in_ok-list-in-Some.ensures.front;
    }

pub returns : goal.returns
returns c = record {
  greedy = record { each = c.loop.invariant.so_far.each; ended = inl (let p = c.loop.invariant.so_far.places in let t = c.loop-test.false in let a = c.loop.auto.counter-end in omega arith) };
}
