use Rattle.std.proofs.Common.{[], arith}
use Rattle.plan_text.proofs.Counted.{one-more, at-its-end, never}
use Rattle.plan_text.proofs.coming.count.Goals as goal

pub loop-words-preserved : goal.loop-words-preserved
loop-words-preserved c =
    let n = c.in_ok-behind.ensures.next in
    one-more c.args.text.now c.loop-words.at c.loop-words.count c.in-Step.behind _ c.loop-words.invariant (rw c.in-Step.is at n)

pub returns-in-End : goal.returns-in-End
returns-in-End c =
    let n = c.in_ok-behind.ensures.next in
    let e = rw c.in-End.is at n in
    let w = c.loop-words.invariant.whole [] (at-its-end c.args.text.now c.loop-words.at e.0 e.1) in
    let l = w.2 in
    record { count = (w.0, w.1, omega (arith, l)) }

pub returns-in-Other : goal.returns-in-Other
returns-in-Other c =
    let n = c.in_ok-behind.ensures.next in
    let e = rw c.in-Other.is at n in
    record { count = λ steps f. (let m = c.loop-words.invariant.rest steps f in never c.args.text.now c.loop-words.at m.0 e m.1) }
