use Rattle.std.proofs.Common.{◌≡◌, ◌<◌, ◌≤◌, ℕ, length, List, Bool, drop, sym, subst, ap, ◌∙◌, arith}
use Rattle.std.proofs.lemmas.List.{take_at}
use Rattle.plan_model.specs.task_networks.Order.{IsLine}
use Rattle.plan_model.specs.net_order.Marks.{Marked}
use Rattle.plan_model.specs.net_order.Line.{IsGreedy, IsClosed}
use Rattle.plan_model.specs.net_order.Closure.{IsClosure}
use Rattle.plan_model.proofs.net_order.Sorting as sorting
use Rattle.plan_model.proofs.net_order.sorted.sorted.Goals as goal

pub first_closing-requires-clause-cyclic : goal.first_closing-requires-clause-cyclic
first_closing-requires-clause-cyclic c =
    let line = c.in_ok-line.line in
    let greedy = subst (λ xs. IsGreedy (Marked xs) (length xs) line) c.as_slice.ensures.value c.in_ok-line.ensures.greedy in
    let short : length c.in_ok-line.line < c.args.count = let e = c.len.ensures in let l = c.if-len-count.true in omega arith in
    sorting.cyclic c.args.count c.args.pairs.now c.in_ok-before.before.items c.in_ok-before.ensures.direct line greedy short

pub close-requires-clause-line : goal.close-requires-clause-line
close-requires-clause-line c =
    let line = c.in_ok-line.line in
    let greedy = subst (λ xs. IsGreedy (Marked xs) (length xs) line) c.as_slice.ensures.value c.in_ok-line.ensures.greedy in
    let enough : c.args.count ≤ length c.in_ok-line.line = let e = c.len.ensures in let l = c.if-len-count.false in omega arith in
    let is = sorting.marked_line c.args.count c.args.pairs.now c.in_ok-before.before.items c.in_ok-before.ensures.direct line greedy enough in
    subst (λ (xs : List ℕ). IsLine (Marked c.deref_mut.result.now) (length c.deref_mut.result.now) xs) (sym c.as_slice-2.ensures.items)
    (subst (λ (ys : List (List Bool)). IsLine (Marked ys) (length ys) line) (sym c.deref_mut.ensures.value) is)

pub returns-clause-closure : goal.returns-clause-closure
returns-clause-closure c =
    let old = c.in_ok-before.before.items in
    let new = c.close.new.before in
    let line = c.in_ok-line.line in
    let greedy = subst (λ xs. IsGreedy (Marked xs) (length xs) line) c.as_slice.ensures.value c.in_ok-line.ensures.greedy in
    let enough : c.args.count ≤ length c.in_ok-line.line = let e = c.len.ensures in let l = c.if-len-count.false in omega arith in
    let closed = subst (λ xs. IsClosed xs new) c.deref_mut.ensures.value c.in_ok-close.ensures.closed in
    let room : length new ≡ c.in_ok-before.before.len = closed.square.sets ∙ (ap length (sym c.deref_mut.ensures.value) ∙ c.deref_mut.ensures.len) in
    let is = sorting.is_closure c.args.count c.args.pairs.now old c.in_ok-before.ensures.direct line greedy enough new closed in
    subst (IsClosure c.args.count c.args.pairs.now) (sym (take_at new (drop (length new) old) c.in_ok-before.before.len room)) is

pub returns-clause-line : goal.returns-clause-line
returns-clause-line c =
    let line = c.in_ok-line.line in
    let greedy = subst (λ xs. IsGreedy (Marked xs) (length xs) line) c.as_slice.ensures.value c.in_ok-line.ensures.greedy in
    let enough : c.args.count ≤ length c.in_ok-line.line = let e = c.len.ensures in let l = c.if-len-count.false in omega arith in
    sorting.is_line c.args.count c.args.pairs.now c.in_ok-before.before.items c.in_ok-before.ensures.direct line greedy enough

pub returns-then-len-count-clause-refused : goal.returns-then-len-count-clause-refused
returns-then-len-count-clause-refused c =
    let line = c.in_ok-line.line in
    let greedy = subst (λ xs. IsGreedy (Marked xs) (length xs) line) c.as_slice.ensures.value c.in_ok-line.ensures.greedy in
    let short : length c.in_ok-line.line < c.args.count = let e = c.len.ensures in let l = c.if-len-count.true in omega arith in
    (c.in_ok-pair.ensures.first, sorting.cyclic c.args.count c.args.pairs.now c.in_ok-before.before.items c.in_ok-before.ensures.direct line greedy short)
