use Rattle.std.proofs.Common.{◌≡◌, ◌∙◌, ◌+◌, ◌<◌, false, length, replicate, sym, ap, subst, arith}
use Rattle.std.proofs.lemmas.List.{length-replicate}
use Rattle.hplan_text.specs.Marks.{among, has}
use Rattle.hplan_text.specs.Walks.{Visits}
use Rattle.hplan_text.proofs.Marked.{is-known, none-marked, written}
use Rattle.hplan_text.proofs.Walked.{IsOnTheWay, at-first, smaller, way-next, at-last, empty-list, rest}
use Rattle.hplan_text.proofs.reaching.reached.Goals as goal

pub loop-id-init : goal.loop-id-init
loop-id-init c =
    let plan = c.args.plan.now in
    let ids = c.args.ids.now in
    let marks = c.in_ok-reached.reached.items in
    let e : marks ≡ replicate (length ids) false = c.in_ok-reached.ensures.items_if_clones_equal (λ y h. h) in
    record {
      sized = ap length e ∙ length-replicate (length ids) false;
      way = subst (λ z. IsOnTheWay plan (among ids) (has ids marks) z) (sym (c.in_ok-todo.ensures.items ∙ c.as_slice-2.ensures.items)) (at-first plan (among ids) (has ids marks) (λ n. ap (λ z. has ids z n) e ∙ none-marked ids n (length ids)));
    }

pub loop-id-smaller : goal.loop-id-smaller
loop-id-smaller c =
    let plan = c.args.plan.now in
    let ids = c.args.ids.now in
    let old = c.loop-id.reached.items in
    let lent : c.deref_mut.result.now ≡ old = c.deref_mut.ensures.value in
    let new = written c.loop-id.reached.len c.visit.new.reached old (c.visit.auto.reached ∙ ap length lent) c.loop-id.reached.ok.0 in
    let v = subst (λ z. Visits plan (among ids) c.in-Some.id (has ids z) c.pop.new.self.items (has ids c.visit.new.reached) c.visit.new.todo.items) lent c.in_ok-visit.ensures.visited in
    subst (λ z. length c.visit.new.todo.items + rest (has ids z) plan.nodes < length c.loop-id.todo.items + rest (has ids old) plan.nodes) (sym new)
    (smaller plan (among ids) c.in-Some.id (has ids old) (has ids c.visit.new.reached) c.loop-id.todo.items c.pop.new.self.items c.visit.new.todo.items c.requires.owned (λ n. is-known n ids old) (λ n. is-known n ids c.visit.new.reached) c.in-Some.ensures.items v)

pub loop-id-preserved : goal.loop-id-preserved
loop-id-preserved c =
    let plan = c.args.plan.now in
    let ids = c.args.ids.now in
    let old = c.loop-id.reached.items in
    let lent : c.deref_mut.result.now ≡ old = c.deref_mut.ensures.value in
    let size = c.visit.auto.reached ∙ ap length lent in
    let new = written c.loop-id.reached.len c.visit.new.reached old size c.loop-id.reached.ok.0 in
    let v = subst (λ z. Visits plan (among ids) c.in-Some.id (has ids z) c.pop.new.self.items (has ids c.visit.new.reached) c.visit.new.todo.items) lent c.in_ok-visit.ensures.visited in
    record {
      sized = ap length new ∙ size ∙ c.loop-id.invariant.sized;
      way = subst (λ z. IsOnTheWay plan (among ids) (has ids z) c.visit.new.todo.items) (sym new)
          (way-next plan (among ids) c.in-Some.id (has ids old) (has ids c.visit.new.reached) c.loop-id.todo.items c.pop.new.self.items c.visit.new.todo.items (λ n. is-known n ids old) (λ n. is-known n ids c.visit.new.reached) c.requires.once c.in-Some.ensures.items v c.loop-id.invariant.way);
    }

pub returns-clause-reached : goal.returns-clause-reached
returns-clause-reached c =
    let k = c.in_default.ensures.cases in
    let e : length c.loop-id.todo.items ≡ 0 = omega (arith, k) in
    at-last c.args.plan.now (among c.args.ids.now) (has c.args.ids.now c.loop-id.reached.items) c.requires.owned (subst (λ z. IsOnTheWay c.args.plan.now (among c.args.ids.now) (has c.args.ids.now c.loop-id.reached.items) z) (empty-list c.loop-id.todo.items e) c.loop-id.invariant.way)
