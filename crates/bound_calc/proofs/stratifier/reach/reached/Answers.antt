use Rattle.std.proofs.Common.{◌≡◌, ◌+◌, ◌↔◌, [], Bool, Vec, Global, length, get_or, Contains, refl, sym, ap, subst, ◌∙◌, arith}
use Rattle.std.proofs.lemmas.List.{get_or_read, nil_from_length}
use Rattle.std.proofs.lemmas.List.Elements.{Contains-get_or}
use Rattle.bound_calc.specs.declared.stratifier.reach.Walk.{Walk}
use Rattle.bound_calc.specs.stratifier.Links.{IsMethodOf, IsSubtaskOf}
use Rattle.bound_calc.specs.stratifier.Entered.{AreEntered, AreReachedMarks}
use Rattle.bound_calc.proofs.stratifier.Walks.{walked_first, walked_on, walked_all, work_within, next_within, place_within}
use Rattle.bound_calc.proofs.stratifier.reach.reached.Goals as goal

pub loop-task-init : goal.loop-task-init
loop-task-init c =
    let top = c.len-top.ensures.length in
    walked_first c.args.c.now c.in_ok-walk.walk c.enter.new.self (c.in_ok-walk.ensures.room ∙ ap (λ n. n + 1) top) c.in_ok-walk.ensures.empty c.in_ok-walk.ensures.nothing
    (subst (λ n. AreEntered (λ t. t ≡ n) c.in_ok-walk.walk c.enter.new.self) top c.in_ok-enter.ensures.entered)

pub index-requires : goal.index-requires
index-requires c =
    let l = work_within c.args.c.now _ _ _ c.in-Some.task c.loop-task.invariant c.in-Some.ensures.items in
    let top = c.len-top.ensures.length in
    let r = c.in_ok-by_task.ensures.room in
    let v = c.in_ok-by_task.by_task.ok.0 in
    omega arith

pub enter_next-requires-clause-places : goal.enter_next-requires-clause-places
enter_next-requires-clause-places c k d l =
    let w = work_within c.args.c.now _ _ _ c.in-Some.task c.loop-task.invariant c.in-Some.ensures.items in
    let top = c.len-top.ensures.length in
    let r = c.in_ok-by_task.ensures.room in
    let row = c.as_slice.ensures.items ∙ get_or_read c.in_ok-by_task.by_task.items c.in-Some.task c.index.result.now (omega arith) c.index.ensures [] in
    let m = get_or c.as_slice.result.now k d in
    place_within _ c.in-Some.task m ((c.in_ok-by_task.ensures.methods c.in-Some.task m).0 (subst (λ s. Contains s m) row (Contains-get_or c.as_slice.result.now k d l)))

pub enter_next-requires-clause-tasks : goal.enter_next-requires-clause-tasks
enter_next-requires-clause-tasks c t s =
    let n = next_within c.args.c.now c.requires.small _ c.as_slice.result.now c.as_slice-methods.ensures.items t s in
    let r = c.loop-task.invariant.room in
    omega arith

pub loop-task-preserved : goal.loop-task-preserved
loop-task-preserved c =
    let w = work_within c.args.c.now _ _ _ c.in-Some.task c.loop-task.invariant c.in-Some.ensures.items in
    let top = c.len-top.ensures.length in
    let r = c.in_ok-by_task.ensures.room in
    let row = c.as_slice.ensures.items ∙ get_or_read c.in_ok-by_task.by_task.items c.in-Some.task c.index.result.now (omega arith) c.index.ensures [] in
    let methods = c.as_slice-methods.ensures.items in
    let old : Walk = record { marks = c.loop-task.walk.marks; work = c.pop.new.self } in
    walked_on c.args.c.now c.loop-task.walk.marks.items c.loop-task.walk.work.items c.in-Some.task old c.enter_next.new.self c.as_slice.result.now c.loop-task.invariant c.in-Some.ensures.items refl
    (λ m. subst (λ s. Contains s m ↔ IsMethodOf c.args.c.now.methods c.in-Some.task m) (sym row) (subst (λ ms. Contains (get_or c.in_ok-by_task.by_task.items c.in-Some.task []) m ↔ IsMethodOf ms c.in-Some.task m) methods (c.in_ok-by_task.ensures.methods c.in-Some.task m)))
    (subst (λ ms. AreEntered (IsSubtaskOf ms c.as_slice.result.now) old c.enter_next.new.self) methods c.in_ok-enter_next.ensures.entered)

pub returns : goal.returns
returns c =
    let none : c.loop-task.walk.work.items ≡ [] = nil_from_length c.loop-task.walk.work.items (let a = c.loop-task.walk.work.ok.0 in let z = c.in_default.ensures.cases.0 in omega arith) in
    let marks : c.into_marks.result.items ≡ c.loop-task.walk.marks.items = ap (λ (v : Vec Bool Global). v.items) c.into_marks.ensures in
    record {
      room = ap length marks ∙ c.loop-task.invariant.room;
      reached = subst (AreReachedMarks c.args.c.now) (sym marks) (walked_all c.args.c.now c.loop-task.walk.marks.items c.loop-task.walk.work.items none c.loop-task.invariant);
    }
