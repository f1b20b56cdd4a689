use Rattle.std.proofs.Common.{◌≡◌, [], length, get_or, Contains, refl, ap, subst, ◌∙◌, arith}
use Rattle.std.proofs.lemmas.List.{get_or_default, length-append, nil_from_length}
use Rattle.std.proofs.lemmas.List.Elements.{Contains-get_or}
use Rattle.bound_calc.specs.declared.stratifier.reach.Walk.{Walk}
use Rattle.bound_calc.proofs.stratifier.Grouped.{on_the_way_first, on_the_way_next, on_the_way_last, ended, work_below}
use Rattle.bound_calc.proofs.stratifier.groups.Groups.number.Goals as goal

pub loop-task-init : goal.loop-task-init
loop-task-init c = on_the_way_first c.args.rows.now c.args.root c.args.number c.args.self.now c.requires.ready _ refl c.in_ok-enter.ensures.entered

pub index_mut-requires : goal.index_mut-requires
index_mut-requires c =
    let l = work_below c.args.rows.now c.args.root c.args.number c.args.self.now c.loop-task.self _ c.in-Some.task c.loop-task.invariant c.in-Some.ensures.items in
    let r = c.loop-task.invariant.numbers in
    let v = c.loop-task.self.numbers.ok.0 in
    omega arith

pub bounds-rows-task : goal.bounds-rows-task
bounds-rows-task c = work_below c.args.rows.now c.args.root c.args.number c.args.self.now c.loop-task.self _ c.in-Some.task c.loop-task.invariant c.in-Some.ensures.items

pub enter_all-requires : goal.enter_all-requires
enter_all-requires c k d b =
    let l = work_below c.args.rows.now c.args.root c.args.number c.args.self.now c.loop-task.self _ c.in-Some.task c.loop-task.invariant c.in-Some.ensures.items in
    let row = c.as_slice.ensures.items ∙ (c.index-rows-task.is ∙ get_or_default c.args.rows.now c.in-Some.task c.index-rows-task.result [] l) in
    let w = c.requires.within c.in-Some.task (get_or c.as_slice.result.now k d) (subst (λ s. Contains s (get_or c.as_slice.result.now k d)) row (Contains-get_or c.as_slice.result.now k d b)) in
    let r = c.loop-task.invariant.marks in
    omega arith

pub loop-task-preserved : goal.loop-task-preserved
loop-task-preserved c =
    let l = work_below c.args.rows.now c.args.root c.args.number c.args.self.now c.loop-task.self _ c.in-Some.task c.loop-task.invariant c.in-Some.ensures.items in
    let row = c.as_slice.ensures.items ∙ (c.index-rows-task.is ∙ get_or_default c.args.rows.now c.in-Some.task c.index-rows-task.result [] l) in
    let mid : Walk = record { marks = c.loop-task.self.walk.marks; work = c.pop.new.self } in
    on_the_way_next c.args.rows.now c.args.root c.args.number c.args.self.now c.loop-task.self c.in-Some.task mid _ c.as_slice.result.now c.loop-task.invariant c.in-Some.ensures.items refl refl row c.in_ok-enter_all.ensures.entered

pub returns : goal.returns
returns c =
    let now = c.loop-task.self in
    let none : now.walk.work.items ≡ [] = nil_from_length now.walk.work.items (let a = now.walk.work.ok.0 in let z = c.in_default.ensures.cases.0 in omega arith) in
    let end : Walk = record { marks = now.walk.marks; work = c.pop.new.self } in
    record { numbered = ended c.args.rows.now c.args.root c.args.number c.args.self.now now end refl (nil_from_length c.pop.new.self.items (let a = now.walk.work.ok.0 in let z = c.in_default.ensures.cases.0 in let i = ap length c.in_default.ensures.items in let j = length-append c.pop.new.self.items [] in omega arith)) (on_the_way_last c.args.rows.now c.args.root c.args.number c.args.self.now c.requires.ready now none c.loop-task.invariant) }
