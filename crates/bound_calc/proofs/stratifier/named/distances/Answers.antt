use Rattle.std.proofs.Common.{◌+◌, ◌<◌, All, length, refl, sym, ap, subst, arith}
use Rattle.std.proofs.lemmas.List.{nil_from_length}
use Rattle.std.proofs.lemmas.Grind.{common_steps}
use Rattle.bound_calc.specs.stratifier.NamedSearch.{AreFound, IsSourceOf}
use Rattle.bound_calc.proofs.stratifier.NamedDistances.{not_empty, is_empty, searched_first, searched_on, searched_all, tasks_within, sources_within}
use Rattle.bound_calc.proofs.stratifier.named.distances.Goals as goal

pub loop-alloc-init : goal.loop-alloc-init
loop-alloc-init c = searched_first c.args.ends.now c.args.goal c.args.count c.in_ok-found.found.items _ c.in_ok-tasks.tasks.items c.requires.goal c.in_ok-found.ensures.room c.in_ok-found.ensures.empty refl c.in_ok-tasks.ensures.items

pub next_tasks-requires-clause-tasks : goal.next_tasks-requires-clause-tasks
next_tasks-requires-clause-tasks c k d l =
    let w = tasks_within c.args.ends.now c.args.goal c.args.count c.loop-alloc.found.items c.loop-alloc.tasks.items c.loop-alloc.distance c.loop-alloc.invariant in
    let s = ap length c.as_slice.ensures.value in
    let r = c.in_ok-sources.ensures.room in
    let m = subst (All (λ t. t < c.args.count)) (sym c.as_slice-in-loop-alloc.ensures.value) w k d l in
    omega arith

pub next_tasks-requires-clause-sources : goal.next_tasks-requires-clause-sources
next_tasks-requires-clause-sources c =
    subst (All (All (λ t. t < length c.loop-alloc.found.items))) (sym c.as_slice.ensures.value)
    (subst (λ n. All (All (λ t. t < n)) c.in_ok-sources.sources.items) (sym c.loop-alloc.invariant.room) (sources_within c.args.count c.args.ends.now c.in_ok-sources.sources.items c.requires.within c.in_ok-sources.ensures.sources))

pub loop-alloc-preserved : goal.loop-alloc-preserved
loop-alloc-preserved c =
    let sources = c.in_ok-sources.sources.items in
    let tasks = c.loop-alloc.tasks.items in
    let distance = c.loop-alloc.distance in
    let found = subst (λ s. AreFound (IsSourceOf s tasks) (distance + 1) c.loop-alloc.found.items c.next_tasks.new.found.items c.in_ok-tasks-2.tasks.items) c.as_slice.ensures.value
    (subst (λ s. AreFound (IsSourceOf c.as_slice.result.now s) (distance + 1) c.loop-alloc.found.items c.next_tasks.new.found.items c.in_ok-tasks-2.tasks.items) c.as_slice-in-loop-alloc.ensures.value c.in_ok-tasks-2.ensures.found) in
    searched_on c.args.ends.now c.args.goal c.args.count c.loop-alloc.found.items c.next_tasks.new.found.items tasks c.in_ok-tasks-2.tasks.items distance (distance + 1) sources (omega arith) (let l = not_empty _ c.loop-alloc-test.ensures in let v = c.loop-alloc.tasks.ok.0 in omega arith) c.in_ok-sources.ensures.sources c.loop-alloc.invariant found

pub returns-clause-distances : goal.returns-clause-distances
returns-clause-distances c = searched_all c.args.ends.now c.args.goal c.args.count c.loop-alloc.found.items c.loop-alloc.tasks.items c.loop-alloc.distance (nil_from_length c.loop-alloc.tasks.items (let e = is_empty _ c.loop-alloc-test.ensures in let v = c.loop-alloc.tasks.ok.0 in omega arith)) c.loop-alloc.invariant

pub sources_by_task-requires : goal.sources_by_task-requires
sources_by_task-requires c = grind (arith, common_steps)

pub index_mut-requires : goal.index_mut-requires
index_mut-requires c = grind (arith, common_steps)

pub vec-requires : goal.vec-requires
vec-requires c = grind (arith, common_steps)

pub overflow_add-distance : goal.overflow_add-distance
overflow_add-distance c = grind (arith, common_steps)

pub loop-alloc-smaller : goal.loop-alloc-smaller
loop-alloc-smaller c = grind (arith, common_steps)

pub returns-clause-room : goal.returns-clause-room
returns-clause-room c = grind (arith, common_steps)
