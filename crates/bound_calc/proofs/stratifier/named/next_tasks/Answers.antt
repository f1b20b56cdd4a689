use Rattle.std.proofs.Common.{◌≡◌, ◌<◌, [], get_or, take, sym, ap, subst, ◌∙◌, arith}
use Rattle.std.proofs.Common.{ℕ, ◌+◌, List, not, length, None, take_all}
use Rattle.std.proofs.lemmas.List.{get_or_read}
use Rattle.std.proofs.lemmas.Option.{slice_get-get_or, get_or_from_slice_get}
use Rattle.std.proofs.lemmas.Grind.{common_steps}
use Rattle.bound_calc.proofs.stratifier.NamedSteps.{no_option, an_option}
use Rattle.bound_calc.specs.stratifier.NamedSearch.{AreFound}
use Rattle.bound_calc.proofs.stratifier.NamedDistances.{IsSourceUpTo, found_none, found_as, found_before, found_one, no_source, source_first, source_next, source_row}
use Rattle.bound_calc.proofs.stratifier.named.next_tasks.Goals as goal
use Rattle.bound_calc.proofs.stratifier.named.next_tasks.Goals.{then-is_none+in_ok-push, else-is_none}

row_is : (sources : List (List ℕ)) (t : ℕ) (row read : List ℕ) → t < length sources → row ≡ read → read ≡ get_or sources t read → row ≡ get_or sources t []
row_is sources t row read l e f = e ∙ get_or_read sources t read l f []

pub loop-task-init : goal.loop-task-init
loop-task-init c = found_none _ c.args.distance c.args.found.now.items _ (no_source c.args.sources.now c.args.tasks.now) c.new-next.ensures.items

pub loop-source-init : goal.loop-source-init
loop-source-init c = found_as (source_first c.args.sources.now c.args.tasks.now c.loop-task.task-index c.as_slice-source-items.result.now) c.args.distance c.args.found.now.items c.loop-task.found.items c.loop-task.next.items c.loop-task.invariant

pub loop-source-preserved : goal.loop-source-preserved
loop-source-preserved c =
    let sources = c.args.sources.now in
    let tasks = c.args.tasks.now in
    let i = c.loop-task.task-index in
    let j = c.loop-source.source-index in
    let row = c.as_slice-source-items.result.now in
    let u = get_or row j 0 in
    let l = c.loop-source-test.true in
    let parts = source_next sources tasks i row j u (sym (get_or_from_slice_get row j u u (slice_get-get_or row j 0 l))) l in
    let found = c.loop-source.found.items in
    let next = c.loop-source.next.items in
    let old = c.args.found.now.items in
    let h = c.loop-source.invariant in
    let t = get_or tasks i 0 in
    let there = c.requires.tasks i 0 c.loop-task-test.true in
    let same = row_is c.args.sources.now t row c.index-sources-task.result there c.as_slice-source-items.ensures.items c.index-sources-task.is in
    let within : u < length found = (let r = h.room in let b = subst (λ s. j < length s → get_or s j 0 < length old) (sym same) (c.requires.sources t [] there j 0) l in omega arith) in
    let read = get_or_read found u c.index.result.now within c.index.ensures None in
    elim c.if-is_none.branch [
      | then-is_none+in_ok-push w ↦ found_one u parts c.args.distance old found next h _ _ within (sym read ∙ no_option c.index.result.now (c.is_none.ensures ∙ ap not w.if-is_none.true)) (ap (λ v. v.items) w.found-is) (ap (λ v. v.items) w.next-is ∙ w.in_ok-push.ensures.items)
      | else-is_none w ↦ subst (λ v. AreFound (IsSourceUpTo sources tasks i row (j + 1)) c.args.distance old v.items c.if-is_none.next.items) (sym w.found-is) (subst (λ v. AreFound (IsSourceUpTo sources tasks i row (j + 1)) c.args.distance old found v.items) (sym w.next-is) (found_before u parts c.args.distance old found next h (let (x, e) = an_option c.index.result.now (c.is_none.ensures ∙ ap not w.if-is_none.false) in (x, sym read ∙ e))))
    ]

pub loop-task-preserved : goal.loop-task-preserved
loop-task-preserved c =
    let sources = c.args.sources.now in
    let tasks = c.args.tasks.now in
    let i = c.loop-task.task-index in
    let row = c.as_slice-source-items.result.now in
    let t = get_or tasks i 0 in
    let l = c.loop-task-test.true in
    let same = row_is sources t row c.index-sources-task.result (c.requires.tasks i 0 l) c.as_slice-source-items.ensures.items c.index-sources-task.is in
    found_as (source_row sources tasks i t row (take c.loop-source.source-index row) (sym (get_or_from_slice_get tasks i t t (slice_get-get_or tasks i 0 l))) l same (take_all c.loop-source.source-index row c.loop-source-test.false))
    c.args.distance c.args.found.now.items c.loop-source.found.items c.loop-source.next.items c.loop-source.invariant

pub bounds-sources-task : goal.bounds-sources-task
bounds-sources-task c = grind (arith, common_steps)

pub index-requires : goal.index-requires
index-requires c = grind (arith, common_steps)

pub index_mut-requires : goal.index_mut-requires
index_mut-requires c = grind (arith, common_steps)

pub returns : goal.returns
returns c = grind (arith, common_steps)

pub offset_bounds-tasks-task-index : goal.offset_bounds-tasks-task-index
offset_bounds-tasks-task-index c = grind (arith, common_steps)

pub offset_bounds-sources-task : goal.offset_bounds-sources-task
offset_bounds-sources-task c = grind (arith, common_steps)

pub offset_bounds-source-items-source-index : goal.offset_bounds-source-items-source-index
offset_bounds-source-items-source-index c = grind (arith, common_steps)
