use Rattle.std.proofs.Common.{◌≡◌, List, ◌++◌, map, ap, ◌∙◌, arith}
use Rattle.std.proofs.lemmas.Grind.{common_steps}
use Rattle.std.proofs.lemmas.List.{take_all}
use Rattle.plan_model.specs.declared.schemas.Predicate.{Predicate}
use Rattle.plan_model.specs.declared.schemas.TaskSchema.{TaskSchema}
use Rattle.slot_encoding.specs.slot_declarations.Made as made
use Rattle.slot_encoding.proofs.slot_declarations.Appended.{append_two, map_next}
use Rattle.slot_encoding.proofs.slot_declarations.predicates.push_front.Goals as goal

pub loop-predicate-preserved : goal.loop-predicate-preserved
loop-predicate-preserved c =
    let f = c.args.frame.now in
    let x = c.predicate-item.result in
    let params = c.in_ok-source_params.ensures ∙ ap (map (made.param f)) c.as_slice.ensures.items in
    map_next (made.predicate f) c.as_slice-predicates.result.now c.loop-predicate.predicate-index x c.args.into.now c.loop-predicate.into c.push.new.self _ c.loop-predicate-test.true c.loop-predicate.invariant
    ((λ j. record { name = c.renamed.ensures j; params = params j }) ∙ ap (made.predicate f) c.predicate-item.is) c.in_ok-push.ensures.pushed

pub loop-task-preserved : goal.loop-task-preserved
loop-task-preserved c = grind (arith, common_steps)

pub returns : goal.returns
returns c =
    let f = c.args.frame.now in
    let s = f.compiled.now.hddl in
    let source : c.loop-predicate.into ≡ c.args.into.now ++ map (made.predicate f) s.predicates =
    c.loop-predicate.invariant ∙ ap (λ (xs : List Predicate). c.args.into.now ++ map (made.predicate f) xs) (take_all c.loop-predicate.predicate-index c.as_slice-predicates.result.now c.loop-predicate-test.false ∙ c.as_slice-predicates.ensures.items) in
    let slots : c.put-3.new.self ≡ c.loop-predicate.into ++ made.slot_predicates f = grind (arith, common_steps) in
    let held : c.loop-task.into ≡ c.put-3.new.self ++ map (made.task_held f) s.tasks =
    c.loop-task.invariant ∙ ap (λ (xs : List TaskSchema). c.put-3.new.self ++ map (made.task_held f) xs) (take_all c.loop-task.task-index c.as_slice-tasks.result.now c.loop-task-test.false ∙ c.as_slice-tasks.ensures.items) in
    append_two c.args.into.now c.loop-predicate.into c.loop-task.into (map (made.predicate f) s.predicates) (made.slot_predicates f ++ map (made.task_held f) s.tasks) source
    (append_two c.loop-predicate.into c.put-3.new.self c.loop-task.into (made.slot_predicates f) (map (made.task_held f) s.tasks) slots held)
