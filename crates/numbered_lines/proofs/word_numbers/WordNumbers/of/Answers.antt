use Rattle.std.proofs.Common.{List, take, drop, length, ◌<◌, ◌-◌, ◌^◌, ap, sym, subst, ◌∙◌}
use Rattle.plan_model.specs.declared.types.Object.{Object}
use Rattle.plan_model.specs.declared.schemas.ActionSchema.{ActionSchema}
use Rattle.plan_model.specs.declared.schemas.TaskSchema.{TaskSchema}
use Rattle.plan_model.specs.declared.schemas.MethodPlan.{MethodPlan}
use Rattle.problem_index.specs.Printed.{others}
use Rattle.numbered_lines.proofs.Worded.{few_beside, rest_is, stand}
use Rattle.numbered_lines.proofs.word_numbers.WordNumbers.of.Goals as goal

pub of-requires-3 : goal.of-requires-3
of-requires-3 c = record {
  few = subst (λ (z : List MethodPlan). length (take (length z - 1) (drop 1 z)) < 2 ^ 32) (sym c.as_slice-3.ensures.items)
      (few_beside c.args.c.now c.requires.soundly);
}

pub returns : goal.returns
returns c =
    let h = c.args.c.now.hddl in
    let n = c.len-count.result in
    let count = c.len-count.ensures.length in
    let methods = c.as_slice-3.result.now in
    let is = ap (λ (z : List MethodPlan). take (length z - 1) (drop 1 z)) c.as_slice-3.ensures.items ∙ rest_is c.args.c.now.methods in
    record {
      numbers = record {
        words = c.in_ok-words.ensures.words ∙ c.in_ok-table.ensures.words;
        actions = stand (λ (a : ActionSchema). a.name) n (length h.names) c.as_slice.result.now h.actions
            c.in_ok-actions.actions.by_name.items count c.as_slice.ensures.items c.in_ok-actions.ensures.places;
        tasks = stand (λ (t : TaskSchema). t.name) n (length h.names) c.as_slice-2.result.now h.tasks
            c.in_ok-tasks.tasks.by_name.items count c.as_slice-2.ensures.items c.in_ok-tasks.ensures.places;
        methods = stand (λ (m : MethodPlan). m.schema.name) n (length h.names) (take (length methods - 1) (drop 1 methods))
            (others c.args.c.now.methods) c.in_ok-methods.methods.by_name.items count is c.in_ok-methods.ensures.places;
        objects = stand (λ (o : Object). o.name) n (length h.names) c.as_slice-4.result.now h.objects
            c.in_ok-objects.objects.by_name.items count c.as_slice-4.ensures.items c.in_ok-objects.ensures.places;
      };
    }
