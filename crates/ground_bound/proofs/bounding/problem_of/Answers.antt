use Rattle.std.proofs.Common.{◌+◌, ◌≤◌, List, map, length, ap, sym, subst, Contains, arith}
use Rattle.reached_parts.specs.HowMany.{most_reached}
use Rattle.ground_bound.specs.Grounded.{HaveListedTasks, IsGrounded}
use Rattle.ground_bound.specs.MethodRows.{row}
use Rattle.ground_bound.specs.declared.in_order.MethodRow.{MethodRow}
use Rattle.ground_bound.proofs.ReachedRows.{have_listed_tasks, rows_few}
use Rattle.ground_bound.proofs.bounding.problem_of.Goals as goal

pub grounded-requires-clause-few : goal.grounded-requires-clause-few
grounded-requires-clause-few c =
    let found = c.args.found in
    let few : length found.tasks + length found.methods ≤ most_reached = rows_few c.args.c.now c.requires.soundly found.tasks found.actions found.methods c.requires.reached.the most_reached c.requires.reached.most in
    let same = ap length c.into_tasks-tasks.ensures.tasks in
    omega arith

pub grounded-requires-clause-listed : goal.grounded-requires-clause-listed
grounded-requires-clause-listed c = λ r k.
    let found = c.args.found in
    let order = c.in_ok-methods.ensures.order c.args.c.now found.tasks found.actions c.requires.soundly c.requires.reached.the in
    let i = subst (λ (ms : List MethodRow). Contains (map row ms) r) c.as_slice.ensures.value k in
    subst (λ ts. HaveListedTasks c.args.c.now ts found.methods) (sym c.into_tasks-tasks.ensures.tasks)
    (have_listed_tasks c.args.c.now c.requires.soundly found.tasks found.actions found.methods c.requires.reached.the) r ((order.same r).0 i)

pub returns : goal.returns
returns c =
    let found = c.args.found in
    record {
      problem = record {
        tasks = found.tasks;
        actions = found.actions;
        rows = found.methods;
        the = c.requires.reached.the;
        most = c.requires.reached.most;
        first = c.requires.reached.top;
        order = c.in_ok-methods.ensures.order c.args.c.now found.tasks found.actions c.requires.soundly c.requires.reached.the;
        grounded = subst (λ ts. IsGrounded c.args.c.now ts (map row c.in_ok-methods.methods.items) c.in_ok-value.value) c.into_tasks-tasks.ensures.tasks (subst (λ (ms : List MethodRow). IsGrounded c.args.c.now c.into_tasks-tasks.result (map row ms) c.in_ok-value.value) c.as_slice.ensures.value c.in_ok-value.ensures.grounded);
      };
    }
