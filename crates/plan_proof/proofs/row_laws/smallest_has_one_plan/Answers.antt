use Rattle.plan_proof.proofs.examples.RowPlans.{smallest_row}
use Rattle.plan_proof.proofs.texts.PrintedPlans.{printed-plans}
use Rattle.plan_proof.proofs.values.Headlines.{printed_too}
use Rattle.plan_proof.specs.Problems.{smallest}
use Rattle.plan_proof.proofs.rows.SmallestPlan.{smallest_compiled, only_plan}
use Rattle.plan_proof.proofs.row_laws.smallest_has_one_plan.Goals as goal

pub returns-clause-plan : goal.returns-clause-plan
returns-clause-plan c =
    only_plan c.args.checks.now c.args.slots c.args.style.now c.args.value.now
    (printed_too c.args.domain.now c.args.problem.now c.args.read.now smallest c.args.checks.now c.args.compiled.now smallest_compiled c.args.slots c.args.style.now c.args.value.now c.requires.spelled c.requires.smallest c.requires.printed (smallest_row c.args.checks.now).compiled)

pub returns-clause-plan_of_texts : goal.returns-clause-plan_of_texts
returns-clause-plan_of_texts c = λ list.
    let t = printed-plans c.args.value.now c.requires.printed.printable list in
    let v = only_plan c.args.checks.now c.args.slots c.args.style.now c.args.value.now
    (printed_too c.args.domain.now c.args.problem.now c.args.read.now smallest c.args.checks.now c.args.compiled.now smallest_compiled c.args.slots c.args.style.now c.args.value.now c.requires.spelled c.requires.smallest c.requires.printed (smallest_row c.args.checks.now).compiled) list in
    (λ k. v.0 (t.0 k), λ e. t.1 (v.1 e))
