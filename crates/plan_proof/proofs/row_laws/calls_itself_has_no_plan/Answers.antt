use Rattle.plan_proof.proofs.texts.PrintedPlans.{printed-plans}
use Rattle.plan_proof.proofs.values.Headlines.{printed_too}
use Rattle.plan_proof.specs.Problems.{calls_itself}
use Rattle.plan_proof.proofs.rows.CallsItself.{calls_itself_compiled, calls_itself_row, no_plan}
use Rattle.plan_proof.proofs.row_laws.calls_itself_has_no_plan.Goals as goal

pub returns-clause-none : goal.returns-clause-none
returns-clause-none c =
    no_plan c.args.checks.now c.args.slots c.args.style.now c.args.value.now
    (printed_too c.args.domain.now c.args.problem.now c.args.read.now calls_itself c.args.checks.now c.args.compiled.now calls_itself_compiled c.args.slots c.args.style.now c.args.value.now c.requires.spelled c.requires.calls_itself c.requires.printed (calls_itself_row c.args.checks.now).compiled)

pub returns-clause-none_of_texts : goal.returns-clause-none_of_texts
returns-clause-none_of_texts c = λ list k.
    no_plan c.args.checks.now c.args.slots c.args.style.now c.args.value.now
    (printed_too c.args.domain.now c.args.problem.now c.args.read.now calls_itself c.args.checks.now c.args.compiled.now calls_itself_compiled c.args.slots c.args.style.now c.args.value.now c.requires.spelled c.requires.calls_itself c.requires.printed (calls_itself_row c.args.checks.now).compiled)
    list ((printed-plans c.args.value.now c.requires.printed.printable list).0 k)
