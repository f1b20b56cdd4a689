use Rattle.plan_proof.proofs.machine.PrintedMeans.{printed_faithful}
use Rattle.plan_proof.proofs.plan_laws.spellings_fit_slots.Goals as goal

pub returns-clause-only_one : goal.returns-clause-only_one
returns-clause-only_one c = (printed_faithful c.args.problem.now c.args.checks.now c.args.compiled.now c.args.slots c.args.style.now c.args.value.now c.requires.ordered c.requires.printed).only_one

pub returns-clause-within : goal.returns-clause-within
returns-clause-within c = (printed_faithful c.args.problem.now c.args.checks.now c.args.compiled.now c.args.slots c.args.style.now c.args.value.now c.requires.ordered c.requires.printed).within

pub returns-clause-spelled : goal.returns-clause-spelled
returns-clause-spelled c = (printed_faithful c.args.problem.now c.args.checks.now c.args.compiled.now c.args.slots c.args.style.now c.args.value.now c.requires.ordered c.requires.printed).spelled
