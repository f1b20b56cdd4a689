use Rattle.plan_proof.proofs.machine.PrintedMeans.{printed_faithful}
use Rattle.plan_proof.proofs.plan_laws.plans_spell_solutions.Goals as goal

pub returns : goal.returns
returns c = (printed_faithful c.args.problem.now c.args.checks.now c.args.compiled.now c.args.slots c.args.style.now c.args.value.now c.requires.ordered c.requires.printed).plans
