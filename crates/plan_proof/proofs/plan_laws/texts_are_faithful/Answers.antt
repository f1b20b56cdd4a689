use Rattle.plan_model.specs.plan_meaning.SpelledPlan.{IsSpelling}
use Rattle.plan_proof.proofs.machine.PrintedMeans.{printed_faithful, faithful_texts}
use Rattle.plan_proof.proofs.plan_laws.texts_are_faithful.Goals as goal

pub returns : goal.returns
returns c = faithful_texts IsSpelling c.args.compiled.now c.args.slots c.args.value.now c.requires.printed.printable (printed_faithful c.args.problem.now c.args.checks.now c.args.compiled.now c.args.slots c.args.style.now c.args.value.now c.requires.ordered c.requires.printed)
