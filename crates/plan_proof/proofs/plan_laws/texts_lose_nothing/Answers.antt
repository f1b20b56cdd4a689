use Rattle.plan_texts.specs.PrintedTexts.{domain_text, problem_text}
use Rattle.plan_model.specs.plan_meaning.SpelledPlan.{IsSpelling}
use Rattle.plan_proof.proofs.machine.Bounds.{loses_nothing}
use Rattle.plan_proof.proofs.machine.PrintedMeans.{printed_faithful, faithful_texts}
use Rattle.plan_proof.proofs.plan_laws.texts_lose_nothing.Goals as goal

pub returns : goal.returns
returns c = λ n bound enough.
    let compiled = c.requires.printed.compiled in
    loses_nothing c.args.problem.now c.args.checks.now c.args.compiled.now compiled n bound IsSpelling c.args.slots (domain_text c.args.value.now) (problem_text c.args.value.now) enough
    (faithful_texts IsSpelling c.args.compiled.now c.args.slots c.args.value.now c.requires.printed.printable (printed_faithful c.args.problem.now c.args.checks.now c.args.compiled.now c.args.slots c.args.style.now c.args.value.now c.requires.ordered c.requires.printed))
