use Rattle.plan_texts.specs.PrintedTexts.{domain_text, problem_text}
use Rattle.plan_proof.proofs.machine.Bounds.{loses_nothing}
use Rattle.first_slots.specs.LowestSpelling.{IsLowestSpelling}
use Rattle.first_slots.proofs.Plans.{first_texts}
use Rattle.first_slots.proofs.plan_laws.first_texts_lose_nothing.Goals as goal

pub returns : goal.returns
returns c = λ n bound enough.
    let compiled = c.requires.printed.compiled in
    loses_nothing c.args.problem.now c.args.checks.now c.args.compiled.now compiled n bound IsLowestSpelling c.args.slots (domain_text c.args.value.now) (problem_text c.args.value.now) enough (first_texts c.args.problem.now c.args.checks.now c.args.compiled.now c.args.slots c.args.style.now c.args.value.now c.requires.ordered c.requires.printed)
