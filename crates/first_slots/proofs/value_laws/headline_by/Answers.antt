use Rattle.first_slots.proofs.Headlines.{headline_by-rule}
use Rattle.first_slots.proofs.value_laws.headline_by.Goals as goal

pub returns : goal.returns
returns c = headline_by-rule c.args.domain.now c.args.problem.now c.args.read.now c.args.checks.now c.args.compiled.now c.args.slots c.args.style.now c.args.value.now c.requires.spelled c.requires.ordered c.args.rule.now c.requires.printed
