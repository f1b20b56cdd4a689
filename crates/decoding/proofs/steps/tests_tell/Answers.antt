use Rattle.decoding.proofs.TakenFronts.{taken_tells, end_is_told}
use Rattle.decoding.proofs.steps.tests_tell.Goals as goal

pub returns-clause-step : goal.returns-clause-step
returns-clause-step c = taken_tells c.args.compiled.now c.requires.lawful

pub returns-clause-end : goal.returns-clause-end
returns-clause-end c = end_is_told c.args.compiled.now c.requires.lawful
