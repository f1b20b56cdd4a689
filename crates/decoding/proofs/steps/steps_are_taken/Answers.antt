use Rattle.decoding.proofs.TakenFronts.{taken_at_first, one_more_taken}
use Rattle.decoding.proofs.steps.steps_are_taken.Goals as goal

pub returns-clause-at_first : goal.returns-clause-at_first
returns-clause-at_first c = taken_at_first c.args.compiled.now c.requires.lawful

pub returns-clause-one_more : goal.returns-clause-one_more
returns-clause-one_more c = one_more_taken c.args.compiled.now
