use Rattle.bound_calc.proofs.Ready.{ordered, lines, small}
use Rattle.bound_calc.proofs.finding.problem_bound.Goals as goal

pub stratify-requires-clause-small : goal.stratify-requires-clause-small
stratify-requires-clause-small c = small c.args.compiled.now c.requires.soundly

pub stratify-requires-clause-ordered : goal.stratify-requires-clause-ordered
stratify-requires-clause-ordered c = ordered c.args.compiled.now c.requires.soundly

pub bound-number-requires-clause-small : goal.bound-number-requires-clause-small
bound-number-requires-clause-small c = small c.args.compiled.now c.requires.soundly

pub bound-number-requires-clause-ordered : goal.bound-number-requires-clause-ordered
bound-number-requires-clause-ordered c = ordered c.args.compiled.now c.requires.soundly

pub bound-number-requires-clause-lines : goal.bound-number-requires-clause-lines
bound-number-requires-clause-lines c = lines c.args.compiled.now c.requires.soundly
