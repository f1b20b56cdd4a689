use Rattle.std.proofs.Common.{arith}
use Rattle.std.proofs.lemmas.Grind.{common_steps}
use Rattle.bound_calc.proofs.stratifier.ranks.stratify.Goals as goal

pub edges-requires : goal.edges-requires
edges-requires c = grind (arith, common_steps)

pub bad_marks-requires-clause-small : goal.bad_marks-requires-clause-small
bad_marks-requires-clause-small c = c.requires.small

pub bad_marks-requires-clause-ordered : goal.bad_marks-requires-clause-ordered
bad_marks-requires-clause-ordered c = c.requires.ordered

pub bad_marks-requires-clause-edges : goal.bad_marks-requires-clause-edges
bad_marks-requires-clause-edges c = c.in_ok-edges.ensures.edges
