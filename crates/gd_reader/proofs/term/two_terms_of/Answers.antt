use Rattle.gd_reader.specs.Terms.{two_terms}
use Rattle.gd_reader.proofs.Keeping.{keeps_same, keeps_then}
use Rattle.std.proofs.Common.{arith}
use Rattle.gd_reader.proofs.term.two_terms_of.Goals as goal

pub returns-in_err-at-clause-keeps : goal.returns-in_err-at-clause-keeps
unfolding two_terms
returns-in_err-at-clause-keeps c = grind (arith, keeps_same, keeps_then)

pub returns-in_err-at-clause-adds : goal.returns-in_err-at-clause-adds
unfolding two_terms
returns-in_err-at-clause-adds c = grind (arith, keeps_same, keeps_then)

pub returns-in_err-at-clause-gives : goal.returns-in_err-at-clause-gives
unfolding two_terms
returns-in_err-at-clause-gives c = grind (arith, keeps_same, keeps_then)

pub returns-in_err-first-clause-keeps : goal.returns-in_err-first-clause-keeps
unfolding two_terms
returns-in_err-first-clause-keeps c = grind (arith, keeps_same, keeps_then)

pub returns-in_err-first-clause-adds : goal.returns-in_err-first-clause-adds
unfolding two_terms
returns-in_err-first-clause-adds c = grind (arith, keeps_same, keeps_then)

pub returns-in_err-first-clause-gives : goal.returns-in_err-first-clause-gives
unfolding two_terms
returns-in_err-first-clause-gives c = grind (arith, keeps_same, keeps_then)

pub returns-in_err-at-2-clause-keeps : goal.returns-in_err-at-2-clause-keeps
unfolding two_terms
returns-in_err-at-2-clause-keeps c = grind (arith, keeps_same, keeps_then)

pub returns-in_err-at-2-clause-adds : goal.returns-in_err-at-2-clause-adds
unfolding two_terms
returns-in_err-at-2-clause-adds c = grind (arith, keeps_same, keeps_then)

pub returns-in_err-at-2-clause-gives : goal.returns-in_err-at-2-clause-gives
unfolding two_terms
returns-in_err-at-2-clause-gives c = grind (arith, keeps_same, keeps_then)

pub returns-in_err-second-clause-keeps : goal.returns-in_err-second-clause-keeps
unfolding two_terms
returns-in_err-second-clause-keeps c = grind (arith, keeps_same, keeps_then)

pub returns-in_err-second-clause-adds : goal.returns-in_err-second-clause-adds
unfolding two_terms
returns-in_err-second-clause-adds c = grind (arith, keeps_same, keeps_then)

pub returns-in_err-second-clause-gives : goal.returns-in_err-second-clause-gives
unfolding two_terms
returns-in_err-second-clause-gives c = grind (arith, keeps_same, keeps_then)

pub returns-in_err-end_due-clause-keeps : goal.returns-in_err-end_due-clause-keeps
unfolding two_terms
returns-in_err-end_due-clause-keeps c = grind (arith, keeps_same, keeps_then)

pub returns-in_err-end_due-clause-adds : goal.returns-in_err-end_due-clause-adds
unfolding two_terms
returns-in_err-end_due-clause-adds c = grind (arith, keeps_same, keeps_then)

pub returns-in_err-end_due-clause-gives : goal.returns-in_err-end_due-clause-gives
unfolding two_terms
returns-in_err-end_due-clause-gives c = grind (arith, keeps_same, keeps_then)

pub returns-clause-keeps : goal.returns-clause-keeps
unfolding two_terms
returns-clause-keeps c = grind (arith, keeps_same, keeps_then)

pub returns-clause-adds : goal.returns-clause-adds
unfolding two_terms
returns-clause-adds c = grind (arith, keeps_same, keeps_then)

pub returns-clause-gives : goal.returns-clause-gives
unfolding two_terms
returns-clause-gives c = grind (arith, keeps_same, keeps_then)
