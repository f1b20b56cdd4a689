use Rattle.gd_reader.specs.Terms.{applied}
use Rattle.gd_reader.proofs.Keeping.{keeps_same, keeps_then}
use Rattle.std.proofs.Common.{arith}
use Rattle.gd_reader.proofs.term.applied_of.Goals as goal

pub returns-in_err-at-clause-keeps : goal.returns-in_err-at-clause-keeps
unfolding applied
returns-in_err-at-clause-keeps c = grind (arith, keeps_same, keeps_then)

pub returns-in_err-at-clause-adds : goal.returns-in_err-at-clause-adds
unfolding applied
returns-in_err-at-clause-adds c = grind (arith, keeps_same, keeps_then)

pub returns-in_err-at-clause-gives : goal.returns-in_err-at-clause-gives
unfolding applied
returns-in_err-at-clause-gives c = grind (arith, keeps_same, keeps_then)

pub returns-in_err-head-clause-keeps : goal.returns-in_err-head-clause-keeps
unfolding applied
returns-in_err-head-clause-keeps c = grind (arith, keeps_same, keeps_then)

pub returns-in_err-head-clause-adds : goal.returns-in_err-head-clause-adds
unfolding applied
returns-in_err-head-clause-adds c = grind (arith, keeps_same, keeps_then)

pub returns-in_err-head-clause-gives : goal.returns-in_err-head-clause-gives
unfolding applied
returns-in_err-head-clause-gives c = grind (arith, keeps_same, keeps_then)

pub returns-in_err-args-clause-keeps : goal.returns-in_err-args-clause-keeps
unfolding applied
returns-in_err-args-clause-keeps c = grind (arith, keeps_same, keeps_then)

pub returns-in_err-args-clause-adds : goal.returns-in_err-args-clause-adds
unfolding applied
returns-in_err-args-clause-adds c = grind (arith, keeps_same, keeps_then)

pub returns-in_err-args-clause-gives : goal.returns-in_err-args-clause-gives
unfolding applied
returns-in_err-args-clause-gives c = grind (arith, keeps_same, keeps_then)

pub returns-clause-keeps : goal.returns-clause-keeps
unfolding applied
returns-clause-keeps c = grind (arith, keeps_same, keeps_then)

pub returns-clause-adds : goal.returns-clause-adds
unfolding applied
returns-clause-adds c = grind (arith, keeps_same, keeps_then)

pub returns-clause-gives : goal.returns-clause-gives
unfolding applied
returns-clause-gives c = grind (arith, keeps_same, keeps_then)
