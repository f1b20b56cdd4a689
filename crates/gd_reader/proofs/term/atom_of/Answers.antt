use Rattle.gd_reader.specs.Terms.{atom}
use Rattle.gd_reader.proofs.Keeping.{keeps_same, keeps_then}
use Rattle.std.proofs.Common.{arith}
use Rattle.gd_reader.proofs.term.atom_of.Goals as goal

pub returns-in_err-name-clause-keeps : goal.returns-in_err-name-clause-keeps
unfolding atom
returns-in_err-name-clause-keeps c = grind (arith, keeps_same, keeps_then)

pub returns-in_err-name-clause-adds : goal.returns-in_err-name-clause-adds
unfolding atom
returns-in_err-name-clause-adds c = grind (arith, keeps_same, keeps_then)

pub returns-in_err-name-clause-gives : goal.returns-in_err-name-clause-gives
unfolding atom
returns-in_err-name-clause-gives c = grind (arith, keeps_same, keeps_then)

pub returns-in_err-args-clause-keeps : goal.returns-in_err-args-clause-keeps
unfolding atom
returns-in_err-args-clause-keeps c = grind (arith, keeps_same, keeps_then)

pub returns-in_err-args-clause-adds : goal.returns-in_err-args-clause-adds
unfolding atom
returns-in_err-args-clause-adds c = grind (arith, keeps_same, keeps_then)

pub returns-in_err-args-clause-gives : goal.returns-in_err-args-clause-gives
unfolding atom
returns-in_err-args-clause-gives c = grind (arith, keeps_same, keeps_then)

pub returns-clause-keeps : goal.returns-clause-keeps
unfolding atom
returns-clause-keeps c = grind (arith, keeps_same, keeps_then)

pub returns-clause-adds : goal.returns-clause-adds
unfolding atom
returns-clause-adds c = grind (arith, keeps_same, keeps_then)

pub returns-clause-gives : goal.returns-clause-gives
unfolding atom
returns-clause-gives c = grind (arith, keeps_same, keeps_then)
