use Rattle.gd_reader.specs.TypedLists.{param_by}
use Rattle.gd_reader.proofs.Adding.{bare_variable, bare_name}
use Rattle.gd_reader.proofs.Keeping.{keeps_same, keeps_then}
use Rattle.gd_reader.proofs.Sorts.{folded_rest}
use Rattle.std.proofs.Common.{arith}
use Rattle.gd_reader.proofs.typed_lists.param_of.Goals as goal

pub returns-in_err-name-in-Name-false-clause-keeps : goal.returns-in_err-name-in-Name-false-clause-keeps
unfolding param_by
returns-in_err-name-in-Name-false-clause-keeps c = grind (arith, bare_variable, bare_name, keeps_same, keeps_then, folded_rest)

pub returns-in_err-name-in-Name-false-clause-adds : goal.returns-in_err-name-in-Name-false-clause-adds
unfolding param_by
returns-in_err-name-in-Name-false-clause-adds c = grind (arith, bare_variable, bare_name, keeps_same, keeps_then, folded_rest)

pub returns-in_err-name-in-Name-false-clause-gives : goal.returns-in_err-name-in-Name-false-clause-gives
unfolding param_by
returns-in_err-name-in-Name-false-clause-gives c = grind (arith, bare_variable, bare_name, keeps_same, keeps_then, folded_rest)

pub returns-in_err-see-in-Name-false-clause-keeps : goal.returns-in_err-see-in-Name-false-clause-keeps
unfolding param_by
returns-in_err-see-in-Name-false-clause-keeps c = grind (arith, bare_variable, bare_name, keeps_same, keeps_then, folded_rest)

pub returns-in_err-see-in-Name-false-clause-adds : goal.returns-in_err-see-in-Name-false-clause-adds
unfolding param_by
returns-in_err-see-in-Name-false-clause-adds c = grind (arith, bare_variable, bare_name, keeps_same, keeps_then, folded_rest)

pub returns-in_err-see-in-Name-false-clause-gives : goal.returns-in_err-see-in-Name-false-clause-gives
unfolding param_by
returns-in_err-see-in-Name-false-clause-gives c = grind (arith, bare_variable, bare_name, keeps_same, keeps_then, folded_rest)

pub returns-in_ok-see-in-Name-false-clause-keeps : goal.returns-in_ok-see-in-Name-false-clause-keeps
unfolding param_by
returns-in_ok-see-in-Name-false-clause-keeps c = grind (arith, bare_variable, bare_name, keeps_same, keeps_then, folded_rest)

pub returns-in_ok-see-in-Name-false-clause-adds : goal.returns-in_ok-see-in-Name-false-clause-adds
unfolding param_by
returns-in_ok-see-in-Name-false-clause-adds c = grind (arith, bare_variable, bare_name, keeps_same, keeps_then, folded_rest)

pub returns-in_ok-see-in-Name-false-clause-gives : goal.returns-in_ok-see-in-Name-false-clause-gives
unfolding param_by
returns-in_ok-see-in-Name-false-clause-gives c = grind (arith, bare_variable, bare_name, keeps_same, keeps_then, folded_rest)

pub returns-in-Other-false-clause-keeps : goal.returns-in-Other-false-clause-keeps
unfolding param_by
returns-in-Other-false-clause-keeps c = grind (arith, bare_variable, bare_name, keeps_same, keeps_then, folded_rest)

pub returns-in-Other-false-clause-adds : goal.returns-in-Other-false-clause-adds
unfolding param_by
returns-in-Other-false-clause-adds c = grind (arith, bare_variable, bare_name, keeps_same, keeps_then, folded_rest)

pub returns-in-Other-false-clause-gives : goal.returns-in-Other-false-clause-gives
unfolding param_by
returns-in-Other-false-clause-gives c = grind (arith, bare_variable, bare_name, keeps_same, keeps_then, folded_rest)

pub returns-in-Variable-false-clause-keeps : goal.returns-in-Variable-false-clause-keeps
unfolding param_by
returns-in-Variable-false-clause-keeps c = grind (arith, bare_variable, bare_name, keeps_same, keeps_then, folded_rest)

pub returns-in-Variable-false-clause-adds : goal.returns-in-Variable-false-clause-adds
unfolding param_by
returns-in-Variable-false-clause-adds c = grind (arith, bare_variable, bare_name, keeps_same, keeps_then, folded_rest)

pub returns-in-Variable-false-clause-gives : goal.returns-in-Variable-false-clause-gives
unfolding param_by
returns-in-Variable-false-clause-gives c = grind (arith, bare_variable, bare_name, keeps_same, keeps_then, folded_rest)
