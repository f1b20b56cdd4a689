use Rattle.gd_reader.specs.TypedLists.{kind_due, type_by}
use Rattle.gd_reader.proofs.Adding.{bare_name}
use Rattle.gd_reader.proofs.Keeping.{keeps_same}
use Rattle.std.proofs.Common.{arith}
use Rattle.gd_reader.proofs.kind.kind_of.Goals as goal

pub returns-in_err-name-in-Name-clause-keeps : goal.returns-in_err-name-in-Name-clause-keeps
unfolding kind_due type_by
returns-in_err-name-in-Name-clause-keeps c = grind (arith, bare_name, keeps_same)

pub returns-in_err-alone-in-Name-clause-keeps : goal.returns-in_err-alone-in-Name-clause-keeps
unfolding kind_due type_by
returns-in_err-alone-in-Name-clause-keeps c = grind (arith, bare_name, keeps_same)

pub returns-in_err-name-in-Name-clause-adds : goal.returns-in_err-name-in-Name-clause-adds
unfolding kind_due type_by
returns-in_err-name-in-Name-clause-adds c = grind (arith, bare_name, keeps_same)

pub returns-in_err-alone-in-Name-clause-adds : goal.returns-in_err-alone-in-Name-clause-adds
unfolding kind_due type_by
returns-in_err-alone-in-Name-clause-adds c = grind (arith, bare_name, keeps_same)

pub returns-in_err-name-in-Name-clause-gives : goal.returns-in_err-name-in-Name-clause-gives
unfolding kind_due type_by
returns-in_err-name-in-Name-clause-gives c = grind (arith, bare_name, keeps_same)

pub returns-in_err-alone-in-Name-clause-gives : goal.returns-in_err-alone-in-Name-clause-gives
unfolding kind_due type_by
returns-in_err-alone-in-Name-clause-gives c = grind (arith, bare_name, keeps_same)

pub returns-in_err-ty-in-List-clause-keeps : goal.returns-in_err-ty-in-List-clause-keeps
unfolding kind_due type_by
returns-in_err-ty-in-List-clause-keeps c = grind (arith, bare_name, keeps_same)

pub returns-in_err-ty-in-List-clause-adds : goal.returns-in_err-ty-in-List-clause-adds
unfolding kind_due type_by
returns-in_err-ty-in-List-clause-adds c = grind (arith, bare_name, keeps_same)

pub returns-in_err-ty-in-List-clause-gives : goal.returns-in_err-ty-in-List-clause-gives
unfolding kind_due type_by
returns-in_err-ty-in-List-clause-gives c = grind (arith, bare_name, keeps_same)

pub returns-in-End-clause-keeps : goal.returns-in-End-clause-keeps
unfolding kind_due type_by
returns-in-End-clause-keeps c = grind (arith, bare_name, keeps_same)

pub returns-in-End-clause-adds : goal.returns-in-End-clause-adds
unfolding kind_due type_by
returns-in-End-clause-adds c = grind (arith, bare_name, keeps_same)

pub returns-in-End-clause-gives : goal.returns-in-End-clause-gives
unfolding kind_due type_by
returns-in-End-clause-gives c = grind (arith, bare_name, keeps_same)

pub returns-in-Close-clause-keeps : goal.returns-in-Close-clause-keeps
unfolding kind_due type_by
returns-in-Close-clause-keeps c = grind (arith, bare_name, keeps_same)

pub returns-in-Close-clause-adds : goal.returns-in-Close-clause-adds
unfolding kind_due type_by
returns-in-Close-clause-adds c = grind (arith, bare_name, keeps_same)

pub returns-in-Close-clause-gives : goal.returns-in-Close-clause-gives
unfolding kind_due type_by
returns-in-Close-clause-gives c = grind (arith, bare_name, keeps_same)

pub returns-in_ok-alone-in-Name-clause-keeps : goal.returns-in_ok-alone-in-Name-clause-keeps
unfolding kind_due type_by
returns-in_ok-alone-in-Name-clause-keeps c = grind (arith, bare_name, keeps_same)

pub returns-in-Variable-clause-keeps : goal.returns-in-Variable-clause-keeps
unfolding kind_due type_by
returns-in-Variable-clause-keeps c = grind (arith, bare_name, keeps_same)

pub returns-in-Other-clause-keeps : goal.returns-in-Other-clause-keeps
unfolding kind_due type_by
returns-in-Other-clause-keeps c = grind (arith, bare_name, keeps_same)

pub returns-in_ok-alone-in-Name-clause-adds : goal.returns-in_ok-alone-in-Name-clause-adds
unfolding kind_due type_by
returns-in_ok-alone-in-Name-clause-adds c = grind (arith, bare_name, keeps_same)

pub returns-in-Variable-clause-adds : goal.returns-in-Variable-clause-adds
unfolding kind_due type_by
returns-in-Variable-clause-adds c = grind (arith, bare_name, keeps_same)

pub returns-in-Other-clause-adds : goal.returns-in-Other-clause-adds
unfolding kind_due type_by
returns-in-Other-clause-adds c = grind (arith, bare_name, keeps_same)

pub returns-in_ok-alone-in-Name-clause-gives : goal.returns-in_ok-alone-in-Name-clause-gives
unfolding kind_due type_by
returns-in_ok-alone-in-Name-clause-gives c = grind (arith, bare_name, keeps_same)

pub returns-in-Variable-clause-gives : goal.returns-in-Variable-clause-gives
unfolding kind_due type_by
returns-in-Variable-clause-gives c = grind (arith, bare_name, keeps_same)

pub returns-in-Other-clause-gives : goal.returns-in-Other-clause-gives
unfolding kind_due type_by
returns-in-Other-clause-gives c = grind (arith, bare_name, keeps_same)

pub returns-in_ok-ty-in-List-clause-keeps : goal.returns-in_ok-ty-in-List-clause-keeps
unfolding kind_due type_by
returns-in_ok-ty-in-List-clause-keeps c = grind (arith, bare_name, keeps_same)

pub returns-in_ok-ty-in-List-clause-adds : goal.returns-in_ok-ty-in-List-clause-adds
unfolding kind_due type_by
returns-in_ok-ty-in-List-clause-adds c = grind (arith, bare_name, keeps_same)

pub returns-in_ok-ty-in-List-clause-gives : goal.returns-in_ok-ty-in-List-clause-gives
unfolding kind_due type_by
returns-in_ok-ty-in-List-clause-gives c = grind (arith, bare_name, keeps_same)
