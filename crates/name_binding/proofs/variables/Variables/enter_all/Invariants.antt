use Rattle.std.proofs.Common.{◌≡◌, ◌++◌, take}
use Rattle.name_binding.specs.Entered.{variables_of}
use Rattle.name_binding.proofs.variables.Variables.enter_all.Given as goal

abbrev pub invariant-loop-param : goal.invariant-loop-param
invariant-loop-param l = l.self ≡ l.initial.self ++ variables_of (take l.param-index l.params)
