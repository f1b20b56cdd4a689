use Rattle.std.proofs.Common.{◌≡◌, ◌++◌, map, take}
use Rattle.plan_model.specs.declared.terms.Term.TheVariants.{Var}
use Rattle.plan_model.specs.task_networks.Spelling.{numbers}
use Rattle.bound_calc.proofs.method_precs.children.children_of.Given as goal

abbrev pub invariant-loop-k : goal.invariant-loop-k
invariant-loop-k l = l.args ≡ map Var (numbers 0 l.k)

abbrev pub invariant-loop-child : goal.invariant-loop-child
invariant-loop-child l = l.children ≡ l.initial.children ++ take l.child-index l.method.children
