use Rattle.std.proofs.Common.{◌≡◌, ◌++◌, take}
use Rattle.plan_model.specs.plan_meaning.Compilation.{all_placed, placed}
use Rattle.bound_calc.proofs.method_precs.placed.placed_of.Given as goal

abbrev pub invariant-loop-child : goal.invariant-loop-child
invariant-loop-child l = l.placed ≡ all_placed l.problem (take l.child-index l.children)

abbrev pub invariant-loop-k : goal.invariant-loop-k
invariant-loop-k l = l.placed ≡ l.initial.placed ++ placed l.problem (take l.k l.params) (take l.k l.args)
