-- A compiled problem has exactly one bound where it is tail-recursive, and else none.
use Rattle.std.proofs.Common.{◌<◌}
use Rattle.plan_model.specs.declared.options.Checks.{Checks}
use Rattle.plan_model.specs.declared.values.Hddl.{Hddl}
use Rattle.plan_model.specs.declared.values.Compiled.{Compiled}
use Rattle.plan_model.specs.plan_meaning.Network.{top_task}
use Rattle.plan_model.specs.plan_meaning.Schemas.{task, schemas}
use Rattle.plan_model.specs.plan_meaning.Compilation.{IsCompiled}
use Rattle.slot_machine.specs.bound_laws.Laws.{TailRecursiveHasOneBound, BoundedIsTailRecursive}
use Rattle.slot_machine.proofs.bound_laws.OneBound as Finite
use Rattle.slot_machine.proofs.bound_laws.Lines.{has_lines}
use Rattle.slot_machine.proofs.bound_laws.SchemaNetwork.{decided}
use Rattle.slot_machine.proofs.bound_laws.SchemaEdges.{tail_of_network}
use Rattle.slot_machine.proofs.bound_laws.ProblemBound.{bound_of_problem, tail_recursive_has_bound}

module _ (h : Hddl) (mode : Checks) (c : Compiled) (compiled : IsCompiled h mode c) where
  pub bounded_is_tail_recursive : BoundedIsTailRecursive c
  bounded_is_tail_recursive n bound =
      tail_of_network c (Finite.bounded_is_tail_recursive (schemas c) ◌<◌ (task (top_task c)) (decided c) n (bound_of_problem c (has_lines h mode c compiled) n bound))

  pub has_one_bound : TailRecursiveHasOneBound c
  has_one_bound tail =
      let known = has_lines h mode c compiled in
      let (n, bound) = tail_recursive_has_bound c known tail in (
        n,
        bound,
        λ other is. Finite.bound_is_one (schemas c) ◌<◌ (task (top_task c)) (decided c) other n (bound_of_problem c known other is) (bound_of_problem c known n bound),
      )
