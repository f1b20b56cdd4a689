-- A problem is tail-recursive or has the named bad cycle, and not both; it has lawful ranks exactly where it is tail-recursive.
use Rattle.std.proofs.Common.{◌<◌, inl, inr, map}
use Rattle.plan_model.specs.declared.values.Compiled.{Compiled}
use Rattle.plan_model.proofs.task_networks.StrataLaws.{ranked_is_tail_recursive}
use Rattle.plan_model.specs.plan_meaning.Network.{top_task}
use Rattle.plan_model.specs.plan_meaning.Schemas.{task, schemas}
use Rattle.plan_model.specs.plan_meaning.Strata.{source, target, IsBad}
use Rattle.slot_machine.specs.bound_laws.Laws.{TailRecursiveOrNamedCycle, TailRecursiveHasNoNamedCycle, RankedExactly}
use Rattle.slot_machine.proofs.bound_laws.Ranks.{rank_of, ranks_are_lawful}
use Rattle.slot_machine.proofs.bound_laws.FiniteEdges as Finite
use Rattle.slot_machine.proofs.bound_laws.ProblemEdges.{schema_told}
use Rattle.slot_machine.proofs.bound_laws.SchemaNetwork.{decided}
use Rattle.slot_machine.proofs.bound_laws.SchemaEdges.{there, back, tail_of_problem, tail_of_network, named_of_problem, named_of_network}

module _ (c : Compiled) where
  pub tail_recursive_or_named_cycle : TailRecursiveOrNamedCycle c
  tail_recursive_or_named_cycle = elim (Finite.tail_recursive_or_cycle (schemas c) ◌<◌ (task (top_task c)) (decided c)) [
    | inl tail ↦ inl (tail_of_network c tail)
    | inr (d, walk, n) ↦ inr (back d, map back walk, named_of_network c d walk n)
  ]

  pub not_both : TailRecursiveHasNoNamedCycle c
  not_both tail e walk n = Finite.not_both (schemas c) ◌<◌ (task (top_task c)) (decided c) (tail_of_problem c tail) (there e) (map there walk) (named_of_problem c e walk n)

  pub ranked_exactly : RankedExactly c
  ranked_exactly = (
    λ h. (let (edges, are, tail) = h in (rank_of (source c) (target c) edges schema_told, (edges, are, ranks_are_lawful (source c) (target c) edges schema_told (IsBad c) tail))),
    λ h. (let (rank, (edges, are, lawful)) = h in (edges, are, ranked_is_tail_recursive (source c) (target c) edges (IsBad c) rank lawful)),
  )
