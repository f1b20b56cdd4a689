-- What is placed is a solution: in its gap each node may stand with the first values of the method that it asks for.
use Rattle.std.proofs.Common.{inl, inr, List, [], ◌∷◌, cond, Bool, true, false, sym, subst}
use Rattle.plan_model.specs.declared.options.Checks.{Checks}
use Rattle.plan_model.specs.declared.values.Hddl.{Hddl}
use Rattle.plan_model.specs.declared.values.Compiled.{Compiled}
use Rattle.plan_model.specs.task_networks.Net.{Net}
use Rattle.plan_model.specs.task_networks.Tree.{Tree, Address, label_at, IsAddress}
use Rattle.plan_model.specs.plan_meaning.Network.{network}
use Rattle.plan_model.specs.plan_meaning.Solution.{IsSolution}
use Rattle.plan_model.proofs.task_networks.Parents.{parent_address}
use Rattle.hplan_text.specs.declared.values.HPlan.{HPlan}
use Rattle.schedules.specs.latest.LatestSchedule.{IsScheduleOf}
use Rattle.plan_encoder.specs.Calls.{ShowsUnderSomeIds}
use Rattle.plan_encoder.specs.ChosenValues.{is_check_at, chooser, MayStand}
use Rattle.plan_encoder.specs.Laws.{IsOf, actions, MayStandWith, IsLatestSolution}
use Rattle.plan_encoder.proofs.Standing.{asks}
use Rattle.plan_encoder.proofs.Solutions.{latest_is_solution}
use Rattle.placements.specs.Placement.{IsPlaced}
use Rattle.placements.specs.Laws.{PlacedAreSolutions}

-- the node that a node asks for is itself or its parent
pub chooser_address : (c : Compiled) (tree : Tree (network c)) (p : Address) → IsAddress (network c) tree p
    → IsAddress (network c) tree (chooser c tree p)
chooser_address c tree [] a = a
chooser_address c tree (i ∷ q) a = go (is_check_at c (label_at (network c) tree (i ∷ q)))
  where
    go : (b : Bool) → IsAddress (network c) tree (cond b q (i ∷ q))
    go true = parent_address (network c) tree i q a
    go false = a

module _ (h : Hddl) (mode : Checks) (c : Compiled) (of : IsOf h mode c) (plan : HPlan) (tree : Tree (network c)) (order : List Address)
    (is : IsPlaced c plan tree order) where
  abbrev N : Net
  N = network c

  stands : (p : Address) → IsAddress N is.bare p → MayStandWith c is.bare is.labels is.values p (is.gap p)
  stands p a = elim (asks c h mode of.sound of.compiled is.bare is.has.of_plan.grown is.has.of_plan.no_leaves is.has.of_plan.root is.labels p) [
    | inl e ↦ (
        let k = chooser c is.bare p in
        subst (λ z. MayStand c is.bare is.labels z (is.values k) (is.gap z)) (sym e) (is.first k (chooser_address c is.bare p a)).is)
    | inr f ↦ f (is.values (chooser c is.bare p)) (is.gap p)
  ]

  latest : IsLatestSolution c plan is.bare is.node is.labels is.gap is.values order
  latest = latest_is_solution c h mode of plan is.bare is.node is.labels is.has is.goal is.gap is.values order is.latest stands
      (subst (λ z. IsScheduleOf N z (actions c plan is.node) is.gap order) is.tree_is is.schedule)

  pub is_solution : IsSolution c tree order × ShowsUnderSomeIds c plan tree order
  is_solution = subst (λ z. IsSolution c z order × ShowsUnderSomeIds c plan z order) (sym is.tree_is) (latest.solution, latest.shows)

pub placed_are_solutions : (c : Compiled) → PlacedAreSolutions c
placed_are_solutions c h mode of plan tree order is = is_solution h mode c of plan tree order is
