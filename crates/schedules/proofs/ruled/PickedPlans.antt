-- An execution laid over picked lists.
use Rattle.std.proofs.Common.{ℕ, ◌≤◌, List, [], refl, arith}
use Rattle.plan_model.specs.task_networks.Net.{Net}
use Rattle.plan_model.specs.task_networks.Lawful.{IsLawful}
use Rattle.plan_model.specs.task_networks.Tree.{Label, label}
use Rattle.plan_model.specs.task_networks.Spelling.{Act}
use Rattle.slot_machine.proofs.Executions.{plans_are_spelled_solutions}
use Rattle.schedules.specs.ruled.Laws.{PickedPlansAreSolutions, OnePlanForEachSchedule, PickedIsTheOnlyOne, FewPendingHavePicked}
use Rattle.schedules.proofs.ruled.PickedOnce.{picked_once}
use Rattle.schedules.proofs.ruled.PickedExist.{picked_exactly_where_within}

module _ (N : Net) (law : IsLawful N) (Picks : ℕ → N.Work → List (Act N) → Act N → Type 0) where
  pub picked_is_the_only_one : PickedIsTheOnlyOne N Picks
  picked_is_the_only_one b top one tree order acts other slot other_slot s s' = picked_once N law (Picks b top) b top one tree order acts other slot other_slot s s'

  pub few_pending_have_picked : FewPendingHavePicked N Picks
  few_pending_have_picked b top always tree order f = picked_exactly_where_within N law b top (Picks b top) always tree order f

  module _ (State : Type 1) (Allows : State → Label N → Type 0) (next : State → Label N → State) (first : State)
      (Goal : State → Type 0) where
    pub picked_plans_are_solutions : PickedPlansAreSolutions N Picks State Allows next first Goal
    picked_plans_are_solutions b top acts positive = (
      λ p. (let (tree, order, slot, s, g) = (plans_are_spelled_solutions N law State Allows next first Goal b top acts positive).0 p.plan in (tree, order, slot, record { spells = s; picked = p.picked }, g)),
      λ h. (let (tree, order, slot, s, g) = h in record { plan = (plans_are_spelled_solutions N law State Allows next first Goal b top acts positive).1 (tree, order, slot, s.spells, g); picked = s.picked }),
    )

    pub one_plan_for_each_schedule : OnePlanForEachSchedule N Picks State Allows next first Goal
    one_plan_for_each_schedule b top always one tree order g w =
        let (acts, slot, s) = (few_pending_have_picked b top always tree order g.finished.front).0 w in
        let r = s.spells.range [] (label N tree, refl) in
        let positive : 1 ≤ b = (let x = r.0 in let y = r.1 in omega arith) in (
          acts,
          slot,
          s,
          (picked_plans_are_solutions b top acts positive).1 (tree, order, slot, s, g),
          λ other other_slot s'. (picked_once N law (Picks b top) b top one tree order other acts other_slot slot s' s).0,
        )
