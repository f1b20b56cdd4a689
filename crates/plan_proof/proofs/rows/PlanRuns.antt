-- A plan of a printed problem is a run of the machine after which slot 1 is free.
use Rattle.std.proofs.Common.{ℕ, ◌≡◌, ◌≤◌, List, map, arith}
use Rattle.plan_model.specs.declared.options.Checks.{Checks}
use Rattle.plan_model.specs.declared.options.Style.{Style}
use Rattle.plan_model.specs.declared.steps.GroundAction.{GroundAction}
use Rattle.plan_model.specs.declared.values.Hddl.{Hddl}
use Rattle.plan_model.specs.declared.values.Compiled.{Compiled}
use Rattle.plan_model.specs.declared.values.Pddl.{Pddl}
use Rattle.plan_model.specs.task_networks.Net.{Net}
use Rattle.plan_model.specs.task_networks.Spelling.{Act}
use Rattle.slot_machine.specs.Machine.{start, Runs, end_of}
use Rattle.slot_machine.proofs.Executions.{plans_are_spelled_solutions}
use Rattle.plan_model.specs.plan_meaning.Truth.{State}
use Rattle.plan_model.specs.plan_meaning.ClassicalPlan.{IsPlan}
use Rattle.plan_model.specs.plan_meaning.Laws.{AreOrdered}
use Rattle.plan_model.specs.plan_meaning.Network.{network}
use Rattle.plan_model.specs.plan_meaning.Solution.{top_work, initial, Allows, next, IsGoal}
use Rattle.plan_model.specs.plan_meaning.SpelledPlan.{step_of}
use Rattle.slot_encoding.specs.Printed.{IsPrinted}
use Rattle.plan_proof.proofs.machine.Facts.{PiecesMean}
use Rattle.plan_proof.proofs.machine.FirstSlot.{some_slot}
use Rattle.plan_proof.proofs.machine.PrintedMeans.{pieces_mean, printed_faithful}

module _ (h : Hddl) (mode : Checks) (c : Compiled) (b : ℕ) (style : Style) (p : Pddl) (ordered : AreOrdered h) (is : IsPrinted h mode c b style p) where
  abbrev N : Net
  N = network c

  pub plan_runs : (list : List GroundAction) → IsPlan p list
      → (acts : List (Act N)) × (list ≡ map (step_of c) acts) × Runs N (start N b (top_work c)) acts × (end_of N (start N b (top_work c)) acts).free 1
  plan_runs list plan =
      let means : PiecesMean c b style p = pieces_mean h mode c b style p ordered is in
      let positive : 1 ≤ b = some_slot h mode c b style p is in
      let (tree, order, slot, spelled, solution) = ((printed_faithful h mode c b style p ordered is).plans list).0 plan in
      let x = (plans_are_spelled_solutions N means.lawful State (Allows c) (next c) (initial c) (IsGoal c) b (top_work c) spelled.0 positive).1 (tree, order, slot, spelled.1, solution) in
      (spelled.0, spelled.2, x.run.0, x.free 1 (omega arith) positive)
