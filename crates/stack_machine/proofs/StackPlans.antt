-- The laws of stacks, from the lemmas.
use Rattle.std.proofs.Common.{ℕ, ◌≡◌, ◌≤◌, ◌↔◌, inl, inr, List, [], length, map, refl, ap, sym, ◌∙◌, subst, Contains, arith, ◌+◌, ◌∷◌, Option, Some, None}
use Rattle.std.proofs.Math.Decide.{ℕ_discrete}
use Rattle.std.proofs.lemmas.List.{length-map}
use Rattle.plan_model.specs.task_networks.Net.{Net}
use Rattle.plan_model.specs.task_networks.Lawful.{IsLawful}
use Rattle.plan_model.specs.task_networks.Tree.{Label, Tree, Address, IsOpen, label, waits, ran, used, label_at}
use Rattle.plan_model.specs.task_networks.PendingComputed.{pending}
use Rattle.plan_model.specs.task_networks.Executable.{IsSolution}
use Rattle.plan_model.specs.task_networks.Spelling.{Act, numbers, Spells}
use Rattle.plan_model.proofs.task_networks.Different.{no_more}
use Rattle.plan_model.proofs.task_networks.Numbers.{length-numbers, numbers_to, different-numbers}
use Rattle.plan_model.proofs.task_networks.PendingNodes.{pending_iff, pending_different}
use Rattle.slot_machine.specs.Causes.{IsWaiting}
use Rattle.slot_machine.specs.Laws.{IsSolutionRun}
use Rattle.slot_machine.proofs.Executions.{plans_are_spelled_solutions}
use Rattle.slot_machine.proofs.OtherChildren.{Contains-map}
use Rattle.slot_machine.proofs.RunSpellings.{runs_iff_spells}
use Rattle.slot_machine.proofs.SpellingSteps.{open_pending, pending_open}
use Rattle.stack_machine.specs.Stack.{IsTotal, TellsTip}
use Rattle.stack_machine.specs.StackMachine.{StackState, SpellsCells}
use Rattle.stack_machine.specs.StackLaws.{PreparedIsTotal, OneSchedule, SomeSchedule, CellsTellTip, CellsExist, CellsAreTheOnlyOnes, CellsFitExactlyWhereWithin, CellsExactlyWhereWithin, OneCellsList, StackRunsAreCells, StackTellsFront, TipTestIsWaitTest, OtherTakesCells, IsStackPlan, StackPlansAreSolutions, OneStackPlan}
use Rattle.stack_machine.proofs.Heights.{high, high_of}
use Rattle.schedules.proofs.ruled.LowestRule.{by_order}
use Rattle.stack_machine.proofs.OneSchedule.{one_schedule}
use Rattle.schedules.proofs.ruled.PickedOnce.{picked_once}
use Rattle.stack_machine.proofs.SomeSchedule.{some_schedule}
use Rattle.stack_machine.proofs.StackFits.{one_cells, few_open, cells_fit, cells_spell}
use Rattle.stack_machine.proofs.StackPicks.{Pick, stack_one, cells_iff_picked, free_above}
use Rattle.stack_machine.proofs.StackRuns.{takes_cells, runs_iff_cells, picked_cells, stack_tip, stack_tells, may_iff_tip}
use Rattle.stack_machine.proofs.StackTells.{HasTip, has_tip, tells_has}

pub prepared_is_total : (N : Net) → PreparedIsTotal N
prepared_is_total N p ordered = record { ordered = ordered; heir_is_last = p.heir_is }

module _ (N : Net) (law : IsLawful N) (total : IsTotal N) where
  pub has_one_schedule : OneSchedule N
  has_one_schedule tree order other g s t = one_schedule N tree total g order other s t

  pub has_some_schedule : SomeSchedule N
  has_some_schedule tree g f = some_schedule N total tree g f

  abbrev cell_by : Option (Label N) → ℕ → ℕ → ℕ
  cell_by None i c = c
  cell_by (Some (waits w)) i c = c
  cell_by (Some (ran w)) i c = c
  cell_by (Some (used m)) i c = c + high N total m i

  abbrev cell_in : Tree N → Address → ℕ
  cell_in tree [] = 1
  cell_in tree (i ∷ p) = cell_by (label_at N tree p) i (cell_in tree p)

  pub cells_exist : CellsExist N
  cells_exist tree = (cell_in tree, record { root = refl; children = λ p m i line e l r. ap (λ z. cell_by z i (cell_in tree p)) e ∙ ap (λ z. cell_in tree p + z) (sym (high_of N total m line l i)) })

  pub cells_tell_tip : CellsTellTip N
  cells_tell_tip top tree order cell f c = let (tip, h) = has_tip N total top order tree cell f c in (tip, record { tells = tells tip h; number = number tip h; unblocked = unblocked tip h })
    where
      tells : (tip : ℕ) → HasTip N tree cell tip → TellsTip N tree cell tip
      tells tip h = tells_has N tree order cell tip f.schedule h

      number : (tip : ℕ) → HasTip N tree cell tip → length (pending N tree order) ≡ tip
      number tip h =
          let a = few_open N law total tree cell tip h (pending N tree order) (pending_different N tree order) (λ p c. pending_open N tree order p f.schedule ((pending_iff N tree order p).0 c)) in
          let b = no_more (numbers 1 tip) (map cell (pending N tree order)) (different-numbers 1 tip) (λ x k. (let (q, o, e) = h.full x (numbers_to 1 tip x k).0 (let y = (numbers_to 1 tip x k).1 in omega arith) in
          subst (Contains (map cell (pending N tree order))) e (Contains-map cell (pending N tree order) q ((pending_iff N tree order q).1 (open_pending N tree order q f.schedule o))))) in
          let l = length-map (pending N tree order) cell in
          let n = length-numbers 1 tip in
          omega arith

      unblocked : (tip : ℕ) → HasTip N tree cell tip → (p : Address) → IsOpen N tree p → (IsWaiting N tree p → ⊥) ↔ (cell p ≡ tip)
      unblocked tip h p o = (
        λ n. elim (by_order (cell p) tip) [
          | inl x ↦ absurd (let (u, ou, e) = h.full tip (omega arith) (omega arith) in n (u, ou, (t.waits u p ou o).1 (omega arith)))
          | inr (inl x) ↦ x
          | inr (inr x) ↦ absurd (let y = (h.range p o).1 in omega arith)
        ],
        λ e w. (let (u, ou, m) = w in let x = (t.waits u p ou o).0 m in let y = (h.range u ou).1 in omega arith),
      )
        where
          t : TellsTip N tree cell tip
          t = tells tip h

  pub cells_are_the_only_ones : CellsAreTheOnlyOnes N
  cells_are_the_only_ones top tree order cell other f a b = one_cells N law total top tree order cell other f a b

  pub cells_fit_exactly_where_within : CellsFitExactlyWhereWithin N
  cells_fit_exactly_where_within b top tree order cell f c = cells_fit N law total b top tree order cell f c

  pub cells_exactly_where_within : CellsExactlyWhereWithin N
  cells_exactly_where_within b top tree order f =
      let x = cells_spell N law total b top tree order f in (
        λ w. (let (acts, cell, s) = x.0 w in (acts, cell, (picked_cells N law total b top acts tree order cell).0 s)),
        λ h. x.1 (h.0, h.1, (picked_cells N law total b top h.0 tree order h.1).1 h.2),
      )

  pub one_cells_list : OneCellsList N
  one_cells_list b top tree order other_order acts other cell other_cell s t =
      let e : order ≡ other_order = one_schedule N tree total s.spells.front.grown order other_order s.spells.front.schedule t.spells.front.schedule in
      let t' = subst (λ z. SpellsCells N b top other tree z other_cell) (sym e) t in
      ((picked_once N law (Pick N law total b top) b top (stack_one N law total b top) tree order acts other cell other_cell ((picked_cells N law total b top acts tree order cell).1 s) ((picked_cells N law total b top other tree order other_cell).1 t')).0, e)

  pub stack_runs_are_cells : StackRunsAreCells N
  stack_runs_are_cells b top acts positive = runs_iff_cells N law total b top positive acts

  pub stack_tells_front : StackTellsFront N
  stack_tells_front b top acts tree order cell s = stack_tells N law total b top acts tree order cell ((picked_cells N law total b top acts tree order cell).1 s)

  pub tip_test_is_wait_test : TipTestIsWaitTest N
  tip_test_is_wait_test b top acts tree order cell a s = may_iff_tip N law total b top acts tree order cell ((picked_cells N law total b top acts tree order cell).1 s) a

  pub other_takes_cells : (read : List (Act N) → StackState N) (Takes : List (Act N) → Act N → Type 0) → OtherTakesCells N read Takes
  other_takes_cells read Takes b top positive agrees acts = takes_cells N law total b top positive read Takes agrees acts

  module _ (State : Type 1) (Allows : State → Label N → Type 0) (next : State → Label N → State) (first : State) (Goal : State → Type 0) where
    pub stack_plans_are_solutions : StackPlansAreSolutions N State Allows next first Goal
    stack_plans_are_solutions b top acts positive = (to, from)
      where
        plans : IsSolutionRun N State Allows next first Goal b top acts ↔ ((tree : Tree N) × (order : List Address) × (slot : Address → ℕ) × Spells N b top acts tree order slot × IsSolution N State Allows next top first Goal tree order)
        plans = plans_are_spelled_solutions N law State Allows next first Goal b top acts positive

        to : IsStackPlan N State Allows next first Goal b top acts → (tree : Tree N) × (order : List Address) × (cell : Address → ℕ) × SpellsCells N b top acts tree order cell × IsSolution N State Allows next top first Goal tree order
        to p =
            let (tree, order, cell, s) = (runs_iff_cells N law total b top positive acts).0 p.run in
            let q = (picked_cells N law total b top acts tree order cell).1 s in
            let (tip, h, t) = stack_tip N law total b top order acts tree cell q in
            let zero_tip = (t 0).0 p.empty in
            let run : IsSolutionRun N State Allows next first Goal b top acts = record {
              run = ((runs_iff_spells N law b top positive acts).1 (tree, order, cell, s.spells), p.allowed);
              free = λ x l r. free_above N law total b top acts tree order cell s.spells tip h x (omega arith) r;
              goal = p.goal;
            } in
            let (tree', order', cell', s', g) = plans.0 run in
            (tree', order', cell', record { spells = s'; cells = (cells_iff_picked N law total b top acts tree' order' cell' s').0 q.picked }, g)

        from : (tree : Tree N) × (order : List Address) × (cell : Address → ℕ) × SpellsCells N b top acts tree order cell × IsSolution N State Allows next top first Goal tree order → IsStackPlan N State Allows next first Goal b top acts
        from (tree, order, cell, s, g) =
            let r = plans.1 (tree, order, cell, s.spells, g) in
            let q = (picked_cells N law total b top acts tree order cell).1 s in
            let (tip, h, t) = stack_tip N law total b top order acts tree cell q in
            let zero_tip : 0 ≡ tip = elim (ℕ_discrete tip 0) [
              | yes e ↦ sym e
              | no n ↦ absurd (let (u, o, e) = h.full tip (omega arith) (omega arith) in g.finished.no_leaves u o)
            ] in
            record { run = (runs_iff_cells N law total b top positive acts).1 (tree, order, cell, s); allowed = r.run.1; empty = (t 0).1 zero_tip; goal = r.goal }

    pub one_stack_plan : OneStackPlan N State Allows next first Goal
    one_stack_plan b top tree order g w =
        let (acts, cell, s) = (cells_exactly_where_within b top tree order g.finished.front).0 w in
        let r = s.spells.range [] (label N tree, refl) in
        let positive : 1 ≤ b = (let x = r.0 in let y = r.1 in omega arith) in
        (acts, cell, s, (stack_plans_are_solutions b top acts positive).1 (tree, order, cell, s, g), λ other other_order other_cell t. (one_cells_list b top tree other_order order other acts other_cell cell t s).0)
