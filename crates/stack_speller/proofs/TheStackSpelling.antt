-- The greatest cell is the width, and the steps spell the tree with as many cells.
use Rattle.std.proofs.Common.{ℕ, ◌≡◌, ◌≤◌, inl, inr, List, [], map, Some, refl, ap, sym, subst, ◌∙◌, Contains, arith}
use Rattle.plan_model.specs.declared.values.Compiled.{Compiled}
use Rattle.plan_model.specs.task_networks.Tree.{Tree, Label, waits, ran, used, label, Address, label_at, IsAddress, IsProcessed}
use Rattle.plan_model.specs.task_networks.Pending.{IsWithin, IsWidth}
use Rattle.plan_model.specs.task_networks.Spelling.{Act}
use Rattle.plan_model.specs.plan_meaning.Network.{network}
use Rattle.plan_model.specs.plan_meaning.Solution.{top_work}
use Rattle.plan_texts.specs.SoundlyCompiled.{IsSoundlyCompiled}
use Rattle.slot_machine.proofs.OtherChildren.{map_cases, Contains-map}
use Rattle.tree_core.specs.declared.growth.Scheduled.{Scheduled}
use Rattle.tree_core.specs.Tables.{Row, table}
use Rattle.tree_core.specs.Labels.{labels, labelled}
use Rattle.slot_speller.specs.Spelled.{IsFinishedRun, IsWidthOf}
use Rattle.slot_speller.proofs.Widths.{width_exists, greatest_is_width}
use Rattle.stack_machine.specs.StackMachine.{SpellsCells, StackRuns, first_stack}
use Rattle.stack_machine.proofs.StackPlans.{cells_exactly_where_within, stack_runs_are_cells}
use Rattle.stack_encoding.specs.StackSpelling.{stack_step}
use Rattle.stack_encoding.specs.TotalOrder.{IsTotallyOrdered}
use Rattle.stack_speller.specs.Tips.{cells_from}
use Rattle.stack_speller.specs.StackSteps.{steps_from}
use Rattle.stack_speller.specs.StackSpelled.{width_of, steps_of, IsSpelled}
use Rattle.stack_speller.proofs.Totals.{law, total}
use Rattle.stack_speller.proofs.Greatest.{below_greatest, greatest_reached}
use Rattle.stack_speller.proofs.AlongStack.{along}

module _ (c : Compiled) (sound : IsSoundlyCompiled c) (ordered : IsTotallyOrdered c) (run : Scheduled) where
  module _ (tree : Tree (network c)) (order : List Address) (r : IsFinishedRun c run tree order) where
    is_processed : (p : Address) (l : Label (network c)) → label_at (network c) tree p ≡ Some l → IsProcessed (network c) tree p
    is_processed p (waits w) e = absurd (r.finished.no_leaves p (w, e))
    is_processed p (ran w) e = (ran w, e, tt)
    is_processed p (used m) e = (used m, e, tt)

    module _ (b : ℕ) (acts : List (Act (network c))) (cell : Address → ℕ) (s : SpellsCells (network c) b (top_work c) acts tree order cell) where
      positive : 1 ≤ b
      positive = let x = s.spells.range [] (label (network c) tree, refl) in omega (arith, x.0, x.1)

      runs : StackRuns (network c) b (first_stack (network c) (top_work c)) acts
      runs = (stack_runs_are_cells (network c) (law c sound) (total c sound ordered) b (top_work c) acts positive).1 (tree, order, cell, s)

      walked : (steps_from c (table labels (labelled c tree)) 1 run.order ≡ map (stack_step c) acts)
          × (cells_from c (table labels (labelled c tree)) 1 run.order ≡ map cell order)
      walked = along c tree cell (λ p a. (s.spells.range p a).0) b acts order run.order (first_stack (network c) (top_work c)) 1
          (λ x. (λ e. e, λ e. e)) runs s.spells.spelled r.stands.places

      steps_are : steps_of c run ≡ map (stack_step c) acts
      steps_are = ap (λ (rows : List (Row labels)). steps_from c rows 1 run.order) r.stands.rows ∙ walked.0

      cells_are : cells_from c run.tree 1 run.order ≡ map cell order
      cells_are = ap (λ (rows : List (Row labels)). cells_from c rows 1 run.order) r.stands.rows ∙ walked.1

      below : (p : Address) → IsAddress (network c) tree p → cell p ≤ width_of c run
      below p (l, e) =
          let k = (r.finished.front.schedule.covers p).1 (is_processed p l e) in
          below_greatest (cells_from c run.tree 1 run.order) (cell p)
          (subst (λ xs. Contains xs (cell p)) (sym cells_are) (Contains-map cell order p k))

      reached : (p : Address) × IsAddress (network c) tree p × (cell p ≡ width_of c run)
      reached = elim (greatest_reached (cells_from c run.tree 1 run.order)) [
        | inl z ↦ absurd (
            let root = below [] (label (network c) tree, refl) in
            let x = (s.spells.range [] (label (network c) tree, refl)).0 in
            omega (arith, root, x, z))
        | inr k ↦ (
            let (p, in_order, e) = map_cases cell order (width_of c run) (subst (λ xs. Contains xs (width_of c run)) cells_are k) in
            let (l, f, t) = (r.finished.front.schedule.covers p).0 in_order in
            (p, (l, f), e))
      ]

    spelled_within : (b : ℕ) → IsWithin (network c) b tree order
        → (acts : List (Act (network c))) × (cell : Address → ℕ) × SpellsCells (network c) b (top_work c) acts tree order cell
    spelled_within b w = (cells_exactly_where_within (network c) (law c sound) (total c sound ordered) b (top_work c) tree order r.finished.front).0 w

    width_is : IsWidth (network c) (width_of c run) tree order
    width_is =
        let (w, is) = width_exists (network c) tree order in
        let (acts, cell, s) = spelled_within w is.within in
        let (p, a, e) = reached w acts cell s in
        greatest_is_width (network c) tree w (top_work c) acts order cell s.spells is (width_of c run) (below w acts cell s) p a e

  pub is_width : (w : ℕ) → w ≡ width_of c run → IsWidthOf c run w
  is_width w e tree order r = subst (λ z. IsWidth (network c) z tree order) (sym e) (width_is tree order r)

  pub is_spelled : (cells w : ℕ) → w ≡ width_of c run → w ≤ cells → IsSpelled c run cells w (steps_of c run)
  is_spelled cells w e l tree order r =
      let is = is_width w e tree order r in
      let (acts, cell, s) = spelled_within tree order r w is.within in
      record { width_is = is; within = l; cell = cell; spelling = (acts, s, steps_are tree order r w acts cell s) }
