-- The rows of a tree's table say where its nodes may stand.
use Rattle.std.proofs.Common.{ℕ, ◌≡◌, ◌↔◌, inl, inr, List, [], ◌∷◌, Option, Some, None, option_map, slice_get, refl, ap, sym, subst, ◌∙◌}
use Rattle.std.specs.Option.{option_and_then}
use Rattle.plan_model.specs.declared.formulas.Formula.{Formula}
use Rattle.plan_model.specs.declared.schemas.ActionSchema.{ActionSchema}
use Rattle.plan_model.specs.declared.schemas.MethodPlan.{MethodPlan}
use Rattle.plan_model.specs.declared.values.Compiled.{Compiled}
use Rattle.plan_model.specs.task_networks.Net.{Net}
use Rattle.plan_model.specs.task_networks.Tree.{Tree, open_leaf, done, split, Label, waits, ran, used, Address, label, label_at, work_of}
use Rattle.plan_model.specs.task_networks.Tree.{IsGrown}
use Rattle.plan_model.specs.task_networks.Preorder.{preorder}
use Rattle.plan_model.specs.plan_meaning.Truth.{State, IsTrueIn}
use Rattle.plan_model.specs.plan_meaning.Network.{action, check, task, GroundMethod, network, InTypeOf}
use Rattle.plan_model.specs.plan_meaning.Solution.{top_work, AllowsAction, AllowsCheck, AllowsMethod}
use Rattle.plan_model.proofs.plan_meaning.SameStates.{same_truth}
use Rattle.tree_core.specs.Tables.{Row, table, IsRow}
use Rattle.tree_core.specs.Labels.{labels, labelled, labelled_node}
use Rattle.tree_core.specs.Runs.{label_in, parent_in}
use Rattle.tree_core.proofs.Labelled.{label_at-labelled, preorder-labelled}
use Rattle.tree_core.proofs.Siblings.{row_of_node}
use Rattle.schedules.proofs.latest.GrownTrees.{ground_at}
use Rattle.state_history.specs.declared.history.History.{History}
use Rattle.state_history.specs.Histories.{AreSame}
use Rattle.state_history.specs.Histories as histories
use Rattle.plan_encoder.specs.ChosenValues.{CanHave, chooser, ParentCanHave, state_in, LabelMayStand, MayStand}
use Rattle.node_conditions.specs.Standing.{parent_label, LabelTakes, LabelStands, RowMayStand}
use Rattle.node_conditions.specs.Laws.{RowsTellStanding}
use Rattle.node_conditions.proofs.Having.{takes_have}

module _ (c : Compiled) where
  abbrev N : Net
  N = network c

  no_check_root : (tree : Tree N) (m : ℕ) (old : List ℕ) → work_of N tree ≡ top_work c → label N tree ≡ ran (check m old) → ⊥
  no_check_root (open_leaf w) m old e f = cc
  no_check_root (done w) m old e f = (let g : w ≡ check m old = cc in let h = sym g ∙ e in cc)
  no_check_root (split g ts) m old e f = cc

  module _ (S T : State) (states : AreSame S T) where
    truth_same : (f : Formula) (values : List ℕ) → IsTrueIn (InTypeOf c) S f values ↔ IsTrueIn (InTypeOf c) T f values
    truth_same f values = same_truth (InTypeOf c) S T states f values

    action_same : (o : Option ActionSchema) (args : List ℕ) → AllowsAction c S o args ↔ AllowsAction c T o args
    action_same None args = (λ x. x, λ x. x)
    action_same (Some s) args = truth_same s.pre args

    check_same : (o : Option MethodPlan) (values : List ℕ) → AllowsCheck c S o values ↔ AllowsCheck c T o values
    check_same None values = (λ x. x, λ x. x)
    check_same (Some plan) values = truth_same plan.schema.pre values

    method_same : (o : Option MethodPlan) (values : List ℕ) → AllowsMethod c S o values ↔ AllowsMethod c T o values
    method_same None values = (λ x. x, λ x. x)
    method_same (Some plan) values = (let h = truth_same plan.schema.pre values in (λ x t. h.0 (x t), λ x t. h.1 (x t)))

  module _ (tree : Tree N) (rows : List (Row labels)) (primitives : List (Label N)) (history : History) (grown : IsGrown N tree)
      (root : work_of N tree ≡ top_work c)
      (same : rows ≡ table labels (labelled c tree)) where
    -- the row at a node's place
    row_at : (k : ℕ) (p : Address) → slice_get (preorder N tree) k ≡ Some p
        → (r : Row labels) × (slice_get rows k ≡ Some r) × IsRow labels (labelled c tree) k r p
    row_at k p at =
        let (r, e, row) = row_of_node labels (labelled c tree) k p (ap (λ ps. slice_get ps k) (preorder-labelled c tree) ∙ at) in
        (r, ap (λ rs. slice_get rs k) same ∙ e, row)

    label_here : (k : ℕ) (p : Address) → slice_get (preorder N tree) k ≡ Some p
        → label_in rows k ≡ option_map (labelled_node c) (label_at N tree p)
    label_here k p at =
        let (r, e, row) = row_at k p at in
        ap (option_map (λ (z : Row labels). z.label)) e ∙ sym row.label ∙ label_at-labelled c tree p

    label_takes : (q : Address) (values : List ℕ) → LabelTakes c (option_map (labelled_node c) (label_at N tree q)) values
        ↔ ((g : GroundMethod) × (label_at N tree q ≡ Some (used g)) × CanHave c g values)
    label_takes q values = go (label_at N tree q) refl
      where
        go : (o : Option (Label N)) → label_at N tree q ≡ o → LabelTakes c (option_map (labelled_node c) o) values
            ↔ ((g : GroundMethod) × (o ≡ Some (used g)) × CanHave c g values)
        go None e = (λ x. absurd x, λ x. absurd (let f = x.1 in cc))
        go (Some (waits w)) e = (λ x. absurd x, λ x. absurd (let f = x.1 in cc))
        go (Some (ran w)) e = (λ x. absurd x, λ x. absurd (let f = x.1 in cc))
        go (Some (used g)) e =
            let h = takes_have c g (ground_at N tree grown q g e) values in (
              λ t. (g, refl, h.0 t),
              λ x. h.1 (subst (λ z. CanHave c z values) (let f = x.1 in let k : x.0 ≡ g = cc in k) x.2),
            )

    parent_at : (k j : ℕ) (q : Address) → slice_get (preorder N tree) k ≡ Some (j ∷ q)
        → parent_label rows k ≡ option_map (labelled_node c) (label_at N tree q)
    parent_at k j q at =
        let (r, e, row) = row_at k (j ∷ q) at in
        let (number, (x, less, up, above)) = row.way in
        let parent : parent_in rows k ≡ Some x = ap (option_and_then (λ (z : Row labels). z.parent)) e ∙ up in
        ap (option_and_then (label_in rows)) parent ∙ label_here x q (ap (λ ps. slice_get ps x) (sym (preorder-labelled c tree)) ∙ above)

    module _ (k : ℕ) (p : Address) (i : ℕ) (at : slice_get (preorder N tree) k ≡ Some p) (states : AreSame
        (histories.state_in history i) (state_in c tree primitives i))
        (values : List ℕ) where
      abbrev S : State
      S = histories.state_in history i

      abbrev T : State
      T = state_in c tree primitives i

      check_parent : (p : Address) → slice_get (preorder N tree) k ≡ Some p → (m : ℕ) (old : List ℕ)
          → label_at N tree p ≡ Some (ran (check m old))
          → LabelTakes c (parent_label rows k) values ↔ ParentCanHave c tree p values
      check_parent [] at m old e = absurd (no_check_root tree m old root cc)
      check_parent (j ∷ q) at m old e = subst (λ z. LabelTakes c z values
          ↔ ParentCanHave c tree (j ∷ q) values) (sym (parent_at k j q at)) (label_takes q values)

      stands : (o : Option (Label N)) → label_at N tree p ≡ o
          → LabelStands c (parent_label rows k) (option_map (labelled_node c) o) S values ↔ LabelMayStand c tree primitives p o values i
      stands None e = (λ x. tt, λ x. tt)
      stands (Some (waits w)) e = (λ x. tt, λ x. tt)
      stands (Some (ran (action a args))) e = action_same S T states (slice_get c.hddl.actions a) args
      stands (Some (ran (task t args))) e = (λ x. tt, λ x. tt)
      stands (Some (ran (check m old))) e =
          let a = check_parent p at m old e in
          let b = check_same S T states (slice_get c.methods m) values in
          (λ x. (a.0 x.0, b.0 x.1), λ x. (a.1 x.0, b.1 x.1))
      stands (Some (used g)) e =
          let a = takes_have c g (ground_at N tree grown p g e) values in
          let b = method_same S T states (slice_get c.methods g.number) values in (
            λ x. elim x [ inl y ↦ inl y | inr y ↦ inr (a.0 y.0, b.0 y.1) ],
            λ x. elim x [ inl y ↦ inl y | inr y ↦ inr (a.1 y.0, b.1 y.1) ],
          )

      told : RowMayStand c rows (histories.state_in history) k values i ↔ MayStand c tree primitives p values i
      told = subst (λ z. LabelStands c (parent_label rows k) z S values
          ↔ MayStand c tree primitives p values i) (sym (label_here k p at)) (stands (label_at N tree p) refl)

  pub rows_tell_standing : RowsTellStanding c
  rows_tell_standing tree rows primitives history grown root same k p i at states = record {
    each = each;
    somehow = (λ x. (x.0, (each x.0).0 x.1), λ x. (x.0, (each x.0).1 x.1));
    chosen = λ values. each (values (chooser c tree p));
  }
    where
      each : (values : List ℕ) → RowMayStand c rows (histories.state_in history) k values i ↔ MayStand c tree primitives p values i
      each values = told tree rows primitives history grown root same k p i at states values
