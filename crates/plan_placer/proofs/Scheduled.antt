-- What a pass over the tree of a plan finds is the latest schedule of a solution that shows the plan, or that there is none.
use Rattle.std.proofs.Common.{ℕ, suc, ◌≡◌, inl, inr, ◌<◌, ◌≤◌, Bool, true, false, cond, List, [], ◌∷◌, length, slice_get, slice_index_or, Option, Some, refl, ap, sym, subst, ◌∙◌, arith}
use Rattle.std.proofs.lemmas.Option.{slice_get_within}
use Rattle.plan_texts.specs.SoundlyCompiled.{IsSoundlyCompiled}
use Rattle.plan_model.specs.declared.values.Compiled.{Compiled}
use Rattle.plan_model.specs.task_networks.Net.{Net}
use Rattle.plan_model.specs.task_networks.Tree.{Tree, Label, waits, ran, used, Address, label_at, IsAddress}
use Rattle.plan_model.specs.task_networks.Preorder.{preorder}
use Rattle.plan_model.specs.task_networks.Executable.{AreLabels}
use Rattle.plan_model.specs.plan_meaning.Network.{check, GroundMethod, network}
use Rattle.plan_model.specs.plan_meaning.Solution.{top_work}
use Rattle.hplan_text.specs.declared.values.HPlan.{HPlan}
use Rattle.tree_core.specs.declared.growth.Scheduled.{Scheduled}
use Rattle.tree_core.specs.Tables.{Row, table}
use Rattle.tree_core.specs.Labels as of_rows
use Rattle.tree_core.specs.Labels.{labelled}
use Rattle.tree_core.specs.Runs.{AreAt}
use Rattle.tree_core.proofs.Siblings.{as_many, one_node_place, place_of_node}
use Rattle.tree_core.proofs.Labelled.{preorder-labelled}
use Rattle.tree_core.proofs.TableRows.{tables_tell_trees}
use Rattle.schedules.specs.latest.Gaps.{IsPlanOf, IsLatest}
use Rattle.schedules.specs.latest.Choices.{IsChoice}
use Rattle.schedules.specs.latest.Execution.{IsSameShape}
use Rattle.schedules.specs.latest.Shown.{place}
use Rattle.schedules.proofs.latest.Shapes.{same_gap_functions, same_plan}
use Rattle.schedules.proofs.latest.ShownTheorem.{steps}
use Rattle.plan_encoder.specs.Calls.{words, lines_of}
use Rattle.plan_encoder.specs.ChosenValues.{method_with, work_with, CanHave, chosen, is_checked, asking_by, asking, chooser, MayStand}
use Rattle.plan_encoder.specs.Laws.{IsOf, IsTreeOfPlan, actions, MayStandSomehow, MayStandWith}
use Rattle.plan_encoder.proofs.ChosenTrees.{grown_chosen}
use Rattle.plan_encoder.proofs.ShownLines.{place_is}
use Rattle.plan_encoder.proofs.Solutions.{solutions_exactly_where_gaps}
use Rattle.plan_encoder.proofs.Standing.{check_below, asks, choice, each_can_have}
use Rattle.value_choices.specs.Choices.{IsFirst}
use Rattle.state_history.specs.declared.history.History.{History}
use Rattle.state_history.specs.Histories.{state_in}
use Rattle.gap_pass.specs.LatestGaps.{AreLatest, HasNone}
use Rattle.gap_pass.specs.LatestGaps as gap_pass
use Rattle.node_conditions.specs.declared.stands.Stands.{Stands}
use Rattle.node_conditions.specs.Standing.{RowMayStand}
use Rattle.node_conditions.specs.Stands.{Somehow}
use Rattle.node_conditions.specs.Laws.{IsTold}
use Rattle.node_conditions.proofs.Rows.{rows_tell_standing}
use Rattle.chosen_trees.specs.ChosenTrees.{IsChosenTree}
use Rattle.chosen_trees.specs.ChosenTrees as choosing
use Rattle.schedule_queue.specs.Orders.{IsOrderOf}
use Rattle.schedule_queue.specs.Orders as ordering
use Rattle.plan_trees.specs.declared.plan_tree.PlanTree.{PlanTree}
use Rattle.placements.specs.Placement.{IsPlaced, HasNoPlace}
use Rattle.plan_placer.specs.Scheduling.{IsReached, AreFound}
use Rattle.plan_placer.specs.Placing.{IsPlacedRun}
use Rattle.plan_placer.proofs.Relabelled.{preorder_new}
use Rattle.plan_placer.proofs.GapFunctions.{Gives, gaps_to, latest_to}

-- as many labels as nodes
labels_many : (N : Net) (tree : Tree N) (ps : List Address) (ls : List (Label N)) → AreLabels N tree ps ls → length ls ≡ length ps
labels_many N tree [] [] a = refl
labels_many N tree (p ∷ ps) (l ∷ ls) a = ap suc (labels_many N tree ps ls a.1)
labels_many N tree [] (l ∷ ls) a = absurd a
labels_many N tree (p ∷ ps) [] a = absurd a

module _ (c : Compiled) (s : IsSoundlyCompiled c) (plan : HPlan) (made : PlanTree) (history : History)
    (r : IsReached c made history plan) where
  abbrev N : Net
  N = network c

  abbrev T : Tree N
  T = r.tree

  abbrev acts : List Address
  acts = actions c plan r.node

  abbrev t : IsTreeOfPlan c plan T r.node
  t = r.has.of_plan

  of : IsOf s.problem s.checks c
  of = record { sound = s.sound; ordered = s.ordered; compiled = s.compiled }

  a_plan : IsPlanOf N T acts
  a_plan = steps N (words c) (top_work c) T (lines_of plan) r.node t

  many : length r.done ≡ length acts
  many = labels_many N T acts r.done r.has.are_labels

  -- the child that asks for the values of a method with a check
  check_there : (q : Address) (g : GroundMethod) → label_at N T q ≡ Some (used g) → is_checked c g ≡ true
      → label_at N T (0 ∷ q) ≡ Some (ran (check g.number g.values))
  check_there = check_below c s.problem s.checks s.sound s.compiled T t.grown t.no_leaves t.root

  a_choice : IsChoice N T (List ℕ) (chosen c T) (MayStand c T r.done) (chooser c T)
  a_choice = choice c s.problem s.checks s.sound s.compiled T t.grown t.no_leaves t.root r.done

  -- what is asked of rows, and of the nodes at their places
  abbrev stands : ℕ → List ℕ → ℕ → Type 0
  stands = RowMayStand c made.tree (state_in history)

  abbrev May : Address → ℕ → Type 0
  May = gap_pass.MayStand c made.tree made.actions (Somehow stands) T

  abbrev Some_may : Address → ℕ → Type 0
  Some_may = MayStandSomehow c T r.done

  told : (k : ℕ) (p : Address) (i : ℕ) → slice_get (preorder N T) k ≡ Some p → i ≤ length acts
      → IsTold c made.tree history T r.done k p i
  told k p i e l = rows_tell_standing c T made.tree r.done history t.grown t.root r.rows k p i e
      (r.reached.has.states i (let m = many in omega arith))

  to_some : Gives N T acts May Some_may
  to_some p i a l (k, e, m) = (told k p i e l).somehow.0 m

  from_some : Gives N T acts Some_may May
  from_some p i a l m = let (k, e) = place_of_node N T p a in (k, e, (told k p i e l).somehow.1 m)

  setting : gap_pass.IsSetting c made.tree made.actions T acts
  setting = record { rows_are = r.rows; grown = t.grown; places = r.places; is_plan = a_plan }

  pub no_place : HasNone c made.tree made.actions (Somehow stands) → HasNoPlace c plan
  no_place n = record {
    tree = T;
    node = r.node;
    labels = r.done;
    has = r.has;
    executable = r.reached.has.executable;
    goal = r.reached.goal;
    none = λ x. (
        let (goal, (gap, g)) = (solutions_exactly_where_gaps c s.problem s.checks of plan T r.node r.done r.has).0 x in
        n T acts setting gap (gaps_to N T acts Some_may May from_some gap g));
  }

  module _ (found : Stands) (x : AreFound c made history found) where
    latest_gap : (gap : Address → ℕ)
        × ((k : ℕ) (p : Address) → slice_get (preorder N T) k ≡ Some p → slice_get found.gaps k ≡ Some (gap p)) × IsLatest N T acts May gap
    latest_gap = x.latest T acts setting

    abbrev gap : Address → ℕ
    gap = latest_gap.0

    -- the values of a method stand at the place of the node that asks for them
    abbrev values : Address → List ℕ
    values p = slice_index_or found.values (place (preorder N T) (asking c T p)) []

    its_place : (j : ℕ) (q : Address) → slice_get (preorder N T) j ≡ Some q → place (preorder N T) q ≡ j
    its_place j q e = place_is (preorder N T) j q (tables_tell_trees N T).once e

    rows_many : length made.tree ≡ length (preorder N T)
    rows_many = ap length r.rows ∙ as_many of_rows.labels (labelled c T) ∙ ap length (preorder-labelled c T)

    first_at : (p : Address) → IsAddress N T (asking c T p)
        → IsFirst (λ v. MayStand c T r.done (asking c T p) v (gap (asking c T p))) (values p)
    first_at p a =
        let q : Address = asking c T p in
        let (k, e) = place_of_node N T q a in
        let l : gap q ≤ length acts = latest_gap.2.is.range q a in
        let same = told k q (gap q) e l in
        let within : k < length made.tree = (let m = rows_many in let b = slice_get_within (preorder N T) k q e in omega arith) in
        let may : Somehow stands k (gap q) = (
        let (j, f, m) = latest_gap.2.is.allowed q a in
        subst (λ z. Somehow stands z (gap q)) (one_node_place N T j k q f e) m) in
        let first = x.first k (gap q) within (latest_gap.1 k q e) may in
        let here : slice_index_or found.values k [] ≡ values p = ap (λ n. slice_index_or found.values n []) (sym (its_place k q e)) in
        subst (IsFirst (λ v. MayStand c T r.done q v (gap q))) here (record {
          is = (same.each (slice_index_or found.values k [])).0 first.is;
          none_before = λ others o b. first.none_before others ((same.each others).1 o) b;
        })

    asking_node : (p : Address) → IsAddress N T p → IsAddress N T (asking c T p)
    asking_node p (l, e) = subst (λ (o : Option (Label N)). IsAddress N T (asking_by c p o)) (sym e) (go l e)
      where
        go : (l : Label N) → label_at N T p ≡ Some l → IsAddress N T (asking_by c p (Some l))
        go (waits w) e = (waits w, e)
        go (ran w) e = (ran w, e)
        go (used g) e = at (is_checked c g) refl
          where
            at : (b : Bool) → is_checked c g ≡ b → IsAddress N T (cond b (0 ∷ p) p)
            at true f = (_, check_there p g e f)
            at false f = (used g, e)

    first : (p : Address) → IsAddress N T p
        → IsFirst (λ v. MayStand c T r.done (asking c T p) v (gap (asking c T p))) (values p)
    first p a = first_at p (asking_node p a)

    -- so each node may stand in its gap
    all_stand : (p : Address) → IsAddress N T p → MayStandWith c T r.done values p (gap p)
    all_stand p a =
        let q : Address = chooser c T p in
        elim (asks c s.problem s.checks s.sound s.compiled T t.grown t.no_leaves t.root r.done p) [
          | inl e ↦ subst (λ z. MayStand c T r.done z (values q) (gap z)) (sym e) (first_at q (subst (IsAddress N T) e a)).is
          | inr any ↦ any (values q) (gap p)
        ]

    have : (q : Address) (g : GroundMethod) → label_at N T q ≡ Some (used g) → CanHave c g (values q)
    have = each_can_have c s.problem s.checks s.sound s.compiled T t.grown t.no_leaves t.root r.done values gap all_stand

    abbrev T' : Tree N
    T' = chosen c T values

    shape : IsSameShape N T T'
    shape = a_choice.shape values

    same_nodes : preorder N T' ≡ preorder N T
    same_nodes = preorder_new N (work_with values) (method_with values) T

    chosen_setting : choosing.IsSetting c made.tree found.values T values
    chosen_setting = record {
      rows_are = r.rows;
      grown = t.grown;
      root = t.root;
      values_are = λ k j p e f. ap (λ n. slice_index_or found.values n []) (its_place j (asking c T p) f);
      same_task = λ p g e. (have p g e).head;
    }

    order_setting : (rows : List (Row of_rows.labels)) → rows ≡ table of_rows.labels (labelled c T')
        → ordering.IsSetting c rows made.actions found.gaps T' acts gap
    order_setting rows e = record {
      rows_are = e;
      grown = grown_chosen c T values have t.grown;
      actions_are = subst (λ (z : List Address). AreAt z made.actions acts) (sym same_nodes) r.places;
      is_plan = same_plan N T T' shape acts a_plan;
      gaps_are = λ k p f. latest_gap.1 k p (subst (λ (z : List Address). slice_get z k ≡ Some p) same_nodes f);
      fits = same_gap_functions N T T' shape acts May (λ p i. Unit {0}) gap latest_gap.2.is (λ p a. tt);
    }

    placed_run : (run : Scheduled) → run.tree ≡ table of_rows.labels (labelled c T') → IsOrderOf c T' acts gap run.order
        → IsPlacedRun c plan run
    placed_run run e (nodes, places, schedule) = (T', nodes, placed, record { rows = e; places = places })
      where
        placed : IsPlaced c plan T' nodes
        placed = record {
          bare = T;
          node = r.node;
          labels = r.done;
          has = r.has;
          executable = r.reached.has.executable;
          goal = r.reached.goal;
          gap = gap;
          latest = latest_to N T acts May Some_may to_some from_some gap latest_gap.2;
          values = values;
          first = first;
          tree_is = refl;
          schedule = schedule;
        }

    -- the tree with these values, and the order of these gaps
    pub found_run : (list : List (List ℕ)) (gaps places : List ℕ) → list ≡ found.values → gaps ≡ found.gaps
        → places ≡ made.actions → (run : Scheduled) → IsChosenTree c made.tree list run.tree
        → ((other : Tree N) (nodes : List Address) (gap : Address → ℕ) → ordering.IsSetting c run.tree places gaps other nodes gap
        → IsOrderOf c other nodes gap run.order)
        → IsPlacedRun c plan run
    found_run list gaps places e f g run is_chosen is_order =
        let rows : run.tree ≡ table of_rows.labels (labelled c T') =
        subst (λ (z : List (List ℕ)). IsChosenTree c made.tree z run.tree) e is_chosen T values chosen_setting in
        let here : ordering.IsSetting c run.tree places gaps T' acts gap =
        subst (λ (z : List ℕ). ordering.IsSetting c run.tree z gaps T' acts gap) (sym g)
        (subst (λ (z : List ℕ). ordering.IsSetting c run.tree made.actions z T' acts gap) (sym f) (order_setting run.tree rows)) in
        placed_run run rows (is_order T' acts gap here)
