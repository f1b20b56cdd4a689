-- What is refused is shown by no solution: a solution gives the plan a tree, and a gap in which each action can be executed.
use Rattle.std.proofs.Common.{ℕ, ◌≡◌, inl, inr, ◌∙◌, List, [], ◌∷◌, ◌++◌, length, take, slice_get, Option, Some, None, Contains, false, refl, ap, sym, subst}
use Rattle.std.proofs.lemmas.List.Elements.{Contains-append_right}
use Rattle.std.proofs.Math.Seq.{take-append_seam}
use Rattle.plan_model.specs.declared.options.Checks.{Checks}
use Rattle.plan_model.specs.declared.values.Hddl.{Hddl}
use Rattle.plan_model.specs.declared.values.Compiled.{Compiled}
use Rattle.plan_model.specs.task_networks.Net.{Net}
use Rattle.plan_model.specs.task_networks.Tree.{Tree, Label, ran, Address, label_at}
use Rattle.plan_model.specs.task_networks.Executable.{AreLabels}
use Rattle.plan_model.specs.plan_meaning.Network.{Work, action, check, task, IsPrimitive, network}
use Rattle.plan_model.specs.plan_meaning.Solution.{Allows}
use Rattle.plan_model.proofs.task_networks.Lists.{Contains-here}
use Rattle.tree_core.proofs.Gets.{at_place}
use Rattle.hplan_text.specs.declared.values.HPlan.{HPlan}
use Rattle.hplan_text.specs.Printable.{IsSoundHPlan}
use Rattle.schedules.specs.latest.Gaps.{IsGapFunction}
use Rattle.schedules.specs.latest.PlanLines.{renamed_step}
use Rattle.schedules.proofs.latest.GrownTrees.{simple_at}
use Rattle.schedules.proofs.latest.LinesOfTrees.{step_of}
use Rattle.schedules.proofs.latest.Rearranged.{in_map}
use Rattle.schedules.proofs.latest.ShownTrees.{from_step_nodes}
use Rattle.plan_encoder.specs.Calls.{is_check, split_of, lines_of, words}
use Rattle.plan_encoder.specs.Records.{EachFits}
use Rattle.plan_encoder.specs.ChosenValues.{state_in, LabelMayStand}
use Rattle.plan_encoder.specs.Laws.{IsOf, SomeSolutionShows, actions, HasTree, MayStandSomehow, GoalAfter}
use Rattle.plan_encoder.proofs.Solutions.{solutions_exactly_where_gaps, solutions_exactly_where_placed}
use Rattle.plan_encoder.proofs.PlanTrees.{trees_exactly_where_fitting}
use Rattle.placements.specs.Matching.{IsUnmatched}
use Rattle.placements.specs.Placement.{state_after}
use Rattle.placements.specs.Laws.{IsRefused, RefusedAreShownByNone}

-- the node of the label at a place
node_of : (N : Net) (tree : Tree N) (ps : List Address) (before : List (Label N)) (l : Label N) (rest : List (Label N))
    → AreLabels N tree ps (before ++ l ∷ rest) → (p : Address) × (slice_get ps (length before) ≡ Some p) × (label_at N tree p ≡ Some l)
node_of N tree [] [] l rest a = absurd a
node_of N tree [] (k ∷ before) l rest a = absurd a
node_of N tree (p ∷ ps) [] l rest a = (p, refl, a.0)
node_of N tree (p ∷ ps) (k ∷ before) l rest a = node_of N tree ps before l rest a.1

module _ (h : Hddl) (mode : Checks) (c : Compiled) (of : IsOf h mode c) (plan : HPlan) (shown : SomeSolutionShows c plan) where
  abbrev N : Net
  N = network c

  each_fits : IsSoundHPlan plan → EachFits c (lines_of plan)
  each_fits sound =
      let (tree, node, labels, has, goal, gap, gaps) = (solutions_exactly_where_placed c h mode of plan).0 shown in
      (trees_exactly_where_fitting c h mode of plan sound).0 (tree, node, has.of_plan)

  matched : IsSoundHPlan plan → (id : Option ℕ) → IsUnmatched c plan id → ⊥
  matched sound None none = let (g, fits) = (each_fits sound).root in none g fits
  matched sound (Some id) (before, node, first, same) =
      let there : Contains plan.nodes node = subst (λ z. Contains z node) (sym first.parts) (Contains-append_right before (node ∷ first.rest) node (Contains-here node first.rest)) in
      let (g, fits) = (each_fits sound).splits (split_of node) (in_map split_of plan.nodes node there) in
      first.unfitted g fits

  module _ (tree : Tree N) (node : ℕ → Address) (labels : List (Label N)) (has : HasTree c plan tree node labels) where
    goal_and_gaps : GoalAfter c labels
        × ((gap : Address → ℕ) × IsGapFunction N tree (actions c plan node) (MayStandSomehow c tree labels) gap)
    goal_and_gaps = (solutions_exactly_where_gaps c h mode of plan tree node labels has).0 shown

    -- a line of the plan is of an action
    action_of : (p : Address) (l : Label N) → label_at N tree p ≡ Some l → Contains (actions c plan node) p
        → (w : Work) × (l ≡ ran w) × (is_check w ≡ false)
    action_of p l e d =
        let of_plan = has.of_plan.of_plan in
        let (k, f, g) = from_step_nodes N (words c) tree (lines_of plan) node of_plan p d in
        let (w, x, y, z, u) = step_of N (words c) (label_at N tree (node k.id)) (node k.id) (renamed_step node k) (of_plan.steps k f) in
        let r = ap (label_at N tree) g in
        (w, (let same : l ≡ ran w = cc in same), y)

    -- what may stand in a gap can be executed in it
    stands_allowed : (p : Address) (w : Work) (v : List ℕ) (i : ℕ) → is_check w ≡ false → IsPrimitive w
        → LabelMayStand c tree labels p (Some (ran w)) v i → Allows c (state_in c tree labels i) (ran w)
    stands_allowed p (action a args) v i n s m = m
    stands_allowed p (check k old) v i n s m = absurd cc
    stands_allowed p (task t args) v i n s m = absurd s

    allowed_after : (before : List (Label N)) (l : Label N) (rest : List (Label N)) → labels ≡ before ++ l ∷ rest
        → Allows c (state_after c before) l
    allowed_after before l rest parts =
        let (p, at, lab) = node_of N tree (actions c plan node) before l rest (subst (AreLabels N tree (actions c plan node)) parts has.are_labels) in
        let (w, is, no_check) = action_of p l lab (at_place (actions c plan node) (length before) p at) in
        let (gap, g) = goal_and_gaps.1 in
        let (v, may) = g.allowed p (l, lab) in
        let own : gap p ≡ length before = g.own (length before) p at in
        let in_gap : LabelMayStand c tree labels p (Some (ran w)) v (gap p) = subst (λ z. LabelMayStand c tree labels p z v (gap p)) (lab ∙ ap Some is) may in
        let allowed : Allows c (state_in c tree labels (gap p)) (ran w) = stands_allowed p w v (gap p) no_check (simple_at N tree has.of_plan.grown p w (lab ∙ ap Some is)) in_gap in
        let taken : take (gap p) labels ≡ before = ap (λ z. take z labels) own ∙ ap (take (length before)) parts ∙ take-append_seam before (l ∷ rest) in
        subst (λ z. Allows c (state_after c before) z) (sym is) (subst (λ z. Allows c (state_after c z) (ran w)) taken allowed)

  pub refused : IsSoundHPlan plan → IsRefused c plan → ⊥
  refused sound (inl (id, unmatched)) = matched sound id unmatched
  refused sound (inr (inl (id, x))) = x.fails (allowed_after x.tree x.node x.labels x.has x.before x.label x.rest x.parts)
  refused sound (inr (inr (inl x))) = x.goal (goal_and_gaps x.tree x.node x.labels x.has).0
  refused sound (inr (inr (inr x))) = x.none shown

pub refused_are_shown_by_none : (c : Compiled) → RefusedAreShownByNone c
refused_are_shown_by_none c h mode of plan sound is shown = refused h mode c of plan shown sound is
