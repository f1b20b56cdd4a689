-- A plan is placed once: one tree and one order.
use Rattle.std.proofs.Common.{ℕ, ◌≡◌, ◌∙◌, List, sym, subst}
use Rattle.plan_model.specs.declared.options.Checks.{Checks}
use Rattle.plan_model.specs.declared.values.Hddl.{Hddl}
use Rattle.plan_model.specs.declared.values.Compiled.{Compiled}
use Rattle.plan_model.specs.task_networks.Net.{Net}
use Rattle.plan_model.specs.task_networks.Tree.{Tree, Label, Address, IsAddress}
use Rattle.plan_model.specs.plan_meaning.Network.{network}
use Rattle.plan_model.specs.plan_meaning.Solution.{top_work}
use Rattle.hplan_text.specs.declared.values.HPlan.{HPlan}
use Rattle.schedules.specs.latest.Gaps.{IsPlanOf, IsGapFunction, IsLatest}
use Rattle.schedules.specs.latest.Execution.{IsSameShape}
use Rattle.schedules.specs.latest.LatestSchedule.{IsScheduleOf}
use Rattle.schedules.proofs.latest.OnlyOne.{schedule_is_the_only_one, same_gaps}
use Rattle.schedules.proofs.latest.Shapes.{same_gap_functions, same_plan, address_back}
use Rattle.schedules.proofs.latest.ShownTheorem.{steps}
use Rattle.value_choices.specs.Choices.{IsFirst}
use Rattle.plan_encoder.specs.Calls.{lines_of, words}
use Rattle.plan_encoder.specs.ChosenValues.{chosen, asking, MayStand}
use Rattle.plan_encoder.specs.Laws.{IsOf, IsTreeOfPlan, actions, MayStandSomehow}
use Rattle.plan_encoder.proofs.Standing.{choice}
use Rattle.placements.specs.Placement.{IsPlaced}
use Rattle.encode_answers.proofs.OnceTrees.{same_actions, same_labels, same_chosen}
use Rattle.encode_answers.proofs.OnceValues.{second_latest, same_gap, same_values}

module _ (h : Hddl) (mode : Checks) (c : Compiled) (of : IsOf h mode c) (plan : HPlan) where
  abbrev N : Net
  N = network c

  abbrev Gaps : Tree N → (ℕ → Address) → List (Label N) → (Address → ℕ) → Type 0
  Gaps tree node labels gap = IsLatest N tree (actions c plan node) (MayStandSomehow c tree labels) gap

  abbrev First : Tree N → List (Label N) → (Address → ℕ) → (Address → List ℕ) → Type 0
  First tree labels gap values = (p : Address) → IsAddress N tree p
      → IsFirst (λ v. MayStand c tree labels (asking c tree p) v (gap (asking c tree p))) (values p)

  module _ (tree other : Tree N) (node another : ℕ → Address) (t : IsTreeOfPlan c plan tree node) (o : IsTreeOfPlan c plan other another)
      (gap second : Address → ℕ) (values others : Address → List ℕ) where
    abbrev Acts : List Address
    Acts = actions c plan node

    -- with the same labels of the actions
    module _ (labels : List (Label N)) (latest : Gaps tree node labels gap) (first : First tree labels gap values)
        (other_latest : Gaps other another labels second) (other_first : First other labels second others) where
      same_trees : chosen c tree values ≡ chosen c other others
      same_trees = same_chosen h mode c of plan tree other node another t o values others
          (same_values h mode c of plan tree other node another t o labels gap second latest other_latest values others first other_first)

      shape : IsSameShape N tree (chosen c tree values)
      shape = (choice c h mode of.sound of.compiled tree t.grown t.no_leaves t.root labels).shape values

      a_plan : IsPlanOf N (chosen c tree values) Acts
      a_plan = same_plan N tree (chosen c tree values) shape Acts (steps N (words c) (top_work c) tree (lines_of plan) node t)

      abbrev Anything : Address → ℕ → Type 0
      Anything p i = Unit {0}

      one_gaps : IsGapFunction N (chosen c tree values) Acts Anything gap
      one_gaps = same_gap_functions N tree (chosen c tree values) shape Acts (MayStandSomehow c tree labels) Anything gap latest.is (λ p a. tt)

      other_gaps : IsGapFunction N (chosen c tree values) Acts Anything second
      other_gaps = same_gap_functions N tree (chosen c tree values) shape Acts (MayStandSomehow c tree labels) Anything second
          (second_latest h mode c of plan tree other node another t o labels gap second latest other_latest).is (λ p a. tt)

      same_order : (order following : List Address) → IsScheduleOf N (chosen c tree values) Acts gap order
          → IsScheduleOf N (chosen c other others) (actions c plan another) second following → order ≡ following
      same_order order following s r =
          let here : IsScheduleOf N (chosen c tree values) (actions c plan another) second following = subst (λ z. IsScheduleOf N z (actions c plan another) second following) (sym same_trees) r in
          let there : IsScheduleOf N (chosen c tree values) Acts second following = subst (λ z. IsScheduleOf N (chosen c tree values) z second following) (sym (same_actions h mode c of plan tree other node another t o)) here in
          schedule_is_the_only_one N (chosen c tree values) Acts a_plan Anything gap one_gaps order following s
          (same_gaps N (chosen c tree values) Acts a_plan Anything second gap other_gaps one_gaps
          (λ p a. sym (same_gap h mode c of plan tree other node another t o labels gap second latest other_latest p (address_back N tree (chosen c tree values) shape p a)))
          following there)

      pub one_placement : (order following : List Address) → IsScheduleOf N (chosen c tree values) Acts gap order
          → IsScheduleOf N (chosen c other others) (actions c plan another) second following
          → (chosen c tree values ≡ chosen c other others) × (order ≡ following)
      one_placement order following s r = (same_trees, same_order order following s r)

  pub placed_once : (tree other : Tree N) (order following : List Address) → IsPlaced c plan tree order → IsPlaced c plan other following
      → (tree ≡ other) × (order ≡ following)
  placed_once tree other order following x y =
      let t = x.has.of_plan in
      let o = y.has.of_plan in
      let labels : y.labels ≡ x.labels = sym (same_labels h mode c of plan x.bare y.bare x.node y.node t o x.labels y.labels x.has.are_labels y.has.are_labels) in
      let (trees, orders) = one_placement x.bare y.bare x.node y.node t o x.gap y.gap x.values y.values x.labels x.latest x.first
      (subst (λ z. Gaps y.bare y.node z y.gap) labels y.latest) (subst (λ z. First y.bare z y.gap y.values) labels y.first)
      order following
      (subst (λ z. IsScheduleOf N z (actions c plan x.node) x.gap order) x.tree_is x.schedule)
      (subst (λ z. IsScheduleOf N z (actions c plan y.node) y.gap following) y.tree_is y.schedule) in
      (x.tree_is ∙ trees ∙ sym y.tree_is, orders)
