-- A plan whose lines are fitted by these methods has a tree in which they decompose the tasks.
use Rattle.std.proofs.Common.{ℕ, ◌≡◌, ◌∙◌, map, slice_get, Some, refl, ap, sym, subst, Contains}
use Rattle.htn_base.specs.Different.{AreDifferent}
use Rattle.htn_base.proofs.DifferentLemmas.{different-right}
use Rattle.plan_texts.specs.SoundlyCompiled.{IsSoundlyCompiled}
use Rattle.plan_model.specs.declared.values.Compiled.{Compiled}
use Rattle.plan_model.specs.task_networks.Tree.{Tree, Address, used}
use Rattle.plan_model.specs.plan_meaning.Network.{GroundMethod, network}
use Rattle.hplan_text.specs.declared.values.HNode.{HNode}
use Rattle.hplan_text.specs.declared.values.HPlan.{HPlan}
use Rattle.hplan_text.specs.Printable.{IsSoundHPlan, line_id, node_id}
use Rattle.schedules.specs.latest.PlanLines.{SplitLine, PlanLines}
use Rattle.schedules.proofs.latest.Rearranged.{in_map}
use Rattle.tree_core.proofs.Gets.{get-map, place_of, at_place, one_place, mapped}
use Rattle.plan_encoder.specs.Calls.{Call, Decomposed, split_of, lines_of}
use Rattle.plan_encoder.specs.Records.{EachFits}
use Rattle.plan_encoder.specs.Records as records
use Rattle.plan_encoder.proofs.PlanTrees as plans
use Rattle.line_fits.specs.declared.fitted.Fits.{Fits}
use Rattle.line_fits.specs.declared.fitted.MethodFit.{MethodFit}
use Rattle.line_fits.specs.Fitted.{AreFits, method_of}
use Rattle.plan_trees.specs.Seeds.{IsFittedTree}
use Rattle.plan_trees.proofs.Fitted.{together_at}

module _ (c : Compiled) (plan : HPlan) (s : IsSoundHPlan plan) (fits : Fits) (f : AreFits c plan fits) where
  abbrev P : PlanLines ℕ Call Decomposed
  P = lines_of plan

  abbrev Split : Type 0
  Split = SplitLine ℕ Decomposed

  -- the method is the one that fits the line with this id
  abbrev Chosen : Split → GroundMethod → Type 0
  Chosen l g = (k : ℕ) (x : HNode) (fit : MethodFit) → slice_get plan.nodes k ≡ Some x → slice_get fits.splits k ≡ Some fit
      → x.line.id ≡ l.id → g ≡ method_of fit

  some_once : {A : Type 0} {x y : A} → Some x ≡ Some y → x ≡ y
  some_once e = cc

  choice : (l : Split) → Contains P.splits l → (g : GroundMethod) × records.Fits c P l g × Chosen l g
  choice l d =
      let (k, e) = place_of P.splits l d in
      let (x, at, same) = mapped split_of plan.nodes k l e in
      let (fit, there, fitted) = together_at _ plan.nodes fits.splits k x f.nodes at in
      let own : AreDifferent (map node_id plan.nodes) = different-right (map line_id plan.primitives) (map node_id plan.nodes) s.own in (
        method_of fit,
        subst (λ (z : Split). records.Fits c P z (method_of fit)) same fitted,
        λ j y other on has id. (
            let one = get-map node_id plan.nodes k x at in
            let two = get-map node_id plan.nodes j y on in
            let ids : x.line.id ≡ y.line.id = ap (λ (z : Split). z.id) same ∙ sym id in
            let places : j ≡ k = one_place (map node_id plan.nodes) own j k y.line.id two (one ∙ ap Some ids) in
            ap method_of (some_once (sym there ∙ ap (slice_get fits.splits) (sym places) ∙ has))),
      )

  abbrev each_fits : EachFits c P
  each_fits = record { root = (method_of fits.root, f.root); splits = λ l d. ((choice l d).0, (choice l d).1) }

  pub fitted_tree : IsSoundlyCompiled c → (tree : Tree (network c)) × (node : ℕ → Address) × IsFittedTree c plan fits tree node
  fitted_tree sc = (
    plans.tree c plan Chosen sc.problem sc.checks sc.sound sc.compiled s each_fits chosen,
    plans.node c plan Chosen sc.problem sc.checks sc.sound sc.compiled s each_fits chosen,
    record {
      of_plan = plans.tree_for c plan Chosen sc.problem sc.checks sc.sound sc.compiled s each_fits chosen;
      root = plans.root_label c plan Chosen sc.problem sc.checks sc.sound sc.compiled s each_fits chosen;
      splits = λ k x fit at has. (
          let (g, lab, is) = plans.chosen_there c plan Chosen sc.problem sc.checks sc.sound sc.compiled s each_fits chosen (split_of x)
          (in_map split_of plan.nodes x (at_place plan.nodes k x at)) in
          lab ∙ ap (λ z. Some (used z)) (is k x fit at has refl));
    },
  )
    where
      chosen : (l : Split) (d : Contains P.splits l) → Chosen l (each_fits.splits l d).0
      chosen l d = (choice l d).2
