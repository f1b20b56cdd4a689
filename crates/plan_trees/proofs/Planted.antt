-- The run that grows by the growths of a plan's seeds stands for the plan's tree.
use Rattle.std.proofs.Common.{ℕ, zero, suc, ◌≡◌, ◌<◌, ◌≤◌, ◌∙◌, List, [], ◌∷◌, length, map, slice_get, Some, None, refl, ap, sym, subst, arith}
use Rattle.std.proofs.lemmas.List.{length-map}
use Rattle.htn_base.specs.Limits.{most_steps}
use Rattle.plan_texts.specs.SoundlyCompiled.{IsSoundlyCompiled}
use Rattle.plan_texts.proofs.Together.{together-length}
use Rattle.plan_model.specs.declared.values.Compiled.{Compiled}
use Rattle.plan_model.specs.task_networks.Net.{Net}
use Rattle.plan_model.specs.task_networks.Tree.{Tree, Address, label_at}
use Rattle.plan_model.specs.task_networks.Preorder.{preorder}
use Rattle.plan_model.specs.plan_meaning.Network.{network}
use Rattle.hplan_text.specs.declared.values.HPlan.{HPlan}
use Rattle.hplan_text.specs.Printable.{IsSoundHPlan, task_ids, line_id, node_id}
use Rattle.schedules.specs.latest.PlanLines.{StepLine, step_ids}
use Rattle.tree_core.specs.Growths.{Growth, IsUnder, IsTreeOf}
use Rattle.tree_core.specs.Labels.{labels, growth_of, growths_of, labelled_growth}
use Rattle.tree_core.specs.Runs.{AreAt, IsRun, StandsFor}
use Rattle.tree_core.specs.declared.growth.Scheduled.{Scheduled}
use Rattle.tree_core.proofs.Columns.{are_at, many_rows_are}
use Rattle.tree_core.proofs.Gets.{get_some, get_within, get_left, get-map, place_of, one_place, mapped}
use Rattle.tree_core.proofs.Labelled.{runs_stand_for_trees}
use Rattle.plan_encoder.specs.Calls.{Call, step_of, lines_of}
use Rattle.plan_encoder.specs.Laws.{actions}
use Rattle.numbered_lines.specs.declared.lines.Lines.{Lines}
use Rattle.numbered_lines.specs.Numbered.{AreNumbered}
use Rattle.line_fits.specs.declared.fitted.Fits.{Fits}
use Rattle.line_fits.specs.Fitted.{AreFits}
use Rattle.plan_trees.specs.declared.seed.Source.{Source}
use Rattle.plan_trees.specs.declared.seed.Source.TheVariants.{Step}
use Rattle.plan_trees.specs.declared.seed.Seed.{Seed}
use Rattle.plan_trees.specs.Sources.{growth}
use Rattle.plan_trees.specs.Seeds.{IsFittedTree, StandsAt, AreSeeds, AreSeedsOf}
use Rattle.plan_trees.specs.Actions.{IsOnlySeed, AreActions}
use Rattle.plan_trees.specs.PlanTrees.{IsPlanTreeOf}
use Rattle.plan_trees.proofs.FittedTrees.{fitted_tree}
use Rattle.plan_trees.proofs.Labelling.{has_label, only_step}

pub as_many_at : (nodes : List Address) (ks : List ℕ) (ps : List Address) → AreAt nodes ks ps → length ks ≡ length ps
as_many_at nodes [] [] a = refl
as_many_at nodes [] (p ∷ ps) a = absurd a
as_many_at nodes (k ∷ ks) [] a = absurd a
as_many_at nodes (k ∷ ks) (p ∷ ps) a = ap suc (as_many_at nodes ks ps a.1)

node_at_place : (nodes : List Address) (ks : List ℕ) (ps : List Address) → AreAt nodes ks ps → (i : ℕ) (p : Address)
    → slice_get ps i ≡ Some p
    → (k : ℕ) × (slice_get ks i ≡ Some k) × (slice_get nodes k ≡ Some p)
node_at_place nodes [] [] a i p e = absurd cc
node_at_place nodes [] (q ∷ ps) a i p e = absurd a
node_at_place nodes (k ∷ ks) [] a i p e = absurd a
node_at_place nodes (k ∷ ks) (q ∷ ps) a zero p e = (k, refl, a.0 ∙ e)
node_at_place nodes (k ∷ ks) (q ∷ ps) a (suc i) p e = node_at_place nodes ks ps a.1 i p e

same_place : (made : List ℕ) (nodes : List Address) (j x k : ℕ) (p : Address) → slice_get made j ≡ Some x → slice_get made j ≡ Some k
    → slice_get nodes k ≡ Some p → slice_get nodes x ≡ Some p
same_place made nodes j x k p e f g = subst (λ z. slice_get nodes z ≡ Some p) (let h : k ≡ x = cc in h) g

-- as many addresses as seeds
pub as_many_as : (c : Compiled) (lines : Lines) (fits : Fits) (seeds : List Seed) (run : Scheduled)
    → IsRun (growths_of (map (growth c lines fits) seeds)) run → length run.order ≡ length seeds
as_many_as c lines fits seeds run r =
    as_many_at (preorder labels r.tree) run.order r.order r.places ∙ r.grown.growths_are.many
    ∙ length-map (map (growth c lines fits) seeds) growth_of ∙ length-map seeds (growth c lines fits)

module _ (c : Compiled) (plan : HPlan) (sp : IsSoundHPlan plan) (lines : Lines) (n : AreNumbered c plan lines) (fits : Fits)
    (f : AreFits c plan fits) (sc : IsSoundlyCompiled c) (tree : Tree (network c)) (node : ℕ
    → Address) (t : IsFittedTree c plan fits tree node) where
  abbrev N : Net
  N = network c

  abbrev Stands : Source → Address → Type 0
  Stands = StandsAt c lines fits plan node

  some_once : {A : Type 0} {x y : A} → Some x ≡ Some y → x ≡ y
  some_once e = cc

  -- the growth in the tree
  record IsGrowthOf (s : Seed) (p : Address) (g : Growth N) : Type 0 where
    parent : g.parent ≡ s.parent
    child : g.child ≡ s.child
    label : label_at N tree p ≡ Some g.label
    same : labelled_growth c g ≡ growth_of (growth c lines fits s)

  record AreGrowthsOf (ss : List Seed) (ps : List Address) : Type 0 where
    growths : List (Growth N)
    many : length growths ≡ length ss
    same : map (labelled_growth c) growths ≡ growths_of (map (growth c lines fits) ss)
    each : (k : ℕ) (g : Growth N) (p : Address) → slice_get growths k ≡ Some g → slice_get ps k ≡ Some p
        → (s : Seed) × (slice_get ss k ≡ Some s) × IsGrowthOf s p g

  one_growth : (s : Seed) (p : Address) → Stands s.source p → (g : Growth N) × IsGrowthOf s p g
  one_growth s p st =
      let (l, at, is) = has_label c plan lines n fits f tree node t sc.problem sc.checks sc.sound sc.compiled s.source p st in
      let g : Growth N = record { parent = s.parent; child = s.child; label = l } in (
        g,
        record {
          parent = refl;
          child = refl;
          label = at;
          same = λ i. record { parent = s.parent; child = s.child; label = is i };
        },
      )

  all_growths : (ss : List Seed) (ps : List Address) → length ps ≡ length ss
      → ((k : ℕ) (s : Seed) (p : Address) → slice_get ss k ≡ Some s → slice_get ps k ≡ Some p → Stands s.source p) → AreGrowthsOf ss ps
  all_growths [] [] e st = record { growths = []; many = refl; same = refl; each = λ k g p a b. absurd (let x : None ≡ Some g = a in cc) }
  all_growths [] (p ∷ ps) e st = absurd (omega arith)
  all_growths (s ∷ ss) [] e st = absurd (omega arith)
  all_growths (s ∷ ss) (p ∷ ps) e st =
      let (g, one) = one_growth s p (st 0 s p refl refl) in
      let r = all_growths ss ps (omega arith) (λ k u q a b. st (suc k) u q a b) in
      record {
        growths = g ∷ r.growths;
        many = ap suc r.many;
        same = (let a = one.same in let b = r.same in λ i. a i ∷ b i);
        each = each_of g one r;
      }
    where
      each_of : (g : Growth N) → IsGrowthOf s p g → (r : AreGrowthsOf ss ps) → (k : ℕ) (h : Growth N) (q : Address)
          → slice_get (g ∷ r.growths) k ≡ Some h → slice_get (p ∷ ps) k ≡ Some q → (u : Seed) × (slice_get (s ∷ ss) k ≡ Some u)
          × IsGrowthOf u q h
      each_of g one r zero h q a b =
          let x : g ≡ h = some_once a in
          let y : p ≡ q = some_once b in
          (s, refl, subst (λ z. IsGrowthOf s z h) y (subst (IsGrowthOf s p) x one))
      each_of g one r (suc k) h q a b = r.each k h q a b

  module _ (seeds : List Seed) (order : List Address) (a : AreSeeds c lines fits plan tree node seeds order) where
    grown : AreGrowthsOf seeds order
    grown = all_growths seeds order a.many a.stands

    is_tree : IsTreeOf N grown.growths tree order
    is_tree = record {
      growths_are = record {
        many = a.many ∙ sym grown.many;
        under = λ k g p e b. (
            let (s, at, is) = grown.each k g p e b in
            subst (λ i. IsUnder N order k g.parent i p) (sym is.child) (subst
            (λ o. IsUnder N order k o s.child p) (sym is.parent) (a.under k s p at b)));
        labels = λ k g p e b. (let (s, at, is) = grown.each k g p e b in is.label);
      };
      all = a.all;
      different = a.different;
    }

    stands_for : (run : Scheduled) → IsRun (growths_of (map (growth c lines fits) seeds)) run → StandsFor c run tree order
    stands_for run r = runs_stand_for_trees c grown.growths tree order run is_tree (subst (λ z. IsRun z run) (sym grown.same) r)

    -- the seed of a primitive line
    seed_of : (k id : ℕ) → k < length lines.steps → slice_get (task_ids plan) k ≡ Some id
        → (x : ℕ) × IsOnlySeed seeds k x × (slice_get order x ≡ Some (node id))
    seed_of k id l e =
        let stands : Stands (Step k) (node id) = (l, (id, e, refl)) in
        let (lab, at, is) = has_label c plan lines n fits f tree node t sc.problem sc.checks sc.sound sc.compiled (Step k) (node id) stands in
        let (x, here) = place_of order (node id) (a.all (node id) (lab, at)) in
        let (s, there) = get_some seeds x (let m = get_within order x (node id) here in let o = a.many in omega arith) in (
          x,
          record {
            seed = s;
            there = there;
            source = only_step c plan lines n fits f tree node t sc.problem sc.checks sc.sound sc.compiled sp k (node id) s.source stands (a.stands x s (node id) there here);
            only = λ y u w v. (
                let (q, m) = get_some order y (let m = get_within seeds y u w in let o = a.many in omega arith) in
                let (l', (id', e', r)) = subst (λ z. Stands z q) v (a.stands y u q w m) in
                let ids : id ≡ id' = some_once (sym e ∙ e') in
                one_place order a.different y x (node id) (m ∙ ap Some (r ∙ ap node (sym ids))) here);
          },
          here,
        )

    actions_there : (run : Scheduled) → StandsFor c run tree order → (made : List ℕ) → AreActions seeds run.order (length lines.steps) made
        → AreAt (preorder N tree) made (actions c plan node)
    actions_there run st made are = are_at made (preorder N tree) (actions c plan node) many each
      where
        as_many : length (actions c plan node) ≡ length lines.steps
        as_many =
            length-map (step_ids (lines_of plan)) node ∙ length-map (lines_of plan).steps (λ (l : StepLine ℕ Call). l.id)
            ∙ length-map plan.primitives step_of
            ∙ together-length _ plan.primitives lines.steps n.steps_are

        many : length made ≡ length (actions c plan node)
        many = are.many ∙ sym as_many

        each : (j x : ℕ) (p : Address) → slice_get made j ≡ Some x → slice_get (actions c plan node) j ≡ Some p
            → slice_get (preorder N tree) x ≡ Some p
        each j x p e g =
            let l : j < length lines.steps = (let m = get_within made j x e in let o = are.many in omega arith) in
            let (id, there, same) = mapped node (step_ids (lines_of plan)) j p g in
            let (step, at, is) = mapped (λ (l : StepLine ℕ Call). l.id) (lines_of plan).steps j id there in
            let (line, on, was) = mapped step_of plan.primitives j step at in
            let own : slice_get (task_ids plan) j ≡ Some id = get_left (map line_id plan.primitives) (map node_id plan.nodes) j id
            (get-map line_id plan.primitives j line on ∙ ap Some (ap (λ (z : StepLine ℕ Call). z.id) was ∙ is)) in
            let (k, only, here) = seed_of j id l own in
            let (address, has, node_is) = node_at_place (preorder N tree) run.order order st.places k (node id) here in
            let noted : slice_get made j ≡ Some address = are.each j k address l (get_within seeds k only.seed only.there) only has in
            same_place made (preorder N tree) j x address p e noted (subst (λ z. slice_get (preorder N tree) address ≡ Some z) same node_is)

pub is_plan_tree : (c : Compiled) (lines : Lines) (fits : Fits) → IsSoundlyCompiled c → (seeds : List Seed) → length seeds ≤ most_steps
    → AreSeedsOf c lines fits seeds → (run : Scheduled) → IsRun (growths_of (map (growth c lines fits) seeds)) run
    → (made : List ℕ) → AreActions seeds run.order (length lines.steps) made
    → IsPlanTreeOf c lines fits (record { tree = run.tree; actions = made })
is_plan_tree c lines fits sc seeds few are run r made acts plan sp pr n f =
    let (tree, node, t) = fitted_tree c plan sp fits f sc in
    let (order, a) = are plan sp pr n f tree node t in
    let st = stands_for c plan sp lines n fits f sc tree node t seeds order a run r in
    record {
      tree = tree;
      node = node;
      of_plan = t.of_plan;
      rows = st.rows;
      few = (
          let x = many_rows_are (growths_of (map (growth c lines fits) seeds)) r.tree r.order r.grown in
          let y = ap length r.rows in
          let z = length-map (map (growth c lines fits) seeds) growth_of in
          let w = length-map seeds (growth c lines fits) in
          omega arith);
      actions_are = actions_there c plan sp lines n fits f sc tree node t seeds order a run st made acts;
    }
