-- What stands at the nodes of a plan's tree whose tasks are decomposed by the methods that fit their lines.
use Rattle.std.proofs.Common.{ℕ, zero, suc, ◌≡◌, ◌+◌, ◌-◌, ◌<◌, ◌≤◌, inl, inr, ◌∙◌, Bool, true, false, cond, nat_lt, List, [], ◌∷◌, ◌++◌, length, map, slice_get, Option, Some, None, refl, ap, sym, subst, arith}
use Rattle.std.specs.Option.{option_map_or}
use Rattle.std.proofs.lemmas.Bool.{ltb-true, lt-ltb, cases_lt}
use Rattle.std.proofs.lemmas.List.{length-map}
use Rattle.plan_texts.specs.SoundProblem.{IsSoundProblem}
use Rattle.plan_texts.specs.Together.{Together}
use Rattle.plan_texts.proofs.Together.{together-length}
use Rattle.plan_model.specs.declared.options.Checks.{Checks}
use Rattle.plan_model.specs.declared.networks.Child.{Child}
use Rattle.plan_model.specs.declared.networks.Head.{Head}
use Rattle.plan_model.specs.declared.networks.Head.TheVariants as head
use Rattle.plan_model.specs.declared.schemas.MethodPlan.{MethodPlan}
use Rattle.plan_model.specs.declared.values.Hddl.{Hddl}
use Rattle.plan_model.specs.declared.values.Compiled.{Compiled}
use Rattle.plan_model.specs.task_networks.Net.{Net, count}
use Rattle.plan_model.specs.task_networks.Spelling.{numbers}
use Rattle.plan_model.specs.task_networks.Tree.{Tree, open_leaf, done, split, Label, ran, used, Address, at, label, label_at, work_of, IsAddress}
use Rattle.plan_model.specs.plan_meaning.Compilation.{IsCompiled}
use Rattle.plan_model.specs.plan_meaning.Truth.{values_of}
use Rattle.plan_model.specs.plan_meaning.Network.{Work, check, GroundMethod, network, ground_work, child_of, IsGroundMethod}
use Rattle.plan_model.specs.plan_meaning.Solution.{top_work}
use Rattle.plan_model.proofs.task_networks.Parents.{address_child, parent_label, child_label}
use Rattle.hplan_text.specs.declared.values.HLine.{HLine}
use Rattle.hplan_text.specs.declared.values.HNode.{HNode}
use Rattle.hplan_text.specs.declared.values.HPlan.{HPlan}
use Rattle.hplan_text.specs.Printable.{task_ids, line_id, node_id}
use Rattle.schedules.specs.latest.PlanLines.{renamed_step, renamed_split}
use Rattle.schedules.specs.latest.Shown.{PlanWords, children_shown, children_of_label, step_line, split_line, split_of_label, IsTreeFor}
use Rattle.schedules.specs.latest.Shown as Lines
use Rattle.schedules.proofs.latest.GrownTrees.{ground_at}
use Rattle.schedules.proofs.latest.LinesOfTrees.{split_children}
use Rattle.schedules.proofs.latest.LinesOfTrees as of_lines
use Rattle.schedules.proofs.latest.Rearranged.{in_map}
use Rattle.tree_core.proofs.Gets.{get_cases, at_place, mapped}
use Rattle.plan_encoder.specs.Calls.{step_of, split_of, lines_of, is_check, call, call_of, words}
use Rattle.plan_encoder.proofs.CompiledMethods.{works_are, check_first, first_is_check}
use Rattle.plan_encoder.proofs.SameRecords.{head_task}
use Rattle.plan_encoder.proofs.ListedOnce.{falses, passing}
use Rattle.numbered_lines.specs.declared.lines.Lines as declared
use Rattle.numbered_lines.specs.declared.lines.Split as Splits
use Rattle.numbered_lines.specs.Numbered.{IsAtPlace, IsSplitOf, AreNumbered}
use Rattle.line_fits.specs.declared.fitted.Fits.{Fits}
use Rattle.line_fits.specs.declared.fitted.MethodFit.{MethodFit}
use Rattle.line_fits.specs.Fitted.{AreFits, method_of}
use Rattle.plan_trees.specs.declared.seed.Source.{Source}
use Rattle.plan_trees.specs.declared.seed.Source.TheVariants.{Step, Task, Check}
use Rattle.plan_trees.specs.Sources.{fit_of, listed, is_checked, source_at, lines_below, sources_below, all_below}
use Rattle.plan_trees.specs.Seeds.{IsFittedTree, IsTaskAt, StandsAt}
use Rattle.plan_trees.proofs.Growing.{EachStands}

-- the item that goes with the one at a place
pub together_at : {X Y : Type 0} (R : X → Y → Type 0) (xs : List X) (ys : List Y) (k : ℕ) (x : X) → Together R xs ys
    → slice_get xs k ≡ Some x
    → (y : Y) × (slice_get ys k ≡ Some y) × R x y
together_at R [] ys k x t e = absurd cc
together_at R (u ∷ xs) [] k x t e = absurd t
together_at R (u ∷ xs) (y ∷ ys) zero x t e = (y, refl, subst (λ z. R z y) (let f : u ≡ x = cc in f) t.0)
together_at R (u ∷ xs) (y ∷ ys) (suc k) x t e = together_at R xs ys k x t.1 e

some_once : {A : Type 0} {x y : A} → Some x ≡ Some y → x ≡ y
some_once e = cc

-- where none is a check, all are shown
no_checks : (ws : List Work) (k : ℕ) → ((i : ℕ) (w : Work) → slice_get ws i ≡ Some w → is_check w ≡ false)
    → falses k (map is_check ws) ≡ numbers k (length ws)
no_checks [] k h = refl
no_checks (w ∷ ws) k h =
    let r = no_checks ws (suc k) (λ i v e. h (suc i) v e) in
    ap (λ b. falses k (b ∷ map is_check ws)) (h 0 w refl) ∙ (λ i. k ∷ r i)

module _ (c : Compiled) (plan : HPlan) (lines : declared.Lines) (n : AreNumbered c plan lines) (fits : Fits)
    (f : AreFits c plan fits) (tree : Tree (network c)) (node : ℕ → Address) (t : IsFittedTree c plan fits tree node) where
  abbrev N : Net
  N = network c

  abbrev W : PlanWords N
  W = words c

  abbrev L : ℕ
  L = length lines.steps

  abbrev Stands : Source → Address → Type 0
  Stands = StandsAt c lines fits plan node

  g : IsTreeFor N W (top_work c) (lines_of plan) tree node
  g = t.of_plan

  as_many_steps : length (map line_id plan.primitives) ≡ L
  as_many_steps = length-map plan.primitives line_id ∙ together-length _ plan.primitives lines.steps n.steps_are

  -- the line at a place
  pub step_at : (k id : ℕ) → k < L → slice_get (task_ids plan) k ≡ Some id
      → (x : HLine) × (slice_get plan.primitives k ≡ Some x) × (x.id ≡ id)
  step_at k id l e = elim (get_cases (map line_id plan.primitives) (map node_id plan.nodes) k id e) [
    | inl (m, a) ↦ mapped line_id plan.primitives k id a
    | inr (j, a, b) ↦ absurd (let m = as_many_steps in omega arith)
  ]

  pub node_at : (k id : ℕ) → slice_get (task_ids plan) (L + k) ≡ Some id → (x : HNode) × (slice_get plan.nodes k ≡ Some x)
      × (x.line.id ≡ id)
  node_at k id e = elim (get_cases (map line_id plan.primitives) (map node_id plan.nodes) (L + k) id e) [
    | inl (m, a) ↦ absurd (let l = as_many_steps in omega arith)
    | inr (j, a, b) ↦ (
        let l = as_many_steps in
        let same : j ≡ k = omega arith in
        mapped node_id plan.nodes k id (subst (λ z. slice_get (map node_id plan.nodes) z ≡ Some id) same b))
  ]

  -- what is known of a decomposed task at its node
  pub record IsTaskNode (task : Option ℕ) (p : Address) : Type 0 where
    pub fit : MethodFit
    pub has : fit_of fits task ≡ Some fit
    pub label : label_at N tree p ≡ Some (used (method_of fit))
    pub ids : List ℕ
    pub listed : Together (IsAtPlace (task_ids plan)) (listed lines task) ids
    pub children : children_shown N W tree p ≡ map node ids

  pub task_node : (task : Option ℕ) (p : Address) → IsTaskAt c lines fits plan node task p → IsTaskNode task p
  task_node None p e = record {
    fit = fits.root;
    has = refl;
    label = ap (label_at N tree) e ∙ t.root;
    ids = plan.root;
    listed = n.root_is;
    children = ap (children_shown N W tree) e ∙ g.of_plan.root;
  }
  task_node (Some k) p (id, e, q) =
      let (x, at, is) = node_at k id e in
      let (fit, has, fitted) = together_at _ plan.nodes fits.splits k x f.nodes at in
      let (own, there, of) = together_at (IsSplitOf c (task_ids plan)) plan.nodes lines.splits k x n.splits_are at in
      let here : node x.line.id ≡ p = ap node is ∙ sym q in
      let line = g.of_plan.splits (split_of x) (in_map split_of plan.nodes x (at_place plan.nodes k x at)) in
      let kids = split_children N W tree g.grown g.no_leaves (node x.line.id) (renamed_split node (split_of x)) line in
      record {
        fit = fit;
        has = has;
        label = ap (label_at N tree) (sym here) ∙ t.splits k x fit at has;
        ids = x.ids;
        listed = subst (λ z. Together (IsAtPlace (task_ids plan)) z x.ids) (sym (ap (λ o. option_map_or
            (λ (z : Splits.Split). z.children) o []) there)) of.children_are;
        children = ap (children_shown N W tree) (sym here) ∙ sym kids;
      }

  -- the line at a place stands at its id's node
  line_stands : (place id : ℕ) (p : Address) → IsAtPlace (task_ids plan) place id → node id ≡ p → Stands (source_at L place) p
  line_stands place id p e q = go (nat_lt place L) refl
    where
      go : (b : Bool) → nat_lt place L ≡ b → Stands (cond b (Step place) (Task (Some (place - L)))) p
      go true l = (ltb-true place L l, (id, e, sym q))
      go false l = (
        id,
        ap (slice_get (task_ids plan))
            (let m = not_below place L l in let x : L + (place - L) ≡ place = omega arith in x) ∙ e,
        sym q,
      )
        where
          not_below : (a b : ℕ) → nat_lt a b ≡ false → b ≤ a
          not_below a b e = elim (cases_lt a b) [ inl l ↦ absurd (let x = lt-ltb a b l in cc) | inr l ↦ l ]

  lines_stand : (places ids : List ℕ) (j m : ℕ) (p : Address) → Together (IsAtPlace (task_ids plan)) places ids
      → map node ids ≡ map (λ i. i ∷ p) (numbers j m) → ((i : ℕ) → IsAddress N tree (i ∷ p) → i < j + m)
      → EachStands N tree Stands p j (map (source_at L) places)
  lines_stand [] [] j zero p d e w = λ i a. let x = w i a in omega arith
  lines_stand [] [] j (suc m) p d e w = absurd cc
  lines_stand [] (id ∷ ids) j m p d e w = absurd d
  lines_stand (place ∷ places) [] j m p d e w = absurd d
  lines_stand (place ∷ places) (id ∷ ids) j zero p d e w = absurd cc
  lines_stand (place ∷ places) (id ∷ ids) j (suc m) p d e w = (
    line_stands place id (j ∷ p) d.0 (let x : node id ≡ j ∷ p = cc in x),
    lines_stand places ids (suc j) m p d.1 (let x : map node ids ≡ map (λ i. i ∷ p) (numbers (suc j) m) = cc in x)
        (λ i a. (let x = w i a in let y : i < suc j + m = omega arith in y)),
  )

  -- a primitive has nothing below it
  nothing_below : (p : Address) (w : Work) → label_at N tree p ≡ Some (ran w) → (i : ℕ) → IsAddress N tree (i ∷ p) → i < 0
  nothing_below p w e i a = let (m, o) = parent_label N tree i p a in let x :
      (let z : Option (Label N) = Some (ran w) in z) ≡ Some (used m) = sym e ∙ o in cc

  pub step_label_at : (k : ℕ) (x : HLine) → slice_get plan.primitives k ≡ Some x
      → (w : Work) × (label_at N tree (node x.id) ≡ Some (ran w)) × (is_check w ≡ false) × (call c w ≡ call_of x)
  step_label_at k x at =
      let line = g.of_plan.steps (step_of x) (in_map step_of plan.primitives x (at_place plan.primitives k x at)) in
      let (w, e, nc, i, s) = of_lines.step_of N W (label_at N tree (node x.id)) (node x.id) (renamed_step node (step_of x)) line in
      (w, e, nc, sym s)

  module _ (h : Hddl) (mode : Checks) (sound : IsSoundProblem h) (is : IsCompiled h mode c) where
    -- the check of a method
    check_of : (m : GroundMethod) (p : MethodPlan) → slice_get c.methods m.number ≡ Some p → p.checked ≡ true
        → slice_get (N.works m) 0 ≡ Some (check m.number m.values)
    check_of m p e y =
        let (child, at, e2) = first_is_check c h mode sound is m.number p e y in
        ap (λ z. slice_get z 0) (works_are c m p e) ∙ mapped_at p.schema.children child at
        ∙ ap (λ z. Some (ground_work m z (values_of m.values child.args))) e2 ∙ all_values child
      where
        mapped_at : (xs : List Child) (child : Child) → slice_get xs 0 ≡ Some child
            → slice_get (map (child_of m) xs) 0 ≡ Some (child_of m child)
        mapped_at [] child e = absurd cc
        mapped_at (x ∷ xs) child e = ap (λ z. Some (child_of m z)) (let f : x ≡ child = cc in f)

        all_values : (child : Child) → Some (ground_work m head.Check (values_of m.values child.args)) ≡ Some (check m.number m.values)
        all_values child = refl

    only_check : (m : GroundMethod) (p : MethodPlan) → slice_get c.methods m.number ≡ Some p → (i : ℕ) (w : Work)
        → slice_get (N.works m) i ≡ Some w → is_check w ≡ true → (i ≡ 0) × (p.checked ≡ true)
    only_check m p e i w at y =
        let (child, there, same) = mapped (child_of m) p.schema.children i w (ap (λ z. slice_get z i) (sym (works_are c m p e)) ∙ at) in
        check_first c h mode sound is m.number p e i child there (is_head child.head (values_of m.values child.args) (ap is_check same ∙ y))
      where
        is_head : (x : Head) (args : List ℕ) → is_check (ground_work m x args) ≡ true → x ≡ head.Check
        is_head (head.Task u) args e = absurd cc
        is_head (head.Action u) args e = absurd cc
        is_head head.Check args e = refl

    shown_are : (m : GroundMethod) → Lines.shown_children N W m ≡ falses 0 (map is_check (N.works m))
    shown_are m = passing (Lines.is_shown N W) is_check (λ w. refl) (N.works m) (N.works m) 0 (λ k. ap (slice_get (N.works m))
        (let x : 0 + k ≡ k = omega arith in x))

    not_true : (b : Bool) → (b ≡ true → ⊥) → b ≡ false
    not_true true n = absurd (n refl)
    not_true false n = refl

    -- without a check all children are shown, and with a check all but the first
    shown_without : (m : GroundMethod) (p : MethodPlan) → slice_get c.methods m.number ≡ Some p → p.checked ≡ false
        → Lines.shown_children N W m ≡ numbers 0 (count N m)
    shown_without m p e y = shown_are m ∙ no_checks (N.works m) 0 (λ i w at. not_true (is_check w) (λ z.
        (let r = (only_check m p e i w at z).1 in let q = sym r ∙ y in cc)))

    shown_with : (m : GroundMethod) (p : MethodPlan) → slice_get c.methods m.number ≡ Some p → p.checked ≡ true
        → (k : ℕ) × (count N m ≡ 1 + k) × (Lines.shown_children N W m ≡ numbers 1 k)
    shown_with m p e y = go (N.works m) refl (shown_are m) (check_of m p e y)
      where
        go : (ws : List Work) → N.works m ≡ ws → Lines.shown_children N W m ≡ falses 0 (map is_check ws)
            → slice_get ws 0 ≡ Some (check m.number m.values)
            → (k : ℕ) × (length ws ≡ 1 + k) × (Lines.shown_children N W m ≡ numbers 1 k)
        go [] same s at = absurd cc
        go (w ∷ ws) same s at =
            let first : w ≡ check m.number m.values = some_once at in (
              length ws,
              (let x : suc (length ws) ≡ 1 + length ws = omega arith in x),
              s ∙ ap (λ z. falses 0 (is_check z ∷ map is_check ws)) first
                  ∙ no_checks ws 1 (λ i v at. not_true (is_check v) (λ z. (let r = (only_check m p e (suc i) v (ap
                  (λ z. slice_get z (suc i)) same ∙ at) z).0 in omega arith))),
            )

    checked_is : (task : Option ℕ) (fit : MethodFit) (p : MethodPlan) → fit_of fits task ≡ Some fit
        → slice_get c.methods fit.method ≡ Some p
        → is_checked c (fit_of fits task) ≡ p.checked
    checked_is which fit p e there = ap (is_checked c) e ∙ ap (λ o. option_map_or (λ (z : MethodPlan). z.checked) o false) there

    -- all that stands below a decomposed task
    task_below : (task : Option ℕ) (p : Address) → IsTaskAt c lines fits plan node task p → IsTaskNode task p
        → EachStands N tree Stands p 0 (sources_below c lines fits task)
    task_below which p there k = go (is_checked c (fit_of fits which)) refl
      where
        m : GroundMethod
        m = method_of k.fit

        ground : IsGroundMethod c m
        ground = ground_at N tree g.grown p m k.label

        kids : map node k.ids ≡ map (λ i. i ∷ p) (Lines.shown_children N W m)
        kids = sym k.children ∙ ap (λ o. children_of_label N W o p) k.label

        within : (i : ℕ) → IsAddress N tree (i ∷ p) → i < count N m
        within i a = address_child N tree p m i g.grown k.label a

        go : (b : Bool) → is_checked c (fit_of fits which) ≡ b
            → EachStands N tree Stands p 0 (cond b (Check which ∷ []) [] ++ lines_below lines which)
        go true e =
            let (j, many, shown) = shown_with m ground.plan ground.is (sym (checked_is which k.fit ground.plan k.has ground.is) ∙ e) in (
              (p, there, refl, e),
              lines_stand (listed lines which) k.ids 1 j p k.listed (kids ∙ ap (map (λ i. i ∷ p)) shown) (λ i a.
                  (let x = within i a in let y : i < 1 + j = omega arith in y)),
            )
        go false e =
            let shown = shown_without m ground.plan ground.is (sym (checked_is which k.fit ground.plan k.has ground.is) ∙ e) in
            lines_stand (listed lines which) k.ids 0 (count N m) p k.listed (kids ∙ ap (map (λ i. i ∷ p)) shown) (λ i a.
            (let x = within i a in let y : i < 0 + count N m = omega arith in y))

    pub check_label_at : (task : Option ℕ) (q : Address) → IsTaskAt c lines fits plan node task q → is_checked c (fit_of fits task) ≡ true
        → (fit : MethodFit) × (fit_of fits task ≡ Some fit) × (label_at N tree (0 ∷ q) ≡ Some (ran (check fit.method fit.values)))
    check_label_at which q there e =
        let k = task_node which q there in
        let m = method_of k.fit in
        let ground = ground_at N tree g.grown q m k.label in
        let w = check_of m ground.plan ground.is (sym (checked_is which k.fit ground.plan k.has ground.is) ∙ e) in
        let (u, lab, work) = child_label N tree g.grown q m 0 (check m.number m.values) k.label w in
        (k.fit, k.has, go u lab work)
      where
        go : {m : ℕ} {values : List ℕ} (u : Tree N) → label_at N tree (0 ∷ q) ≡ Some (label N u) → work_of N u ≡ check m values
            → label_at N tree (0 ∷ q) ≡ Some (ran (check m values))
        go (open_leaf w) lab work = absurd (g.no_leaves (0 ∷ q) (w, lab))
        go (done w) lab work = lab ∙ ap (λ z. Some (ran z)) work
        go (split v ts) lab work = let (a, b, r) = head_task c v in absurd (let x = sym r ∙ work in cc)

    -- what stands below each source
    pub below : (s : Source) (p : Address) → Stands s p → EachStands N tree Stands p 0 (all_below c lines fits s)
    below (Step k) p (l, (id, e, q)) =
        let (x, at, same) = step_at k id l e in
        let (w, lab, nc, call) = step_label_at k x at in
        nothing_below p w (ap (label_at N tree) (q ∙ ap node (sym same)) ∙ lab)
    below (Task which) p there = task_below which p there (task_node which p there)
    below (Check which) p (q, there, e, y) =
        let (fit, has, lab) = check_label_at which q there y in
        nothing_below p (check fit.method fit.values) (ap (label_at N tree) e ∙ lab)
