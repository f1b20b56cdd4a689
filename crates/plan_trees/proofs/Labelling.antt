-- The labels of the nodes of a plan's tree are those of the seeds, and a primitive line has one seed.
use Rattle.std.proofs.Common.{ℕ, ◌≡◌, ◌+◌, ◌<◌, inl, ◌∙◌, false, List, [], ◌∷◌, length, slice_get, Option, Some, None, refl, ap, sym, subst, Contains}
use Rattle.plan_texts.specs.SoundProblem.{IsSoundProblem}
use Rattle.plan_model.specs.declared.options.Checks.{Checks}
use Rattle.plan_model.specs.declared.values.Hddl.{Hddl}
use Rattle.plan_model.specs.declared.values.Compiled.{Compiled}
use Rattle.plan_model.specs.task_networks.Net.{Net}
use Rattle.plan_model.specs.task_networks.Tree.{Tree, open_leaf, done, split, Label, ran, used, Address, label, label_at, work_of}
use Rattle.plan_model.specs.plan_meaning.Compilation.{IsCompiled}
use Rattle.plan_model.specs.plan_meaning.Network.{Work, action, check, task, GroundMethod, IsPrimitive, network, top_task}
use Rattle.plan_model.specs.plan_meaning.Solution.{top_work}
use Rattle.plan_model.proofs.task_networks.Parents.{parent_label}
use Rattle.hplan_text.specs.declared.values.HLine.{HLine}
use Rattle.hplan_text.specs.declared.values.HNode.{HNode}
use Rattle.hplan_text.specs.declared.values.HPlan.{HPlan}
use Rattle.hplan_text.specs.Printable.{IsSoundHPlan, task_ids}
use Rattle.schedules.specs.latest.PlanLines.{SplitLine, line_ids}
use Rattle.schedules.specs.latest.Shown.{split_line, split_of_label, IsTreeFor}
use Rattle.schedules.proofs.latest.GrownTrees.{tree_there, ground_at, simple_at, its_work}
use Rattle.schedules.proofs.latest.Renumbered.{id_of_step}
use Rattle.schedules.proofs.latest.Rearranged.{in_map}
use Rattle.tree_core.specs.Labels.{labels, label_of, labelled_node}
use Rattle.tree_core.proofs.Gets.{at_place, one_place}
use Rattle.plan_encoder.specs.Calls.{Decomposed, step_of, split_of, lines_of, is_check, call, call_of, words, IsKnown}
use Rattle.plan_encoder.proofs.CallsApart.{same_action, same_task}
use Rattle.plan_encoder.proofs.SameRecords.{head_task}
use Rattle.plan_encoder.proofs.PlanTrees.{works_known}
use Rattle.numbered_lines.specs.declared.lines.Lines as declared
use Rattle.numbered_lines.specs.declared.lines.Said.{Said}
use Rattle.numbered_lines.specs.Numbered.{AreSaid, IsSplitOf, AreNumbered}
use Rattle.line_fits.specs.declared.fitted.Fits.{Fits}
use Rattle.line_fits.specs.declared.fitted.MethodFit.{MethodFit}
use Rattle.line_fits.specs.Fitted.{AreFits, method_of}
use Rattle.plan_trees.specs.declared.seed.Source.{Source}
use Rattle.plan_trees.specs.declared.seed.Source.TheVariants.{Step, Task, Check}
use Rattle.plan_trees.specs.Sources as sources
use Rattle.plan_trees.specs.Seeds.{IsFittedTree, IsNodeOf, StandsAt}
use Rattle.plan_trees.proofs.Fitted.{together_at, step_at, node_at, task_node, step_label_at, check_label_at}

some_once : {A : Type 0} {x y : A} → Some x ≡ Some y → x ≡ y
some_once e = cc

module _ (c : Compiled) (plan : HPlan) (lines : declared.Lines) (n : AreNumbered c plan lines) (fits : Fits)
    (f : AreFits c plan fits) (tree : Tree (network c)) (node : ℕ → Address) (t : IsFittedTree c plan fits tree node)
    (h : Hddl) (mode : Checks) (sound : IsSoundProblem h) (is : IsCompiled h mode c) where
  abbrev N : Net
  N = network c

  abbrev Stands : Source → Address → Type 0
  Stands = StandsAt c lines fits plan node

  g : IsTreeFor N (words c) (top_work c) (lines_of plan) tree node
  g = t.of_plan

  any : SplitLine ℕ Decomposed → GroundMethod → Type 0
  any l m = Unit {0}

  -- a work of a node that is not the root is known
  known_child : (j : ℕ) (q : Address) (l : Label N) (w : Work) → label_at N tree (j ∷ q) ≡ Some l
      → ((u : Tree N) → label N u ≡ l → work_of N u ≡ w) → is_check w ≡ false → IsKnown c w
  known_child j q l w e work nc =
      let (u, at, lab) = tree_there N tree (j ∷ q) (l, e) in
      let (m, o) = parent_label N tree j q (l, e) in
      let its : work_of N u ≡ w = work u (some_once (sym lab ∙ e)) in
      let there = its_work N tree g.grown j q m o u at ∙ ap Some its in
      works_known c plan any m (ground_at N tree g.grown q m o) w (at_place (N.works m) j w there) nc

  work_ran : (w : Work) (u : Tree N) → label N u ≡ ran w → work_of N u ≡ w
  work_ran w (open_leaf v) e = absurd cc
  work_ran w (done v) e = cc
  work_ran w (split m ts) e = absurd cc

  work_used : (m : GroundMethod) (u : Tree N) → label N u ≡ used m → work_of N u ≡ N.head m
  work_used m (open_leaf v) e = absurd cc
  work_used m (done v) e = absurd cc
  work_used m (split k ts) e = ap N.head (let x : k ≡ m = cc in x)

  known_ran : (p : Address) (w : Work) → label_at N tree p ≡ Some (ran w) → is_check w ≡ false → IsKnown c w
  known_ran [] w e nc = absurd (let r = t.root in let x : (let z : Label N = ran w in z) ≡ used (method_of fits.root) = some_once (sym e
      ∙ r) in cc)
  known_ran (j ∷ q) w e nc = known_child j q (ran w) w e (work_ran w) nc

  known_used : (p : Address) (m : GroundMethod) → label_at N tree p ≡ Some (used m) → (p ≡ [] → ⊥) → is_check (N.head m) ≡ false
      → IsKnown c (N.head m)
  known_used [] m e not nc = absurd (not refl)
  known_used (j ∷ q) m e not nc = known_child j q (used m) (N.head m) e (work_used m) nc

  -- a label of the tree that says the same
  abbrev HasLabel : Source → Address → Type 0
  HasLabel s p = (l : Label N) × (label_at N tree p ≡ Some l) × (labelled_node c l ≡ label_of (sources.label c lines fits s))

  step_has : (k : ℕ) (p : Address) → k < length lines.steps → IsNodeOf c lines fits plan node k p → HasLabel (Step k) p
  step_has k p l (id, e, q) =
      let (x, at, same) = step_at c plan lines n fits f tree node t k id l e in
      let (w, lab, nc, says) = step_label_at c plan lines n fits f tree node t k x at in
      let (o, there, said) = together_at (AreSaid c action) plan.primitives lines.steps k x n.steps_are at in
      let here = ap (label_at N tree) (q ∙ ap node (sym same)) ∙ lab in (
        ran w,
        here,
        go w x o nc (simple_at N tree g.grown p w here) (known_ran p w here nc) says said
            ∙ ap (λ z. label_of (sources.step_label z)) (sym there),
      )
    where
      go : (w : Work) (x : HLine) (o : Option Said) → is_check w ≡ false → IsPrimitive w → IsKnown c w → call c w ≡ call_of x
          → AreSaid c action x o → (let z : Label labels = ran w in z) ≡ label_of (sources.step_label (Some o))
      go (check m v) x o nc pr kn says said = absurd cc
      go (task m v) x o nc pr kn says said = absurd pr
      go (action a v) x None nc pr kn says said = absurd (said a v (record { known = kn; says = says }))
      go (action a v) x (Some s) nc pr kn says said = ap ran (same_action c h mode sound is a s.number v s.objects kn (says
          ∙ sym said.says))

  split_has : (k : ℕ) (p : Address) → IsNodeOf c lines fits plan node (length lines.steps + k) p → HasLabel (Task (Some k)) p
  split_has k p (id, e, q) =
      let (x, at, same) = node_at c plan lines n fits f tree node t k id e in
      let (fit, has, fitted) = together_at _ plan.nodes fits.splits k x f.nodes at in
      let (own, there, of) = together_at (IsSplitOf c (task_ids plan)) plan.nodes lines.splits k x n.splits_are at in
      let here = ap (label_at N tree) (q ∙ ap node (sym same)) ∙ t.splits k x fit at has in
      let (a, v, head) = head_task c (method_of fit) in
      let kn = known_used p (method_of fit) here (not_root x at (q ∙ ap node (sym same))) (ap is_check head) in
      let says : call c (N.head (method_of fit)) ≡ call_of x.line = ap (λ (z : Decomposed). z.task) fitted.says in (
        used (method_of fit),
        here,
        go fit x own.task a v head (subst (IsKnown c) head kn) (sym (ap (call c) head) ∙ says) of.task_is
            ∙ (λ i. label_of (sources.fitted_label own.task (sym has i))) ∙ ap
            (λ z. label_of (sources.split_label z (slice_get fits.splits k))) (sym there),
      )
    where
      go : (fit : MethodFit) (x : HNode) (o : Option Said) (a : ℕ) (v : List ℕ) → N.head (method_of fit) ≡ task a v → IsKnown c (task a v)
          → call c (task a v) ≡ call_of x.line → AreSaid c task x.line o
          → labelled_node c (used (method_of fit)) ≡ label_of (sources.fitted_label o (Some fit))
      go fit x None a v head kn says said = absurd (said a v (record { known = kn; says = says }))
      go fit x (Some s) a v head kn says said =
          let same = head ∙ same_task c h mode sound is a s.number v s.objects kn (says ∙ sym said.says) in
          λ i. used (record { head = same i; method = method_of fit })

      not_root : (x : HNode) → slice_get plan.nodes k ≡ Some x → p ≡ node x.line.id → p ≡ [] → ⊥
      not_root x at q r =
          let line = g.of_plan.splits (split_of x) (in_map split_of plan.nodes x (at_place plan.nodes k x at)) in
          let none : split_line N (words c) tree [] ≡ None = ap (λ o. split_of_label N (words c) o []) t.root in
          let same = ap (split_line N (words c) tree) (sym q ∙ r) in
          let z = sym none ∙ sym same ∙ line in
          cc

  root_has : (p : Address) → p ≡ [] → HasLabel (Task None) p
  root_has p e =
      let head = f.root.head in
      let number : top_task c ≡ c.hddl.top.task = subst
      (λ (z : Hddl). length z.tasks ≡ z.top.task) (sym is.hddl) (sym sound.value.top_task) in
      let same = head ∙ ap (λ z. task z []) number in
      (used (method_of fits.root), ap (label_at N tree) e ∙ t.root, λ i. used (record { head = same i; method = method_of fits.root }))

  pub has_label : (s : Source) (p : Address) → Stands s p → HasLabel s p
  has_label (Step k) p (l, x) = step_has k p l x
  has_label (Task None) p x = root_has p x
  has_label (Task (Some k)) p x = split_has k p x
  has_label (Check which) p (q, x, e, y) =
      let (fit, has, lab) = check_label_at c plan lines n fits f tree node t h mode sound is which q x y in
      (ran (check fit.method fit.values), ap (label_at N tree) e ∙ lab, ap (λ z. label_of (sources.check_label z)) (sym has))

  step_ran : (k : ℕ) (p : Address) → k < length lines.steps → IsNodeOf c lines fits plan node k p
      → (w : Work) × (label_at N tree p ≡ Some (ran w)) × (is_check w ≡ false)
  step_ran k p l (id, e, q) =
      let (x, at, same) = step_at c plan lines n fits f tree node t k id l e in
      let (w, lab, nc, says) = step_label_at c plan lines n fits f tree node t k x at in
      (w, ap (label_at N tree) (q ∙ ap node (sym same)) ∙ lab, nc)

  -- the id of a primitive line
  step_id : (k id : ℕ) → k < length lines.steps → slice_get (task_ids plan) k ≡ Some id → Contains (line_ids (lines_of plan)) id
  step_id k id l e =
      let (x, at, same) = step_at c plan lines n fits f tree node t k id l e in
      subst (Contains (line_ids (lines_of plan))) same (id_of_step (lines_of plan) (step_of x) (in_map step_of plan.primitives x (at_place plan.primitives k x at)))

  -- where the primitive of a line stands, nothing else stands
  pub only_step : IsSoundHPlan plan → (k : ℕ) (p : Address) (s : Source) → Stands (Step k) p → Stands s p → s ≡ Step k
  only_step sp k p (Step j) (l, (id, e, q)) (m, (id', e', q')) =
      let same : id ≡ id' = g.of_plan.one_to_one id id' (inl (step_id k id l e)) (inl (step_id j id' m e')) (sym q ∙ q') in
      ap Step (one_place (task_ids plan) sp.own j k id' e' (e ∙ ap Some same))
  only_step sp k p (Task which) (l, x) y =
      let (w, lab, nc) = step_ran k p l x in
      let r = (task_node c plan lines n fits f tree node t which p y).label in
      absurd (let z = sym lab ∙ r in cc)
  only_step sp k p (Check which) (l, x) (q, y, e, z) =
      let (w, lab, nc) = step_ran k p l x in
      let (fit, has, at) = check_label_at c plan lines n fits f tree node t h mode sound is which q y z in
      let same : w ≡ check fit.method fit.values = ran_once (some_once (sym lab ∙ ap (label_at N tree) e ∙ at)) in
      absurd (let r = sym nc ∙ ap is_check same in cc)
    where
      ran_once : {w v : Work} → (let z : Label N = ran w in z) ≡ ran v → w ≡ v
      ran_once e = cc
