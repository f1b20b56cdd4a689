-- The acts that spell a tree with its cells, one after another: each is at the tip, which is known from those before it.
use Rattle.std.proofs.Common.{ℕ, ◌≡◌, ◌≤◌, ◌↔◌, inl, inr, List, [], ◌∷◌, ◌++◌, map, length, Option, Some, None, option_map, slice_get}
use Rattle.std.proofs.Common.{refl, ap, sym, ◌∙◌, arith}
use Rattle.std.specs.Option.{option_map_or}
use Rattle.std.proofs.lemmas.List.{length-map}
use Rattle.htn_base.specs.Escapes.{slot_word}
use Rattle.plan_model.specs.declared.schemas.MethodPlan.{MethodPlan}
use Rattle.plan_model.specs.declared.steps.GroundAction.{GroundAction}
use Rattle.plan_model.specs.declared.values.Compiled.{Compiled}
use Rattle.plan_model.specs.task_networks.Net.{count}
use Rattle.plan_model.specs.task_networks.Tree.{Tree, Label, ran, used, Address, label_at, IsAddress}
use Rattle.plan_model.specs.task_networks.Preorder.{preorder}
use Rattle.plan_model.specs.task_networks.Spelling.{Act, run, apply, AreActs}
use Rattle.plan_model.specs.plan_meaning.Network.{Work, GroundMethod, subtasks_of, child_of, network}
use Rattle.plan_model.specs.plan_meaning.SpelledPlan.{object_word}
use Rattle.tree_core.specs.Tables.{Row, table}
use Rattle.tree_core.specs.Labels.{labels, labelled, labelled_node, decomposition}
use Rattle.tree_core.specs.Runs.{label_in, AreAt}
use Rattle.slot_speller.specs.Children.{plan_by}
use Rattle.slot_speller.specs.Steps.{name_by, objects_by}
use Rattle.slot_speller.proofs.ChildRows as rows_of
use Rattle.stack_machine.specs.StackMachine.{StackState, after_tip, StackRuns}
use Rattle.stack_encoding.specs.StackSpelling.{cells_of, stack_step}
use Rattle.stack_speller.specs.Tips.{count_by, count_at, next_tip, cells_from}
use Rattle.stack_speller.specs.StackSteps.{step_at, steps_from}

-- the children of a plan are those of the method
count_of : (m : GroundMethod) (o : Option MethodPlan) → count_by o ≡ length (option_map_or (subtasks_of m) o [])
count_of m None = refl
count_of m (Some plan) = sym (length-map plan.schema.children (child_of m))

module _ (c : Compiled) (tree : Tree (network c)) (cell : Address → ℕ) where
  abbrev rows : List (Row labels)
  rows = table labels (labelled c tree)

  -- the step by the label, the tip and how many come
  abbrev step_by : Option (Label labels) → ℕ → ℕ → GroundAction
  step_by o h n = record { name = name_by c o; args = map slot_word (cells_of h n) ++ map (object_word c) (objects_by c o) }

  module _ (k : ℕ) (p : Address) (at_k : slice_get (preorder (network c) tree) k ≡ Some p) where
    ran_label : (w : Work) → label_at (network c) tree p ≡ Some (ran w) → label_in rows k ≡ Some (ran w)
    ran_label w l = rows_of.node_label c tree k p at_k ∙ ap (option_map (labelled_node c)) l

    ran_count : (w : Work) → label_at (network c) tree p ≡ Some (ran w) → count_at c rows k ≡ 0
    ran_count w l = ap (λ (o : Option (Label labels)). count_by (plan_by c o)) (ran_label w l)

    ran_step : (h tip : ℕ) (w : Work) → label_at (network c) tree p ≡ Some (ran w) → h ≡ tip → step_at c rows tip k ≡ stack_step c (run h w)
    ran_step h tip w l e = let o = ran_label w l in let n = ran_count w l in let f : tip ≡ h = sym e in λ i. step_by (o i) (f i) (n i)

    used_label : (m : GroundMethod) → label_at (network c) tree p ≡ Some (used m) → label_in rows k ≡ Some (used (decomposition c m))
    used_label m l = rows_of.node_label c tree k p at_k ∙ ap (option_map (labelled_node c)) l

    used_count : (m : GroundMethod) → label_at (network c) tree p ≡ Some (used m) → count_at c rows k ≡ count (network c) m
    used_count m l = ap count_by (rows_of.plan_of_node c tree k p m at_k l) ∙ count_of m (slice_get c.methods m.number)

    used_step : (h tip : ℕ) (new : List ℕ) (m : GroundMethod) → label_at (network c) tree p ≡ Some (used m) → h ≡ tip
        → step_at c rows tip k ≡ stack_step c (apply h new m)
    used_step h tip new m l e = let o = used_label m l in let n = used_count m l in let f : tip ≡ h = sym e in λ i. step_by (o i) (f i) (n i)

  abbrev IsTip : StackState (network c) → ℕ → Type 0
  IsTip s h = (x : ℕ) → s.tip x ↔ (x ≡ h)

  module _ (s : StackState (network c)) (tip k : ℕ) (is : IsTip s tip) (h : ℕ) (at : h ≡ tip) where
    ran_tip : (w : Work) → 1 ≤ h → count_at c rows k ≡ 0 → IsTip (after_tip (network c) s (run h w)) (next_tip c rows tip k)
    ran_tip w one none x = (
      λ t. elim t [ inl y ↦ absurd (y.1 ((is x).0 y.0 ∙ sym at)) | inr y ↦ omega arith ],
      λ e. inr (omega arith),
    )

    used_tip : (new : List ℕ) (m : GroundMethod) → 1 ≤ h → count_at c rows k ≡ count (network c) m
        → IsTip (after_tip (network c) s (apply h new m)) (next_tip c rows tip k)
    used_tip new m one many x = (
      λ t. elim t [ inl y ↦ absurd (y.1 ((is x).0 y.0 ∙ sym at)) | inr y ↦ omega arith ],
      λ e. inr (omega arith),
    )

  module _ (positive : (p : Address) → IsAddress (network c) tree p → 1 ≤ cell p) (b : ℕ) where
    pub along : (acts : List (Act (network c))) (order : List Address) (ks : List ℕ) (s : StackState (network c)) (tip : ℕ) → IsTip s tip
        → StackRuns (network c) b s acts → AreActs (network c) tree cell order acts → AreAt (preorder (network c) tree) ks order
        → (steps_from c rows tip ks ≡ map (stack_step c) acts) × (cells_from c rows tip ks ≡ map cell order)
    along [] [] [] s tip is runs are at = (refl, refl)
    along (run h w ∷ acts) (p ∷ ps) (k ∷ ks) s tip is runs are at =
        let l = are.0.0 in
        let own : h ≡ cell p = are.0.1 in
        let e : h ≡ tip = (is h).0 runs.0.tip in
        let one : 1 ≤ h = (let x = positive p (ran w, l) in omega arith) in
        let first = ran_step k p at.0 h tip w l e in
        let same : tip ≡ cell p = sym e ∙ own in
        let rest = along acts ps ks (after_tip (network c) s (run h w)) (next_tip c rows tip k)
        (ran_tip s tip k is h e w one (ran_count k p at.0 w l)) runs.1 are.1 at.1 in
        (λ i. first i ∷ rest.0 i, λ i. same i ∷ rest.1 i)
    along (apply h new m ∷ acts) (p ∷ ps) (k ∷ ks) s tip is runs are at =
        let l = are.0.0 in
        let own : h ≡ cell p = are.0.1 in
        let e : h ≡ tip = (is h).0 runs.0.tip in
        let one : 1 ≤ h = (let x = positive p (used m, l) in omega arith) in
        let first = used_step k p at.0 h tip new m l e in
        let same : tip ≡ cell p = sym e ∙ own in
        let rest = along acts ps ks (after_tip (network c) s (apply h new m)) (next_tip c rows tip k)
        (used_tip s tip k is h e new m one (used_count k p at.0 m l)) runs.1 are.1 at.1 in
        (λ i. first i ∷ rest.0 i, λ i. same i ∷ rest.1 i)
    along [] [] (k ∷ ks) s tip is runs are at = absurd at
    along [] (p ∷ ps) ks s tip is runs are at = absurd are
    along (a ∷ acts) [] ks s tip is runs are at = absurd are
    along (a ∷ acts) (p ∷ ps) [] s tip is runs are at = absurd at
