-- The step of a node is that of its act.
use Rattle.std.proofs.Common.{ℕ, ◌≡◌, inl, inr, List, [], ◌∷◌, ◌++◌, map, length, Option, Some, None}
use Rattle.std.proofs.Common.{option_map, slice_get, slice_index, refl, ap, sym, ◌∙◌, arith}
use Rattle.std.specs.Option.{option_and_then, option_map_or}
use Rattle.std.proofs.lemmas.Bool.{cases_lt}
use Rattle.std.proofs.lemmas.List.{length-map}
use Rattle.htn_base.specs.Escapes.{slot_word}
use Rattle.plan_model.specs.declared.schemas.MethodPlan.{MethodPlan}
use Rattle.plan_model.specs.declared.steps.GroundAction.{GroundAction}
use Rattle.plan_model.specs.declared.values.Compiled.{Compiled}
use Rattle.plan_model.specs.task_networks.Net.{count}
use Rattle.plan_model.specs.task_networks.Lawful.{IsLawful}
use Rattle.plan_model.specs.task_networks.Tree.{Tree, Label, ran, used, Address, label_at, IsGrown}
use Rattle.plan_model.specs.task_networks.Preorder.{preorder}
use Rattle.plan_model.specs.task_networks.Spelling.{Act, run, apply, others, IsAct, AreActs}
use Rattle.plan_model.specs.plan_meaning.Network.{GroundMethod, subtasks_of, child_of, network}
use Rattle.plan_model.specs.plan_meaning.SpelledPlan.{step_of, object_word}
use Rattle.plan_model.proofs.task_networks.OtherChildren.{rest_of, rest_cases}
use Rattle.slot_machine.proofs.OtherChildren.{map_same}
use Rattle.tree_core.specs.Tables.{Row, table}
use Rattle.tree_core.specs.Labels.{labels, labelled, labelled_node, decomposition}
use Rattle.tree_core.specs.Runs.{label_in, AreAt}
use Rattle.slot_speller.specs.Children.{child_in, plan_by}
use Rattle.slot_speller.specs.Steps.{name_by, objects_by, new_beside, new_by, step_at}
use Rattle.slot_speller.proofs.ChildRows as rows_of

module _ (c : Compiled) (law : IsLawful (network c)) (tree : Tree (network c)) (grown : IsGrown (network c) tree) (slot : Address → ℕ)
    (nodes : List ℕ)
    (known : (k : ℕ) (p : Address) → slice_get (preorder (network c) tree) k ≡ Some p → slice_index nodes k ≡ slot p) where
  abbrev rows : List (Row labels)
  rows = table labels (labelled c tree)

  -- the children other than the heir, by the plan
  abbrev others_by : GroundMethod → Option MethodPlan → List ℕ
  others_by m o = rest_of (option_and_then (λ (plan : MethodPlan). plan.heir) o) (length (option_map_or (subtasks_of m) o []))

  -- the new slots of a node that is decomposed
  new_slots : (k : ℕ) (p : Address) (m : GroundMethod) → slice_get (preorder (network c) tree) k ≡ Some p
      → label_at (network c) tree p ≡ Some (used m)
      → new_by rows nodes k (slice_get c.methods m.number) ≡ map (λ i. slot (i ∷ p)) (others (network c) m)
  new_slots k p m at_k l = by_plan (slice_get c.methods m.number) refl
    where
      by_heir : (plan : MethodPlan) → slice_get c.methods m.number ≡ Some plan → (o : Option ℕ) → plan.heir ≡ o
          → new_beside rows nodes k o (length plan.schema.children) ≡ map (λ i. slot (i ∷ p)) (rest_of o (length plan.schema.children))
      by_heir plan e None h = elim (cases_lt 0 (length plan.schema.children)) [
        | inr z ↦ ap (λ n. map (λ i. slot (i ∷ p)) (rest_of None n)) (let w : 0 ≡ length plan.schema.children = omega arith in w)
        | inl z ↦ absurd (
            let many : count (network c) m ≡ length plan.schema.children = ap
            (λ (o : Option MethodPlan). length (option_map_or (subtasks_of m) o [])) e ∙ length-map plan.schema.children (child_of m) in
            let (i, g) = law.has_heir m (omega arith) in
            let none : (network c).heir m ≡ None = ap (option_and_then (λ (x : MethodPlan). x.heir)) e ∙ h in
            let wrong : Some i ≡ None = sym g ∙ none in
            cc)
      ]
      by_heir plan e (Some heir) h = map_same (λ i. slice_index nodes (child_in rows k i)) (λ i. slot (i ∷ p))
          (rest_of (Some heir) (length plan.schema.children)) (λ i d. (
          let less = ((rest_cases (Some heir) (length plan.schema.children) i).0 d).0 in
          let many : count (network c) m ≡ length plan.schema.children = ap
          (λ (o : Option MethodPlan). length (option_map_or (subtasks_of m) o [])) e ∙ length-map plan.schema.children (child_of m) in
          known (child_in rows k i) (i ∷ p) (rows_of.child_stands c tree grown k p at_k m l i (omega arith))))

      by_plan : (o : Option MethodPlan) → slice_get c.methods m.number ≡ o
          → new_by rows nodes k o ≡ map (λ i. slot (i ∷ p)) (others_by m (slice_get c.methods m.number))
      by_plan None e = sym (ap (λ (o : Option MethodPlan). map (λ i. slot (i ∷ p)) (others_by m o)) e)
      by_plan (Some plan) e =
          by_heir plan e plan.heir refl
          ∙ ap (λ n. map (λ i. slot (i ∷ p)) (rest_of plan.heir n)) (sym (length-map plan.schema.children (child_of m)))
          ∙ sym (ap (λ (o : Option MethodPlan). map (λ i. slot (i ∷ p)) (others_by m o)) e)

  -- the step by the label and the slots
  abbrev step_by : Option (Label labels) → List ℕ → GroundAction
  step_by o slots = record { name = name_by c o; args = map slot_word slots ++ map (object_word c) (objects_by c o) }

  pub step_is : (k : ℕ) (p : Address) (a : Act (network c)) → slice_get (preorder (network c) tree) k ≡ Some p
      → IsAct (network c) tree slot p a
      → step_at c rows nodes k ≡ step_of c a
  step_is k p (run h w) at_k is =
      let l : label_in rows k ≡ Some (ran w) = rows_of.node_label c tree k p at_k ∙ ap (option_map (labelled_node c)) is.0 in
      let own : slice_index nodes k ≡ h = known k p at_k ∙ sym is.1 in
      λ i. step_by (l i) (own i ∷ new_by rows nodes k (plan_by c (l i)))
  step_is k p (apply h new m) at_k is =
      let l : label_in rows k ≡ Some (used (decomposition c m)) = rows_of.node_label c tree k p at_k
      ∙ ap (option_map (labelled_node c)) is.0 in
      let own : slice_index nodes k ≡ h = known k p at_k ∙ sym is.1 in
      let others : new_by rows nodes k (plan_by c (label_in rows k)) ≡ new = ap
      (λ (o : Option (Label labels)). new_by rows nodes k (plan_by c o)) l ∙ new_slots k p m at_k is.0 ∙ sym is.2 in
      λ i. step_by (l i) (own i ∷ others i)

  pub steps_are : (ks : List ℕ) (order : List Address) (acts : List (Act (network c))) → AreAt (preorder (network c) tree) ks order
      → AreActs (network c) tree slot order acts → map (step_at c rows nodes) ks ≡ map (step_of c) acts
  steps_are [] [] [] a b = refl
  steps_are (k ∷ ks) (p ∷ ps) (x ∷ xs) a b =
      let f = step_is k p x a.0 b.0 in
      let g = steps_are ks ps xs a.1 b.1 in
      λ i. f i ∷ g i
  steps_are [] [] (x ∷ xs) a b = absurd b
  steps_are (k ∷ ks) (p ∷ ps) [] a b = absurd b
  steps_are [] (p ∷ ps) xs a b = absurd a
  steps_are (k ∷ ks) [] xs a b = absurd a
