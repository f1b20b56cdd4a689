-- Two compiled values of the same texts say the same of trees that are the same: what lines a tree has, and which trees a plan has.
use Rattle.std.proofs.Common.{ℕ, ◌≡◌, List, [], ◌∷◌, map, filter, length, not, cond, Option, Some, None, slice_get, refl, ap, sym, subst, ◌∙◌}
use Rattle.std.specs.List.{filter_map}
use Rattle.plan_model.specs.declared.values.Compiled.{Compiled}
use Rattle.plan_model.specs.task_networks.Tree.{Tree, Label, waits, ran, used, Address, label_at}
use Rattle.plan_model.specs.task_networks.Spelling.{numbers}
use Rattle.plan_model.specs.plan_meaning.Network.{Work, GroundMethod, network}
use Rattle.renamed_networks.specs.Renamed.{SameLabel, SameTree}
use Rattle.renamed_networks.proofs.RenamedTrees.{SameOption, same_labels, same_work, grown_to, open_back}
use Rattle.hplan_text.specs.declared.values.HPlan.{HPlan}
use Rattle.schedules.specs.latest.PlanLines.{PlanLines, line_ids, renamed, IsRenumbering}
use Rattle.schedules.specs.latest.Shown.{is_shown, shown_children, children_of_label, step_of_label, split_of_label, children_shown, step_line, split_line, lines, place, IsTreeOf}
use Rattle.plan_encoder.specs.Calls.{Call, Decomposed, lines_of, is_check, call, subtasks, words, ShowsUnderSomeIds}
use Rattle.plan_encoder.specs.Laws.{IsTreeOfPlan}
use Rattle.decode_answers.proofs.AlikeValues.{AreTwins}
use Rattle.decode_answers.proofs.AlikeReaders.{Equal, head_same, works_same, objects_same, renaming, alike_readers}
use Rattle.decode_answers.proofs.AlikeShown.{object_same, method_same, name_same}

module _ (c d : Compiled) (t : AreTwins c d) where
  pub call_same : (w : Work) → call c w ≡ call d w
  call_same w =
      let e = name_same c d t w in
      let os = objects_same c d t w in
      λ i. record { name = e i; args = map (λ o. object_same c d t o i) (os i) }

  pub split_same : (g : GroundMethod) → (words c).split g ≡ (words d).split g
  split_same g =
      let e = call_same ((network c).head g) ∙ ap (call d) (head_same c d t g) in
      let m = method_same c d t g.number in
      λ i. record { task = e i; method = m i }

  pub subtasks_same : (g : GroundMethod) → subtasks c g ≡ subtasks d g
  subtasks_same g = ap (filter (λ w. not (is_check w))) (works_same c d t g)

  children_said : (g : GroundMethod) → shown_children (network c) (words c) g ≡ shown_children (network d) (words d) g
  children_said g =
      let e = works_same c d t g in
      λ k. filter (λ i. is_shown (network c) (words c) (slice_get (e k) i)) (numbers 0 (length (e k)))

  abbrev SameLabels : Option (Label (network c)) → Option (Label (network d)) → Type 0
  SameLabels = SameOption (network c) (network d) Equal Equal (SameLabel (network c) (network d) Equal Equal)

  -- what is told of a label
  module _ {A : Type 0} (f : Option (Label (network c)) → A) (g : Option (Label (network d)) → A) (nothing : f None ≡ g None)
      (waiting : (w : Work) → f (Some (waits w)) ≡ g (Some (waits w)))
      (finished : (w : Work) → f (Some (ran w)) ≡ g (Some (ran w)))
      (split : (m : GroundMethod) → f (Some (used m)) ≡ g (Some (used m))) where
    pub told : (o : Option (Label (network c))) (u : Option (Label (network d))) → SameLabels o u → f o ≡ g u
    told None None s = nothing
    told (Some (waits v)) (Some (waits w)) s = waiting v ∙ ap (λ z. g (Some (waits z))) s
    told (Some (ran v)) (Some (ran w)) s = finished v ∙ ap (λ z. g (Some (ran z))) s
    told (Some (used m)) (Some (used n)) s = split m ∙ ap (λ z. g (Some (used z))) s
    told None (Some l) s = absurd s
    told (Some k) None s = absurd s
    told (Some (waits v)) (Some (ran w)) s = absurd s
    told (Some (waits v)) (Some (used m)) s = absurd s
    told (Some (ran v)) (Some (waits w)) s = absurd s
    told (Some (ran v)) (Some (used m)) s = absurd s
    told (Some (used m)) (Some (waits w)) s = absurd s
    told (Some (used m)) (Some (ran w)) s = absurd s

  split_told : (p : Address) (g : GroundMethod)
      → split_of_label (network c) (words c) (Some (used g)) p ≡ split_of_label (network d) (words d) (Some (used g)) p
  split_told [] g = refl
  split_told (i ∷ p) g =
      let e = split_same g in
      let f = children_said g in
      λ z. Some (record { id = i ∷ p; split = e z; children = map (λ k. k ∷ i ∷ p) (f z) })

  module _ (tree : Tree (network c)) (other : Tree (network d)) (s : SameTree (network c) (network d) Equal Equal tree other) where
    pub same_label : (p : Address) → SameLabels (label_at (network c) tree p) (label_at (network d) other p)
    same_label = same_labels (network c) (network d) Equal Equal tree other s

    children_same : (p : Address) → children_shown (network c) (words c) tree p ≡ children_shown (network d) (words d) other p
    children_same p =
        told (λ o. children_of_label (network c) (words c) o p) (λ o. children_of_label (network d) (words d) o p) refl (λ w. refl)
        (λ w. refl) (λ g. ap (map (λ i. i ∷ p)) (children_said g))
        (label_at (network c) tree p) (label_at (network d) other p) (same_label p)

    step_line_same : (p : Address) → step_line (network c) (words c) tree p ≡ step_line (network d) (words d) other p
    step_line_same p =
        told (λ o. step_of_label (network c) (words c) o p) (λ o. step_of_label (network d) (words d) o p) refl (λ w. refl)
        (λ w. ap (λ z. cond (is_check w) None (Some (record { id = p; step = z }))) (call_same w)) (λ g. refl)
        (label_at (network c) tree p) (label_at (network d) other p) (same_label p)

    split_line_same : (p : Address) → split_line (network c) (words c) tree p ≡ split_line (network d) (words d) other p
    split_line_same p =
        told (λ o. split_of_label (network c) (words c) o p) (λ o. split_of_label (network d) (words d) o p) refl (λ w. refl) (λ w. refl)
        (split_told p)
        (label_at (network c) tree p) (label_at (network d) other p) (same_label p)

    lines_same : (order : List Address) → lines (network c) (words c) tree order ≡ lines (network d) (words d) other order
    lines_same order = λ i. record {
      steps = filter_map (λ p. step_line_same p i) order;
      root = children_same [] i;
      splits = filter_map (λ p. split_line_same p i) order;
    }

    -- the other tree shows the same plan
    pub shows_ids_to : (plan : HPlan) (order : List Address) → ShowsUnderSomeIds c plan tree order → ShowsUnderSomeIds d plan other order
    shows_ids_to plan order (new, r) = (
      new,
      subst (IsRenumbering new (lines_of plan)) (ap (λ z. renamed (place (line_ids z)) z) (lines_same order)) r,
    )

    -- it is a tree of the same plan
    tree_of_to : (plan : PlanLines ℕ Call Decomposed) (node : ℕ → Address) → IsTreeOf (network c) (words c) tree plan node
        → IsTreeOf (network d) (words d) other plan node
    tree_of_to plan node x = record {
      different = x.different;
      one_to_one = x.one_to_one;
      root = sym (children_same []) ∙ x.root;
      steps = λ l k. sym (step_line_same (node l.id)) ∙ x.steps l k;
      splits = λ l k. sym (split_line_same (node l.id)) ∙ x.splits l k;
      all_steps = λ p l e. x.all_steps p l (step_line_same p ∙ e);
      all_splits = λ p l e. x.all_splits p l (split_line_same p ∙ e);
    }

    pub of_plan_to : (plan : HPlan) (node : ℕ → Address) → IsTreeOfPlan c plan tree node → IsTreeOfPlan d plan other node
    of_plan_to plan node x =
        let r = renaming c d t in
        record {
          grown = grown_to (network c) (network d) Equal Equal r tree other s x.grown;
          root = sym (same_work (network c) (network d) Equal Equal r tree other s) ∙ x.root ∙ (alike_readers c d t).top;
          no_leaves = λ p o. x.no_leaves p (open_back (network c) (network d) Equal Equal r tree other s p o);
          of_plan = tree_of_to (lines_of plan) node x.of_plan;
        }
