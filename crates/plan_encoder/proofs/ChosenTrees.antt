-- A tree whose methods have other values that they can have: it is grown, and it shows the same plans.
use Rattle.std.proofs.Common.{ℕ, suc, ◌≡◌, ◌+◌, ◌∙◌, false, List, [], ◌∷◌, map, slice_get, Option, Some, None, option_map, refl, ap, sym, subst, arith}
use Rattle.plan_texts.specs.SoundProblem.{IsSoundProblem}
use Rattle.plan_model.specs.declared.options.Checks.{Checks}
use Rattle.plan_model.specs.declared.values.Hddl.{Hddl}
use Rattle.plan_model.specs.declared.values.Compiled.{Compiled}
use Rattle.plan_model.specs.task_networks.Net.{Net}
use Rattle.plan_model.specs.task_networks.Tree.{Tree, Trees, open_leaf, done, split, none, more, Label, waits, ran, used, Address, at, child_at, label, label_at, work_of, works_of, IsOpen, IsGrown, AreGrown}
use Rattle.plan_model.specs.plan_meaning.Compilation.{IsCompiled}
use Rattle.plan_model.specs.plan_meaning.Network.{Work, action, check, task, GroundMethod, IsPrimitive, network}
use Rattle.plan_model.specs.plan_meaning.Solution.{top_work}
use Rattle.plan_model.proofs.task_networks.Nodes.{child_below}
use Rattle.hplan_text.specs.ShownPlan.{method_name_by}
use Rattle.schedules.specs.latest.PlanLines.{PlanLines}
use Rattle.schedules.specs.latest.Relabelled.{relabelled, all_relabelled, new_label}
use Rattle.schedules.specs.latest.Shown.{PlanWords, shown_children, children_of_label, step_of_label, split_of_label, children_shown, step_line, split_line, IsTreeOf, IsTreeFor}
use Rattle.schedules.proofs.latest.GrownTrees.{ground_at}
use Rattle.schedules.proofs.latest.Relabelled.{label_at_new}
use Rattle.schedules.proofs.latest.SameTrees.{same_children}
use Rattle.plan_encoder.specs.Calls.{Call, Decomposed, is_check, call, words}
use Rattle.plan_encoder.specs.ChosenValues.{with_values, rechecked, CanHave, method_with, work_with, chosen}
use Rattle.plan_encoder.proofs.CompiledMethods.{head_no_check}
use Rattle.plan_encoder.proofs.Telling.{words_tell}

-- what is no check stays
pub work_stays : (values : Address → List ℕ) (p : Address) (w : Work) → is_check w ≡ false → work_with values p w ≡ w
work_stays values [] w e = refl
work_stays values (i ∷ q) (action a args) e = refl
work_stays values (i ∷ q) (check m old) e = absurd cc
work_stays values (i ∷ q) (task t args) e = refl

simple_stays : (values : Address → List ℕ) (p : Address) (w : Work) → IsPrimitive w → IsPrimitive (work_with values p w)
simple_stays values [] w s = s
simple_stays values (i ∷ q) (action a args) s = tt
simple_stays values (i ∷ q) (check m old) s = tt
simple_stays values (i ∷ q) (task t args) s = absurd s

module _ (c : Compiled) where
  abbrev N : Net
  N = network c

  abbrev W : PlanWords N
  W = words c

  pub same_split : (g : GroundMethod) (values : List ℕ) → CanHave c g values → W.split (with_values g values) ≡ W.split g
  same_split g values x = λ i. record { task = call c (x.head i); method = method_name_by c (slice_get c.methods g.number) }

  module _ (tree : Tree N) (values : Address → List ℕ) where
    abbrev new : Address → Tree N → Tree N
    new p t = relabelled N (work_with values) (method_with values) p t

    -- the labels of the new tree
    pub label_chosen : (p : Address)
        → label_at N (chosen c tree values) p ≡ option_map (new_label N (work_with values) (method_with values) p) (label_at N tree p)
    label_chosen p = label_at_new N (work_with values) (method_with values) tree p

    pub no_leaves_chosen : ((p : Address) → IsOpen N tree p → ⊥) → (p : Address) → IsOpen N (chosen c tree values) p → ⊥
    no_leaves_chosen n p (w, e) = go (label_at N tree p) refl (sym (label_chosen p) ∙ e)
      where
        go : (o : Option (Label N)) → label_at N tree p ≡ o
            → option_map (new_label N (work_with values) (method_with values) p) o ≡ Some (waits w) → ⊥
        go None f g = cc
        go (Some (waits v)) f g = n p (v, f)
        go (Some (ran v)) f g = cc
        go (Some (used m)) f g = cc

    module _ (have : (q : Address) (g : GroundMethod) → label_at N tree q ≡ Some (used g) → CanHave c g (values q)) where
      root_work : (p : Address) (t : Tree N) → at N tree p ≡ Some t → work_of N (new p t) ≡ work_with values p (work_of N t)
      root_work p (open_leaf w) e = refl
      root_work p (done w) e = refl
      root_work p (split g ts) e = (have p g (ap (option_map (label N)) e)).head ∙ sym (work_stays values p (N.head g) (head_no_check c g))

      -- children from number i on
      abbrev AreAt : Address → ℕ → Trees N → Type 0
      AreAt q i ts = (j : ℕ) → at N tree ((i + j) ∷ q) ≡ child_at N ts j

      first_at : (q : Address) (i : ℕ) (t : Tree N) (ts : Trees N) → AreAt q i (more t ts) → at N tree (i ∷ q) ≡ Some t
      first_at q i t ts e = subst (λ z. at N tree (z ∷ q) ≡ Some t) (let x : i + 0 ≡ i = omega arith in x) (e 0)

      rest_at : (q : Address) (i : ℕ) (t : Tree N) (ts : Trees N) → AreAt q i (more t ts) → AreAt q (suc i) ts
      rest_at q i t ts e j = subst (λ z. at N tree (z ∷ q) ≡ child_at N ts j) (let x : i + suc j ≡ suc i + j = omega arith in x) (e (suc j))

      works_new : (q : Address) (i : ℕ) (ts : Trees N) → AreAt q i ts
          → works_of N (all_relabelled N (work_with values) (method_with values) q i ts) ≡ map (rechecked (values q)) (works_of N ts)
      works_new q i none e = refl
      works_new q i (more t ts) e =
          let x : work_of N (new (i ∷ q) t) ≡ rechecked (values q) (work_of N t) = root_work (i ∷ q) t (first_at q i t ts e) in
          let r = works_new q (suc i) ts (rest_at q i t ts e) in
          λ k. x k ∷ r k

      mutual
        grown_new : (p : Address) (t : Tree N) → at N tree p ≡ Some t → IsGrown N t → IsGrown N (new p t)
        grown_new p (open_leaf w) e g = tt
        grown_new p (done w) e g = simple_stays values p w g
        grown_new p (split m ts) e g =
            let x = have p m (ap (option_map (label N)) e) in
            let kids : AreAt p 0 ts = λ j. subst (λ z. at N tree (z ∷ p) ≡ child_at N ts j) (let y : j ≡ 0 + j = omega arith in y) (child_below N tree j p m ts e) in
            (x.ground, works_new p 0 ts kids ∙ ap (map (rechecked (values p))) g.1 ∙ sym x.children, all_grown p 0 ts kids g.2)

        all_grown : (q : Address) (i : ℕ) (ts : Trees N) → AreAt q i ts → AreGrown N ts
            → AreGrown N (all_relabelled N (work_with values) (method_with values) q i ts)
        all_grown q i none e g = tt
        all_grown q i (more t ts) e g = (grown_new (i ∷ q) t (first_at q i t ts e) g.0, all_grown q (suc i) ts (rest_at q i t ts e) g.1)

      pub grown_chosen : IsGrown N tree → IsGrown N (chosen c tree values)
      grown_chosen g = grown_new [] tree refl g

      step_line_chosen : (p : Address) → step_line N W (chosen c tree values) p ≡ step_line N W tree p
      step_line_chosen p = ap (λ o. step_of_label N W o p) (label_chosen p) ∙ go p (label_at N tree p)
        where
          go : (p : Address) (o : Option (Label N))
              → step_of_label N W (option_map (new_label N (work_with values) (method_with values) p) o) p ≡ step_of_label N W o p
          go p None = refl
          go p (Some (waits w)) = refl
          go p (Some (used m)) = refl
          go [] (Some (ran w)) = refl
          go (i ∷ q) (Some (ran (action a args))) = refl
          go (i ∷ q) (Some (ran (check m old))) = refl
          go (i ∷ q) (Some (ran (task t args))) = refl

      module _ (h : Hddl) (mode : Checks) (sound : IsSoundProblem h) (is : IsCompiled h mode c) (grown : IsGrown N tree) where
        shown_chosen : (q : Address) (g : GroundMethod) → label_at N tree q ≡ Some (used g)
            → shown_children N W (with_values g (values q)) ≡ shown_children N W g
        shown_chosen q g e =
            let x = have q g e in
            same_children N W (top_work c) (words_tell c h mode sound is) (with_values g (values q)) g x.ground (ground_at N tree grown q g e) (same_split g (values q) x)

        split_line_chosen : (p : Address) → split_line N W (chosen c tree values) p ≡ split_line N W tree p
        split_line_chosen p = ap (λ o. split_of_label N W o p) (label_chosen p) ∙ go p (label_at N tree p) refl
          where
            go : (p : Address) (o : Option (Label N)) → label_at N tree p ≡ o
                → split_of_label N W (option_map (new_label N (work_with values) (method_with values) p) o) p ≡ split_of_label N W o p
            go p None e = refl
            go p (Some (waits w)) e = refl
            go p (Some (ran w)) e = refl
            go [] (Some (used g)) e = refl
            go (i ∷ q) (Some (used g)) e = λ k. Some (record {
              id = i ∷ q;
              split = (same_split g (values (i ∷ q)) (have (i ∷ q) g e)) k;
              children = map (λ j. j ∷ i ∷ q) ((shown_chosen (i ∷ q) g e) k);
            })

        children_chosen : (p : Address) → children_shown N W (chosen c tree values) p ≡ children_shown N W tree p
        children_chosen p = ap (λ o. children_of_label N W o p) (label_chosen p) ∙ go (label_at N tree p) refl
          where
            go : (o : Option (Label N)) → label_at N tree p ≡ o
                → children_of_label N W (option_map (new_label N (work_with values) (method_with values) p) o) p ≡ children_of_label N W o p
            go None e = refl
            go (Some (waits w)) e = refl
            go (Some (ran w)) e = refl
            go (Some (used g)) e = ap (map (λ j. j ∷ p)) (shown_chosen p g e)

        -- a plan of the tree is one of the new tree
        pub tree_for_chosen : (plan : PlanLines ℕ Call Decomposed) (node : ℕ → Address) → IsTreeFor N W (top_work c) plan tree node
            → IsTreeFor N W (top_work c) plan (chosen c tree values) node
        tree_for_chosen plan node t = record {
          grown = grown_chosen t.grown;
          root = root_work [] tree refl ∙ t.root;
          no_leaves = no_leaves_chosen t.no_leaves;
          of_plan = of_plan t.of_plan;
        }
          where
            of_plan : IsTreeOf N W tree plan node → IsTreeOf N W (chosen c tree values) plan node
            of_plan x = record {
              different = x.different;
              one_to_one = x.one_to_one;
              root = children_chosen [] ∙ x.root;
              steps = λ l d. step_line_chosen (node l.id) ∙ x.steps l d;
              splits = λ l d. split_line_chosen (node l.id) ∙ x.splits l d;
              all_steps = λ p l e. x.all_steps p l (sym (step_line_chosen p) ∙ e);
              all_splits = λ p l e. x.all_splits p l (sym (split_line_chosen p) ∙ e);
            }
