-- Where nodes may stand, with chosen values: one node asks for the values of a method, and what may stand there can be executed.
use Rattle.std.proofs.Common.{ℕ, ◌≡◌, ◌⊎◌, inl, inr, ◌∙◌, Bool, true, false, List, [], ◌∷◌, map, cond, slice_get, Option, Some, None, option_map, refl, ap, sym, subst}
use Rattle.plan_texts.specs.SoundProblem.{IsSoundProblem}
use Rattle.plan_model.specs.declared.options.Checks.{Checks}
use Rattle.plan_model.specs.declared.networks.Head.{Head}
use Rattle.plan_model.specs.declared.networks.Head.TheVariants.{Task, Action, Check}
use Rattle.plan_model.specs.declared.values.Hddl.{Hddl}
use Rattle.plan_model.specs.declared.values.Compiled.{Compiled}
use Rattle.plan_model.specs.task_networks.Net.{Net}
use Rattle.plan_model.specs.task_networks.Tree.{Tree, open_leaf, done, split, Label, waits, ran, used, Address, label, label_at, work_of, IsAddress, IsOpen, IsGrown}
use Rattle.plan_model.specs.plan_meaning.Compilation.{IsCompiled}
use Rattle.plan_model.specs.plan_meaning.Truth.{State}
use Rattle.plan_model.specs.plan_meaning.Network.{Work, action, check, task, GroundMethod, network, child_of, ground_work}
use Rattle.plan_model.specs.plan_meaning.Solution.{top_work, Allows, AllowsMethod, next, initial}
use Rattle.plan_model.proofs.task_networks.Parents.{parent_label, child_label}
use Rattle.tree_core.proofs.Gets.{mapped, get-map}
use Rattle.schedules.specs.latest.Execution.{AllowedAt}
use Rattle.schedules.specs.latest.Relabelled.{new_label}
use Rattle.schedules.specs.latest.Choices.{IsChoice}
use Rattle.schedules.proofs.latest.GrownTrees.{tree_there, ground_at, simple_at, its_work}
use Rattle.schedules.proofs.latest.Relabelled.{same_shape}
use Rattle.plan_encoder.specs.Calls.{is_check}
use Rattle.plan_encoder.specs.ChosenValues.{with_values, CanHave, method_with, work_with, chosen, is_checked_by, is_checked, is_check_at, asking_by, chooser, asking, state_in, LabelMayStand, MayStand}
use Rattle.plan_encoder.proofs.CompiledMethods.{works_are, head_no_check, check_first, first_is_check, checked_or_tested}
use Rattle.plan_encoder.proofs.ChosenTrees.{label_chosen}

no_check_head : (g : GroundMethod) (head : Head) (v : List ℕ) (m : ℕ) (old : List ℕ) → ground_work g head v ≡ check m old → head ≡ Check
no_check_head g (Task t) v m old e = absurd cc
no_check_head g (Action a) v m old e = absurd cc
no_check_head g Check v m old e = refl

is_check_work : (g : GroundMethod) (head : Head) (v : List ℕ) → head ≡ Check → ground_work g head v ≡ check g.number g.values
is_check_work g head v e = ap (λ z. ground_work g z v) e

module _ (c : Compiled) where
  abbrev N : Net
  N = network c

  pub work_of_ran : (t : Tree N) (w : Work) → label N t ≡ ran w → work_of N t ≡ w
  work_of_ran (open_leaf v) w e = absurd cc
  work_of_ran (done v) w e = cc
  work_of_ran (split m ts) w e = absurd cc

  module _ (h : Hddl) (mode : Checks) (sound : IsSoundProblem h) (is : IsCompiled h mode c) (tree : Tree N) (grown : IsGrown N tree)
      (no_leaves : (p : Address) → IsOpen N tree p → ⊥) (root : work_of N tree ≡ top_work c) where
    -- a check stands at the first child of a checked method
    pub record IsFirst (p : Address) : Type 0 where
      pub parent : Address
      pub method : GroundMethod
      pub here : p ≡ 0 ∷ parent
      pub above : label_at N tree parent ≡ Some (used method)
      pub checked : is_checked c method ≡ true

    pub check_is_first : (p : Address) (m : ℕ) (old : List ℕ) → label_at N tree p ≡ Some (ran (check m old)) → IsFirst p
    check_is_first [] m old e = absurd (let f : label N tree ≡ ran (check m old) = cc in let g : check m old ≡ top_work c = sym (work_of_ran tree (check m old) f) ∙ root in cc)
    check_is_first (j ∷ q) m old e =
        let (g, up) = parent_label N tree j q (ran (check m old), e) in
        let (t, there, lab) = tree_there N tree (j ∷ q) (ran (check m old), e) in
        let work : work_of N t ≡ check m old = work_of_ran t (check m old) (let f : label N t ≡ ran (check m old) = cc in f) in
        let ground = ground_at N tree grown q g up in
        let got : slice_get (map (child_of g) ground.plan.schema.children) j ≡ Some (work_of N t) = ap (λ z. slice_get z j) (sym (works_are c g ground.plan ground.is)) ∙ its_work N tree grown j q g up t there in
        let (child, at, same) = mapped (child_of g) ground.plan.schema.children j (work_of N t) got in
        let first = check_first c h mode sound is g.number ground.plan ground.is j child at (no_check_head g child.head _ m old (same ∙ work)) in
        record { parent = q; method = g; here = ap (λ z. z ∷ q) first.0; above = up; checked = ap (is_checked_by c) ground.is ∙ first.1 }

    -- and there is one
    pub check_below : (q : Address) (g : GroundMethod) → label_at N tree q ≡ Some (used g) → is_checked c g ≡ true
        → label_at N tree (0 ∷ q) ≡ Some (ran (check g.number g.values))
    check_below q g e f =
        let ground = ground_at N tree grown q g e in
        let (child, at, head) = first_is_check c h mode sound is g.number ground.plan ground.is (sym (ap (is_checked_by c) ground.is) ∙ f) in
        let work : slice_get (N.works g) 0 ≡ Some (child_of g child) = ap (λ z. slice_get z 0) (works_are c g ground.plan ground.is) ∙ get-map (child_of g) ground.plan.schema.children 0 child at in
        let (t, lab, is_work) = child_label N tree grown q g 0 (child_of g child) e work in
        go t lab (is_work ∙ is_check_work g child.head _ head)
      where
        go : (t : Tree N) → label_at N tree (0 ∷ q) ≡ Some (label N t) → work_of N t ≡ check g.number g.values
            → label_at N tree (0 ∷ q) ≡ Some (ran (check g.number g.values))
        go (open_leaf w) lab k = absurd (no_leaves (0 ∷ q) (w, lab))
        go (done w) lab k = lab ∙ ap (λ z. Some (ran z)) k
        go (split m ts) lab k = absurd (let x = head_no_check c m in let y = ap is_check k in cc)

    module _ (labels : List (Label N)) where
      abbrev Asks : Address → Type 0
      Asks p = (p ≡ asking c tree (chooser c tree p)) ⊎ ((v : List ℕ) (i : ℕ) → MayStand c tree labels p v i)

      -- a node asks for the values of a method, or stands in each gap with all of them
      pub asks : (p : Address) → Asks p
      asks p = only p (label_at N tree p) refl
        where
          chooses_itself : (p : Address) (o : Option (Label N)) → label_at N tree p ≡ o → is_check_at c o ≡ false → chooser c tree p ≡ p
          chooses_itself [] o e f = refl
          chooses_itself (i ∷ q) o e f = ap (λ b. cond b q (i ∷ q)) (ap (is_check_at c) e ∙ f)

          itself : (p : Address) (o : Option (Label N)) → label_at N tree p ≡ o → is_check_at c o ≡ false → asking_by c p o ≡ p → Asks p
          itself p o e f g = inl (sym (ap (asking c tree) (chooses_itself p o e f) ∙ ap (asking_by c p) e ∙ g))

          nothing : (p : Address) (o : Option (Label N)) → label_at N tree p ≡ o
              → ((v : List ℕ) (i : ℕ) → LabelMayStand c tree labels p o v i) → Asks p
          nothing p o e f = inr (λ v i. subst (λ z. LabelMayStand c tree labels p z v i) (sym e) (f v i))

          only : (p : Address) (o : Option (Label N)) → label_at N tree p ≡ o → Asks p
          only p None e = nothing p None e (λ v i. tt)
          only p (Some (waits w)) e = nothing p (Some (waits w)) e (λ v i. tt)
          only p (Some (ran (action a args))) e = itself p (Some (ran (action a args))) e refl refl
          only p (Some (ran (task t args))) e = nothing p (Some (ran (task t args))) e (λ v i. tt)
          only p (Some (ran (check m old))) e =
              let x = check_is_first p m old e in
              let lab : label_at N tree (0 ∷ x.parent) ≡ Some (ran (check m old)) = ap (label_at N tree) (sym x.here) ∙ e in
              let ch : chooser c tree p ≡ x.parent = ap (chooser c tree) x.here ∙ ap (λ o. cond (is_check_at c o) x.parent (0 ∷ x.parent)) lab in
              let asks : asking c tree x.parent ≡ 0 ∷ x.parent = ap (asking_by c x.parent) x.above ∙ ap (λ b. cond b (0 ∷ x.parent) x.parent) x.checked in
              inl (x.here ∙ sym asks ∙ ap (asking c tree) (sym ch))
          only p (Some (used g)) e = go (is_checked c g) refl
            where
              go : (b : Bool) → is_checked c g ≡ b → Asks p
              go true f = nothing p (Some (used g)) e (λ v i. inl f)
              go false f = itself p (Some (used g)) e refl (ap (λ b. cond b (0 ∷ p) p) f)

      -- one node asks for the values of a method
      pub choice : IsChoice N tree (List ℕ) (chosen c tree) (MayStand c tree labels) (chooser c tree)
      choice = record {
        shape = λ values. same_shape N (work_with values) (method_with values) (λ p m i j. (λ x. x, λ x. x)) tree;
        asking = asking c tree;
        only = asks;
      }

      module _ (values : Address → List ℕ) (gap : Address → ℕ)
          (stands : (p : Address) → IsAddress N tree p → MayStand c tree labels p (values (chooser c tree p)) (gap p)) where
        -- what is asked of node p, whose label this is
        at_label : (p : Address) (l : Label N) → label_at N tree p ≡ Some l
            → LabelMayStand c tree labels p (Some l) (values (chooser c tree p)) (gap p)
        at_label p l e = subst (λ z. LabelMayStand c tree labels p z (values (chooser c tree p)) (gap p)) e (stands p (l, e))

        chooser_of_used : (q : Address) (g : GroundMethod) → label_at N tree q ≡ Some (used g) → chooser c tree q ≡ q
        chooser_of_used [] g e = refl
        chooser_of_used (i ∷ q) g e = ap (λ o. cond (is_check_at c o) q (i ∷ q)) e

        chooser_of_check : (q : Address) (m : ℕ) (old : List ℕ) → label_at N tree (0 ∷ q) ≡ Some (ran (check m old))
            → chooser c tree (0 ∷ q) ≡ q
        chooser_of_check q m old e = ap (λ o. cond (is_check_at c o) q (0 ∷ q)) e

        -- each method can have the values that are chosen for it
        pub each_can_have : (q : Address) (g : GroundMethod) → label_at N tree q ≡ Some (used g) → CanHave c g (values q)
        each_can_have q g e = go (is_checked c g) refl
          where
            go : (b : Bool) → is_checked c g ≡ b → CanHave c g (values q)
            go true f =
                let low = check_below q g e f in
                let (k, above, x) = (at_label (0 ∷ q) (ran (check g.number g.values)) low).0 in
                let same : k ≡ g = cc in
                subst (λ z. CanHave c z (values q)) same (subst (λ z. CanHave c k (values z)) (chooser_of_check q g.number g.values low) x)
            go false f = elim (at_label q (used g) e) [
              | inl t ↦ absurd (let x : is_checked c g ≡ true = t in cc)
              | inr x ↦ subst (λ z. CanHave c g (values z)) (chooser_of_used q g e) x.0
            ]

        -- and its node can be executed in its gap
        pub each_allowed : (p : Address) → IsAddress N tree p
            → AllowedAt N State (Allows c) (next c) (initial c) (chosen c tree values) labels p (gap p)
        each_allowed p (k, e) l f = go p k e (let x : new_label N (work_with values) (method_with values) p k ≡ l = some_once (sym (ap (option_map (new_label N (work_with values) (method_with values) p)) e) ∙ sym (label_chosen c tree values p) ∙ f) in x)
          where
            some_once : {A : Type 0} {x y : A} → Some x ≡ Some y → x ≡ y
            some_once e = cc

            In : Address → Label N → Type 0
            In p l = Allows c (state_in c tree labels (gap p)) l

            method_allowed : (q : Address) (g : GroundMethod) → label_at N tree q ≡ Some (used g) → In q (used (with_values g (values q)))
            method_allowed q g e = elim (at_label q (used g) e) [
              | inl t ↦ (
                  let x = (each_can_have q g e).ground in
                  let checked : x.plan.checked ≡ true = sym (ap (is_checked_by c) x.is) ∙ t in
                  subst (λ z. AllowsMethod c (state_in c tree labels (gap q)) z (values q)) (sym x.is)
                  (λ tested. absurd (checked_or_tested c h mode sound is g.number x.plan x.is checked tested)))
              | inr x ↦ subst (λ z. In q (used (with_values g (values z)))) (chooser_of_used q g e) x.1
            ]

            go : (p : Address) (k : Label N) → label_at N tree p ≡ Some k → new_label N (work_with values) (method_with values) p k ≡ l
                → In p l
            go p (waits w) e n = absurd (no_leaves p (w, e))
            go p (used g) e n = subst (In p) n (method_allowed p g e)
            go p (ran (task t args)) e n = absurd (simple_at N tree grown p (task t args) e)
            go [] (ran (action a args)) e n = subst (In []) n (at_label [] (ran (action a args)) e)
            go (i ∷ q) (ran (action a args)) e n = subst (In (i ∷ q)) n (at_label (i ∷ q) (ran (action a args)) e)
            go p (ran (check m old)) e n = at_check p m old e (check_is_first p m old e) n
              where
                at_check : (p : Address) (m : ℕ) (old : List ℕ) → label_at N tree p ≡ Some (ran (check m old)) → IsFirst p
                    → new_label N (work_with values) (method_with values) p (ran (check m old)) ≡ l → In p l
                at_check [] m old e x n = absurd (let y = x.here in cc)
                at_check (i ∷ q) m old e x n =
                    let here = x.here in
                    let zero_is : i ≡ 0 = cc in
                    let low : label_at N tree (0 ∷ q) ≡ Some (ran (check m old)) = subst (λ z. label_at N tree (z ∷ q) ≡ Some (ran (check m old))) zero_is e in
                    let ch : chooser c tree (i ∷ q) ≡ q = subst (λ z. chooser c tree (z ∷ q) ≡ q) (sym zero_is) (chooser_of_check q m old low) in
                    let may = (at_label (i ∷ q) (ran (check m old)) e).1 in
                    subst (In (i ∷ q)) n (subst (λ z. In (i ∷ q) (ran (check m (values z)))) ch may)
