-- Growths that stand where the rows of a tree stand, with the labels of chosen values, are those of the tree that has these values.
use Rattle.std.proofs.Common.{ℕ, zero, suc, ◌≡◌, ◌+◌, ◌≤◌, inl, inr, ◌∙◌, Bool, true, false, List, [], ◌∷◌, ◌++◌, length, cond, slice_get, Option, Some, None, option_map, Result, Ok, Err, IfOk, refl, ap, sym, subst, arith}
use Rattle.std.specs.Option.{option_and_then, unwrap_or}
use Rattle.std.proofs.lemmas.Bool.{cases_lt}
use Rattle.std.proofs.lemmas.Option.{slice_get_past}
use Rattle.std.proofs.lemmas.List.{length-map, length-append}
use Rattle.htn_base.specs.declared.memory.Memory.{Memory}
use Rattle.plan_texts.specs.SoundlyCompiled.{IsSoundlyCompiled}
use Rattle.plan_model.specs.declared.values.Compiled.{Compiled}
use Rattle.plan_model.specs.task_networks.Net.{Net}
use Rattle.plan_model.specs.task_networks.Tree as Trees
use Rattle.plan_model.specs.task_networks.Tree.{Tree, waits, ran, used, Address, label_at, IsAddress, IsOpen}
use Rattle.plan_model.specs.task_networks.Preorder.{preorder}
use Rattle.plan_model.specs.plan_meaning.Network.{Work, action, check, task, GroundMethod, network}
use Rattle.plan_model.proofs.task_networks.Nodes.{lists_address, different_nodes}
use Rattle.tree_core.specs.declared.label.Label.{Label}
use Rattle.tree_core.specs.declared.label.Label.TheVariants.{Primitive, Check, Abstract}
use Rattle.tree_core.specs.declared.growth.Growth as Grown
use Rattle.tree_core.specs.declared.growth.Scheduled.{Scheduled}
use Rattle.tree_core.specs.Tables.{Row, table, IsWay, IsRow}
use Rattle.tree_core.specs.Growths.{Growth, IsUnder, IsTreeOf, IsUnjoined}
use Rattle.tree_core.specs.Labels.{labels, label_of, growth_of, growths_of, labelled, labelled_node}
use Rattle.tree_core.specs.Runs.{label_in, IsRun}
use Rattle.tree_core.proofs.Gets.{get_some, get_cases, mapped}
use Rattle.tree_core.proofs.Siblings.{as_many, row_of_node, place_of_node, node_address, first_child}
use Rattle.tree_core.proofs.GrowthLaws.{growths_have_one_tree}
use Rattle.tree_core.proofs.Unjoined.{unjoined_have_no_tree}
use Rattle.tree_core.proofs.Labels.{labels_tell_tree}
use Rattle.tree_core.proofs.Labelled.{label_at-labelled, preorder-labelled, labelled_address}
use Rattle.schedules.specs.latest.Relabelled as relabelling
use Rattle.schedules.proofs.latest.Relabelled.{same_shape}
use Rattle.schedules.proofs.latest.Shapes.{address_back}
use Rattle.plan_encoder.specs.ChosenValues.{with_values, method_with, work_with, chosen, is_checked, asking_by, asking}
use Rattle.plan_encoder.proofs.ChosenTrees.{label_chosen}
use Rattle.plan_encoder.proofs.Standing.{check_is_first, check_below}
use Rattle.chosen_trees.specs.ChosenTrees.{IsSetting, IsChosenTree}
use Rattle.chosen_trees.specs.Growing.{values_in, asking_from, new_label, HasValues, IsGrowthAt, AreGrowthsBefore}

-- a label of a tree is no open leaf
not_open : (l : Label) (w : Work) → Some (label_of l) ≡ Some (waits w) → ⊥
not_open (Primitive a args) w e = cc
not_open (Check m args) w e = cc
not_open (Abstract t args m values) w e = cc

some_once : {A : Type 0} {x y : A} → Some x ≡ Some y → x ≡ y
some_once e = cc

module _ (c : Compiled) (list : List (List ℕ)) (rows : List (Row labels)) where
  -- one more growth
  pub one_more : (n : ℕ) (gs : List Grown.Growth) (g : Grown.Growth) → AreGrowthsBefore c list rows n gs → IsGrowthAt c list rows n g
      → AreGrowthsBefore c list rows (n + 1) (gs ++ g ∷ [])
  one_more n gs g before is = record {
    many = (let a = length-append gs (g ∷ []) in let b = before.many in omega arith);
    each = λ k h e. elim (get_cases gs (g ∷ []) k h e) [
      | inl x ↦ before.each k h x.1
      | inr x ↦ last k h x.0 x.1 x.2
    ];
  }
    where
      last : (k : ℕ) (h : Grown.Growth) (j : ℕ) → k ≡ length gs + j → slice_get (g ∷ []) j ≡ Some h → IsGrowthAt c list rows k h
      last k h (suc j) e f = absurd cc
      last k h zero e f =
          let here : n ≡ k = (let b = before.many in omega arith) in
          let same : g ≡ h = cc in
          subst (λ z. IsGrowthAt c list rows z h) here (subst (IsGrowthAt c list rows n) same is)

  -- a label stands at each address of a row, and none behind
  pub label_within : (n : ℕ) (l : Trees.Label labels) → Some l ≡ label_in rows n → n + 1 ≤ length rows
  label_within n l some = elim (cases_lt n (length rows)) [
    | inl less ↦ omega arith
    | inr past ↦ absurd (let e = ap (option_map (λ (z : Row labels). z.label)) (slice_get_past rows n past) in cc)
  ]

  pub at_end : (n : ℕ) → n ≤ length rows → None ≡ label_in rows n → n ≡ length rows
  at_end n within none = elim (cases_lt n (length rows)) [
    | inl less ↦ absurd (let (r, e) = get_some rows n less in let f = ap (option_map (λ (z : Row labels). z.label)) e in cc)
    | inr past ↦ omega arith
  ]

  -- growths have no open leaves
  closed_by : (gs : List Grown.Growth) → AreGrowthsBefore c list rows (length rows) gs → (k : ℕ) (w : Work) → label_in rows k ≡ Some (waits w) → ⊥
  closed_by gs are k w e =
      let within = label_within k (waits w) (sym e) in
      let many = are.many in
      let (g, here) = get_some gs k (omega arith) in
      let is = are.each k g here in
      not_open is.old w (sym is.was ∙ e)

  -- where no label is an open leaf's
  module _ (soundly : IsSoundlyCompiled c) (closed : (k : ℕ) (w : Work) → label_in rows k ≡ Some (waits w) → ⊥)
      (tree : Tree (network c)) (values : Address → List ℕ) (s : IsSetting c rows list tree values) where
    abbrev N : Net
    N = network c

    abbrev new : Tree N
    new = chosen c tree values

    -- the row of a node, and its label
    row_at : (k : ℕ) (p : Address) → slice_get (preorder N tree) k ≡ Some p
        → (r : Row labels) × (slice_get rows k ≡ Some r) × IsRow labels (labelled c tree) k r p
    row_at k p at =
        let (r, e, row) = row_of_node labels (labelled c tree) k p (ap (λ ps. slice_get ps k) (preorder-labelled c tree) ∙ at) in
        (r, ap (λ rs. slice_get rs k) s.rows_are ∙ e, row)

    label_here : (k : ℕ) (p : Address) → slice_get (preorder N tree) k ≡ Some p
        → label_in rows k ≡ option_map (labelled_node c) (label_at N tree p)
    label_here k p at =
        let (r, e, row) = row_at k p at in
        ap (option_map (λ (z : Row labels). z.label)) e ∙ sym row.label ∙ label_at-labelled c tree p

    -- no leaf is open
    no_leaves : (p : Address) → IsOpen N tree p → ⊥
    no_leaves p (w, e) =
        let (k, at) = place_of_node N tree p (waits w, e) in
        closed k w (label_here k p at ∙ ap (option_map (labelled_node c)) e)

    -- the node that asks for the values of a method stands where they are taken from
    asks_at : (k : ℕ) (p : Address) (g : GroundMethod) → slice_get (preorder N tree) k ≡ Some p → label_at N tree p ≡ Some (used g)
        → slice_get (preorder N tree) (asking_from c g.number k) ≡ Some (asking c tree p)
    asks_at k p g at e = go (is_checked c g) refl ∙ ap Some (sym (ap (asking_by c p) e))
      where
        go : (b : Bool) → is_checked c g ≡ b → slice_get (preorder N tree) (cond (is_checked c g) (k + 1) k) ≡ Some (cond (is_checked c g) (0 ∷ p) p)
        go true f = subst (λ b. slice_get (preorder N tree) (cond b (k + 1) k) ≡ Some (cond b (0 ∷ p) p)) (sym f)
            (let low = check_below c soundly.problem soundly.checks soundly.sound soundly.compiled tree s.grown no_leaves s.root p g e f in
            subst (λ z. slice_get (preorder N tree) z ≡ Some (0 ∷ p)) (let x : suc k ≡ k + 1 = omega arith in x)
            (first_child N tree k p at (ran (check g.number g.values), low)))
        go false f = subst (λ b. slice_get (preorder N tree) (cond b (k + 1) k) ≡ Some (cond b (0 ∷ p) p)) (sym f) at

    -- the new label of a node
    abbrev label_then : Address → Trees.Label N → Trees.Label N
    label_then = relabelling.new_label N (work_with values) (method_with values)

    label_new : (k : ℕ) (p : Address) (l : Trees.Label N) → slice_get (preorder N tree) k ≡ Some p → label_at N tree p ≡ Some l
        → labelled_node c (label_then p l) ≡ new_label c list k (labelled_node c l)
    label_new k p (waits w) at e = absurd (no_leaves p (w, e))
    label_new k [] (ran (action a args)) at e = refl
    label_new k (i ∷ q) (ran (action a args)) at e = refl
    label_new k [] (ran (task t args)) at e = refl
    label_new k (i ∷ q) (ran (task t args)) at e = refl
    label_new k p (ran (check m old)) at e =
        let x = check_is_first c soundly.problem soundly.checks soundly.sound soundly.compiled tree s.grown no_leaves s.root p m old e in
        let (j, above) = place_of_node N tree x.parent (used x.method, x.above) in
        let asks : asking c tree x.parent ≡ 0 ∷ x.parent = ap (asking_by c x.parent) x.above ∙ ap (λ b. cond b (0 ∷ x.parent) x.parent) x.checked in
        let taken : values x.parent ≡ values_in list k = s.values_are j k x.parent above (at ∙ ap Some (x.here ∙ sym asks)) in
        ap (λ z. labelled_node c (ran (work_with values z (check m old)))) x.here ∙ ap (λ v. labelled_node c (ran (check m v))) taken
    label_new k p (used g) at e =
        let taken : values p ≡ values_in list (asking_from c g.number k) = s.values_are k (asking_from c g.number k) p at (asks_at k p g at e) in
        let head = s.same_task p g e in
        λ i. used (record { head = head i; method = with_values g (taken i) })

    -- where each label has the values already, the tree is the same
    module _ (has : HasValues c list rows) where
      same_label : (p : Address) → label_at labels (labelled c new) p ≡ label_at labels (labelled c tree) p
      same_label p = label_at-labelled c new p ∙ ap (option_map (labelled_node c)) (label_chosen c tree values p) ∙ go (label_at N tree p) refl
          ∙ sym (label_at-labelled c tree p)
        where
          go : (o : Option (Trees.Label N)) → label_at N tree p ≡ o
              → option_map (labelled_node c) (option_map (label_then p) (label_at N tree p)) ≡ option_map (labelled_node c) (label_at N tree p)
          go None e = ap (λ o. option_map (labelled_node c) (option_map (label_then p) o)) e ∙ sym (ap (option_map (labelled_node c)) e)
          go (Some l) e =
              let (k, at) = place_of_node N tree p (l, e) in
              let (old, is, stays) = has k (labelled_node c l) (label_here k p at ∙ ap (option_map (labelled_node c)) e) in
              ap (λ o. option_map (labelled_node c) (option_map (label_then p) o)) e
              ∙ ap Some (label_new k p l at e ∙ ap (new_label c list k) is ∙ stays ∙ sym is)
              ∙ sym (ap (option_map (labelled_node c)) e)

      kept_is : rows ≡ table labels (labelled c new)
      kept_is = s.rows_are ∙ ap (table labels) (sym (labels_tell_tree labels (labelled c new) (labelled c tree) same_label))

    -- else it grows anew
    module _ (gs : List Grown.Growth) (are : AreGrowthsBefore c list rows (length rows) gs) where
      labels_are : (k : ℕ) (g : Grown.Growth) (p : Address) → slice_get gs k ≡ Some g → slice_get (preorder N tree) k ≡ Some p
          → label_at labels (labelled c new) p ≡ Some (label_of g.label)
      labels_are k g p here at =
          let is = are.each k g here in
          let (l, e) = node_address N tree k p at in
          let was : label_of is.old ≡ labelled_node c l = some_once (sym is.was ∙ label_here k p at ∙ ap (option_map (labelled_node c)) e) in
          label_at-labelled c new p
          ∙ ap (option_map (labelled_node c)) (label_chosen c tree values p ∙ ap (option_map (label_then p)) e)
          ∙ ap Some (label_new k p l at e ∙ ap (new_label c list k) (sym was) ∙ sym is.label)

      under_way : (k : ℕ) (r : Row labels) (p : Address) → IsWay labels (labelled c tree) k r p → (parent : Option ℕ) (child : ℕ)
          → parent ≡ r.parent
          → child ≡ unwrap_or (option_map (λ (x : ℕ). r.number) r.parent) 0 → IsUnder labels (preorder N tree) k parent child p
      under_way k r [] way parent child e f = subst (λ o. IsUnder labels (preorder N tree) k o child []) (sym (e ∙ way.1)) refl
      under_way k r (i ∷ q) (number, (x, less, up, above)) parent child e f =
          let child_is : child ≡ i = f ∙ ap (λ (o : Option ℕ). unwrap_or (option_map (λ (x : ℕ). r.number) o) 0) up ∙ number in
          subst (λ o. IsUnder labels (preorder N tree) k o child (i ∷ q)) (sym (e ∙ up))
          (less, (q, ap (λ ps. slice_get ps x) (sym (preorder-labelled c tree)) ∙ above, ap (λ z. z ∷ q) (sym child_is)))

      under : (k : ℕ) (g : Grown.Growth) (p : Address) → slice_get gs k ≡ Some g → slice_get (preorder N tree) k ≡ Some p
          → IsUnder labels (preorder N tree) k g.parent g.child p
      under k g p here at =
          let is = are.each k g here in
          let (r, e, row) = row_at k p at in
          under_way k r p row.way g.parent g.child (is.parent ∙ ap (option_and_then (λ (z : Row labels). z.parent)) e)
          (is.child ∙ ap (λ (o : Option (Row labels)). unwrap_or (option_and_then (λ (z : Row labels). option_map (λ (x : ℕ). z.number) z.parent) o) 0) e)

      is_tree : IsTreeOf labels (growths_of gs) (labelled c new) (preorder N tree)
      is_tree = record {
        growths_are = record {
          many = sym (ap length (preorder-labelled c tree)) ∙ sym (as_many labels (labelled c tree)) ∙ sym (ap length s.rows_are) ∙ sym are.many ∙ sym (length-map gs growth_of);
          under = λ k (h : Growth labels) p e at. (
              let (g, here, is) = mapped growth_of gs k h e in
              subst (λ (z : Growth labels). IsUnder labels (preorder N tree) k z.parent z.child p) is (under k g p here at));
          labels = λ k (h : Growth labels) p e at. (
              let (g, here, is) = mapped growth_of gs k h e in
              labels_are k g p here at ∙ ap (λ (z : Growth labels). Some z.label) is);
        };
        all = λ p a. lists_address N tree p
            (address_back N tree new (same_shape N (work_with values) (method_with values) (λ p m i j. (λ x. x, λ x. x)) tree) p (labelled_address c new p a));
        different = different_nodes N tree [];
      }

      -- so what grows of them is that tree
      grown_is : (run : Scheduled) → IsRun (growths_of gs) run → run.tree ≡ table labels (labelled c (chosen c tree values))
      grown_is run r =
          r.rows ∙ ap (table labels) (growths_have_one_tree labels (growths_of gs) (labelled c new) r.tree (preorder N tree) r.order is_tree r.grown).0

  pub grown_is_chosen : IsSoundlyCompiled c → (n : ℕ) (gs : List Grown.Growth) → AreGrowthsBefore c list rows n gs → n ≤ length rows
      → None ≡ label_in rows n
      → (run : Scheduled) → IsRun (growths_of gs) run → IsChosenTree c rows list run.tree
  grown_is_chosen soundly n gs are within none run r tree values s =
      let all = subst (λ z. AreGrowthsBefore c list rows z gs) (at_end n within none) are in
      grown_is soundly (closed_by gs all) tree values s gs all run r

  -- rows whose growths are not joined are those of no tree
  pub unjoined_is_chosen : IsSoundlyCompiled c → (n : ℕ) (gs : List Grown.Growth) → AreGrowthsBefore c list rows n gs → n ≤ length rows
      → None ≡ label_in rows n → (k : ℕ) → IsUnjoined labels (growths_of gs) k → (made : Result (List (Row labels)) Memory)
      → IfOk made (IsChosenTree c rows list)
  unjoined_is_chosen soundly n gs are within none k u (Err m) = tt
  unjoined_is_chosen soundly n gs are within none k u (Ok made) = λ tree values s. (
      let all = subst (λ z. AreGrowthsBefore c list rows z gs) (at_end n within none) are in
      absurd (unjoined_have_no_tree labels (growths_of gs) k (labelled c (chosen c tree values)) (preorder (network c) tree) u
      (is_tree soundly (closed_by gs all) tree values s gs all)))

  -- the tree that has the values already
  pub kept_is_chosen : IsSoundlyCompiled c → HasValues c list rows → IsChosenTree c rows list rows
  kept_is_chosen soundly has tree values s =
      kept_is soundly (λ k w e. let (old, is, stays) = has k (waits w) e in not_open old w (ap Some (sym is))) tree values s has
