-- What the table of a tree says of the place of a node, of its parent and of its method.
use Rattle.std.proofs.Common.{ℕ, zero, suc, ◌≡◌, ◌<◌, List, [], ◌∷◌, Option, Some, None, option_map, slice_get, refl, ap, sym, subst, ◌∙◌, arith}
use Rattle.std.specs.Option.{option_and_then}
use Rattle.plan_model.specs.task_networks.Net.{Net}
use Rattle.plan_model.specs.task_networks.Tree.{Tree, Trees, split, none, more, Address, used, at, child_at, label, label_at, IsAddress, IsGrown}
use Rattle.plan_model.specs.declared.schemas.MethodPlan.{MethodPlan}
use Rattle.plan_model.specs.declared.values.Compiled.{Compiled}
use Rattle.plan_model.specs.plan_meaning.Network.{network, GroundMethod, IsGroundMethod}
use Rattle.plan_model.proofs.task_networks.Nodes.{parent, child_below, grown_at}
use Rattle.plan_model.proofs.task_networks.Parents.{split_at}
use Rattle.htn_base.specs.Different.{AreDifferent}
use Rattle.tree_core.specs.Tables.{Row, table}
use Rattle.tree_core.specs.Labels.{labels, labelled, labelled_node, decomposition}
use Rattle.tree_core.specs.Runs.{parent_in, number_in, label_in}
use Rattle.tree_core.proofs.Siblings.{row_of_node, one_node_place, place_of_node, node_address, next_sibling}
use Rattle.tree_core.proofs.TableRows.{tables_tell_trees}
use Rattle.tree_core.proofs.Labelled.{preorder-labelled, label_at-labelled}
use Rattle.kept_front.specs.declared.later.Later.{Later}
use Rattle.kept_front.specs.Later.{AreLater, AreAllLater}
use Rattle.schedule_queue.specs.Children.{IsNode}
use Rattle.schedule_queue.specs.Given.{method_of, later_at}

-- an earlier sibling stands before
module _ (N : Net) (T : Tree N) where
  child_before : (ts : Trees N) (i : ℕ) (t : Tree N) → child_at N ts (suc i) ≡ Some t → (u : Tree N) × (child_at N ts i ≡ Some u)
  child_before none i t e = absurd cc
  child_before (more u ts) zero t e = (u, refl)
  child_before (more u ts) (suc i) t e = child_before ts i t e

  sibling_before : (i : ℕ) (q : Address) → IsAddress N T (suc i ∷ q) → IsAddress N T (i ∷ q)
  sibling_before i q (l, e) = go (at N T (suc i ∷ q)) refl e
    where
      go : (o : Option (Tree N)) → at N T (suc i ∷ q) ≡ o → option_map (label N) o ≡ Some l → IsAddress N T (i ∷ q)
      go None f c = absurd cc
      go (Some t) f c =
          let (m, ts, g, d) = parent N T (suc i) q t f in
          let (u, b) = child_before ts i t d in
          (label N u, ap (option_map (label N)) (child_below N T i q m ts g ∙ b))

  pub stands_before : (n i : ℕ) (q : Address) → IsNode N T n (suc i ∷ q) → (k : ℕ) × (k < n) × IsNode N T k (i ∷ q)
  stands_before n i q h =
      let a = node_address N T n (suc i ∷ q) h in
      let (k, e) = place_of_node N T (i ∷ q) (sibling_before i q a) in
      let (r, f, row) = row_of_node N T k (i ∷ q) e in
      let same : r.end ≡ n = one_node_place N T r.end n (suc i ∷ q) (next_sibling N T k i q r e f a) h in
      let l = row.later in
      (k, omega arith, e)

-- in a table of labels
module _ (T : Tree labels) where
  pub parent_of : (n j : ℕ) (p : Address) → IsNode labels T n (j ∷ p)
      → (x : ℕ) × (x < n) × (parent_in (table labels T) n ≡ Some x) × (number_in (table labels T) n ≡ Some j) × IsNode labels T x p
  parent_of n j p h =
      let (r, f, row) = row_of_node labels T n (j ∷ p) h in
      let (num, way) = row.way in
      let (x, l, up, at_x) = way in (
        x,
        l,
        ap (option_and_then (λ (r : Row labels). r.parent)) f ∙ up,
        ap (option_and_then (λ (r : Row labels). option_map (λ x. r.number) r.parent)) f ∙ ap (option_map (λ x. r.number)) up ∙ ap Some num,
        at_x,
      )

  pub no_parent : (n : ℕ) → IsNode labels T n [] → parent_in (table labels T) n ≡ None
  no_parent n h =
      let (r, f, row) = row_of_node labels T n [] h in
      ap (option_and_then (λ (r : Row labels). r.parent)) f ∙ row.way.1

  pub child_of : (n x : ℕ) → parent_in (table labels T) n ≡ Some x → (i : ℕ) × (q : Address) × IsNode labels T n (i ∷ q)
      × IsNode labels T x q
  child_of n x e = go (slice_get (table labels T) n) refl e
    where
      of_node : (p : Address) → IsNode labels T n p → (i : ℕ) × (q : Address) × IsNode labels T n (i ∷ q) × IsNode labels T x q
      of_node [] h = absurd (let f = no_parent n h in cc)
      of_node (i ∷ q) h =
          let (y, l, up, num, at_y) = parent_of n i q h in
          let same : y ≡ x = cc in
          (i, q, h, subst (λ z. IsNode labels T z q) same at_y)

      go : (o : Option (Row labels)) → slice_get (table labels T) n ≡ o → option_and_then (λ (r : Row labels). r.parent) o ≡ Some x
          → (i : ℕ) × (q : Address) × IsNode labels T n (i ∷ q) × IsNode labels T x q
      go None f c = absurd cc
      go (Some r) f c = let (p, h, row) = (tables_tell_trees labels T).each n r f in of_node p h

-- in the table of a tree of a problem
module _ (c : Compiled) (T : Tree (network c)) (rows : List (Row labels)) (rows_are : rows ≡ table labels (labelled c T)) where
  abbrev N : Net
  N = network c

  pub to_labelled : (k : ℕ) (p : Address) → IsNode N T k p → IsNode labels (labelled c T) k p
  to_labelled k p = subst (λ nodes. slice_get nodes k ≡ Some p) (sym (preorder-labelled c T))

  pub from_labelled : (k : ℕ) (p : Address) → IsNode labels (labelled c T) k p → IsNode N T k p
  from_labelled k p = subst (λ nodes. slice_get nodes k ≡ Some p) (preorder-labelled c T)

  pub parent_at : (n j : ℕ) (p : Address) → IsNode N T n (j ∷ p)
      → (x : ℕ) × (x < n) × (parent_in rows n ≡ Some x) × (number_in rows n ≡ Some j) × IsNode N T x p
  parent_at n j p h =
      let (x, l, up, num, at_x) = parent_of (labelled c T) n j p (to_labelled n (j ∷ p) h) in (
        x,
        l,
        ap (λ z. parent_in z n) rows_are ∙ up,
        ap (λ z. number_in z n) rows_are ∙ num,
        from_labelled x p at_x,
      )

  pub root_at : (n : ℕ) → IsNode N T n [] → parent_in rows n ≡ None
  root_at n h = ap (λ z. parent_in z n) rows_are ∙ no_parent (labelled c T) n (to_labelled n [] h)

  -- the method of a node, as its row has it
  method_at : (x : ℕ) (q : Address) (g : GroundMethod) → IsNode N T x q → label_at N T q ≡ Some (used g)
      → option_and_then method_of (label_in rows x) ≡ Some g.number
  method_at x q g h e =
      let (r, f, row) = row_of_node labels (labelled c T) x q (to_labelled x q h) in
      let same : Some r.label ≡ Some (used (decomposition c g)) = sym row.label ∙ label_at-labelled c T q
      ∙ ap (option_map (labelled_node c)) e in
      ap (λ z. option_and_then method_of (label_in z x)) rows_are
      ∙ ap (λ o. option_and_then method_of (option_map (λ (r : Row labels). r.label) o)) f
      ∙ ap (option_and_then method_of) same

  -- what comes right after each child of a node
  pub record Known (laters : List Later) (x : ℕ) (g : GroundMethod) : Type 0 where
    pub plan : MethodPlan
    pub is : slice_get c.methods g.number ≡ Some plan
    pub later : Later
    pub found : later_at laters rows x ≡ Some later
    pub are : AreLater plan.schema.pairs later
    pub different : AreDifferent plan.schema.pairs

  pub known : (laters : List Later) → AreAllLater c laters → IsGrown N T → (x : ℕ) (q : Address) (g : GroundMethod) → IsNode N T x q
      → label_at N T q ≡ Some (used g) → Known laters x g
  known laters all grown x q g h e =
      let (ts, a) = split_at N T q g e in
      let ground : IsGroundMethod c g = (grown_at N T q (split g ts) grown a).0 in
      let (later, f, l, d) = all g.number ground.plan ground.is in
      record {
        plan = ground.plan;
        is = ground.is;
        later = later;
        found = ap (option_and_then (slice_get laters)) (method_at x q g h e) ∙ f;
        are = l;
        different = d;
      }
