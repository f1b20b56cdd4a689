-- The siblings right after a node and right before it, as the pairs of its parent's method say.
use Rattle.std.proofs.Common.{ℕ, ◌≡◌, ◌↔◌, ◌==◌, List, [], ◌∷◌, map, filter, length, slice_get, slice_index, Option, Some, None, MatchOption, refl, ap, sym, subst, ◌∙◌, Contains, eq-eqb, eqb-true}
use Rattle.std.proofs.lemmas.List.{length-map}
use Rattle.std.proofs.lemmas.Option.{get_or_from_slice_get}
use Rattle.htn_base.specs.Different.{AreDifferent}
use Rattle.plan_model.specs.declared.networks.Pair.{Pair}
use Rattle.plan_model.specs.declared.schemas.MethodPlan.{MethodPlan}
use Rattle.plan_model.specs.declared.values.Compiled.{Compiled}
use Rattle.plan_model.specs.Pairs.{pair, Pairs}
use Rattle.plan_model.specs.task_networks.Net.{Net}
use Rattle.plan_model.specs.task_networks.Tree.{Tree, Address, used, label_at, IsGrown}
use Rattle.plan_model.specs.plan_meaning.Network.{network, GroundMethod}
use Rattle.plan_model.proofs.task_networks.Filters.{filter_to, to_filter, different-filter}
use Rattle.plan_model.proofs.task_networks.Lists.{Contains-here, Contains-later}
use Rattle.plan_model.proofs.task_networks.Parents.{parent_label, child_address}
use Rattle.slot_machine.proofs.OtherChildren.{map_cases, Contains-map, different-map}
use Rattle.tree_core.specs.Tables.{Row, table}
use Rattle.tree_core.specs.Labels.{labels, labelled}
use Rattle.tree_core.specs.Runs.{parent_in, number_in}
use Rattle.tree_core.proofs.Siblings.{place_of_node, node_address, one_node_place}
use Rattle.kept_front.specs.declared.later.Later.{Later}
use Rattle.kept_front.specs.Later.{after, before, followers, predecessors, AreLater, AreAllLater}
use Rattle.schedules.specs.latest.Queue.{IsRightBefore, HasPairsOfChildren}
use Rattle.schedule_queue.specs.Children.{IsNode, AreChildren}
use Rattle.schedule_queue.specs.Given.{later_at, AreRightAfter, AreRightBefore}
use Rattle.schedule_queue.proofs.Counting.{counts_none}
use Rattle.schedule_queue.proofs.Nodes.{known, Known, parent_at, root_at}

-- of the pairs with one number those with the other
module _ (key value : Pair → ℕ) (back : ℕ → ℕ → Pair) (same : (p : Pair) → p ≡ back (key p) (value p))
    (key_is : (i j : ℕ) → key (back i j) ≡ i) (value_is : (i j : ℕ) → value (back i j) ≡ j) where
  picked : List Pair → ℕ → List Pair
  picked pairs i = filter (λ (p : Pair). key p == i) pairs

  pub picked_iff : (pairs : List Pair) (i j : ℕ) → Contains (map value (filter (λ (p : Pair). key p == i) pairs)) j
      ↔ Contains pairs (back i j)
  picked_iff pairs i j = (to, from)
    where
      to : Contains (map value (filter (λ (p : Pair). key p == i) pairs)) j → Contains pairs (back i j)
      to c =
          let (p, k, e) = map_cases value (filter (λ (p : Pair). key p == i) pairs) j c in
          let (l, t) = filter_to (λ (p : Pair). key p == i) pairs p k in
          let f = eqb-true (key p) i t in
          subst (Contains pairs) (same p ∙ (λ z. back (f z) (e z))) l

      from : Contains pairs (back i j) → Contains (map value (filter (λ (p : Pair). key p == i) pairs)) j
      from c = subst (Contains (map value (filter (λ (p : Pair). key p == i) pairs))) (value_is i j)
          (Contains-map value (filter (λ (p : Pair). key p == i) pairs) (back i j)
          (to_filter (λ (p : Pair). key p == i) pairs (back i j) c (eq-eqb (key (back i j)) i (key_is i j))))

  different_mapped : (pairs : List Pair) (i : ℕ) → AreDifferent pairs → ((p : Pair) → Contains pairs p → key p ≡ i)
      → AreDifferent (map value pairs)
  different_mapped [] i d f = tt
  different_mapped (p ∷ pairs) i d f = (
    λ c. (
        let (q, k, e) = map_cases value pairs (value p) c in
        let g = f q (Contains-later p pairs q k) ∙ sym (f p (Contains-here p pairs)) in
        d.0 (subst (Contains pairs) (same q ∙ (λ z. back (g z) (e z)) ∙ sym (same p)) k)),
    different_mapped pairs i d.1 (λ q k. f q (Contains-later p pairs q k)),
  )

  pub different_picked : (pairs : List Pair) (i : ℕ) → AreDifferent pairs
      → AreDifferent (map value (filter (λ (p : Pair). key p == i) pairs))
  different_picked pairs i d =
      different_mapped (filter (λ (p : Pair). key p == i) pairs) i (different-filter (λ (p : Pair). key p == i) pairs d)
      (λ p k. eqb-true (key p) i (filter_to (λ (p : Pair). key p == i) pairs p k).1)

follows : (pairs : List Pair) (i j : ℕ) → Contains (followers pairs i) j ↔ Pairs pairs i j
follows = picked_iff (λ p. p.first) (λ p. p.then) pair (λ p. refl) (λ i j. refl) (λ i j. refl)

different_followers : (pairs : List Pair) (i : ℕ) → AreDifferent pairs → AreDifferent (followers pairs i)
different_followers = different_picked (λ p. p.first) (λ p. p.then) pair (λ p. refl) (λ i j. refl) (λ i j. refl)

leaders : List Pair → ℕ → List ℕ
leaders pairs j = map (λ (p : Pair). p.first) (filter (λ (p : Pair). p.then == j) pairs)

leads : (pairs : List Pair) (j i : ℕ) → Contains (leaders pairs j) i ↔ Pairs pairs i j
unfolding leaders
leads = picked_iff (λ p. p.then) (λ p. p.first) (λ j i. pair i j) (λ p. refl) (λ i j. refl) (λ i j. refl)

different_leaders : (pairs : List Pair) (j : ℕ) → AreDifferent pairs → AreDifferent (leaders pairs j)
unfolding leaders
different_leaders = different_picked (λ p. p.then) (λ p. p.first) (λ j i. pair i j) (λ p. refl) (λ i j. refl) (λ i j. refl)

many_leaders : (pairs : List Pair) (j : ℕ) → length (leaders pairs j) ≡ predecessors pairs j
unfolding leaders
many_leaders pairs j = length-map (filter (λ (p : Pair). p.then == j) pairs) (λ (p : Pair). p.first)

module _ (c : Compiled) (T : Tree (network c)) (rows : List (Row labels)) (rows_are : rows ≡ table labels (labelled c T))
    (grown : IsGrown (network c) T) (pairs : HasPairsOfChildren (network c)) (laters : List Later) (all : AreAllLater c laters) where
  abbrev N : Net
  N = network c

  pair_of : (g : GroundMethod) (plan : MethodPlan) → slice_get c.methods g.number ≡ Some plan → (i j : ℕ) → N.Pair g i j
      ↔ Pairs plan.schema.pairs i j
  pair_of g plan e i j =
      let P : Option MethodPlan → Type 0 = λ o. MatchOption o ⊥ (λ (plan : MethodPlan). Pairs plan.schema.pairs i j) in
      (subst P e, subst P (sym e))

  -- the siblings right before a node, by the method of its parent
  right_before_iff : (q : Address) (g : GroundMethod) → label_at N T q ≡ Some (used g) → (i j : ℕ) → IsRightBefore N T (j ∷ q) i
      ↔ N.Pair g i j
  right_before_iff q g e i j = (
    λ r. (let (m, f, d) = r in let same : m ≡ g = (let a = e in cc) in subst (λ (z : GroundMethod). N.Pair z i j) same d),
    λ d. (g, e, d),
  )

  -- the parent's method is known
  pub method_known : (k i x : ℕ) (q : Address) → IsNode N T k (i ∷ q) → IsNode N T x q
      → (g : GroundMethod) × (label_at N T q ≡ Some (used g)) × Known c T rows rows_are laters x g
  method_known k i x q h up =
      let (g, e) = parent_label N T i q (node_address N T k (i ∷ q) h) in
      (g, e, known c T rows rows_are laters all grown x q g up e)

  module _ (k : ℕ) where
    -- a node with a parent has a number, and something comes right after it
    pub has_parent : (i : ℕ) (q : Address) → IsNode N T k (i ∷ q) → parent_in rows k ≡ None → ⊥
    has_parent i q h e = let (x, l, up, num, at_x) = parent_at c T rows rows_are k i q h in cc

    pub has_number : (i : ℕ) (q : Address) → IsNode N T k (i ∷ q) → number_in rows k ≡ None → ⊥
    has_number i q h e = let (x, l, up, num, at_x) = parent_at c T rows rows_are k i q h in cc

    pub has_later : (i : ℕ) (q : Address) → IsNode N T k (i ∷ q) → (x : ℕ) → parent_in rows k ≡ Some x → later_at laters rows x ≡ None → ⊥
    has_later i q h x e f =
        let (y, l, up, num, at_y) = parent_at c T rows rows_are k i q h in
        let same : y ≡ x = cc in
        let (g, a, kn) = method_known k i x q h (subst (λ z. IsNode N T z q) same at_y) in
        let b = kn.found in
        cc

    module _ (x n : ℕ) (parent_is : parent_in rows k ≡ Some x) (number_is : number_in rows k ≡ Some n)
        (later : Later) (found : later_at laters rows x ≡ Some later) where
      -- what is known of the node and its method
      record Found (i : ℕ) (q : Address) : Type 0 where
        number : n ≡ i
        up : IsNode N T x q
        method : GroundMethod
        label : label_at N T q ≡ Some (used method)
        plan : MethodPlan
        is : slice_get c.methods method.number ≡ Some plan
        are : AreLater plan.schema.pairs later
        different : AreDifferent plan.schema.pairs

      all_found : (i : ℕ) (q : Address) → IsNode N T k (i ∷ q) → Found i q
      all_found i q h =
          let (y, l, up, num, at_y) = parent_at c T rows rows_are k i q h in
          let same : y ≡ x = cc in
          let at_x = subst (λ z. IsNode N T z q) same at_y in
          let (g, a, kn) = method_known k i x q h at_x in
          let b = kn.found in
          let one : kn.later ≡ later = cc in
          record {
            number = cc;
            up = at_x;
            method = g;
            label = a;
            plan = kn.plan;
            is = kn.is;
            are = subst (AreLater kn.plan.schema.pairs) one kn.are;
            different = kn.different;
          }

      pub right_after : (addresses : List ℕ) → AreChildren N T x addresses
          → AreRightAfter N T k (map (λ j. slice_index addresses j) (after later n))
      right_after addresses children i q h = (
        subst (λ z. AreDifferent (map (λ j. slice_index addresses j) z)) (sym list_is)
            (different-map (λ j. slice_index addresses j) (followers pairs_of i) (different_followers pairs_of i f.different) apart),
        λ y. (
          λ d. to y (subst (λ z. Contains (map (λ j. slice_index addresses j) z) y) list_is d),
          λ r. subst (λ z. Contains (map (λ j. slice_index addresses j) z) y) (sym list_is) (from y r),
        ),
      )
        where
          f : Found i q
          f = all_found i q h

          pairs_of : List Pair
          pairs_of = f.plan.schema.pairs

          list_is : after later n ≡ followers pairs_of i
          list_is = ap (after later) f.number ∙ f.are.after_each i

          -- a follower is a child
          stands : (j : ℕ) → Contains (followers pairs_of i) j → IsNode N T (slice_index addresses j) (j ∷ q)
          stands j d =
              let r = (pair_of f.method f.plan f.is i j).1 ((follows pairs_of i j).0 d) in
              let a = child_address N T q f.method j grown f.label (pairs f.method i j r).1 in
              let (y, e) = place_of_node N T (j ∷ q) a in
              let z = (children q f.up j y).1 e in
              subst (λ z. IsNode N T z (j ∷ q)) (sym (get_or_from_slice_get addresses j y 0 z)) e

          apart : (j l : ℕ) → Contains (followers pairs_of i) j → Contains (followers pairs_of i) l
              → slice_index addresses j ≡ slice_index addresses l → j ≡ l
          apart j l d b e =
              let u = subst (λ z. IsNode N T z (j ∷ q)) e (stands j d) in
              let v = stands l b in
              cc

          to : (y : ℕ) → Contains (map (λ j. slice_index addresses j) (followers pairs_of i)) y → (j : ℕ) × IsRightBefore N T (j ∷ q) i
              × IsNode N T y (j ∷ q)
          to y d =
              let (j, b, e) = map_cases (λ j. slice_index addresses j) (followers pairs_of i) y d in (
                j,
                (f.method, f.label, (pair_of f.method f.plan f.is i j).1 ((follows pairs_of i j).0 b)),
                subst (λ z. IsNode N T z (j ∷ q)) e (stands j b),
              )

          from : (y : ℕ) → (j : ℕ) × IsRightBefore N T (j ∷ q) i × IsNode N T y (j ∷ q)
              → Contains (map (λ j. slice_index addresses j) (followers pairs_of i)) y
          from y (j, r, e) =
              let d = (follows pairs_of i j).1 ((pair_of f.method f.plan f.is i j).0 ((right_before_iff q f.method f.label i j).0 r)) in
              let same : slice_index addresses j ≡ y = one_node_place N T (slice_index addresses j) y (j ∷ q) (stands j d) e in
              subst (Contains (map (λ j. slice_index addresses j) (followers pairs_of i))) same
              (Contains-map (λ j. slice_index addresses j) (followers pairs_of i) j d)

      pub right_before : AreRightBefore N T k (before later n)
      right_before [] h = absurd (let e = root_at c T rows rows_are k h in let f = parent_is in cc)
      right_before (j ∷ q) h = (
        leaders pairs_of j,
        different_leaders pairs_of j f.different,
        (λ i. (
          λ d. (right_before_iff q f.method f.label i j).1 ((pair_of f.method f.plan f.is i j).1 ((leads pairs_of j i).0 d)),
          λ r. (leads pairs_of j i).1 ((pair_of f.method f.plan f.is i j).0 ((right_before_iff q f.method f.label i j).0 r)),
        )),
        many_leaders pairs_of j ∙ sym (f.are.before_each j) ∙ ap (before later) (sym f.number),
      )
        where
          f : Found j q
          f = all_found j q h

          pairs_of : List Pair
          pairs_of = f.plan.schema.pairs

    -- nothing is known where the node has no parent
    pub none_before : ((i : ℕ) (q : Address) → IsNode N T k (i ∷ q) → ⊥) → AreRightBefore N T k 0
    none_before no_child [] h = counts_none (IsRightBefore N T []) (λ i r. r)
    none_before no_child (j ∷ q) h = absurd (no_child j q h)

    pub none_after : ((i : ℕ) (q : Address) → IsNode N T k (i ∷ q) → ⊥) → AreRightAfter N T k []
    none_after no_child i q h = absurd (no_child i q h)
