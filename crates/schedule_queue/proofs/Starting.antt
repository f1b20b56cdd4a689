-- At the start the children of each node are open, the siblings right before it block it, and the root waits.
use Rattle.std.proofs.Common.{ℕ, ◌≡◌, ◌+◌, ◌<◌, inl, inr, true, List, [], ◌∷◌, ◌++◌, length, get_or, slice_index, refl, ap, sym, subst, ◌∙◌, Contains, arith}
use Rattle.std.specs.List.{list_any}
use Rattle.std.specs.BTreeMap.{is_at}
use Rattle.std.proofs.Math.Decide.{ℕ_discrete}
use Rattle.std.proofs.lemmas.List.{get_or_push, get_or_append_left}
use Rattle.plan_model.specs.task_networks.Net.{Net}
use Rattle.plan_model.specs.task_networks.Tree.{Tree, open_leaf, done, split, Address, IsAddress}
use Rattle.plan_model.specs.task_networks.Preorder.{preorder}
use Rattle.plan_model.specs.declared.values.Compiled.{Compiled}
use Rattle.plan_model.specs.plan_meaning.Network.{network}
use Rattle.plan_model.proofs.task_networks.Lists.{not-in_empty, Contains-here, head_or_tail}
use Rattle.tree_core.specs.Tables.{Row, table}
use Rattle.tree_core.specs.Labels.{labels, labelled}
use Rattle.tree_core.proofs.Labelled.{preorder-labelled}
use Rattle.tree_core.proofs.Gets.{get_some, get_within}
use Rattle.tree_core.proofs.Siblings.{as_many, node_address, place_of_node, one_node_place}
use Rattle.schedules.specs.latest.Queue.{HasCount, IsWhole, IsRightBefore, sibling, HasPairsOfChildren}
use Rattle.schedules.proofs.latest.Queue.{counters_start}
use Rattle.schedule_queue.specs.declared.queue.Queue.{Queue}
use Rattle.schedule_queue.specs.Orders.{IsSetting}
use Rattle.schedule_queue.specs.Children.{IsNode, AreChildren}
use Rattle.schedule_queue.specs.Given.{WaitsIn, AreRightBefore}
use Rattle.schedule_queue.specs.Queue.{unfinished_at, blocked_at, by_gap, Holds, IsOffered, AreOffered}
use Rattle.schedule_queue.specs.Kept.{IsWaiting, IsQueueOf}
use Rattle.schedule_queue.proofs.Counting.{counted_same, counts_below, none_counted}
use Rattle.schedule_queue.proofs.Keeping.{offered}

module _ (N : Net) (T : Tree N) where
  pub root_first : IsNode N T 0 []
  root_first = go T
    where
      go : (t : Tree N) → IsNode N t 0 []
      go (open_leaf w) = refl
      go (done w) = refl
      go (split m ts) = refl

  -- as many as are listed
  pub unfinished_first : (k : ℕ) (p : Address) (children : List ℕ) → IsNode N T k p → AreChildren N T k children
      → HasCount (λ i. IsAddress N T (i ∷ p)) (length children)
  unfinished_first k p children h are = counts_below (λ i. IsAddress N T (i ∷ p)) (length children) (λ i. (
    λ a. (let (y, e) = place_of_node N T (i ∷ p) a in get_within children i y ((are p h i y).1 e)),
    λ l. (let (y, e) = get_some children i l in node_address N T y (i ∷ p) ((are p h i y).0 e)),
  ))

module _ (c : Compiled) (rows : List (Row labels)) (actions gaps : List ℕ) (T : Tree (network c)) (plan : List Address)
    (gap : Address → ℕ) (s : IsSetting c rows actions gaps T plan gap) (pairs : HasPairsOfChildren (network c)) (old : Queue)
    (unfinished : (k : ℕ) (p : Address) → IsNode (network c) T k p → HasCount (λ i. IsAddress (network c) T (i ∷ p)) (unfinished_at old k))
    (blocked : (k : ℕ) → AreRightBefore (network c) T k (blocked_at old k))
    (none : (g k : ℕ) → Holds old g k → ⊥) (zero_passed : old.passed ≡ 0)
    (new : Queue) (o : IsOffered actions gaps 0 old new) where
  abbrev N : Net
  N = network c

  abbrev W : Address → Type 0
  W = IsWhole N T []

  abbrev Is : Address → Type 0
  Is = IsWaiting N T plan gap W [] []

  open_is : (k : ℕ) (p : Address) → IsNode N T k p → HasCount (λ i. IsAddress N T (i ∷ p) × (W (i ∷ p) → ⊥)) (unfinished_at old k)
  open_is k p h = counted_same (λ i. IsAddress N T (i ∷ p)) (λ i. IsAddress N T (i ∷ p) × (W (i ∷ p) → ⊥)) (unfinished_at old k)
      (λ i. (let x = (counters_start N T s.grown pairs).0 p i in (x.1, x.0))) (unfinished k p h)

  blocked_is : (k : ℕ) (p : Address) → IsNode N T k p → HasCount (λ i. IsRightBefore N T p i × (W (sibling N T p i) → ⊥)) (blocked_at old k)
  blocked_is k p h = counted_same (IsRightBefore N T p) (λ i. IsRightBefore N T p i × (W (sibling N T p i) → ⊥)) (blocked_at old k)
      (λ i. (let x = (counters_start N T s.grown pairs).1 p i in (x.1, x.0))) (blocked k p h)

  root_free : blocked_at old 0 ≡ 0
  root_free = none_counted (IsRightBefore N T []) (blocked_at old 0) (blocked 0 [] (root_first N T)) (λ i r. r)

  only_root : (v : Address) → Is v → v ≡ []
  only_root [] a = refl
  only_root (i ∷ q) a = absurd (not-in_empty q a.begun)

  list_offered : AreOffered actions gaps (0 ∷ []) old new
  list_offered = record {
    same = o.same;
    holds = λ g k. (
      λ h. elim ((o.holds g k).0 h) [
        | inl w ↦ inl w
        | inr d ↦ inr (
          subst (Contains (0 ∷ [])) (sym d.0) (Contains-here 0 []),
          ap (blocked_at old) d.0 ∙ d.1,
          subst (λ z. WaitsIn actions gaps z g) (sym d.0) d.2,
        )
      ],
      λ h. (o.holds g k).1 (elim h [
        | inl w ↦ inl w
        | inr d ↦ elim (head_or_tail 0 [] k d.0) [
          | inl e ↦ inr (sym e, ap (blocked_at old) e ∙ d.1, subst (λ z. WaitsIn actions gaps z g) (sym e) d.2)
          | inr b ↦ absurd (not-in_empty k b)
        ]
      ]),
    );
  }

  pub starts : IsQueueOf N T plan gap [] new
  starts = record {
    kept = record {
      unfinished = λ y r h. subst (λ z. HasCount (λ j. IsAddress N T (j ∷ r) × (W (j ∷ r) → ⊥)) (slice_index z.items y))
          (sym o.same.unfinished) (open_is y r h);
      blocked = λ y v h. subst (λ z. HasCount (λ l. IsRightBefore N T v l × (W (sibling N T v l) → ⊥)) (slice_index z.items y))
          (sym o.same.blocked) (blocked_is y v h);
      waiting = offered c rows actions gaps T plan gap s (0 ∷ []) old new (λ v. ⊥) Is list_offered
          (λ g k. ((λ h. absurd (none g k h)), (λ x. absurd x.3)))
          (λ k d. elim (head_or_tail 0 [] k d) [
            | inl e ↦ ([], subst (λ z. IsNode N T z []) e (root_first N T))
            | inr b
                ↦ absurd (not-in_empty k b)
          ])
          (λ v x. absurd x)
          (λ k v h d z n. root_waits k v h d n)
          (λ k v h a. inr (
            subst (Contains (0 ∷ [])) (sym (place k v h a)) (Contains-here 0 []),
            ap (blocked_at old) (place k v h a) ∙ root_free,
          ))
          (λ v a. a.other);
    };
    passed = o.same.passed ∙ zero_passed;
  }
    where
      place : (k : ℕ) (v : Address) → IsNode N T k v → Is v → k ≡ 0
      place k v h a = one_node_place N T k 0 [] (subst (IsNode N T k) (only_root v a) h) (root_first N T)

      root_waits : (k : ℕ) (v : Address) → IsNode N T k v → Contains (0 ∷ []) k → (Contains plan v → ⊥) → Is v
      root_waits k v h d n =
          let e : v ≡ [] = elim (head_or_tail 0 [] k d) [
            | inl e ↦ (let a = subst (λ z. IsNode N T z v) (sym e) h in let b = root_first N T in cc)
            | inr b ↦ absurd (not-in_empty k b)
          ] in
          subst Is (sym e) (record {
            node = node_address N T k [] (subst (IsNode N T k) e h);
            other = λ x. n (subst (Contains plan) (sym e) x);
            fresh = not-in_empty [];
            begun = tt;
            clear = λ l r m. r;
          })

-- of each number below n, and of n
pub more_below : (P : ℕ → ℕ → Type 0) (xs : List ℕ) (n v : ℕ) → length xs ≡ n → ((k : ℕ) → k < n → P k (get_or xs k 0)) → P n v
    → (k : ℕ) → k < n + 1 → P k (get_or (xs ++ v ∷ []) k 0)
more_below P xs n v m below here k l = elim (ℕ_discrete k n) [
  | yes e ↦ subst (λ z. P z (get_or (xs ++ v ∷ []) z 0)) (sym e) (subst (P n) (sym (get_or_push xs v 0 n m)) here)
  | no d ↦ subst (P k) (sym (get_or_append_left xs (v ∷ []) 0 k (omega arith))) (below k (omega arith))
]

pub nothing_held : (keys : List (ℕ × ℕ)) (key : ℕ × ℕ) → keys ≡ [] → list_any (is_at (by_gap key)) keys ≡ true → ⊥
nothing_held keys key e h = let f = subst (λ z. list_any (is_at (by_gap key)) z ≡ true) e h in cc

-- a node stands below the size
pub node_below : (c : Compiled) (T : Tree (network c)) (rows : List (Row labels)) → rows ≡ table labels (labelled c T)
    → (k : ℕ) (p : Address) → IsNode (network c) T k p → k < length rows
node_below c T rows are k p h =
    let l = get_within (preorder (network c) T) k p h in
    let y = ap length are ∙ as_many labels (labelled c T) ∙ ap length (preorder-labelled c T) in
    omega arith
