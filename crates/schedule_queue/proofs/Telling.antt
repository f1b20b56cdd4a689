-- A node that has become whole is told to its parent and to the siblings right after it.
use Rattle.std.proofs.Common.{ℕ, ◌≡◌, ◌≢◌, ◌-◌, ◌<◌, ◌⊎◌, ◌↔◌, inl, inr, true, List, [], ◌∷◌, ◌++◌, slice_index, Some, None, refl, ap, sym, subst, ◌∙◌, Contains, arith}
use Rattle.std.proofs.Math.Decide.{ℕ_discrete}
use Rattle.std.proofs.lemmas.List.Elements.{Contains-push, Contains-push_cases, Contains-append_left}
use Rattle.plan_model.specs.task_networks.Order.{direct}
use Rattle.plan_model.specs.task_networks.Net.{Net}
use Rattle.plan_model.specs.task_networks.Tree.{Tree, Address, IsAddress, IsAbove}
use Rattle.plan_model.specs.task_networks.Schedule.{IsBegun, IsDue}
use Rattle.plan_model.specs.declared.values.Compiled.{Compiled}
use Rattle.plan_model.specs.plan_meaning.Network.{network}
use Rattle.plan_model.proofs.task_networks.Addresses.{below-itself, below_up, below_below, not-below_parent}
use Rattle.plan_model.proofs.task_networks.Lists.{cut_at}
use Rattle.tree_core.specs.Tables.{Row}
use Rattle.tree_core.specs.Labels.{labels}
use Rattle.tree_core.specs.Runs.{parent_in}
use Rattle.tree_core.proofs.Siblings.{one_node_place, node_address}
use Rattle.schedules.specs.latest.Queue.{HasCount, IsWhole, IsRightBefore, sibling, WereDue}
use Rattle.schedules.proofs.latest.Queue.{counters}
use Rattle.schedule_queue.specs.declared.queue.Queue.{Queue}
use Rattle.schedule_queue.specs.Orders.{IsSetting}
use Rattle.schedule_queue.specs.Children.{IsNode}
use Rattle.schedule_queue.specs.Given.{AreRightAfter}
use Rattle.std.specs.BTreeSet.{contains}
use Rattle.schedule_queue.specs.Queue.{unfinished_at, blocked_at, by_gap, AreLowered, AreOffered}
use Rattle.schedule_queue.specs.Kept.{IsWaiting, IsQueueOf, IsToldBelow, IsToldTo, IsWholeAt}
use Rattle.schedule_queue.proofs.Counting.{counted_same, counted_less, counted_none, none_counted, is_one}
use Rattle.schedule_queue.proofs.Nodes.{parent_at, root_at}
use Rattle.schedule_queue.proofs.Keeping.{AreWaiting, offered, kept_same}

-- a node that one right before blocks isn't taken while that one isn't whole
module _ (N : Net) (T : Tree N) (taken : List Address) (p : Address) (were : WereDue N T taken) (due : IsDue N T taken p)
    (node : IsAddress N T p) where
  pub not_taken : (i j : ℕ) (q : Address) → IsRightBefore N T (j ∷ q) i → IsAbove (i ∷ q) p → Contains (taken ++ p ∷ []) (j ∷ q) → ⊥
  not_taken i j q (m, e, r) b c = elim (Contains-push_cases taken p (j ∷ q) c) [
    | inl d ↦ (
        let (before, rest, f) = cut_at taken (j ∷ q) d in
        let g = (were before rest (j ∷ q) f).clear p node (m, i, e, direct r, b) in
        due.fresh (subst (λ z. Contains z p) (sym f) (Contains-append_left before ((j ∷ q) ∷ rest) p g)))
    | inr f ↦ due.fresh ((subst (IsDue N T taken) f due).clear p node (m, i, e, direct r, b))
  ]

  -- the parent of what is taken is taken
  pub parent_taken : (i : ℕ) (q : Address) → Contains (taken ++ p ∷ []) (i ∷ q) → Contains (taken ++ p ∷ []) q
  parent_taken i q c = Contains-append_left taken (p ∷ []) q (elim (Contains-push_cases taken p (i ∷ q) c) [
    | inl d ↦ (
        let (before, rest, f) = cut_at taken (i ∷ q) d in
        subst (λ z. Contains z q) (sym f) (Contains-append_left before ((i ∷ q) ∷ rest) q (were before rest (i ∷ q) f).begun))
    | inr f ↦ (subst (IsDue N T taken) f due).begun
  ])

  -- so is what is above it
  pub above_taken : (x u : Address) → Contains (taken ++ p ∷ []) u → IsAbove x u → Contains (taken ++ p ∷ []) x
  above_taken x [] d e = subst (Contains (taken ++ p ∷ [])) (sym e) d
  above_taken x (i ∷ r) d (inl e) = subst (Contains (taken ++ p ∷ [])) (sym e) d
  above_taken x (i ∷ r) d (inr b) = above_taken x r (parent_taken i r d) b

module _ (c : Compiled) (rows : List (Row labels)) (actions gaps : List ℕ) (T : Tree (network c)) (plan : List Address)
    (gap : Address → ℕ) (s : IsSetting c rows actions gaps T plan gap) where
  abbrev N : Net
  N = network c

  -- where the parent of a node stands
  pub up_from : (k x : ℕ) (u : Address) → IsNode N T k u → parent_in rows k ≡ Some x → (i : ℕ) × (q : Address) × (u ≡ i ∷ q)
      × IsNode N T x q × (x < k)
  up_from k x [] h e = absurd (let f = root_at c T rows s.rows_are k h in cc)
  up_from k x (i ∷ q) h e =
      let (y, l, f, num, g) = parent_at c T rows s.rows_are k i q h in
      let same : y ≡ x = cc in
      (i, q, refl, subst (λ z. IsNode N T z q) same g, omega arith)

  pub at_root : (k : ℕ) (u : Address) → IsNode N T k u → parent_in rows k ≡ None → u ≡ []
  at_root k [] h e = refl
  at_root k (i ∷ q) h e = absurd (let (y, l, f, num, g) = parent_at c T rows s.rows_are k i q h in cc)

  module _ (taken : List Address) (p : Address) where
    abbrev next : List Address
    next = taken ++ p ∷ []

    module _ (i : ℕ) (q : Address) (k x : ℕ) (here : IsNode N T k (i ∷ q)) (up : IsNode N T x q) (old : Queue)
        (w : IsWholeAt N T plan gap taken p (i ∷ q) old) where
      -- what has told before, and now
      abbrev W : Address → Type 0
      W = IsToldBelow N T plan gap taken p (i ∷ q)

      abbrev V : Address → Type 0
      V = IsToldBelow N T plan gap taken p q

      still : (y : Address) → W y → V y
      still y h = (h.0, λ b. h.1 (inr b))

      now : V (i ∷ q)
      now = (w.whole, not-below_parent i q)

      no_other : (y : Address) → y ≢ i ∷ q → V y → W y
      no_other y n h = (h.0, λ b. elim b [ inl e ↦ n e | inr d ↦ h.1 d ])

      not_before : W (i ∷ q) → ⊥
      not_before h = h.1 (below-itself (i ∷ q))

      -- one open child less
      open_less : (n : ℕ) → HasCount (λ j. IsAddress N T (j ∷ q) × (W (j ∷ q) → ⊥)) n
          → HasCount (λ j. IsAddress N T (j ∷ q) × (V (j ∷ q) → ⊥)) (n - 1)
      open_less n h = counted_less (λ j. IsAddress N T (j ∷ q) × (W (j ∷ q) → ⊥)) (λ j. IsAddress N T (j ∷ q) × (V (j ∷ q) → ⊥)) n i
          (node_address N T k (i ∷ q) here, not_before)
          (λ j. (
            λ a. ((a.0, λ b. a.1 (still (j ∷ q) b)), λ e. a.1 (subst (λ z. V (z ∷ q)) (sym e) now)),
            λ a. (a.0.0, λ b. a.0.1 (no_other (j ∷ q) (λ e. a.1 (let f : j ≡ i = cc in f)) b)),
          )) h

      open_same : (r : Address) (n : ℕ) → r ≢ q → HasCount (λ j. IsAddress N T (j ∷ r) × (W (j ∷ r) → ⊥)) n
          → HasCount (λ j. IsAddress N T (j ∷ r) × (V (j ∷ r) → ⊥)) n
      open_same r n d h = counted_same (λ j. IsAddress N T (j ∷ r) × (W (j ∷ r) → ⊥)) (λ j. IsAddress N T (j ∷ r) × (V (j ∷ r) → ⊥)) n
          (λ j. (
            λ a. (a.0, λ b. a.1 (no_other (j ∷ r) (λ e. d (let f : r ≡ q = cc in f)) b)),
            λ a. (a.0, λ b. a.1 (still (j ∷ r) b)),
          )) h

      -- and one blocker less of a sibling right after
      blocked_less : (j n : ℕ) → IsRightBefore N T (j ∷ q) i → HasCount (λ l. IsRightBefore N T (j ∷ q) l × (W (l ∷ q) → ⊥)) n
          → HasCount (λ l. IsRightBefore N T (j ∷ q) l × (V (l ∷ q) → ⊥)) (n - 1)
      blocked_less j n r h = counted_less (λ l. IsRightBefore N T (j ∷ q) l × (W (l ∷ q) → ⊥))
          (λ l. IsRightBefore N T (j ∷ q) l × (V (l ∷ q) → ⊥)) n i
          (r, not_before)
          (λ l. (
            λ a. ((a.0, λ b. a.1 (still (l ∷ q) b)), λ e. a.1 (subst (λ z. V (z ∷ q)) (sym e) now)),
            λ a. (a.0.0, λ b. a.0.1 (no_other (l ∷ q) (λ e. a.1 (let f : l ≡ i = cc in f)) b)),
          )) h

      other_sibling : (v : Address) (l : ℕ) → IsRightBefore N T v l → ((j : ℕ) → v ≡ j ∷ q → IsRightBefore N T (j ∷ q) i → ⊥)
          → sibling N T v l ≢ i ∷ q
      other_sibling [] l r n e = r
      other_sibling (j ∷ u) l r n e =
          let f : l ≡ i = cc in
          let g : u ≡ q = cc in
          n j (ap (λ z. j ∷ z) g) (subst (λ z. IsRightBefore N T (j ∷ z) i) g (subst (IsRightBefore N T (j ∷ u)) f r))

      blocked_same : (v : Address) (n : ℕ) → ((j : ℕ) → v ≡ j ∷ q → IsRightBefore N T (j ∷ q) i → ⊥)
          → HasCount (λ l. IsRightBefore N T v l × (W (sibling N T v l) → ⊥)) n
          → HasCount (λ l. IsRightBefore N T v l × (V (sibling N T v l) → ⊥)) n
      blocked_same v n d h = counted_same (λ l. IsRightBefore N T v l × (W (sibling N T v l) → ⊥))
          (λ l. IsRightBefore N T v l × (V (sibling N T v l) → ⊥)) n
          (λ l. (
            λ a. (a.0, λ b. a.1 (no_other (sibling N T v l) (other_sibling v l a.0 d) b)),
            λ a. (a.0, λ b. a.1 (still (sibling N T v l) b)),
          )) h

      module _ (after : List ℕ) (are : AreRightAfter N T k after) (mid : Queue) (low : AreLowered after old.blocked.items mid.blocked.items)
          (at_x : unfinished_at mid x ≡ unfinished_at old x - 1) (others : (y : ℕ) → y ≢ x → unfinished_at mid y ≡ unfinished_at old y)
          (waits : mid.waiting ≡ old.waiting) (passes : mid.passed ≡ old.passed)
          (new : Queue) (o : AreOffered actions gaps after mid new) where
        -- a sibling right after is in the list, and nothing else
        in_list : (y j : ℕ) → IsNode N T y (j ∷ q) → IsRightBefore N T (j ∷ q) i → Contains after y
        in_list y j h r = ((are i q here).1 y).1 (j, r, h)

        outside : (y : ℕ) (v : Address) → IsNode N T y v → (Contains after y → ⊥) → (j : ℕ) → v ≡ j ∷ q → IsRightBefore N T (j ∷ q) i → ⊥
        outside y v h n j e r = n (in_list y j (subst (IsNode N T y) e h) r)

        open_is : (y : ℕ) (r : Address) → IsNode N T y r → HasCount (λ j. IsAddress N T (j ∷ r) × (V (j ∷ r) → ⊥)) (unfinished_at mid y)
        open_is y r h = elim (ℕ_discrete y x) [
          | yes e ↦ (
              let f : r ≡ q = (let a = subst (λ z. IsNode N T z r) e h in let b = up in cc) in
              subst (λ z. HasCount (λ j. IsAddress N T (j ∷ z) × (V (j ∷ z) → ⊥)) (unfinished_at mid y)) (sym f)
              (subst (HasCount (λ j. IsAddress N T (j ∷ q) × (V (j ∷ q) → ⊥))) (sym at_x ∙ ap (unfinished_at mid) (sym e))
              (open_less (unfinished_at old x) (w.told.kept.unfinished x q up))))
          | no d ↦ subst (HasCount (λ j. IsAddress N T (j ∷ r) × (V (j ∷ r) → ⊥))) (sym (others y d))
              (open_same r (unfinished_at old y) (λ f. d (one_node_place N T y x q (subst (IsNode N T y) f h) up))
              (w.told.kept.unfinished y r h))
        ]

        blocked_is : (y : ℕ) (v : Address) → IsNode N T y v → HasCount (λ l. IsRightBefore N T v l × (V (sibling N T v l) → ⊥))
            (blocked_at mid y)
        blocked_is y v h = elim (is_one after y) [
          | yes d ↦ (
              let (j, r, e) = ((are i q here).1 y).0 d in
              let f : v ≡ j ∷ q = (let a = h in let b = e in cc) in
              subst (λ z. HasCount (λ l. IsRightBefore N T z l × (V (sibling N T z l) → ⊥)) (blocked_at mid y)) (sym f)
              (subst (HasCount (λ l. IsRightBefore N T (j ∷ q) l × (V (l ∷ q) → ⊥))) (sym (low.falls y d))
              (blocked_less j (blocked_at old y) r (w.told.kept.blocked y (j ∷ q) e))))
          | no n ↦ subst (HasCount (λ l. IsRightBefore N T v l × (V (sibling N T v l) → ⊥))) (sym (low.stays y n))
              (blocked_same v (blocked_at old y) (outside y v h n) (w.told.kept.blocked y v h))
        ]

        q_taken : Contains next q
        q_taken = parent_taken N T taken p w.told.were w.told.due w.told.node i q
            (w.whole (i ∷ q) (node_address N T k (i ∷ q) here) (below-itself (i ∷ q)))

        abbrev Was : Address → Type 0
        Was = IsWaiting N T plan gap W next next

        abbrev Is : Address → Type 0
        Is = IsWaiting N T plan gap V next next

        keeps : (v : Address) → Was v → Is v
        keeps v a = record {
          node = a.node;
          other = a.other;
          fresh = a.fresh;
          begun = a.begun;
          clear = λ l r n. a.clear l r (λ h. n (still (sibling N T v l) h));
        }

        clear_at : (y : ℕ) (v : Address) → IsNode N T y v → blocked_at mid y ≡ 0 → (l : ℕ) → IsRightBefore N T v l
            → (V (sibling N T v l) → ⊥) → ⊥
        clear_at y v h z l r n = counted_none (λ l. IsRightBefore N T v l × (V (sibling N T v l) → ⊥))
            (subst (HasCount (λ l. IsRightBefore N T v l × (V (sibling N T v l) → ⊥))) z (blocked_is y v h)) l (r, n)

        adds : (y : ℕ) (v : Address) → IsNode N T y v → Contains after y → blocked_at mid y ≡ 0 → (Contains plan v → ⊥) → Is v
        adds y v h d z n =
            let (j, r, e) = ((are i q here).1 y).0 d in
            let f : v ≡ j ∷ q = (let a = h in let b = e in cc) in
            record {
              node = node_address N T y v h;
              other = n;
              fresh = λ t. not_taken N T taken p w.told.were w.told.due w.told.node i j q r w.told.above (subst (Contains next) f t);
              begun = subst (IsBegun next) (sym f) q_taken;
              clear = clear_at y v h z;
            }

        cases : (y : ℕ) (v : Address) → IsNode N T y v → Is v → Was v ⊎ (Contains after y × (blocked_at mid y ≡ 0))
        cases y v h a = elim (is_one after y) [
          | yes d ↦ inr (
            d,
            none_counted (λ l. IsRightBefore N T v l × (V (sibling N T v l) → ⊥)) (blocked_at mid y) (blocked_is y v h)
                (λ l b. a.clear l b.0 b.1),
          )
          | no n ↦ inl (record {
            node = a.node;
            other = a.other;
            fresh = a.fresh;
            begun = a.begun;
            clear = λ l r m. a.clear l r (λ b. m (no_other (sibling N T v l) (other_sibling v l r (outside y v h n)) b));
          })
        ]

        was : AreWaiting c rows actions gaps T plan gap s Was mid
        was = subst (λ z. (g y : ℕ) → (contains by_gap z (g, y) ≡ true) ↔ ((v : Address) × IsNode N T y v × (g ≡ gap v) × Was v))
            (sym waits) w.told.kept.waiting

        pub told : IsToldTo N T plan gap taken p q new
        told = record {
          node = w.told.node;
          were = w.told.were;
          due = w.told.due;
          above = below_up i q p w.told.above;
          kept = record {
            unfinished = λ y r h. subst (λ z. HasCount (λ j. IsAddress N T (j ∷ r) × (V (j ∷ r) → ⊥)) (slice_index z.items y))
                (sym o.same.unfinished) (open_is y r h);
            blocked = λ y v h. subst (λ z. HasCount (λ l. IsRightBefore N T v l × (V (sibling N T v l) → ⊥)) (slice_index z.items y))
                (sym o.same.blocked) (blocked_is y v h);
            waiting = offered c rows actions gaps T plan gap s after mid new Was Is o was
                (λ y d. (let (j, r, e) = ((are i q here).1 y).0 d in (j ∷ q, e)))
                keeps adds cases (λ v a. a.other);
          };
          passed = o.same.passed ∙ passes ∙ w.told.passed;
        }

    -- whether the parent is whole shows in its count
    module _ (x : ℕ) (q : Address) (at_x : IsNode N T x q) (queue : Queue) (t : IsToldTo N T plan gap taken p q queue) where
      in_next : Contains next q
      in_next = above_taken N T taken p t.were t.due t.node q p (Contains-push taken p) t.above

      count_tells : (unfinished_at queue x ≡ 0) ↔ IsWhole N T next q
      count_tells = (counters N T next q (unfinished_at queue x)).1
          (counted_same (λ j. IsAddress N T (j ∷ q) × (IsToldBelow N T plan gap taken p q (j ∷ q) → ⊥))
          (λ j. IsAddress N T (j ∷ q) × (IsWhole N T next (j ∷ q) → ⊥)) (unfinished_at queue x)
          (λ j. (
            λ a. (a.0, λ b. a.1 (b, not-below_parent j q)),
            λ a. (a.0, λ b. a.1 b.0),
          )) (t.kept.unfinished x q at_x))
          in_next

      pub goes_on : unfinished_at queue x ≡ 0 → IsWholeAt N T plan gap taken p q queue
      goes_on e = record { told = t; whole = count_tells.0 e }

      -- where it isn't whole, nothing above it is
      pub stops : (unfinished_at queue x ≢ 0) → IsQueueOf N T plan gap next queue
      stops d = record {
        kept = kept_same N T plan gap (IsToldBelow N T plan gap taken p q) (IsWhole N T next)
            (λ j r. ((λ a. a.0), (λ a. (a, λ b. d (count_tells.1 (λ u h e. a u h (below_below (j ∷ r) q u b e)))))))
            next next queue t.kept;
        passed = t.passed;
      }

    -- the root is whole
    pub ends : (queue : Queue) → IsWholeAt N T plan gap taken p [] queue → IsQueueOf N T plan gap next queue
    ends queue w = record {
      kept = kept_same N T plan gap (IsToldBelow N T plan gap taken p []) (IsWhole N T next)
          (λ j r. ((λ a. a.0), (λ a. (a, λ e. absurd cc)))) next next queue w.told.kept;
      passed = w.told.passed;
    }
