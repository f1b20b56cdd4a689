-- Trees that are the same but for their names have the same gap functions, the same schedules of them and the same lowest slots.
use Rattle.std.proofs.Common.{ℕ, suc, ◌≡◌, ◌⊎◌, inl, inr, List, [], ◌∷◌, ◌++◌, Some, refl, subst, sym, ap, ◌∙◌, Contains}
use Rattle.plan_model.specs.task_networks.Net.{Net}
use Rattle.plan_model.specs.task_networks.Tree.{Tree, Trees, open_leaf, done, split, none, more, Label, waits, ran, used, Address, label_at}
use Rattle.plan_model.specs.task_networks.Schedule.{Blocks, IsDue}
use Rattle.plan_model.specs.task_networks.Preorder.{nodes_at, nodes_from}
use Rattle.plan_model.specs.task_networks.Spelling.{others}
use Rattle.schedules.specs.latest.Gaps.{IsGapFunction, IsLatest}
use Rattle.schedules.specs.latest.LatestSchedule.{IsReady, IsFirstReady, IsTurn, IsScheduleOf}
use Rattle.schedules.specs.ruled.LowestSlots.{IsFreeFor, IsLowestFor, AreLowest}
use Rattle.renamed_networks.specs.Renamed.{IsRenaming, SameLabel, SameTree, SameTrees}
use Rattle.renamed_networks.proofs.RenamedTrees.{flip, flipped, same_flip, back, address_to, address_back, blocks_back}
use Rattle.renamed_networks.proofs.RenamedRuns.{others-same, pending_to, pending_back}

-- the nodes in preorder
module _ (M N : Net) (W : M.Work → N.Work → Type 0) (G : M.Method → N.Method → Type 0) where
  mutual
    nodes_same : (t : Tree M) (u : Tree N) → SameTree M N W G t u → (p : Address) → nodes_at M p t ≡ nodes_at N p u
    nodes_same (open_leaf v) (open_leaf w) s p = refl
    nodes_same (done v) (done w) s p = refl
    nodes_same (split g ts) (split m us) s p = ap (λ z. p ∷ z) (all_nodes_same ts us s.1 p 0)
    nodes_same (open_leaf v) (done w) s p = absurd s
    nodes_same (open_leaf v) (split m us) s p = absurd s
    nodes_same (done v) (open_leaf w) s p = absurd s
    nodes_same (done v) (split m us) s p = absurd s
    nodes_same (split g ts) (open_leaf w) s p = absurd s
    nodes_same (split g ts) (done w) s p = absurd s

    all_nodes_same : (ts : Trees M) (us : Trees N) → SameTrees M N W G ts us → (p : Address) (i : ℕ)
        → nodes_from M p i ts ≡ nodes_from N p i us
    all_nodes_same none none s p i = refl
    all_nodes_same (more t ts) (more u us) s p i =
        let e = nodes_same t u s.0 (i ∷ p) in
        let f = all_nodes_same ts us s.1 p (suc i) in
        λ k. e k ++ f k
    all_nodes_same none (more u us) s p i = absurd s
    all_nodes_same (more t ts) none s p i = absurd s

module _ (M N : Net) (W : M.Work → N.Work → Type 0) (G : M.Method → N.Method → Type 0) (r : IsRenaming M N W G) (t : Tree M) (u : Tree N)
    (s : SameTree M N W G t u) where
  blocks_to : (x v : Address) → Blocks M t x v → Blocks N u x v
  blocks_to = blocks_back N M (flip W) (flip G) (flipped M N W G r) u t (same_flip M N W G t u s)

  due_to : (taken : List Address) (v : Address) → IsDue M t taken v → IsDue N u taken v
  due_to taken v d = record {
    fresh = d.fresh;
    begun = d.begun;
    clear = λ x a b. d.clear x (address_back M N W G r t u s x a) (blocks_back M N W G r t u s x v b);
  }

  -- gap functions
  module _ (plan : List Address) (Allowed Other : Address → ℕ → Type 0) (allowed : (p : Address) (i : ℕ) → Allowed p i → Other p i) where
    pub gaps_to : (gap : Address → ℕ) → IsGapFunction M t plan Allowed gap → IsGapFunction N u plan Other gap
    gaps_to gap g = record {
      range = λ p a. g.range p (address_back M N W G r t u s p a);
      own = g.own;
      children = λ i p a. g.children i p (address_back M N W G r t u s (i ∷ p) a);
      before = λ x v a b k. g.before x v (address_back M N W G r t u s x a) (address_back M N W G r t u s v b)
          (blocks_back M N W G r t u s x v k);
      primitive_before = λ x v a b k. g.primitive_before x v a (address_back M N W G r t u s v b) (blocks_back M N W G r t u s x v k);
      allowed = λ p a. allowed p (gap p) (g.allowed p (address_back M N W G r t u s p a));
    }

-- ready nodes, from the one to the other
module _ (M N : Net) (W : M.Work → N.Work → Type 0) (G : M.Method → N.Method → Type 0) (r : IsRenaming M N W G) (t : Tree M) (u : Tree N)
    (s : SameTree M N W G t u)
    (plan : List Address) (gap : Address → ℕ) (taken : List Address) where
  ready_to : (p : Address) → IsReady M t plan gap taken p → IsReady N u plan gap taken p
  ready_to p x = record { node = address_to M N W G r t u s p x.node; other = x.other; here = x.here; due = due_to M N W G r t u s taken p x.due }

module _ (M N : Net) (W : M.Work → N.Work → Type 0) (G : M.Method → N.Method → Type 0) (r : IsRenaming M N W G) (t : Tree M) (u : Tree N)
    (s : SameTree M N W G t u) where
  -- the greatest of the gap functions
  pub latest_to : (plan : List Address) (Allowed Other : Address → ℕ → Type 0) → ((p : Address) (i : ℕ) → Allowed p i → Other p i)
      → ((p : Address) (i : ℕ) → Other p i → Allowed p i)
      → (gap : Address → ℕ) → IsLatest M t plan Allowed gap → IsLatest N u plan Other gap
  latest_to plan Allowed Other to from gap l = record {
    is = gaps_to M N W G r t u s plan Allowed Other to gap l.is;
    greatest = λ other g p a. (
        l.greatest other (gaps_to N M (flip W) (flip G) (flipped M N W G r) u t
        (same_flip M N W G t u s) plan Other Allowed from other g) p (address_back M N W G r t u s p a));
  }

  ready_back : (plan : List Address) (gap : Address → ℕ) (taken : List Address) (p : Address) → IsReady N u plan gap taken p
      → IsReady M t plan gap taken p
  ready_back = ready_to N M (flip W) (flip G) (flipped M N W G r) u t (same_flip M N W G t u s)

  -- the schedule of gaps
  module _ (plan : List Address) (gap : Address → ℕ) where
    first_ready_to : (taken : List Address) (p : Address) → IsFirstReady M t plan gap taken p → IsFirstReady N u plan gap taken p
    first_ready_to taken p x = record {
      ready = ready_to M N W G r t u s plan gap taken p x.ready;
      before = x.before;
      after = x.after;
      parts = sym (nodes_same M N W G t u s []) ∙ x.parts;
      none = λ q k y. x.none q k (ready_back plan gap taken q y);
    }

    turn_to : (taken : List Address) (p : Address) → IsTurn M t plan gap taken p → IsTurn N u plan gap taken p
    turn_to taken p x = record {
      number = x.number;
      due = due_to M N W G r t u s taken p x.due;
      none = λ q y. x.none q (ready_back plan gap taken q y);
    }

    pub schedule_of_to : (order : List Address) → IsScheduleOf M t plan gap order → IsScheduleOf N u plan gap order
    schedule_of_to order x = record {
      whole = λ p a. x.whole p (address_back M N W G r t u s p a);
      each = λ taken rest p e. next_to taken p (x.each taken rest p e);
    }
      where
        next_to : (taken : List Address) (p : Address) → IsFirstReady M t plan gap taken p ⊎ IsTurn M t plan gap taken p
            → IsFirstReady N u plan gap taken p ⊎ IsTurn N u plan gap taken p
        next_to taken p (inl y) = inl (first_ready_to taken p y)
        next_to taken p (inr y) = inr (turn_to taken p y)

  -- lowest slots
  module _ (slot : Address → ℕ) (taken : List Address) (p : Address) (g : M.Method) (m : N.Method) (e : G g m) (i : ℕ) where
    free_to : (x : ℕ) → IsFreeFor M t slot taken p g i x → IsFreeFor N u slot taken p m i x
    free_to x f = record {
      positive = f.positive;
      unused = λ q k. f.unused q (pending_back M N W G r t u s taken q k);
      earlier = λ j k. f.earlier j (subst (λ z. Contains z j) (sym (others-same M N W G r t u s slot g m e)) k);
    }

    free_back : (x : ℕ) → IsFreeFor N u slot taken p m i x → IsFreeFor M t slot taken p g i x
    free_back x f = record {
      positive = f.positive;
      unused = λ q k. f.unused q (pending_to M N W G r t u s taken q k);
      earlier = λ j k. f.earlier j (subst (λ z. Contains z j) (others-same M N W G r t u s slot g m e) k);
    }

    lowest_for : IsLowestFor M t slot taken p g i → IsLowestFor N u slot taken p m i
    lowest_for l = record { free = free_to (slot (i ∷ p)) l.free; lowest = λ x f. l.lowest x (free_back x f) }

  pub lowest_to : (slot : Address → ℕ) (order : List Address) → AreLowest M t slot order → AreLowest N u slot order
  lowest_to slot order l = record {
    root = l.root;
    heirs = λ p m i e h. (let k = back M N W G r t u s p (used m) e in heir p m i h k.0 k.1 k.2);
    new = λ taken rest p m i parts e c. (let k = back M N W G r t u s p (used m) e in fresh taken rest p m i parts c k.0 k.1 k.2);
  }
    where
      heir : (p : Address) (m : N.Method) (i : ℕ) → N.heir m ≡ Some i → (k : Label M) → label_at M t p ≡ Some k
          → SameLabel N M (flip W) (flip G) (used m) k → slot (i ∷ p) ≡ slot p
      heir p m i h (waits v) f y = absurd y
      heir p m i h (ran v) f y = absurd y
      heir p m i h (used g) f y = l.heirs p g i f (r.heir g m y ∙ h)

      fresh : (taken rest : List Address) (p : Address) (m : N.Method) (i : ℕ) → order ≡ taken ++ p ∷ rest → Contains (others N m) i
          → (k : Label M) → label_at M t p ≡ Some k → SameLabel N M (flip W) (flip G) (used m) k → IsLowestFor N u slot taken p m i
      fresh taken rest p m i parts c (waits v) f y = absurd y
      fresh taken rest p m i parts c (ran v) f y = absurd y
      fresh taken rest p m i parts c (used g) f y =
          lowest_for slot taken p g m y i (l.new taken rest p g i parts f
          (subst (λ z. Contains z i) (sym (others-same M N W G r t u s slot g m y)) c))
