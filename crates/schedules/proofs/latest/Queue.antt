-- The queue: its counters, what a step changes in them, and that its first is the next node.
use Rattle.std.proofs.Common.{ℕ, zero, suc, ◌≡◌, ◌≢◌, ◌<◌, ◌≤◌, ◌⊎◌, ◌↔◌, inl, inr, List, [], ◌∷◌, ◌++◌, length, slice_get, Some, refl, ap, sym, subst, ◌∙◌, Contains, arith}
use Rattle.std.proofs.Math.Decide.{ℕ_discrete}
use Rattle.std.proofs.lemmas.Option.{slice_get_within}
use Rattle.std.proofs.lemmas.List.Elements.{Contains-push, Contains-push_cases, Contains-append_left}
use Rattle.plan_model.specs.task_networks.Order.{direct}
use Rattle.plan_model.specs.task_networks.Net.{Net, count}
use Rattle.plan_model.specs.task_networks.Tree.{Tree, Address, used, at, label_at, IsAddress, IsAbove, IsGrown}
use Rattle.plan_model.specs.task_networks.Schedule.{Blocks, IsBegun, IsDue}
use Rattle.plan_model.specs.task_networks.Preorder.{nodes_at}
use Rattle.plan_model.proofs.task_networks.Addresses.{below-itself, below_up, below_cases, is_below, same_sibling}
use Rattle.plan_model.proofs.task_networks.Lists.{Contains-here, not-in_empty, cut_at}
use Rattle.htn_base.specs.Different.{AreDifferent}
use Rattle.plan_model.proofs.task_networks.Different.{different_without, length_whole, within_whole, without_cases}
use Rattle.plan_model.proofs.task_networks.Nodes.{nodes, lists_address}
use Rattle.schedules.specs.latest.Gaps.{IsPlanOf, IsGapFunction, passed}
use Rattle.schedules.specs.latest.LatestSchedule.{IsReady, IsFirstReady, IsTurn}
use Rattle.schedules.specs.latest.Laws.{IsOrderDecided}
use Rattle.schedules.specs.latest.Queue.{HasCount, IsWhole, IsRightBefore, sibling, IsBlocker, IsOpenChild, IsAvailable, WereDue, IsTakenAfter, CountersFallAfter, CountersFall, IsBeginningOf, IsQueued, IsFirstQueued, HasPairsOfChildren, AvailableAreDue, CountersStart, CountersTell, TakingMakesWhole, NothingIsLate, NextIsFirstQueued, ThenThePrimitive}
use Rattle.plan_model.proofs.task_networks.Parents.{parent_address, work_address}
use Rattle.schedules.proofs.latest.Counts.{to_place}
use Rattle.schedules.proofs.latest.Search.{each_or, less_or}
use Rattle.schedules.proofs.latest.Lowering.{is_in}
use Rattle.schedules.proofs.latest.DirectPairs.{direct_pairs_do}
use Rattle.plan_model.proofs.task_networks.Before.{is_blocking}
use Rattle.schedules.proofs.latest.Ranks.{rank, rank_child, rank_blocks}
use Rattle.schedules.proofs.latest.Placed.{step_due}
use Rattle.schedules.proofs.latest.Building.{IsBeginning, begins, settled, turn_due}
use Rattle.schedules.proofs.latest.Theorem.{preceding}

-- nothing is counted where nothing is such
none_counted : (P : ℕ → Type 0) (n : ℕ) → HasCount P n → (n ≡ 0) ↔ ((k : ℕ) → P k → ⊥)
none_counted P n (numbers, d, is, e) = (to numbers is e, from numbers is e)
  where
    to : (numbers : List ℕ) → ((k : ℕ) → Contains numbers k ↔ P k) → length numbers ≡ n → n ≡ 0 → (k : ℕ) → P k → ⊥
    to [] is e z k p = not-in_empty k ((is k).1 p)
    to (x ∷ xs) is e z k p = omega arith

    from : (numbers : List ℕ) → ((k : ℕ) → Contains numbers k ↔ P k) → length numbers ≡ n → ((k : ℕ) → P k → ⊥) → n ≡ 0
    from [] is e h = sym e
    from (x ∷ xs) is e h = absurd (h x ((is x).0 (Contains-here x xs)))

same_counted : (P Q : ℕ → Type 0) (n : ℕ) → ((k : ℕ) → P k ↔ Q k) → HasCount P n → HasCount Q n
same_counted P Q n same (numbers, d, is, e) = (numbers, d, (λ k. ((λ c. (same k).0 ((is k).0 c)), (λ q. (is k).1 ((same k).1 q)))), e)

-- all but one
one_less_counted : (P Q : ℕ → Type 0) (n j : ℕ) → P j → ((k : ℕ) → Q k ↔ (P k × (k ≢ j))) → HasCount P n
    → (less : ℕ) × (n ≡ suc less) × HasCount Q less
one_less_counted P Q n j p same (numbers, d, is, e) =
    let (before, after, f) = cut_at numbers j ((is j).1 p) in
    let r = different_without before j after (subst AreDifferent f d) in (
      length (before ++ after),
      sym e ∙ ap length f ∙ length_whole before j after,
      (
        before ++ after,
        r.0,
        (λ k. (
          λ c. (same k).1 ((is k).0 (subst (λ z. Contains z k) (sym f) (within_whole before j after k c)), λ g. r.1 (subst (Contains (before ++ after)) g c)),
          λ q. (let x = (same k).0 q in elim (without_cases before j after k (subst (λ z. Contains z k) f ((is k).1 x.0))) [ inl g ↦ absurd (x.1 (sym g)) | inr c ↦ c ]),
        )),
        refl,
      ),
    )

module _ (N : Net) (tree : Tree N) where
  -- what is above a node is a node
  address_up : (a u : Address) → IsAbove a u → IsAddress N tree u → IsAddress N tree a
  address_up a [] e h = subst (IsAddress N tree) (sym e) h
  address_up a (k ∷ u) (inl e) h = subst (IsAddress N tree) (sym e) h
  address_up a (k ∷ u) (inr b) h = address_up a u b (parent_address N tree k u h)

  pub is_whole : (taken : List Address) (p : Address) → Dec (IsWhole N tree taken p)
  is_whole taken p = elim (each_or (nodes_at N [] tree) (λ u. IsAbove p u → Contains taken u) (IsWhole N tree taken p → ⊥) each) [ inl h ↦ yes (λ u a b. h u (lists_address N tree u a) b) | inr n ↦ no n ]
    where
      each : (u : Address) → Contains (nodes_at N [] tree) u → (IsAbove p u → Contains taken u) ⊎ (IsWhole N tree taken p → ⊥)
      each u c = elim (is_in taken u) [
        | yes d ↦ inl (λ b. d)
        | no n ↦ elim (is_below p u) [ yes b ↦ inr (λ h. n (h u (nodes N tree tree [] u (let x : at N tree [] ≡ Some tree = refl in x) c) b)) | no m ↦ inl (λ b. absurd (m b)) ]
      ]

  taken_longer : (taken : List Address) (p x : Address) → IsWhole N tree taken x → IsWhole N tree (taken ++ p ∷ []) x
  taken_longer taken p x h u a b = Contains-append_left taken (p ∷ []) u (h u a b)

  -- a node is whole where it is taken and its children are whole
  whole_from : (taken : List Address) (p : Address) → Contains taken p → ((k : ℕ) → IsAddress N tree (k ∷ p) → IsWhole N tree taken (k ∷ p))
      → IsWhole N tree taken p
  whole_from taken p c h u a b = elim (below_cases p u b) [ inl e ↦ subst (Contains taken) (sym e) c | inr (k, d) ↦ h k (address_up (k ∷ p) u d a) u a d ]

  pub counters : (taken : List Address) (p : Address) (n : ℕ)
      → (HasCount (IsBlocker N tree taken p) n → (n ≡ 0) ↔ ((i : ℕ) → IsBlocker N tree taken p i → ⊥))
      × (HasCount (IsOpenChild N tree taken p) n → Contains taken p → (n ≡ 0) ↔ IsWhole N tree taken p)
  counters taken p n = (none_counted (IsBlocker N tree taken p) n, open_children)
    where
      open_children : HasCount (IsOpenChild N tree taken p) n → Contains taken p → (n ≡ 0) ↔ IsWhole N tree taken p
      open_children h c =
          let none = none_counted (IsOpenChild N tree taken p) n h in (
            λ e. whole_from taken p c (λ k a. elim (is_whole taken (k ∷ p)) [ yes w ↦ w | no f ↦ absurd (none.0 e k (a, f)) ]),
            λ w. none.1 (λ k o. o.1 (λ u a b. w u a (below_up k p u b))),
          )

  child_node : IsGrown N tree → (q : Address) (m : N.Method) (i : ℕ) → label_at N tree q ≡ Some (used m) → i < count N m
      → IsAddress N tree (i ∷ q)
  child_node grown q m i e l =
      let w = work_at (N.works m) i l in
      work_address N tree grown q m i w.0 e w.1
    where
      work_at : {A : Type 0} (xs : List A) (i : ℕ) → i < length xs → (x : A) × (slice_get xs i ≡ Some x)
      work_at [] i l = absurd (omega arith)
      work_at (x ∷ xs) zero l = (x, refl)
      work_at (x ∷ xs) (suc i) l = work_at xs i (omega arith)

  -- at the start all children are open, and all siblings right before a node block it
  pub counters_start : IsGrown N tree → HasPairsOfChildren N
      → ((x : Address) (k : ℕ) → IsOpenChild N tree [] x k ↔ IsAddress N tree (k ∷ x))
      × ((v : Address) (i : ℕ) → IsBlocker N tree [] v i ↔ IsRightBefore N tree v i)
  counters_start grown pairs = (λ x k. ((λ o. o.0), (λ a. (a, λ h. not-in_empty (k ∷ x) (h (k ∷ x) a (below-itself (k ∷ x)))))), λ v i. ((λ b. b.0), (λ r. (r, before v i r))))
    where
      before : (v : Address) (i : ℕ) → IsRightBefore N tree v i → IsWhole N tree [] (sibling N tree v i) → ⊥
      before [] i r h = r
      before (j ∷ q) i (m, e, r) h = not-in_empty (i ∷ q) (h (i ∷ q) (child_node grown q m i e (pairs m i j r).0) (below-itself (i ∷ q)))

  -- available and due
  module _ (grown : IsGrown N tree) (pairs : HasPairsOfChildren N) (taken : List Address) (were : WereDue N tree taken) where
    available_is_due : (p : Address) → IsAvailable N tree taken p → IsDue N tree taken p
    available_is_due p a = record { fresh = a.fresh; begun = a.begun; clear = clear p a }
      where
        clear : (p : Address) → IsAvailable N tree taken p → (u : Address) → IsAddress N tree u → Blocks N tree u p → Contains taken u
        clear [] a u h b = absurd b
        clear (j ∷ q) a u h (m, i, e, c, b) = direct_pairs_do N tree taken were j q m e
            (λ i k r. child_node grown q m i e (pairs m i k r).0)
            (λ i r. elim (is_whole taken (i ∷ q)) [ yes w ↦ w | no f ↦ absurd (a.clear i ((m, e, r), f)) ])
            u h (m, i, e, c, b)

    due_is_available : (p : Address) → IsAddress N tree p → IsDue N tree taken p → IsAvailable N tree taken p
    due_is_available p a d = record { node = a; fresh = d.fresh; begun = d.begun; clear = clear p d }
      where
        clear : (p : Address) → IsDue N tree taken p → (i : ℕ) → IsBlocker N tree taken p i → ⊥
        clear [] d i (r, f) = r
        clear (j ∷ q) d i ((m, e, r), f) = f (λ u b c. d.clear u b (m, i, e, direct r, c))

    pub available_iff : (p : Address) → IsAvailable N tree taken p ↔ (IsAddress N tree p × IsDue N tree taken p)
    available_iff p = (λ a. (a.node, available_is_due p a), λ x. due_is_available p x.0 x.1)

  -- a step
  module _ (taken : List Address) (p : Address) (were : WereDue N tree taken) (node : IsAddress N tree p) (due : IsDue N tree taken p) where
    abbrev next : List Address
    next = taken ++ p ∷ []

    -- what is above a taken node is taken
    up_taken : (u x : Address) → Contains taken u → IsAbove x u → Contains taken x
    up_taken [] x c e = subst (Contains taken) (sym e) c
    up_taken (i ∷ q) x c (inl e) = subst (Contains taken) (sym e) c
    up_taken (i ∷ q) x c (inr b) =
        let (before, rest, e) = cut_at taken (i ∷ q) c in
        up_taken q x (subst (λ z. Contains z q) (sym e) (Contains-append_left before ((i ∷ q) ∷ rest) q (were before rest (i ∷ q) e).begun)) b

    above_taken : (k : ℕ) (x : Address) → IsAbove (k ∷ x) p → Contains taken x
    above_taken k x b = go p due.begun b
      where
        go : (p : Address) → IsBegun taken p → IsAbove (k ∷ x) p → Contains taken x
        go [] c e = absurd cc
        go (i ∷ q) c (inl e) = let f : x ≡ q = cc in subst (Contains taken) (sym f) c
        go (i ∷ q) c (inr d) = up_taken q x c (below_up k x q d)

    others : (x : Address) → (IsAbove x p → ⊥) → IsWhole N tree next x → IsWhole N tree taken x
    others x n h u a b = elim (Contains-push_cases taken p u (h u a b)) [ inl c ↦ c | inr e ↦ absurd (n (subst (IsAbove x) (sym e) b)) ]

    no_child_taken : (k : ℕ) → Contains next (k ∷ p) → ⊥
    no_child_taken k c = elim (Contains-push_cases taken p (k ∷ p) c) [
      | inl d ↦ due.fresh (up_taken (k ∷ p) p d (inr (below-itself p)))
      | inr e ↦ (let f = ap length e in omega arith)
    ]

    pub taken_after : IsTakenAfter N tree taken p
    taken_after = record {
      open_before = λ x b h. due.fresh (h p node b);
      others = λ x n. (others x n, taken_longer taken p x);
      leaf = (
        λ h k a. no_child_taken k (h (k ∷ p) a (inr (below-itself p))),
        λ h. whole_from next p (Contains-push taken p) (λ k a. absurd (h k a)),
      );
      above = λ k x b. (
        λ h. ((λ u a c. h u a (below_up k x u c)), (λ j n a. others (j ∷ x) (λ c. n (same_sibling j k x p c b)) (λ u d c. h u d (below_up j x u c)))),
        λ h. whole_from next x (Contains-append_left taken (p ∷ []) x (above_taken k x b)) (λ j a. elim (ℕ_discrete j k) [
          | yes e ↦ subst (λ z. IsWhole N tree next (z ∷ x)) (sym e) h.0
          | no n ↦ taken_longer taken p (j ∷ x) (h.1 j n a)
        ]),
      );
      still = λ v n a. record {
        node = a.node;
        fresh = λ c. elim (Contains-push_cases taken p v c) [ inl d ↦ a.fresh d | inr e ↦ n (sym e) ];
        begun = begun v a.begun;
        clear = λ i b. a.clear i (b.0, λ h. b.1 (taken_longer taken p (sibling N tree v i) h));
      };
      newly = λ v a no_kid no_new. record {
        node = a.node;
        fresh = λ c. a.fresh (Contains-append_left taken (p ∷ []) v c);
        begun = begun_before v a.begun no_kid;
        clear = λ i b. elim (is_whole next (sibling N tree v i)) [
          | no f ↦ a.clear i (b.0, f)
          | yes w ↦ elim (is_below (sibling N tree v i) p) [ yes c ↦ no_new i b.0 c w | no m ↦ b.1 (others (sibling N tree v i) m w) ]
        ];
      };
    }
      where
        begun : (v : Address) → IsBegun taken v → IsBegun next v
        begun [] b = tt
        begun (j ∷ q) b = Contains-append_left taken (p ∷ []) q b

        begun_before : (v : Address) → IsBegun next v → ((k : ℕ) → v ≢ k ∷ p) → IsBegun taken v
        begun_before [] b n = tt
        begun_before (j ∷ q) b n = elim (Contains-push_cases taken p q b) [ inl c ↦ c | inr e ↦ absurd (n j (ap (λ z. j ∷ z) (sym e))) ]

    not_whole_yet : (x : Address) → IsAbove x p → IsWhole N tree taken x → ⊥
    not_whole_yet x b h = due.fresh (h p node b)

    pub counters_after : CountersFallAfter N tree taken p
    counters_after = record {
      open_falls = λ k x n b w h. one_less_counted (IsOpenChild N tree taken x) (IsOpenChild N tree next x) n k (address_up (k ∷ x) p b node, not_whole_yet (k ∷ x) b)
          (λ i. (
            λ o. ((o.0, λ c. o.1 (taken_longer taken p (i ∷ x) c)), λ e. o.1 (subst (λ z. IsWhole N tree next (z ∷ x)) (sym e) w)),
            λ o. (o.0.0, λ c. o.0.1 (others (i ∷ x) (λ a. o.1 (same_sibling i k x p a b)) c)),
          )) h;
      blocked_falls = λ k j x n b w r h. one_less_counted (IsBlocker N tree taken (j ∷ x)) (IsBlocker N tree next (j ∷ x)) n k (r, not_whole_yet (k ∷ x) b)
          (λ i. (
            λ o. ((o.0, λ c. o.1 (taken_longer taken p (i ∷ x) c)), λ e. o.1 (subst (λ z. IsWhole N tree next (z ∷ x)) (sym e) w)),
            λ o. (o.0.0, λ c. o.0.1 (others (i ∷ x) (λ a. o.1 (same_sibling i k x p a b)) c)),
          )) h;
      open_stays = λ x n f h. same_counted (IsOpenChild N tree taken x) (IsOpenChild N tree next x) n
          (λ k. (
            λ o. (o.0, λ c. elim (is_below (k ∷ x) p) [ yes b ↦ f k b c | no m ↦ o.1 (others (k ∷ x) m c) ]),
            λ o. (o.0, λ c. o.1 (taken_longer taken p (k ∷ x) c)),
          )) h;
      blocked_stays = λ v n f h. same_counted (IsBlocker N tree taken v) (IsBlocker N tree next v) n
          (λ i. (
            λ o. (o.0, λ c. elim (is_below (sibling N tree v i) p) [ yes b ↦ f i o.0 b c | no m ↦ o.1 (others (sibling N tree v i) m c) ]),
            λ o. (o.0, λ c. o.1 (taken_longer taken p (sibling N tree v i) c)),
          )) h;
    }

  -- by gaps
  module _ (d : IsOrderDecided N) (plan : List Address) (a_plan : IsPlanOf N tree plan) (Allowed : Address → ℕ → Type 0) (gap : Address → ℕ)
      (is_gap : IsGapFunction N tree plan Allowed gap) (taken : List Address) (begin : IsBeginningOf N tree plan gap taken) where
    abbrev Beginning : Type 0
    Beginning = IsBeginning N tree plan a_plan Allowed gap is_gap (is_blocking N tree (preceding N Allowed d)) (rank N tree d.acyclic (preceding N Allowed d)) (rank_child N tree d.acyclic (preceding N Allowed d)) (rank_blocks N tree d.acyclic (preceding N Allowed d)) taken

    beginning : Beginning
    beginning = begins N tree plan a_plan Allowed gap is_gap (is_blocking N tree (preceding N Allowed d)) (rank N tree d.acyclic (preceding N Allowed d)) (rank_child N tree d.acyclic (preceding N Allowed d)) (rank_blocks N tree d.acyclic (preceding N Allowed d)) taken begin

    pub not_late : (p : Address) → IsAddress N tree p → (Contains taken p → ⊥) → passed N tree plan taken ≤ gap p
    not_late p a n = elim (less_or (gap p) (passed N tree plan taken)) [ inl l ↦ absurd (n (beginning.past p a l)) | inr l ↦ l ]

    were_due : WereDue N tree taken
    were_due before rest p e = step_due N tree plan a_plan Allowed gap is_gap before p (begin before rest p e)

    module _ (grown : IsGrown N tree) (pairs : HasPairsOfChildren N) where
      queued : (q : Address) → IsReady N tree plan gap taken q → IsQueued N tree plan gap taken q
      queued q r = (due_is_available grown pairs taken were_due q r.node r.due, r.other)

      ready : (q : Address) → IsQueued N tree plan gap taken q → gap q ≡ passed N tree plan taken → IsReady N tree plan gap taken q
      ready q h e = record { node = h.0.node; other = h.1; here = e; due = available_is_due grown pairs taken were_due q h.0 }

      pub first_iff : (p : Address)
          → IsFirstReady N tree plan gap taken p ↔ (IsFirstQueued N tree plan gap taken p × (gap p ≡ passed N tree plan taken))
      first_iff p = (
        λ r. (
          record {
            queued = queued p r.ready;
            before = r.before;
            after = r.after;
            parts = r.parts;
            least = λ q h. (let x = not_late q h.0.node h.0.fresh in let y = r.ready.here in omega arith);
            first = λ q h e c. r.none q c (ready q h (e ∙ r.ready.here));
          },
          r.ready.here,
        ),
        λ x. record {
          ready = ready p x.0.queued x.1;
          before = x.0.before;
          after = x.0.after;
          parts = x.0.parts;
          none = λ q c r. x.0.first q (queued q r) (r.here ∙ sym x.1) c;
        },
      )

      module _ (later : (q : Address) → IsQueued N tree plan gap taken q → passed N tree plan taken < gap q) where
        none_ready : (q : Address) → IsReady N tree plan gap taken q → ⊥
        none_ready q r = let x = later q (queued q r) in let y = r.here in omega arith

        pub its_turn : (p : Address) → slice_get plan (passed N tree plan taken) ≡ Some p → IsTurn N tree plan gap taken p
        its_turn p e = record {
          number = e;
          due = turn_due N tree plan a_plan Allowed gap is_gap (is_blocking N tree (preceding N Allowed d)) (rank N tree d.acyclic (preceding N Allowed d)) (rank_child N tree d.acyclic (preceding N Allowed d)) (rank_blocks N tree d.acyclic (preceding N Allowed d)) taken beginning none_ready p e;
          none = none_ready;
        }

        pub all_taken : length plan ≤ passed N tree plan taken → (p : Address) → IsAddress N tree p → Contains taken p
        all_taken l p a = elim (is_in plan p) [
          | no n ↦ settled N tree plan a_plan Allowed gap is_gap (is_blocking N tree (preceding N Allowed d)) (rank N tree d.acyclic (preceding N Allowed d)) (rank_child N tree d.acyclic (preceding N Allowed d)) (rank_blocks N tree d.acyclic (preceding N Allowed d)) taken beginning none_ready p a n (let y = is_gap.range p a in omega arith)
          | yes c ↦ (let (i, e) = to_place plan p c in beginning.past p a (let y = is_gap.own i p e in let w = slice_get_within plan i p e in omega arith))
        ]

-- the laws
module _ (N : Net) (Allowed : Address → ℕ → Type 0) where
  pub available_are_due : HasPairsOfChildren N → AvailableAreDue N Allowed
  available_are_due pairs tree taken grown were p = available_iff N tree grown pairs taken were p

  pub start : HasPairsOfChildren N → CountersStart N Allowed
  start pairs tree grown = counters_start N tree grown pairs

  pub counters_tell : CountersTell N Allowed
  counters_tell tree taken p n = counters N tree taken p n

  pub taking_makes_whole : TakingMakesWhole N Allowed
  taking_makes_whole tree taken p were node due = taken_after N tree taken p were node due

  pub counters_fall : CountersFall N Allowed
  counters_fall tree taken p were node due = counters_after N tree taken p were node due

  module _ (d : IsOrderDecided N) where
    pub nothing_is_late : NothingIsLate N Allowed
    nothing_is_late tree plan taken gap a g b p n f = not_late N tree d plan a Allowed gap g taken b p n f

    pub next_is_first : HasPairsOfChildren N → NextIsFirstQueued N Allowed
    next_is_first pairs tree plan taken gap grown a g b p = first_iff N tree d plan a Allowed gap g taken b grown pairs p

    pub then_primitive : HasPairsOfChildren N → ThenThePrimitive N Allowed
    then_primitive pairs tree plan taken gap grown a g b later = (its_turn N tree d plan a Allowed gap g taken b grown pairs later, all_taken N tree d plan a Allowed gap g taken b grown pairs later)
