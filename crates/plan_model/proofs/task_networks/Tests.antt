-- Schedules tested by computation, where the order of the children is decided.
use Rattle.std.proofs.Common.{ℕ, ◌≡◌, ◌↔◌, inl, inr, List, [], ◌∷◌, ◌++◌, Bool, true, false, not, ◌&&◌, ◌||◌, Option, Some, None, refl, ap, sym, subst, ◌∙◌, Contains, arith, append_assoc, append-nil}
use Rattle.std.specs.List.{list_any, list_all}
use Rattle.plan_model.specs.task_networks.Order.{ArePairsOf, Precedes}
use Rattle.plan_model.specs.task_networks.Net.{Net, count}
use Rattle.plan_model.specs.task_networks.Tree.{Address, IsAbove, Label, waits, ran, used, Tree, label_at, IsProcessed, IsTaken}
use Rattle.plan_model.specs.task_networks.Schedule.{IsBegun, Blocks, IsDue, IsSchedule}
use Rattle.plan_model.specs.task_networks.Listed.{same_address, is_listed}
use Rattle.plan_model.specs.task_networks.Preorder.{nodes_at}
use Rattle.plan_model.specs.task_networks.Spelling.{numbers}
use Rattle.plan_model.proofs.task_networks.Lists.{not-in_empty, head_or_tail, Contains-later}
use Rattle.plan_model.proofs.task_networks.Nodes.{nodes, lists_address}
use Rattle.plan_model.proofs.task_networks.Numbers.{to_numbers}
use Rattle.plan_model.proofs.task_networks.Orders.{precedes_within}
use Rattle.plan_model.proofs.task_networks.PendingNodes.{both, both_true, second_true, either, same_to, address_same_itself, among_to, to_among, not_to, to_not}

implies : (a b : Bool) → (a ≡ true → b ≡ true) → (not a || b) ≡ true
implies true b f = f refl
implies false b f = refl

implied : (a b : Bool) → (not a || b) ≡ true → a ≡ true → b ≡ true
implied true b e f = e
implied false b e f = absurd cc

pub all_to : {A : Type 0} (test : A → Bool) (xs : List A) → list_all test xs ≡ true → (x : A) → Contains xs x → test x ≡ true
all_to test [] e x c = absurd (not-in_empty x c)
all_to test (y ∷ xs) e x c =
    let h = both (test y) (list_all test xs) e in
    elim (head_or_tail y xs x c) [ inl f ↦ subst (λ z. test z ≡ true) f h.0 | inr d ↦ all_to test xs h.1 x d ]

pub to_all : {A : Type 0} (test : A → Bool) (xs : List A) → ((x : A) → Contains xs x → test x ≡ true) → list_all test xs ≡ true
to_all test [] h = refl
to_all test (y ∷ xs) h = both_true (test y) (list_all test xs) (h y (0, omega arith, refl)) (to_all test xs (λ x c. h x (Contains-later y xs x c)))

pub any_to : {A : Type 0} (test : A → Bool) (xs : List A) → list_any test xs ≡ true → (x : A) × Contains xs x × (test x ≡ true)
any_to test [] e = absurd cc
any_to test (y ∷ xs) e = elim (either (test y) (list_any test xs) e) [ inl h ↦ (y, (0, omega arith, refl), h) | inr h ↦ (let (x, c, f) = any_to test xs h in (x, Contains-later y xs x c, f)) ]

pub to_any : {A : Type 0} (test : A → Bool) (xs : List A) (x : A) → Contains xs x → test x ≡ true → list_any test xs ≡ true
to_any test [] x c e = absurd (not-in_empty x c)
to_any test (y ∷ xs) x c e = elim (head_or_tail y xs x c) [
  | inl f ↦ ap (λ b. b || list_any test xs) (subst (λ z. test z ≡ true) (sym f) e)
  | inr d ↦ second_true (test y) (list_any test xs) (to_any test xs x d e)
]

abbrev pub is_below : Address → Address → Bool
is_below p [] = same_address p []
is_below p (k ∷ u) = same_address p (k ∷ u) || is_below p u

below_to : (p u : Address) → is_below p u ≡ true → IsAbove p u
below_to p [] e = same_to p [] e
below_to p (k ∷ u) e = elim (either (same_address p (k ∷ u)) (is_below p u) e) [ inl h ↦ inl (same_to p (k ∷ u) h) | inr h ↦ inr (below_to p u h) ]

to_below : (p u : Address) → IsAbove p u → is_below p u ≡ true
to_below p [] b = subst (λ z. same_address z [] ≡ true) (sym b) refl
to_below p (k ∷ u) (inl e) = subst (λ z. (same_address z (k ∷ u) || is_below z u) ≡ true) (sym e) (ap (λ b. b || is_below (k ∷ u) u) (address_same_itself (k ∷ u)))
to_below p (k ∷ u) (inr b) = second_true (same_address p (k ∷ u)) (is_below p u) (to_below p u b)

abbrev pub is_begun : List Address → Address → Bool
is_begun taken [] = true
is_begun taken (i ∷ p) = is_listed taken p

begun_iff : (taken : List Address) (p : Address) → (is_begun taken p ≡ true) ↔ IsBegun taken p
begun_iff taken [] = (λ e. tt, λ b. refl)
begun_iff taken (i ∷ p) = (among_to taken p, to_among taken p)

-- the children of a method in their order, decided
pub record Decides (N : Net) (precedes : N.Method → ℕ → ℕ → Bool) : Type 0 where
  pub within : (m : N.Method) → ArePairsOf (N.Pair m) (count N m)
  pub order : (m : N.Method) (i j : ℕ) → (precedes m i j ≡ true) ↔ Precedes (N.Pair m) i j

module _ (N : Net) (precedes : N.Method → ℕ → ℕ → Bool) where
  abbrev pub blocks_by : Address → ℕ → Address → Option (Label N) → Bool
  blocks_by u j q None = false
  blocks_by u j q (Some (waits w)) = false
  blocks_by u j q (Some (ran w)) = false
  blocks_by u j q (Some (used m)) = list_any (λ i. precedes m i j && is_below (i ∷ q) u) (numbers 0 (count N m))

  abbrev pub blocks : Tree N → Address → Address → Bool
  blocks tree u [] = false
  blocks tree u (j ∷ q) = blocks_by u j q (label_at N tree q)

  abbrev pub is_due : Tree N → List Address → Address → Bool
  is_due tree taken v = not (is_listed taken v) && (is_begun taken v && list_all (λ u. not (blocks tree u v) || is_listed taken u) (nodes_at N [] tree))

  abbrev pub are_due : Tree N → List Address → List Address → Bool
  are_due tree taken [] = true
  are_due tree taken (v ∷ rest) = is_due tree taken v && are_due tree (taken ++ v ∷ []) rest

  abbrev pub is_taken : Option (Label N) → Bool
  is_taken None = false
  is_taken (Some (waits w)) = false
  is_taken (Some (ran w)) = true
  is_taken (Some (used m)) = true

  abbrev pub covers : Tree N → List Address → Bool
  covers tree order = list_all (λ p. is_taken (label_at N tree p)) order && list_all (λ p. not (is_taken (label_at N tree p)) || is_listed order p) (nodes_at N [] tree)

  abbrev pub is_schedule : Tree N → List Address → Bool
  is_schedule tree order = covers tree order && are_due tree [] order

  module _ (decides : Decides N precedes) (tree : Tree N) where
    blocks_to : (u v : Address) → blocks tree u v ≡ true → Blocks N tree u v
    blocks_to u [] e = absurd cc
    blocks_to u (j ∷ q) e = go (label_at N tree q) refl e
      where
        go : (o : Option (Label N)) → label_at N tree q ≡ o → blocks_by u j q o ≡ true → Blocks N tree u (j ∷ q)
        go None f e = absurd cc
        go (Some (waits w)) f e = absurd cc
        go (Some (ran w)) f e = absurd cc
        go (Some (used m)) f e =
            let (i, c, g) = any_to (λ i. precedes m i j && is_below (i ∷ q) u) (numbers 0 (count N m)) e in
            let h = both (precedes m i j) (is_below (i ∷ q) u) g in
            (m, i, f, (decides.order m i j).0 h.0, below_to (i ∷ q) u h.1)

    to_blocks : (u v : Address) → Blocks N tree u v → blocks tree u v ≡ true
    to_blocks u [] b = absurd b
    to_blocks u (j ∷ q) (m, i, f, pr, b) =
        let r = (precedes_within (count N m) i j (decides.within m) pr).0 in
        ap (blocks_by u j q) f ∙ to_any (λ i. precedes m i j && is_below (i ∷ q) u) (numbers 0 (count N m)) i (to_numbers 0 (count N m) i (omega arith) (omega arith)) (both_true (precedes m i j) (is_below (i ∷ q) u) ((decides.order m i j).1 pr) (to_below (i ∷ q) u b))

    due_iff : (taken : List Address) (v : Address) → (is_due tree taken v ≡ true) ↔ IsDue N tree taken v
    due_iff taken v = (to, from)
      where
        clear : Address → Bool
        clear u = not (blocks tree u v) || is_listed taken u

        to : is_due tree taken v ≡ true → IsDue N tree taken v
        to e =
            let (fresh, rest) = both (not (is_listed taken v)) (is_begun taken v && list_all clear (nodes_at N [] tree)) e in
            let (begun, each) = both (is_begun taken v) (list_all clear (nodes_at N [] tree)) rest in
            record {
              fresh = λ c. not_to (is_listed taken v) fresh (to_among taken v c);
              begun = (begun_iff taken v).0 begun;
              clear = λ u a b. among_to taken u (implied (blocks tree u v) (is_listed taken u) (all_to clear (nodes_at N [] tree) each u (lists_address N tree u a)) (to_blocks u v b));
            }

        from : IsDue N tree taken v → is_due tree taken v ≡ true
        from d = both_true (not (is_listed taken v)) (is_begun taken v && list_all clear (nodes_at N [] tree)) (to_not (is_listed taken v) (λ e. d.fresh (among_to taken v e)))
            (both_true (is_begun taken v) (list_all clear (nodes_at N [] tree)) ((begun_iff taken v).1 d.begun)
            (to_all clear (nodes_at N [] tree) (λ u c. implies (blocks tree u v) (is_listed taken u) (λ b. to_among taken u (d.clear u (nodes N tree tree [] u refl c) (blocks_to u v b))))))

    dues_to : (taken order : List Address) → are_due tree taken order ≡ true → (more rest : List Address) (v : Address) → order ≡ more ++ v ∷ rest → IsDue N tree (taken ++ more) v
    dues_to taken [] e [] rest v f = absurd cc
    dues_to taken [] e (x ∷ more) rest v f = absurd cc
    dues_to taken (y ∷ order) e [] rest v f =
        let h = both (is_due tree taken y) (are_due tree (taken ++ y ∷ []) order) e in
        subst (λ z. IsDue N tree z v) (sym (append-nil taken)) ((due_iff taken v).0 (subst (λ z. is_due tree taken z ≡ true) (let g : y ≡ v = cc in g) h.0))
    dues_to taken (y ∷ order) e (x ∷ more) rest v f =
        let h = both (is_due tree taken y) (are_due tree (taken ++ y ∷ []) order) e in
        let g : y ≡ x = cc in
        subst (λ z. IsDue N tree z v) (append_assoc taken (x ∷ []) more) (subst (λ z. IsDue N tree ((taken ++ z ∷ []) ++ more) v) g (dues_to (taken ++ y ∷ []) order h.1 more rest v cc))

    to_dues : (taken order : List Address) → ((more rest : List Address) (v : Address) → order ≡ more ++ v ∷ rest → IsDue N tree (taken ++ more) v) → are_due tree taken order ≡ true
    to_dues taken [] h = refl
    to_dues taken (y ∷ order) h = both_true (is_due tree taken y) (are_due tree (taken ++ y ∷ []) order) ((due_iff taken y).1 (subst (λ z. IsDue N tree z y) (append-nil taken) (h [] order y refl)))
        (to_dues (taken ++ y ∷ []) order (λ more rest v e. subst (λ z. IsDue N tree z v) (sym (append_assoc taken (y ∷ []) more)) (h (y ∷ more) rest v (ap (λ z. y ∷ z) e))))

    taken_iff : (p : Address) → (is_taken (label_at N tree p) ≡ true) ↔ IsProcessed N tree p
    taken_iff p = (to (label_at N tree p) refl, λ h. from h.0 h.1 h.2)
      where
        to : (o : Option (Label N)) → label_at N tree p ≡ o → is_taken o ≡ true → IsProcessed N tree p
        to None f e = absurd cc
        to (Some (waits w)) f e = absurd cc
        to (Some (ran w)) f e = (ran w, f, tt)
        to (Some (used m)) f e = (used m, f, tt)

        from : (l : Label N) → label_at N tree p ≡ Some l → IsTaken N l → is_taken (label_at N tree p) ≡ true
        from (waits w) f t = absurd t
        from (ran w) f t = ap is_taken f
        from (used m) f t = ap is_taken f

    -- the test is the fact
    pub schedule_iff : (order : List Address) → (is_schedule tree order ≡ true) ↔ IsSchedule N tree order
    schedule_iff order = (to, from)
      where
        done : Address → Bool
        done p = is_taken (label_at N tree p)

        listed : Address → Bool
        listed p = not (is_taken (label_at N tree p)) || is_listed order p

        to : is_schedule tree order ≡ true → IsSchedule N tree order
        to e =
            let (cover, dues) = both (covers tree order) (are_due tree [] order) e in
            let (there, all) = both (list_all done order) (list_all listed (nodes_at N [] tree)) cover in
            record {
              covers = λ p. (
                λ c. (taken_iff p).0 (all_to done order there p c),
                λ h. among_to order p (implied (done p) (is_listed order p) (all_to listed (nodes_at N [] tree) all p (lists_address N tree p (h.0, h.1))) ((taken_iff p).1 h)),
              );
              due = λ taken rest p f. dues_to [] order dues taken rest p f;
            }

        from : IsSchedule N tree order → is_schedule tree order ≡ true
        from s = both_true (covers tree order) (are_due tree [] order)
            (both_true (list_all done order) (list_all listed (nodes_at N [] tree)) (to_all done order (λ p c. (taken_iff p).1 ((s.covers p).0 c)))
            (to_all listed (nodes_at N [] tree) (λ p c. implies (done p) (is_listed order p) (λ h. to_among order p ((s.covers p).1 ((taken_iff p).0 h))))))
            (to_dues [] order (λ more rest v e. s.due more rest v e))
