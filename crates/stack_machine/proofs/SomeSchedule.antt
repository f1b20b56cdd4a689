-- A finished tree of a totally ordered network has a schedule.
use Rattle.std.proofs.Common.{ℕ, zero, suc, ◌≡◌, ◌+◌, ◌<◌, ◌≤◌, ◌⊎◌, inl, inr, List, [], ◌∷◌, ◌++◌, length, Some, option_map, refl, ap, sym, subst, ◌∙◌, Contains, append_assoc, append-nil, length-append, arith}
use Rattle.std.proofs.lemmas.List.Elements.{Contains-append_right, Contains-push_cases}
use Rattle.htn_base.specs.Different.{AreDifferent}
use Rattle.plan_model.specs.task_networks.Order.{Precedes, IsNext}
use Rattle.plan_model.specs.task_networks.Net.{Net, count}
use Rattle.plan_model.specs.task_networks.Tree.{Tree, Trees, none, more, open_leaf, done, split, waits, ran, used, Address, at, label, child_at, IsAbove, IsAddress, IsOpen, IsProcessed, IsGrown}
use Rattle.plan_model.specs.task_networks.Schedule.{Blocks, IsDue, IsSchedule}
use Rattle.plan_model.specs.task_networks.Preorder.{nodes_at}
use Rattle.plan_model.proofs.task_networks.Addresses.{below_cases, is_same_address}
use Rattle.plan_model.proofs.task_networks.Different.{no_more}
use Rattle.plan_model.proofs.task_networks.Lists.{cut_at, cut_push, head_or_tail, not-in_empty, Contains-here, Contains-later}
use Rattle.plan_model.proofs.task_networks.Nodes.{child_below, child_in, grown_at, lists_address}
use Rattle.slot_machine.proofs.Matching.{parent_used}
use Rattle.stack_machine.specs.Stack.{IsTotal}
use Rattle.plan_model.proofs.task_networks.Parents.{address_child}
use Rattle.stack_machine.proofs.Heights.{line_of, is_line}
use Rattle.stack_machine.proofs.OneSchedule.{above_address, root_above}

is_among : (ps : List Address) (p : Address) → Dec (Contains ps p)
is_among [] p = no (not-in_empty p)
is_among (q ∷ ps) p = go (is_same_address q p) (is_among ps p)
  where
    go : Dec (q ≡ p) → Dec (Contains ps p) → Dec (Contains (q ∷ ps) p)
    go (yes e) d = yes (0, omega arith, e)
    go (no n) (yes c) = yes (Contains-later q ps p c)
    go (no n) (no m) = no (λ c. elim (head_or_tail q ps p c) [ inl e ↦ n e | inr e ↦ m e ])

module _ (N : Net) (total : IsTotal N) (tree : Tree N) (grown : IsGrown N tree) (finished : (p : Address) → IsOpen N tree p → ⊥) where
  processed : (p : Address) → IsAddress N tree p → IsProcessed N tree p
  processed p (waits w, e) = absurd (finished p (w, e))
  processed p (ran w, e) = (ran w, e, tt)
  processed p (used m, e) = (used m, e, tt)

  -- the beginning of a schedule
  record IsBeginning (taken : List Address) : Type 0 where
    nodes : (p : Address) → Contains taken p → IsProcessed N tree p
    due : (before rest : List Address) (p : Address) → taken ≡ before ++ p ∷ rest → IsDue N tree before p

  module _ (taken : List Address) where
    abbrev Found : Type 0
    Found = (v : Address) × IsProcessed N tree v × IsDue N tree taken v

    -- all nodes of the subtree at p are taken
    abbrev AllTaken : Address → Type 0
    AllTaken p = (u : Address) → IsAbove p u → IsAddress N tree u → Contains taken u

    -- something below p can be taken, or all is
    abbrev Seek : Tree N → Type 0
    Seek t = (p : Address) → at N tree p ≡ Some t → ((Contains taken p → ⊥) → IsDue N tree taken p) → Found ⊎ AllTaken p

    -- a child, where all subtrees before it are taken
    seek_child : (p : Address) (m : N.Method) (ts : Trees N) → at N tree p ≡ Some (split m ts) → Contains taken p → ((i : ℕ) (t : Tree N) → child_at N ts i ≡ Some t → Seek t) → (before rest : List ℕ) (i : ℕ) → line_of N total m ≡ before ++ i ∷ rest
        → ((j : ℕ) → Contains before j → AllTaken (j ∷ p)) → Found ⊎ AllTaken (i ∷ p)
    seek_child p m ts a c seek before rest i e all =
        let (t, f) = child_in N ts i (subst (λ z. i < length z) (sym (grown_at N tree p (split m ts) grown a).1) next.ready.child) in
        seek i t f (i ∷ p) (child_below N tree i p m ts a ∙ f) is_due
      where
        next : IsNext (N.Pair m) (count N m) before i
        next = (is_line N total m).each before rest i e

        is_due : (Contains taken (i ∷ p) → ⊥) → IsDue N tree taken (i ∷ p)
        is_due n = record { fresh = n; begun = c; clear = clear }
          where
            clear : (u : Address) → IsAddress N tree u → Blocks N tree u (i ∷ p) → Contains taken u
            clear u x (k, j, f, pr, b) =
                let g = ap (option_map (label N)) a in
                let z : k ≡ m = cc in
                all j (next.ready.preceded j (subst (λ v. Precedes (N.Pair v) j i) z pr)) u b x

    -- the children in line order
    in_line : (p : Address) (m : N.Method) (ts : Trees N) → at N tree p ≡ Some (split m ts) → Contains taken p → ((i : ℕ) (t : Tree N) → child_at N ts i ≡ Some t → Seek t) → (before rest : List ℕ) → line_of N total m ≡ before ++ rest
        → ((j : ℕ) → Contains before j → AllTaken (j ∷ p)) → Found ⊎ AllTaken p
    in_line p m ts a c seek before [] e all = inr (λ u b x. every u x (below_cases p u b))
      where
        every : (u : Address) → IsAddress N tree u → (u ≡ p) ⊎ ((k : ℕ) × IsAbove (k ∷ p) u) → Contains taken u
        every u x (inl f) = subst (Contains taken) (sym f) c
        every u x (inr (k, b)) =
            let l = address_child N tree p m k grown (ap (option_map (label N)) a) (above_address N tree (k ∷ p) u b x) in
            let i = (is_line N total m).whole k l in
            all k (subst (λ z. Contains z k) (e ∙ append-nil before) i) u b x
    in_line p m ts a c seek before (i ∷ rest) e all = elim (seek_child p m ts a c seek before rest i e all) [
      | inl x ↦ inl x
      | inr x ↦ in_line p m ts a c seek (before ++ i ∷ []) rest (e ∙ sym (append_assoc before (i ∷ []) rest)) (λ j k. elim (Contains-push_cases before i j k) [ inl y ↦ all j y | inr y ↦ subst (λ z. AllTaken (z ∷ p)) y x ])
    ]

    alone : (w : N.Work) (p : Address) → at N tree p ≡ Some (done w) → Contains taken p → (u : Address) → IsAddress N tree u → (u ≡ p) ⊎ ((k : ℕ) × IsAbove (k ∷ p) u) → Contains taken u
    alone w p a c u x (inl f) = subst (Contains taken) (sym f) c
    alone w p a c u x (inr (k, b)) = absurd (let y = above_address N tree (k ∷ p) u b x in let (m, g) = parent_used N tree k p y.0 y.1 in let h = ap (option_map (label N)) a in cc)

    mutual
      seek : (t : Tree N) → Seek t
      seek (open_leaf w) p a d = absurd (finished p (w, ap (option_map (label N)) a))
      seek (done w) p a d = elim (is_among taken p) [
        | no n ↦ inl (p, (ran w, ap (option_map (label N)) a, tt), d n)
        | yes c ↦ inr (λ u b x. alone w p a c u x (below_cases p u b))
      ]
      seek (split m ts) p a d = elim (is_among taken p) [
        | no n ↦ inl (p, (used m, ap (option_map (label N)) a, tt), d n)
        | yes c ↦ in_line p m ts a c (seek_children ts) [] (line_of N total m) refl (λ j k. absurd (not-in_empty j k))
      ]

      seek_children : (ts : Trees N) (i : ℕ) (t : Tree N) → child_at N ts i ≡ Some t → Seek t
      seek_children none i t e = absurd cc
      seek_children (more s ts) zero t e = subst Seek (cc) (seek s)
      seek_children (more s ts) (suc i) t e = seek_children ts i t e

  module _ (taken : List Address) (b : IsBeginning taken) where
    -- what is taken are different nodes
    different : (xs before : List Address) → taken ≡ before ++ xs → AreDifferent xs
    different [] before e = tt
    different (x ∷ xs) before e = (new, different xs (before ++ x ∷ []) (e ∙ sym (append_assoc before (x ∷ []) xs)))
      where
        new : Contains xs x → ⊥
        new c =
            let (ls, rs, f) = cut_at xs x c in
            (b.due (before ++ x ∷ ls) rs x (e ∙ ap (λ z. before ++ x ∷ z) f ∙ sym (append_assoc before (x ∷ ls) (x ∷ rs)))).fresh (Contains-append_right before (x ∷ ls) x (Contains-here x ls))

    not_many : length taken ≤ length (nodes_at N [] tree)
    not_many = no_more taken (nodes_at N [] tree) (different taken [] refl) (λ p c. (let h = b.nodes p c in lists_address N tree p (h.0, h.1)))

    one_more : (v : Address) → IsProcessed N tree v → IsDue N tree taken v → IsBeginning (taken ++ v ∷ [])
    one_more v h d = record {
      nodes = λ p c. elim (Contains-push_cases taken v p c) [ inl x ↦ b.nodes p x | inr x ↦ subst (IsProcessed N tree) x h ];
      due = λ before rest p e. elim (cut_push taken v before p rest e) [
        | inl x ↦ subst (λ z. IsDue N tree z p) x.0 (subst (IsDue N tree taken) x.1 d)
        | inr x ↦ b.due before x.0 p x.1
      ];
    }

    whole : AllTaken taken [] → IsSchedule N tree taken
    whole all = record { covers = λ p. (b.nodes p, λ h. all p (root_above p) (h.0, h.1)); due = λ before rest p e. b.due before rest p e }

    first_due : (Contains taken [] → ⊥) → IsDue N tree taken []
    first_due n = record { fresh = n; begun = tt; clear = λ u x y. absurd y }

  build : (k : ℕ) (taken : List Address) → IsBeginning taken → length (nodes_at N [] tree) < k + length taken → (order : List Address) × IsSchedule N tree order
  build zero taken b h = absurd (let x = not_many taken b in omega arith)
  build (suc k) taken b h = elim (seek taken tree [] refl (first_due taken b)) [
    | inl (v, x, d) ↦ build k (taken ++ v ∷ []) (one_more taken b v x d) (let y = length-append taken (v ∷ []) in omega arith)
    | inr all ↦ (taken, whole taken b all)
  ]

  pub some_schedule : (order : List Address) × IsSchedule N tree order
  some_schedule = build (suc (length (nodes_at N [] tree))) [] (record { nodes = λ p c. absurd (not-in_empty p c); due = λ before rest p e. absurd (empty before rest p e) }) (omega arith)
    where
      empty : (before rest : List Address) (p : Address) → [] ≡ before ++ p ∷ rest → ⊥
      empty [] rest p e = cc
      empty (q ∷ before) rest p e = cc
