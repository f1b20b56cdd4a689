-- A tree of a totally ordered network has one schedule at most.
use Rattle.std.proofs.Common.{ℕ, ◌≡◌, ◌≢◌, ◌⊎◌, inl, inr, List, [], ◌∷◌, ◌++◌, refl, ap, sym, subst, ◌∙◌, Contains, append_assoc, append-nil}
use Rattle.std.proofs.Math.Decide.{ℕ_discrete}
use Rattle.std.proofs.lemmas.List.Elements.{Contains-append_left, Contains-push}
use Rattle.plan_model.specs.task_networks.Net.{Net}
use Rattle.plan_model.specs.task_networks.Tree.{Tree, Address, used, IsAbove, IsAddress, IsGrown}
use Rattle.plan_model.specs.task_networks.Schedule.{IsSchedule}
use Rattle.plan_model.proofs.task_networks.Addresses.{below-itself, below_cases}
use Rattle.plan_model.proofs.task_networks.Lists.{cut_at}
use Rattle.plan_model.proofs.task_networks.ScheduleLaws.{earlier_subtrees_stand_before}
use Rattle.slot_machine.proofs.Matching.{parent_used}
use Rattle.stack_machine.specs.Stack.{IsTotal}
use Rattle.plan_model.proofs.task_networks.Parents.{address_child}
use Rattle.stack_machine.proofs.Heights.{high, heights}
use Rattle.schedules.proofs.ruled.LowestRule.{by_order}

pub root_above : (v : Address) → IsAbove [] v
root_above [] = refl
root_above (k ∷ v) = inr (root_above v)

-- the ways to two nodes part somewhere, unless one stands above the other
abbrev Parts : Address → Address → Type 0
Parts u v = IsAbove u v ⊎ (IsAbove v u ⊎ ((q : Address) × (i : ℕ) × (j : ℕ) × (i ≢ j) × IsAbove (i ∷ q) u × IsAbove (j ∷ q) v))

parts : (u v : Address) → Parts u v
parts [] v = inl (root_above v)
parts (i ∷ p) v = go (parts p v)
  where
    below : (v ≡ p) ⊎ ((k : ℕ) × IsAbove (k ∷ p) v) → Parts (i ∷ p) v
    below (inl e) = inr (inl (inr (subst (λ z. IsAbove z p) (sym e) (below-itself p))))
    below (inr (k, a)) = elim (ℕ_discrete i k) [
      | yes e ↦ inl (subst (λ z. IsAbove (z ∷ p) v) (sym e) a)
      | no n ↦ inr (inr (p, i, k, n, inl refl, a))
    ]

    go : Parts p v → Parts (i ∷ p) v
    go (inl a) = below (below_cases p v a)
    go (inr (inl a)) = inr (inl (inr a))
    go (inr (inr (q, x, y, n, a, c))) = inr (inr (q, x, y, n, inr a, c))

module _ (N : Net) (tree : Tree N) where
  pub above_address : (c u : Address) → IsAbove c u → IsAddress N tree u → IsAddress N tree c
  above_address c [] e a = subst (IsAddress N tree) (sym e) a
  above_address c (k ∷ u) (inl e) a = subst (IsAddress N tree) (sym e) a
  above_address c (k ∷ u) (inr h) (l, e) = let (m, f) = parent_used N tree k u l e in above_address c u h (used m, f)

  -- each ancestor of a scheduled node is that node, or stands before it
  ancestors_before : (order : List Address) → IsSchedule N tree order → (c v : Address) → IsAbove c v → (taken rest : List Address) → order ≡ taken ++ v ∷ rest → (c ≡ v) ⊎ Contains taken c
  ancestors_before order s c [] b taken rest e = inl b
  ancestors_before order s c (k ∷ v) (inl b) taken rest e = inl b
  ancestors_before order s c (k ∷ v) (inr b) taken rest e =
      let (before, after, f) = cut_at taken v (s.due taken rest (k ∷ v) e).begun in
      let g : order ≡ before ++ v ∷ (after ++ (k ∷ v) ∷ rest) = e ∙ ap (λ x. x ++ (k ∷ v) ∷ rest) f ∙ append_assoc before (v ∷ after) ((k ∷ v) ∷ rest) in
      inr (elim (ancestors_before order s c v b before (after ++ (k ∷ v) ∷ rest) g) [
        | inl x ↦ subst (Contains taken) (sym x) (s.due taken rest (k ∷ v) e).begun
        | inr x ↦ subst (λ z. Contains z c) (sym f) (Contains-append_left before (v ∷ after) c x)
      ])

  module _ (total : IsTotal N) (grown : IsGrown N tree) (order other : List Address) (s : IsSchedule N tree order) (t : IsSchedule N tree other) where
    node : (xs : List Address) → IsSchedule N tree xs → (taken rest : List Address) (v : Address) → xs ≡ taken ++ v ∷ rest → IsAddress N tree v
    node xs s taken rest v e = let h = (s.covers v).0 (subst (λ z. Contains z v) (append_assoc taken (v ∷ []) rest ∙ sym e) (Contains-append_left (taken ++ v ∷ []) rest v (Contains-push taken v))) in (h.0, h.1)

    -- only one node can be the next
    next_same : (taken rest rest' : List Address) (u v : Address) → order ≡ taken ++ u ∷ rest → other ≡ taken ++ v ∷ rest' → u ≡ v
    next_same taken rest rest' u v e f = go (parts u v)
      where
        new_u : Contains taken u → ⊥
        new_u = (s.due taken rest u e).fresh

        new_v : Contains taken v → ⊥
        new_v = (t.due taken rest' v f).fresh

        apart : (q : Address) (i j : ℕ) → i ≢ j → IsAbove (i ∷ q) u → IsAbove (j ∷ q) v → u ≡ v
        apart q i j n a c =
            let au = node order s taken rest u e in
            let av = node other t taken rest' v f in
            let ai = above_address (i ∷ q) u a au in
            let (m, g) = parent_used N tree i q ai.0 ai.1 in
            let hi = address_child N tree q m i grown g ai in
            let hj = address_child N tree q m j grown g (above_address (j ∷ q) v c av) in
            let h = heights N total m in
            elim (by_order (high N total m i) (high N total m j)) [
              | inl x ↦ absurd (new_v (earlier_subtrees_stand_before N tree order taken rest q m j i v u s e g ((h.order j i hj hi).1 x) c av a).1)
              | inr (inl x) ↦ absurd (n (h.apart i j hi hj x))
              | inr (inr x) ↦ absurd (new_u (earlier_subtrees_stand_before N tree other taken rest' q m i j u v t f g ((h.order i j hi hj).1 x) a au c).1)
            ]

        go : Parts u v → u ≡ v
        go (inl a) = elim (ancestors_before other t u v a taken rest' f) [ inl x ↦ x | inr x ↦ absurd (new_u x) ]
        go (inr (inl a)) = elim (ancestors_before order s v u a taken rest e) [ inl x ↦ sym x | inr x ↦ absurd (new_v x) ]
        go (inr (inr (q, i, j, n, a, c))) = apart q i j n a c

    -- what the one order has left, the other has
    nothing_left : (xs ys : List Address) → IsSchedule N tree xs → IsSchedule N tree ys → (v : Address) (rest : List Address) → ys ≡ xs ++ v ∷ rest → ⊥
    nothing_left xs ys a b v rest e = (b.due xs rest v e).fresh ((a.covers v).1 ((b.covers v).0 (subst (λ z. Contains z v) (append_assoc xs (v ∷ []) rest ∙ sym e) (Contains-append_left (xs ++ v ∷ []) rest v (Contains-push xs v)))))

    go_on : (taken rest rest' : List Address) → order ≡ taken ++ rest → other ≡ taken ++ rest' → rest ≡ rest'
    go_on taken [] [] e f = refl
    go_on taken [] (v ∷ rest') e f = absurd (nothing_left order other s t v rest' (f ∙ ap (λ z. z ++ v ∷ rest') (sym (e ∙ append-nil taken))))
    go_on taken (u ∷ rest) [] e f = absurd (nothing_left other order t s u rest (e ∙ ap (λ z. z ++ u ∷ rest) (sym (f ∙ append-nil taken))))
    go_on taken (u ∷ rest) (v ∷ rest') e f =
        let x : u ≡ v = next_same taken rest rest' u v e f in
        let y : rest ≡ rest' = go_on (taken ++ u ∷ []) rest rest' (e ∙ sym (append_assoc taken (u ∷ []) rest)) (f ∙ ap (λ z. taken ++ z ∷ rest') (sym x) ∙ sym (append_assoc taken (u ∷ []) rest')) in
        cc

    pub one_schedule : order ≡ other
    one_schedule = go_on [] order other refl refl
