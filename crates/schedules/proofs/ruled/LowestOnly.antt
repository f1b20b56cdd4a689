-- One choice of lowest slots.
use Rattle.std.proofs.Common.{ℕ, zero, suc, ◌≡◌, ◌<◌, ◌⊎◌, inl, inr, List, [], ◌∷◌, ◌++◌, Some, sym, subst, ◌∙◌, Contains, append_assoc, append-nil, arith}
use Rattle.std.proofs.lemmas.List.Elements.{Contains-push_cases}
use Rattle.plan_model.specs.task_networks.Net.{Net, count}
use Rattle.plan_model.specs.task_networks.Lawful.{IsLawful}
use Rattle.plan_model.specs.task_networks.Tree.{Tree, used, Address, label_at, IsAddress}
use Rattle.plan_model.specs.task_networks.Schedule.{IsBegun, IsSchedule}
use Rattle.plan_model.specs.task_networks.Pending.{IsPending}
use Rattle.plan_model.specs.task_networks.Front.{IsFront}
use Rattle.plan_model.specs.task_networks.Spelling.{others}
use Rattle.plan_model.proofs.task_networks.Lists.{by_push, not-in_empty}
use Rattle.plan_model.proofs.task_networks.Orders.{is_some}
use Rattle.slot_machine.proofs.Matching.{parent_used}
use Rattle.plan_model.proofs.task_networks.OtherChildren.{rest_cases}
use Rattle.slot_machine.proofs.RunSpellings.{spells_agree}
use Rattle.schedules.specs.ruled.LowestSlots.{IsFreeFor, IsLowestFor, AreLowest}
use Rattle.schedules.specs.ruled.FirstFreeLaws.{LowestAreTheOnlyOnes, LowestSpell}
use Rattle.plan_model.proofs.task_networks.Parents.{address_child}
use Rattle.schedules.proofs.ruled.FirstFree.{lowest_exactly_where_within}

module _ (N : Net) where
  module _ (top : N.Work) (tree : Tree N) (order : List Address) (front : IsFront N top tree order) where
    -- the label of the parent of a child
    method_of : (p : Address) (i : ℕ) → IsAddress N tree (i ∷ p) → (m : N.Method) × (label_at N tree p ≡ Some (used m)) × (i < count N m)
    method_of p i a = let (m, f) = parent_used N tree i p a.0 a.1 in (m, f, address_child N tree p m i front.grown f a)

    -- a child is the heir, with the slot of its parent, or has a new slot
    child_cases : (slot : Address → ℕ) → AreLowest N tree slot order → (taken rest : List Address) (p : Address) (m : N.Method) (i : ℕ)
        → order ≡ taken ++ p ∷ rest → label_at N tree p ≡ Some (used m) → i < count N m
        → ((N.heir m ≡ Some i) × (slot (i ∷ p) ≡ slot p)) ⊎ (Contains (others N m) i × IsLowestFor N tree slot taken p m i)
    child_cases slot low taken rest p m i e f l = elim (is_some (N.heir m) i) [
      | yes h ↦ inl (h, low.heirs p m i f h)
      | no n ↦ (let c = (rest_cases (N.heir m) (count N m) i).1 (l, n) in inr (c, low.new taken rest p m i e f c))
    ]

    module _ (f g : Address → ℕ) (low_f : AreLowest N tree f order) (low_g : AreLowest N tree g order) where
      s : IsSchedule N tree order
      s = front.schedule

      abbrev Same : List Address → Type 0
      Same taken = (q : Address) → IsAddress N tree q → IsBegun taken q → f q ≡ g q

      -- what is free by the one is free by the other
      free_to : (a b : Address → ℕ) (taken : List Address) (p : Address) (m : N.Method) (i x : ℕ)
          → ((q : Address) → IsPending N tree taken q → a q ≡ b q) → ((j : ℕ) → Contains (others N m) j → j < i → a (j ∷ p) ≡ b (j ∷ p))
          → IsFreeFor N tree b taken p m i x → IsFreeFor N tree a taken p m i x
      free_to a b taken p m i x same earlier h = record { positive = h.positive; unused = λ q c e. h.unused q c (sym (same q c) ∙ e); earlier = λ j c l e. h.earlier j c l (sym (earlier j c l) ∙ e) }

      new_same : (taken rest : List Address) (p : Address) (m : N.Method) → order ≡ taken ++ p ∷ rest → label_at N tree p ≡ Some (used m)
          → ((q : Address) → IsPending N tree taken q → f q ≡ g q)
          → (k i : ℕ) → i < k → Contains (others N m) i → f (i ∷ p) ≡ g (i ∷ p)
      new_same taken rest p m e l same zero i h c = absurd (omega arith)
      new_same taken rest p m e l same (suc k) i h c =
          let x = low_f.new taken rest p m i e l c in
          let y = low_g.new taken rest p m i e l c in
          let earlier : (j : ℕ) → Contains (others N m) j → j < i → f (j ∷ p) ≡ g (j ∷ p) = λ j d n. new_same taken rest p m e l same k j (omega arith) d in
          let u = x.lowest (g (i ∷ p)) (free_to f g taken p m i (g (i ∷ p)) same earlier y.free) in
          let v = y.lowest (f (i ∷ p)) (free_to g f taken p m i (f (i ∷ p)) (λ q d. sym (same q d)) (λ j d n. sym (earlier j d n)) x.free) in
          omega arith

      same : (taken rest : List Address) → order ≡ taken ++ rest → Same taken
      same taken = by_push (λ t. (rest : List Address) → order ≡ t ++ rest → Same t) start step taken
        where
          start : (rest : List Address) → order ≡ rest → Same []
          start rest e [] a b = low_f.root ∙ sym low_g.root
          start rest e (i ∷ q) a b = absurd (not-in_empty q b)

          step : (t : List Address) (p : Address) → ((rest : List Address) → order ≡ t ++ rest → Same t) → (rest : List Address)
              → order ≡ (t ++ p ∷ []) ++ rest → Same (t ++ p ∷ [])
          step t p ih rest e [] a b = low_f.root ∙ sym low_g.root
          step t p ih rest e (i ∷ q) a b = elim (Contains-push_cases t p q b) [
            | inl c ↦ old (i ∷ q) a c
            | inr d ↦ subst (λ z. f (i ∷ z) ≡ g (i ∷ z)) d (child (subst (λ z. IsAddress N tree (i ∷ z)) (sym d) a))
          ]
            where
              h : order ≡ t ++ p ∷ rest
              h = e ∙ append_assoc t (p ∷ []) rest

              old : Same t
              old = ih (p ∷ rest) h

              child : IsAddress N tree (i ∷ p) → f (i ∷ p) ≡ g (i ∷ p)
              child a =
                  let (m, l, k) = method_of p i a in
                  elim (child_cases f low_f t rest p m i h l k) [
                    | inl x ↦ x.1 ∙ old p (used m, l) (s.due t rest p h).begun ∙ sym (low_g.heirs p m i l x.0)
                    | inr x ↦ new_same t rest p m h l (λ q d. old q d.address d.begun) (suc i) i (omega arith) x.0
                  ]

      only : (p : Address) → IsAddress N tree p → f p ≡ g p
      only [] a = low_f.root ∙ sym low_g.root
      only (i ∷ p) a = let (m, l, k) = method_of p i a in same order [] (sym (append-nil order)) (i ∷ p) a ((s.covers p).1 (used m, l, tt))

  pub lowest_are_the_only_ones : LowestAreTheOnlyOnes N
  lowest_are_the_only_ones top tree order slot other front a b p x = only top tree order front slot other a b p x

  pub lowest_spell : IsLawful N → LowestSpell N
  lowest_spell law b top tree order slot front low w =
      let (acts, other, s) = (lowest_exactly_where_within N law b top tree order front).0 w in
      (acts, spells_agree N law b top acts tree order other slot (λ q a. only top tree order front slot other low s.lowest q a) s.spells)
