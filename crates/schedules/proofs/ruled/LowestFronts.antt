-- Slots that follow the rule of lowest free slots are the lowest ones of the front, and back.
use Rattle.std.proofs.Common.{ℕ, zero, suc, ◌≡◌, ◌<◌, ◌≤◌, ◌↔◌, inl, inr, List, [], ◌∷◌, ◌++◌, map, filter, Bool, true, false, not, cond, Some, refl, ap, sym, subst, ◌∙◌, Contains, append_assoc, arith}
use Rattle.std.proofs.lemmas.List.{map-append}
use Rattle.std.proofs.lemmas.List.Elements.{Contains-append_left, Contains-append_right, Contains-append_cases}
use Rattle.plan_model.specs.task_networks.Net.{Net, count}
use Rattle.plan_model.specs.task_networks.Lawful.{IsLawful}
use Rattle.plan_model.specs.task_networks.Tree.{Tree, used, Address, label_at}
use Rattle.plan_model.specs.task_networks.Schedule.{IsBegun, IsSchedule}
use Rattle.plan_model.specs.task_networks.Pending.{IsPending}
use Rattle.plan_model.specs.task_networks.Spelling.{Act, Spells, others, numbers, is_heir}
use Rattle.plan_model.proofs.task_networks.Addresses.{is_same_address}
use Rattle.plan_model.proofs.task_networks.Filters.{filter_to}
use Rattle.plan_model.proofs.task_networks.Lists.{head_or_tail, cut_at, Contains-here}
use Rattle.plan_model.proofs.task_networks.Numbers.{numbers_to}
use Rattle.slot_machine.specs.OtherMachine.{TakesAll}
use Rattle.plan_model.proofs.task_networks.OtherChildren.{rest_cases}
use Rattle.slot_machine.proofs.OtherChildren.{map_cases, Contains-map}
use Rattle.plan_model.proofs.task_networks.Unused.{is_in}
use Rattle.schedules.specs.ruled.SlotRule.{Follows, PicksBy, IsFreeAfter}
use Rattle.schedules.specs.ruled.LowestSlots.{LowestRule, AreLowest, IsFreeFor, IsLowestFor}
use Rattle.schedules.proofs.ruled.Following.{picked_iff_follows}
use Rattle.schedules.proofs.ruled.LowestRule.{by_order, lowest_sees_free}
use Rattle.plan_model.proofs.task_networks.PendingSteps.{still_pends, child_pends}

-- of numbers that pass a test, those later are greater
numbers_ascend : (test : ℕ → Bool) (i n : ℕ) (before rest : List ℕ) (x y : ℕ) → filter test (numbers i n) ≡ before ++ x ∷ rest
    → Contains rest y → x < y
numbers_ascend test i zero [] rest x y e c = absurd cc
numbers_ascend test i zero (b ∷ before) rest x y e c = absurd cc
numbers_ascend test i (suc n) before rest x y e c = go (test i) (λ b f. numbers_ascend test (suc i) n b rest x y f c) before e
  where
    go : (t : Bool) → ((before : List ℕ) → filter test (numbers (suc i) n) ≡ before ++ x ∷ rest → x < y) → (before : List ℕ)
        → cond t (i ∷ filter test (numbers (suc i) n)) (filter test (numbers (suc i) n)) ≡ before ++ x ∷ rest → x < y
    go false ih before e = ih before e
    go true ih [] e =
        let f : filter test (numbers (suc i) n) ≡ rest = cc in
        let g : i ≡ x = cc in
        let h = (numbers_to (suc i) n y (filter_to test (numbers (suc i) n) y (subst (λ v. Contains v y) (sym f) c)).0).0 in
        omega arith
    go true ih (b ∷ before) e = ih before cc

-- a list of images is cut where the list is
map_cut : (f : ℕ → ℕ) (xs before rest : List ℕ) (y : ℕ) → map f xs ≡ before ++ y ∷ rest
    → (ls : List ℕ) × (x : ℕ) × (rs : List ℕ) × (xs ≡ ls ++ x ∷ rs) × (before ≡ map f ls) × (y ≡ f x)
map_cut f [] [] rest y e = absurd cc
map_cut f [] (b ∷ before) rest y e = absurd cc
map_cut f (x ∷ xs) [] rest y e = ([], x, xs, refl, refl, cc)
map_cut f (x ∷ xs) (b ∷ before) rest y e = go (map_cut f xs before rest y (cc))
  where
    go : (ls : List ℕ) × (z : ℕ) × (rs : List ℕ) × (xs ≡ ls ++ z ∷ rs) × (before ≡ map f ls) × (y ≡ f z)
        → (ls : List ℕ) × (z : ℕ) × (rs : List ℕ) × (x ∷ xs ≡ ls ++ z ∷ rs) × (b ∷ before ≡ map f ls) × (y ≡ f z)
    go (ls, z, rs, a, c, d) = (x ∷ ls, z, rs, ap (λ v. x ∷ v) a, (let g : f x ≡ b = cc in cc), d)

module _ (N : Net) (law : IsLawful N) (b : ℕ) (top : N.Work) (acts : List (Act N)) (tree : Tree N) (order : List Address)
    (slot : Address → ℕ) (s : Spells N b top acts tree order slot) where
  sch : IsSchedule N tree order
  sch = s.front.schedule

  module _ (taken rest : List Address) (p : Address) (m : N.Method) (e : order ≡ taken ++ p ∷ rest)
      (l : label_at N tree p ≡ Some (used m)) where
    ascend : (before rest : List ℕ) (x y : ℕ) → others N m ≡ before ++ x ∷ rest → Contains rest y → x < y
    ascend = numbers_ascend (λ i. not (is_heir (N.heir m) i)) 0 (count N m)

    -- those before a child are those with a lower number
    lower : (before rest : List ℕ) (x y : ℕ) → others N m ≡ before ++ x ∷ rest → Contains before y → y < x
    lower before rest x y f c =
        let (ls, rs, g) = cut_at before y c in
        ascend ls (rs ++ x ∷ rest) y x (f ∙ ap (λ v. v ++ x ∷ rest) g ∙ append_assoc ls (y ∷ rs) (x ∷ rest)) (Contains-append_right rs (x ∷ rest) x (Contains-here x rest))

    abbrev now : List Address
    now = taken ++ p ∷ []

    cut : order ≡ now ++ rest
    cut = e ∙ sym (append_assoc taken (p ∷ []) rest)

    child : (j : ℕ) → j < count N m → IsPending N tree now (j ∷ p)
    child j h = child_pends N tree order sch s.front.grown taken rest p m j e l h

    is_other : (i : ℕ) → Contains (others N m) i → (i < count N m) × (N.heir m ≡ Some i → ⊥)
    is_other i c = (rest_cases (N.heir m) (count N m) i).0 c

    -- a new slot is of no node that was pending
    unused : (i : ℕ) → Contains (others N m) i → (q : Address) → IsPending N tree taken q → slot q ≡ slot (i ∷ p) → ⊥
    unused i c q h f = elim (is_same_address q p) [
      | no n ↦ (let g = s.apart now rest cut q (i ∷ p) (still_pends N tree taken p q h n) (child i (is_other i c).0) f in (sch.due taken rest p e).fresh (let w = subst (IsBegun taken) g h.begun in w))
      | yes n ↦ (
          let k = (is_other i c).0 in
          let (j, hj) = law.has_heir m (omega arith) in
          let g = s.apart now rest cut (j ∷ p) (i ∷ p) (child j (law.heir_is_child m j hj)) (child i k) (s.heirs p m j l hj ∙ ap slot (sym n) ∙ f) in
          (is_other i c).1 (hj ∙ ap Some (let z : j ≡ i = cc in z)))
    ]

    apart : (i j : ℕ) → Contains (others N m) i → Contains (others N m) j → slot (i ∷ p) ≡ slot (j ∷ p) → i ≡ j
    apart i j c d f = let g = s.apart now rest cut (i ∷ p) (j ∷ p) (child i (is_other i c).0) (child j (is_other j d).0) f in cc

    to_lowest : LowestRule N (IsFreeAfter N b tree slot taken) (slot p) m (map (λ i. slot (i ∷ p)) (others N m)) → (i : ℕ)
        → Contains (others N m) i → IsLowestFor N tree slot taken p m i
    to_lowest low i c = record { free = record { positive = (range i).0; unused = λ q h f. unused i c q h f; earlier = λ j d k f. (let z = apart j i d c f in omega arith) }; lowest = lowest }
      where
        range : (j : ℕ) → (1 ≤ slot (i ∷ p)) × (slot (i ∷ p) ≤ b)
        range j = s.range (i ∷ p) (child i (is_other i c).0).address

        lowest : (x : ℕ) → IsFreeFor N tree slot taken p m i x → slot (i ∷ p) ≤ x
        lowest x h = elim (by_order (slot (i ∷ p)) x) [
          | inl y ↦ omega arith
          | inr (inl y) ↦ omega arith
          | inr (inr y) ↦ (
              let (ls, rs, g) = cut_at (others N m) i c in
              let f : ℕ → ℕ = λ j. slot (j ∷ p) in
              let z = low (map f ls) (map f rs) (f i) x (ap (map f) g ∙ map-append f ls (i ∷ rs)) (h.positive, (let w = (range i).1 in omega arith), h.unused) y in
              let (j, k, w) = map_cases f ls x z in
              absurd (h.earlier j (subst (λ v. Contains v j) (sym g) (Contains-append_left ls (i ∷ rs) j k)) (lower ls rs i j g k) w))
        ]

    from_lowest : ((i : ℕ) → Contains (others N m) i → IsLowestFor N tree slot taken p m i)
        → LowestRule N (IsFreeAfter N b tree slot taken) (slot p) m (map (λ i. slot (i ∷ p)) (others N m))
    from_lowest low before rest' x y f free lt = go (map_cut (λ i. slot (i ∷ p)) (others N m) before rest' x f)
      where
        go : (ls : List ℕ) × (i : ℕ) × (rs : List ℕ) × (others N m ≡ ls ++ i ∷ rs) × (before ≡ map (λ i. slot (i ∷ p)) ls)
            × (x ≡ slot (i ∷ p)) → Contains before y
        go (ls, i, rs, g, c, d) = elim (is_in before y) [
          | yes k ↦ k
          | no k ↦ absurd (
              let at_most = (low i (subst (λ v. Contains v i) (sym g) (Contains-append_right ls (i ∷ rs) i (Contains-here i rs)))).lowest y (record {
                positive = free.0;
                unused = free.2;
                earlier = λ j o less h. elim (Contains-append_cases ls (i ∷ rs) j (subst (λ v. Contains v j) g o)) [
                  | inl z ↦ k (subst (Contains before) h (subst (λ v. Contains v (slot (j ∷ p))) (sym c) (Contains-map (λ i. slot (i ∷ p)) ls j z)))
                  | inr z ↦ elim (head_or_tail i rs j z) [ inl w ↦ omega arith | inr w ↦ (let v = ascend ls rs i j g w in omega arith) ]
                ];
              }) in
              omega arith)
        ]

  pub lowest_iff_follows : Follows N (LowestRule N) b tree order slot ↔ AreLowest N tree slot order
  lowest_iff_follows = (
    λ f. record { root = s.root; heirs = s.heirs; new = λ taken rest p m i e l c. to_lowest taken rest p m e l (f taken rest p m e l) i c },
    λ low taken rest p m e l. from_lowest taken rest p m e l (λ i c. low.new taken rest p m i e l c),
  )

  pub lowest_are_picked : TakesAll N (PicksBy N (LowestRule N) b top) acts ↔ AreLowest N tree slot order
  lowest_are_picked =
      let a = picked_iff_follows N law (LowestRule N) (lowest_sees_free N) b top acts tree order slot s in
      (λ t. lowest_iff_follows.0 (a.0 t), λ l. a.1 (lowest_iff_follows.1 l))
