-- Which child of a section of types is the first that closes a cycle.
use Rattle.std.proofs.Common.{ℕ, zero, suc, ◌≡◌, ◌⊎◌, inl, inr, List, [], ◌∷◌, ◌++◌, Some, refl, ap, sym, subst, ◌∙◌, Contains, arith}
use Rattle.std.proofs.lemmas.Grind.{flat_map-append}
use Rattle.std.proofs.lemmas.List.Elements.{Contains-append_left, Contains-append_right, Contains-append_cases}
use Rattle.plan_model.specs.task_networks.Order.{Precedes, direct, through, IsAcyclic, IsFirstClosing}
use Rattle.plan_model.proofs.net_order.Chains.{wider}
use Rattle.plan_model.proofs.task_networks.Lists.{Contains-here}
use Rattle.plan_model.specs.declared.networks.Pair.{Pair}
use Rattle.plan_model.specs.Pairs.{pair, Pairs}
use Rattle.htn_base.specs.Lists.{One, Each, IsFirst}
use Rattle.gd_reader.specs.declared.term.RawTerm.{RawTerm}
use Rattle.gd_reader.specs.declared.typed_lists.RawParam.{RawParam}
use Rattle.name_binding.specs.Cycle.{IsParent, ClosesCycle}
use Rattle.name_binding.specs.PairsAmong.{place_among, parent_among, pairs_behind, pairs_among}
use Rattle.name_binding.proofs.PairLemmas.{same_number, number_at, number-place, IsParentAt, pair-of, pair-from, IsPairAt, pair_at}

one-map : {X : Type 0} {P Q : X → Type 0} → ((x : X) → P x → Q x) → (xs : List X) → One P xs → One Q xs
one-map f [] h = absurd h
one-map f (x ∷ xs) (inl p) = inl (f x p)
one-map f (x ∷ xs) (inr h) = inr (one-map f xs h)

pub each-front : {X : Type 0} (P : X → Type 0) (xs ys : List X) → Each P (xs ++ ys) → Each P xs
each-front P [] ys h = tt
each-front P (x ∷ xs) ys h = (h.0, each-front P xs ys h.1)

pub each-back : {X : Type 0} (P : X → Type 0) (xs ys : List X) → Each P (xs ++ ys) → Each P ys
each-back P [] ys h = h
each-back P (x ∷ xs) ys h = each-back P xs ys h.1

-- A chain over pairs, some of which begin at i, is one over the others, or passes i.
chain-without : (ps qs : List Pair) (i : ℕ) → ((q : Pair) → Contains qs q → q.first ≡ i) → (j m : ℕ) → Precedes (Pairs (ps ++ qs)) j m
    → Precedes (Pairs ps) j m ⊎ ((j ≡ i) ⊎ Precedes (Pairs ps) j i)
chain-without ps qs i from j m (direct h) = elim (Contains-append_cases ps qs (pair j m) h) [
  | inl c ↦ inl (direct c)
  | inr c ↦ inr (inl (from (pair j m) c))
]
chain-without ps qs i from j m (through {j = k} c h) = go (chain-without ps qs i from j k c) (Contains-append_cases ps qs (pair k m) h)
  where
    go : Precedes (Pairs ps) j k ⊎ ((j ≡ i) ⊎ Precedes (Pairs ps) j i) → Contains ps (pair k m) ⊎ Contains qs (pair k m) → Precedes (Pairs ps) j m ⊎ ((j ≡ i) ⊎ Precedes (Pairs ps) j i)
    go (inr d) g = inr d
    go (inl d) (inl g) = inl (through d g)
    go (inl d) (inr g) = inr (inr (subst (Precedes (Pairs ps) j) (from (pair k m) g) d))

-- a word of a type among the first
abbrev pub IsKnownAmong : List ℕ → ℕ → RawParam → Type 0
IsKnownAmong types count x = (k : ℕ) × (place_among types count x.name.number ≡ Some k)

module _ (types : List ℕ) (count object : ℕ) (object_first : place_among types count object ≡ Some 0) where
  abbrev IsKnown : RawParam → Type 0
  IsKnown x = IsKnownAmong types count x

  is-object : (n : ℕ) → place_among types count n ≡ Some 0 → n ≡ object
  is-object n e = same_number types count n object 0 e object_first

  -- each pair of places is one of numbers, where none begins at object
  parent-at : (xs : List RawParam) (i j : ℕ) → (i ≡ 0 → ⊥) → Contains (pairs_among types count xs) (pair i j) → IsParent xs (number_at types count i) (number_at types count j)
  parent-at [] i j d c = absurd (let l = c.1 in omega (arith, l))
  parent-at (x ∷ xs) i j d c = elim (Contains-append_cases (pairs_behind types count x) (pairs_among types count xs) (pair i j) c) [
    | inl h ↦ let p = pair-of types count x i j h in inl (sym (number-place types count x.name.number i p.0), one-map (by i d) x.ty p.1)
    | inr h ↦ inr (parent-at xs i j d h)
  ]
    where
      by : (i : ℕ) → (i ≡ 0 → ⊥) → (t : RawTerm) → IsParentAt types count i j t → t.name.number ≡ number_at types count j
      by zero d t e = absurd (d refl)
      by (suc i) d t e = sym (number-place types count t.name.number j e)

  -- the pair of object would be one with itself
  self-pair : (xs : List RawParam) (j : ℕ) → Contains (pairs_among types count xs) (pair 0 j) → Contains (pairs_among types count xs) (pair 0 0)
  self-pair [] j c = absurd (let l = c.1 in omega (arith, l))
  self-pair (x ∷ xs) j c = elim (Contains-append_cases (pairs_behind types count x) (pairs_among types count xs) (pair 0 j) c) [
    | inl h ↦
        let p = pair-of types count x 0 j h in
        Contains-append_left (pairs_behind types count x) (pairs_among types count xs) (pair 0 0) (pair-from types count x 0 0 p.0 (one-map (λ t e. refl) x.ty p.1))
    | inr h ↦ Contains-append_right (pairs_behind types count x) (pairs_among types count xs) (pair 0 0) (self-pair xs j h)
  ]

  not-object : (xs : List RawParam) → IsAcyclic (Pairs (pairs_among types count xs)) → (i j : ℕ) → Contains (pairs_among types count xs) (pair i j) → i ≡ 0 → ⊥
  not-object xs acyclic i j c e = acyclic 0 (direct (self-pair xs j (subst (λ k. Contains (pairs_among types count xs) (pair k j)) e c)))

  chain-of-numbers : (xs : List RawParam) → IsAcyclic (Pairs (pairs_among types count xs)) → (i j : ℕ) → Precedes (Pairs (pairs_among types count xs)) i j
      → Precedes (IsParent xs) (number_at types count i) (number_at types count j)
  chain-of-numbers xs acyclic i j (direct h) = direct (parent-at xs i j (not-object xs acyclic i j h) h)
  chain-of-numbers xs acyclic i j (through {j = k} c h) = through (chain-of-numbers xs acyclic i k c) (parent-at xs k j (not-object xs acyclic k j h) h)

  -- each pair of numbers is one of places, where the child is known
  child-known : (xs : List RawParam) (v w : ℕ) → Each IsKnown xs → IsParent xs v w → (k : ℕ) × (place_among types count v ≡ Some k)
  child-known [] v w h p = absurd p
  child-known (x ∷ xs) v w h (inl p) = (h.0.0, ap (place_among types count) (sym p.0) ∙ h.0.1)
  child-known (x ∷ xs) v w h (inr p) = child-known xs v w h.1 p

  pair-there : (xs : List RawParam) (v w i j : ℕ) → place_among types count v ≡ Some i → parent_among types count i w ≡ Some j → IsParent xs v w → Contains (pairs_among types count xs) (pair i j)
  pair-there [] v w i j e f p = absurd p
  pair-there (x ∷ xs) v w i j e f (inl p) =
      Contains-append_left (pairs_behind types count x) (pairs_among types count xs) (pair i j)
      (pair-from types count x i j (ap (place_among types count) p.0 ∙ e) (one-map (λ (t : RawTerm) (g : t.name.number ≡ w). ap (parent_among types count i) g ∙ f) x.ty p.1))
  pair-there (x ∷ xs) v w i j e f (inr p) = Contains-append_right (pairs_behind types count x) (pairs_among types count xs) (pair i j) (pair-there xs v w i j e f p)

  module _ (xs all : List RawParam) (acyclic : IsAcyclic (Pairs (pairs_among types count all))) (within : (p : Pair) → Contains (pairs_among types count xs) p → Contains (pairs_among types count all) p) (known : Each IsKnown xs) where
    step-at : (v w i j : ℕ) → place_among types count v ≡ Some i → place_among types count w ≡ Some j → IsParent xs v w → Contains (pairs_among types count all) (pair i j)
    step-at v w zero j e f p = absurd (acyclic 0 (direct (within (pair 0 0) (pair-there xs v w 0 0 e refl p))))
    step-at v w (suc i) j e f p = within (pair (suc i) j) (pair-there xs v w (suc i) j e f p)

    chain-of-places : (v w j : ℕ) → place_among types count w ≡ Some j → Precedes (IsParent xs) v w → (i : ℕ) × (place_among types count v ≡ Some i) × Precedes (Pairs (pairs_among types count all)) i j
    chain-of-places v w j f (direct p) = let k = child-known xs v w known p in (k.0, k.1, direct (step-at v w k.0 j k.1 f p))
    chain-of-places v w j f (through {j = m} c p) =
        let k = child-known xs m w known p in
        let r = chain-of-places v m k.0 k.1 c in
        (r.0, r.1, through r.2 (step-at m w k.0 j k.1 f p))

    -- where the pairs have no cycle, a word among them closes none
    pub no_closing : (x : RawParam) → IsKnown x → ((p : Pair) → Contains (pairs_behind types count x) p → Contains (pairs_among types count all) p) → ClosesCycle object xs x → ⊥
    no_closing x k there closes = go x.ty (λ t h. h) closes
      where
        here : (j : ℕ) → One (IsParentAt types count k.0 j) x.ty → Contains (pairs_among types count all) (pair k.0 j)
        here j o = there (pair k.0 j) (pair-from types count x k.0 j k.1 o)

        -- with the parent t
        with_parent : (k : ℕ) → place_among types count x.name.number ≡ Some k → (t : RawTerm) → ((j : ℕ) → IsParentAt types count k j t → Contains (pairs_among types count all) (pair k j))
            → (x.name.number ≡ object) ⊎ ((t.name.number ≡ x.name.number) ⊎ Precedes (IsParent xs) t.name.number x.name.number) → ⊥
        with_parent zero e t at c = acyclic 0 (direct (at 0 refl))
        with_parent (suc k) e t at (inl o) = let z : Some 0 ≡ Some (suc k) = sym object_first ∙ ap (place_among types count) (sym o) ∙ e in absurd cc
        with_parent (suc k) e t at (inr (inl s)) = acyclic (suc k) (direct (at (suc k) (ap (place_among types count) s ∙ e)))
        with_parent (suc k) e t at (inr (inr c)) =
            let r = chain-of-places t.name.number x.name.number (suc k) e c in
            acyclic r.0 (through r.2 (at r.0 r.1))

        go : (ts : List RawTerm) → ((P : RawTerm → Type 0) → One P ts → One P x.ty) → One (λ t. (x.name.number ≡ object) ⊎ ((t.name.number ≡ x.name.number) ⊎ Precedes (IsParent xs) t.name.number x.name.number)) ts → ⊥
        go [] sub h = h
        go (t ∷ ts) sub (inl c) = with_parent k.0 k.1 t (λ j e. here j (sub (IsParentAt types count k.0 j) (inl e))) c
        go (t ∷ ts) sub (inr h) = go ts (λ P o. sub P (inr o)) h

  within-front : (xs ys : List RawParam) (p : Pair) → Contains (pairs_among types count xs) p → Contains (pairs_among types count (xs ++ ys)) p
  within-front xs ys p c =
      subst (λ ps. Contains ps p) (sym (flat_map-append (pairs_behind types count) xs ys)) (Contains-append_left (pairs_among types count xs) (pairs_among types count ys) p c)

  within-item : (xs ys : List RawParam) (x : RawParam) (p : Pair) → Contains (pairs_behind types count x) p → Contains (pairs_among types count (xs ++ x ∷ ys)) p
  within-item xs ys x p c =
      subst (λ ps. Contains ps p) (sym (flat_map-append (pairs_behind types count) xs (x ∷ ys)))
      (Contains-append_right (pairs_among types count xs) (pairs_among types count (x ∷ ys)) p (Contains-append_left (pairs_behind types count x) (pairs_among types count ys) p c))

  -- where the pairs have no cycle, none of the words in front of which all are known closes one
  pub none_closes : (all front rest : List RawParam) (x : RawParam) → IsAcyclic (Pairs (pairs_among types count all)) → all ≡ front ++ x ∷ rest → Each IsKnown front → IsKnown x → ClosesCycle object front x → ⊥
  none_closes all front rest x acyclic e known k =
      no_closing front all acyclic
      (λ p c. subst (λ zs. Contains (pairs_among types count zs) p) (sym e) (within-front front (x ∷ rest) p c))
      known x k
      (λ p c. subst (λ zs. Contains (pairs_among types count zs) p) (sym e) (within-item front rest x p c))

  module _ (xs : List RawParam) (k : ℕ) (f : IsFirstClosing pair (pairs_among types count xs) k) where
    pub found : IsPairAt types count xs f.before (pair f.first f.second)
    found = pair_at types count xs f.before (pair f.first f.second) f.rest f.parts

    front-acyclic : IsAcyclic (Pairs (pairs_among types count found.front))
    front-acyclic i c = f.acyclic i (subst (λ ps. Precedes (Pairs ps) i i) (sym found.earlier) (wider (pairs_among types count found.front) found.inner i i c))

    its-pair : (place_among types count found.item.name.number ≡ Some f.first) × One (IsParentAt types count f.first f.second) found.item.ty
    its-pair =
        pair-of types count found.item f.first f.second
        (subst (λ ps. Contains ps (pair f.first f.second)) (sym found.is)
        (Contains-append_right found.inner (pair f.first f.second ∷ found.rest) (pair f.first f.second) (Contains-here (pair f.first f.second) found.rest)))

    pub item-known : IsKnown found.item
    item-known = (f.first, its-pair.0)

    from-item : (q : Pair) → Contains found.inner q → q.first ≡ f.first
    from-item q c =
        let p = pair-of types count found.item q.first q.then (subst (λ ps. Contains ps q) (sym found.is) (Contains-append_left found.inner (pair f.first f.second ∷ found.rest) q c)) in
        let same : Some q.first ≡ Some f.first = sym p.0 ∙ its-pair.0 in
        cc

    -- the parents' numbers close a cycle where the places do
    abbrev Closing : ℕ → RawTerm → Type 0
    Closing first t = (found.item.name.number ≡ object) ⊎ ((t.name.number ≡ found.item.name.number) ⊎ Precedes (IsParent found.front) t.name.number found.item.name.number)

    by_parent : (first : ℕ) → place_among types count found.item.name.number ≡ Some first → (f.second ≡ first) ⊎ Precedes (Pairs (pairs_among types count found.front)) f.second first
        → (t : RawTerm) → IsParentAt types count first f.second t → Closing first t
    by_parent zero e c t p = inl (is-object found.item.name.number e)
    by_parent (suc i) e (inl same) t p = inr (inl (same_number types count t.name.number found.item.name.number (suc i) (p ∙ ap Some same) e))
    by_parent (suc i) e (inr c) t p =
        let numbers = chain-of-numbers found.front front-acyclic f.second (suc i) c in
        inr (inr (subst (λ v. Precedes (IsParent found.front) v found.item.name.number) (number-place types count t.name.number f.second p)
        (subst (λ v. Precedes (IsParent found.front) (number_at types count f.second) v) (number-place types count found.item.name.number (suc i) e) numbers)))

    way : (f.second ≡ f.first) ⊎ Precedes (Pairs (pairs_among types count found.front)) f.second f.first
    way = elim f.closes [
      | inl same ↦ inl (sym same)
      | inr c ↦
          elim (chain-without (pairs_among types count found.front) found.inner f.first from-item f.second f.first (subst (λ ps. Precedes (Pairs ps) f.second f.first) found.earlier c)) [
            | inl d ↦ inr d
            | inr d ↦ d
          ]
    ]

    -- the word is the first that closes a cycle, where those in front of it are known
    pub item_is_first : Each IsKnown found.front → IsFirst (ClosesCycle object) xs found.item
    item_is_first known = record {
      front = found.front;
      rest = found.back;
      parts = found.parts;
      is = one-map (by_parent f.first its-pair.0 way) found.item.ty its-pair.1;
      none_before = λ before behind y e c.
          let all = subst (Each IsKnown) e known in
          none_closes found.front before behind y front-acyclic e (each-front IsKnown before (y ∷ behind) all) (each-back IsKnown before (y ∷ behind) all).0 c;
    }

    -- and none in front of it closes one
    pub none_in_front : (front rest : List RawParam) (x : RawParam) → found.front ≡ front ++ x ∷ rest → Each IsKnown front → IsKnown x → ClosesCycle object front x → ⊥
    none_in_front front rest x e known k = none_closes found.front front rest x front-acyclic e known k
