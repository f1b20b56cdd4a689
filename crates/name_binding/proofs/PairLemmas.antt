-- The pairs of types and parents by the places of the types, and what they say of the numbers of names.
use Rattle.std.proofs.Common.{ℕ, zero, suc, ◌≡◌, ◌+◌, ◌<◌, ◌⊎◌, inl, inr, Bool, true, false, cond, eqb, List, [], ◌∷◌, ◌++◌, Option, Some, None, length, map, get_or, slice_get, refl, ap, sym, subst, ◌∙◌, Contains, append_assoc, length-append, arith}
use Rattle.std.specs.List.{flat_map}
use Rattle.std.specs.Prelude.{nat_lt, option_map}
use Rattle.std.proofs.Math.Seq.{get_or-append_seam}
use Rattle.std.proofs.lemmas.Bool.{cases_Bool, eqb-true}
use Rattle.std.proofs.lemmas.Bool.Decides.{nat_tests}
use Rattle.std.proofs.lemmas.Grind.{flat_map-append}
use Rattle.std.proofs.lemmas.List.{map-append, length-map}
use Rattle.std.proofs.lemmas.List.Elements.{Contains-append_left, Contains-append_right, Contains-append_cases}
use Rattle.std.proofs.lemmas.Option.{slice_get-get_or}
use Rattle.plan_model.proofs.task_networks.Lists.{Contains-here, not-in_empty, head_or_tail}
use Rattle.plan_model.specs.task_networks.Order.{IsFirstClosing}
use Rattle.plan_model.specs.declared.networks.Pair.{Pair}
use Rattle.plan_model.specs.Pairs.{pair}
use Rattle.plan_model.specs.net_order.Meaning.{AreBelow}
use Rattle.plan_model.proofs.net_order.Chains.{below_from_pairs}
use Rattle.htn_base.specs.Lists.{One}
use Rattle.name_binding.specs.Places.{first_place}
use Rattle.gd_reader.specs.declared.term.RawTerm.{RawTerm}
use Rattle.gd_reader.specs.declared.typed_lists.RawParam.{RawParam}
use Rattle.name_binding.specs.PairsAmong.{if_below, if_parent, place_among, parent_among, pair_among, pairs_of_child, pairs_behind, places_behind, pairs_among, places_among}

-- two lists that are cut in front of an element of the first or of the second
pub cut_of : {A : Type 0} (xs ys zs : List A) (w : A) (ws : List A) → xs ++ ys ≡ zs ++ w ∷ ws → ((m : List A) × (xs ≡ zs ++ w ∷ m)) ⊎ ((m : List A) × (zs ≡ xs ++ m) × (ys ≡ m ++ w ∷ ws))
cut_of [] ys zs w ws e = inr (zs, refl, e)
cut_of (x ∷ xs) ys [] w ws e = inl (xs, cc)
cut_of {A = A} (x ∷ xs) ys (z ∷ zs) w ws e = go (cc) (cut_of xs ys zs w ws (cc))
  where
    go : x ≡ z → ((m : List A) × (xs ≡ zs ++ w ∷ m)) ⊎ ((m : List A) × (zs ≡ xs ++ m) × (ys ≡ m ++ w ∷ ws)) → ((m : List A) × (x ∷ xs ≡ (z ∷ zs) ++ w ∷ m)) ⊎ ((m : List A) × (z ∷ zs ≡ (x ∷ xs) ++ m) × (ys ≡ m ++ w ∷ ws))
    go f (inl (m, h)) = inl (m, cc)
    go f (inr (m, h, k)) = inr (m, cc, k)

get-step : (n x k : ℕ) (xs : List ℕ) (o : Option ℕ) (same : Bool) → (same ≡ true → n ≡ x) → ((j : ℕ) → o ≡ Some j → get_or xs j 0 ≡ n) → cond same (Some 0) (option_map suc o) ≡ Some k → get_or (x ∷ xs) k 0 ≡ n
get-step n x zero xs o true is later e = sym (is refl)
get-step n x (suc k) xs o true is later e = absurd cc
get-step n x k xs None false is later e = absurd cc
get-step n x zero xs (Some j) false is later e = absurd cc
get-step n x (suc k) xs (Some j) false is later e = let s : j ≡ k = cc in ap (λ i. get_or xs i 0) (sym s) ∙ later j refl

-- at the place of a number it stands
pub get-first_place : (n : ℕ) (xs : List ℕ) (k : ℕ) → first_place n xs ≡ Some k → get_or xs k 0 ≡ n
get-first_place n [] k e = absurd cc
get-first_place n (x ∷ xs) k e = get-step n x k xs (first_place n xs) (eqb n x) (λ s. eqb-true n x s) (λ j. get-first_place n xs j) e

-- a number has the place of an equal one; places tell numbers apart
module _ (types : List ℕ) (count : ℕ) where
  below-cases : (o : Option ℕ) (k : ℕ) → if_below count o ≡ Some k → (o ≡ Some k) × (k < count)
  below-cases None k e = absurd cc
  below-cases (Some j) k e = elim (cases_Bool (nat_lt j count)) [
    | inl t ↦ let s : Some j ≡ Some k = sym (ap (λ b. cond b (Some j) None) t) ∙ e in let q : j ≡ k = cc in (s, grind (arith, nat_tests, t, q))
    | inr f ↦ let s : None ≡ Some k = sym (ap (λ b. cond b (Some j) None) f) ∙ e in absurd cc
  ]

  pub among-place : (n k : ℕ) → place_among types count n ≡ Some k → (first_place n types ≡ Some k) × (k < count)
  among-place n k e = below-cases (first_place n types) k e

  pub place-among : (n k : ℕ) → first_place n types ≡ Some k → k < count → place_among types count n ≡ Some k
  place-among n k e l = ap (if_below count) e ∙ (let t : nat_lt k count ≡ true = grind (arith, nat_tests, l) in ap (λ b. cond b (Some k) None) t)

  pub same_number : (n m k : ℕ) → place_among types count n ≡ Some k → place_among types count m ≡ Some k → n ≡ m
  same_number n m k e f = sym (get-first_place n types k (among-place n k e).0) ∙ get-first_place m types k (among-place m k f).0

  abbrev pub number_at : ℕ → ℕ
  number_at k = get_or types k 0

  pub number-place : (n k : ℕ) → place_among types count n ≡ Some k → number_at k ≡ n
  number-place n k e = get-first_place n types k (among-place n k e).0

  -- a pair of a word is that of a child and one of its parents
  abbrev pub IsParentAt : (i j : ℕ) → RawTerm → Type 0
  IsParentAt i j t = parent_among types count i t.name.number ≡ Some j

  parent-is : (i j k : ℕ) (o : Option ℕ) → Contains (if_parent k o) (pair i j) → (k ≡ i) × (o ≡ Some j)
  parent-is i j k None c = absurd (not-in_empty (pair i j) c)
  parent-is i j k (Some p) c = elim (head_or_tail (pair k p) [] (pair i j) c) [
    | inl e ↦ (ap (λ (q : Pair). q.first) e, ap (λ (q : Pair). Some q.then) e)
    | inr d ↦ absurd (not-in_empty (pair i j) d)
  ]

  of_child : (i j k : ℕ) (ts : List RawTerm) → Contains (flat_map (pair_among types count k) ts) (pair i j) → (k ≡ i) × One (IsParentAt i j) ts
  of_child i j k [] c = absurd (not-in_empty (pair i j) c)
  of_child i j k (t ∷ ts) c = elim (Contains-append_cases (pair_among types count k t) (flat_map (pair_among types count k) ts) (pair i j) c) [
    | inl h ↦ let p = parent-is i j k (parent_among types count k t.name.number) h in (p.0, inl (ap (λ n. parent_among types count n t.name.number) (sym p.0) ∙ p.1))
    | inr h ↦ let p = of_child i j k ts h in (p.0, inr p.1)
  ]

  pub pair-of : (x : RawParam) (i j : ℕ) → Contains (pairs_behind types count x) (pair i j) → (place_among types count x.name.number ≡ Some i) × One (IsParentAt i j) x.ty
  pair-of x i j c = by (place_among types count x.name.number) c
    where
      by : (o : Option ℕ) → Contains (pairs_of_child types count o x.ty) (pair i j) → (o ≡ Some i) × One (IsParentAt i j) x.ty
      by None h = absurd (not-in_empty (pair i j) h)
      by (Some k) h = let p = of_child i j k x.ty h in (ap Some p.0, p.1)

  has_pair : (i j : ℕ) (ts : List RawTerm) → One (IsParentAt i j) ts → Contains (flat_map (pair_among types count i) ts) (pair i j)
  has_pair i j [] h = absurd h
  has_pair i j (t ∷ ts) (inl e) =
      Contains-append_left (pair_among types count i t) (flat_map (pair_among types count i) ts) (pair i j)
      (subst (λ o. Contains (if_parent i o) (pair i j)) (sym e) (Contains-here (pair i j) []))
  has_pair i j (t ∷ ts) (inr h) = Contains-append_right (pair_among types count i t) (flat_map (pair_among types count i) ts) (pair i j) (has_pair i j ts h)

  pub pair-from : (x : RawParam) (i j : ℕ) → place_among types count x.name.number ≡ Some i → One (IsParentAt i j) x.ty → Contains (pairs_behind types count x) (pair i j)
  pair-from x i j e h = subst (λ o. Contains (pairs_of_child types count o x.ty) (pair i j)) (sym e) (has_pair i j x.ty h)

  -- A pair among others stands behind one word of the section, whose offset has its place.
  pub record IsPairAt (xs : List RawParam) (before : List Pair) (p : Pair) : Type 0 where
    pub front : List RawParam
    pub item : RawParam
    pub back : List RawParam
    pub inner : List Pair
    pub rest : List Pair
    pub parts : xs ≡ front ++ item ∷ back
    pub earlier : before ≡ pairs_among types count front ++ inner
    pub is : pairs_behind types count item ≡ inner ++ p ∷ rest

  pub pair_at : (xs : List RawParam) (before : List Pair) (p : Pair) (rest : List Pair) → pairs_among types count xs ≡ before ++ p ∷ rest → IsPairAt xs before p
  pair_at [] [] p rest e = absurd cc
  pair_at [] (q ∷ before) p rest e = absurd cc
  pair_at (x ∷ xs) before p rest e = go (λ m g. pair_at xs m p rest g) (cut_of (pairs_behind types count x) (pairs_among types count xs) before p rest e)
    where
      go : ((m : List Pair) → pairs_among types count xs ≡ m ++ p ∷ rest → IsPairAt xs m p) → ((m : List Pair) × (pairs_behind types count x ≡ before ++ p ∷ m)) ⊎ ((m : List Pair) × (before ≡ pairs_behind types count x ++ m) × (pairs_among types count xs ≡ m ++ p ∷ rest)) → IsPairAt (x ∷ xs) before p
      go later (inl (m, f)) = record { front = []; item = x; back = xs; inner = before; rest = m; parts = refl; earlier = refl; is = f }
      go later (inr (m, f, g)) =
          let i = later m g in
          record {
            front = x ∷ i.front;
            item = i.item;
            back = i.back;
            inner = i.inner;
            rest = i.rest;
            parts = ap (λ zs. x ∷ zs) i.parts;
            earlier = f ∙ ap (λ ps. pairs_behind types count x ++ ps) i.earlier ∙ sym (append_assoc (pairs_behind types count x) (pairs_among types count i.front) i.inner);
            is = i.is;
          }

  pub length-places : (xs : List RawParam) → length (places_among types count xs) ≡ length (pairs_among types count xs)
  length-places [] = refl
  length-places (x ∷ xs) =
      length-append (places_behind types count x) (places_among types count xs)
      ∙ ap (λ n. n + length (places_among types count xs)) (length-map (pairs_behind types count x) (λ _. x.at))
      ∙ ap (λ n. length (pairs_behind types count x) + n) (length-places xs)
      ∙ sym (length-append (pairs_behind types count x) (pairs_among types count xs))

  pub place-at : (xs : List RawParam) (before : List Pair) (p : Pair) (w : IsPairAt xs before p) → slice_get (places_among types count xs) (length before) ≡ Some w.item.at
  place-at xs before p w = ap (slice_get (places_among types count xs)) number ∙ found
    where
      at : Pair → ℕ
      at q = w.item.at

      front : List ℕ
      front = places_among types count w.front ++ map at w.inner

      back : List ℕ
      back = map at w.rest ++ places_among types count w.back

      whole : places_among types count xs ≡ front ++ w.item.at ∷ back
      whole =
          ap (places_among types count) w.parts
          ∙ flat_map-append (places_behind types count) w.front (w.item ∷ w.back)
          ∙ ap (λ ps. places_among types count w.front ++ (map at ps ++ places_among types count w.back)) w.is
          ∙ ap (λ ns. places_among types count w.front ++ (ns ++ places_among types count w.back)) (map-append at w.inner (p ∷ w.rest))
          ∙ ap (λ ns. places_among types count w.front ++ ns) (append_assoc (map at w.inner) (w.item.at ∷ map at w.rest) (places_among types count w.back))
          ∙ sym (append_assoc (places_among types count w.front) (map at w.inner) (w.item.at ∷ back))

      number : length before ≡ length front
      number =
          ap length w.earlier ∙ length-append (pairs_among types count w.front) w.inner
          ∙ ap (λ n. n + length w.inner) (sym (length-places w.front))
          ∙ ap (λ n. length (places_among types count w.front) + n) (sym (length-map w.inner at))
          ∙ sym (length-append (places_among types count w.front) (map at w.inner))

      found : slice_get (places_among types count xs) (length front) ≡ Some w.item.at
      found =
          ap (λ ns. slice_get ns (length front)) whole
          ∙ slice_get-get_or (front ++ w.item.at ∷ back) (length front) 0 (let l = length-append front (w.item.at ∷ back) in omega arith)
          ∙ ap Some (get_or-append_seam front w.item.at back 0)

  place-below : (n k : ℕ) → place_among types count n ≡ Some k → k < count
  place-below n k e = (among-place n k e).1

  parent-below : (i j : ℕ) (ts : List RawTerm) → i < count → One (IsParentAt i j) ts → j < count
  parent-below i j [] l h = absurd h
  parent-below i j (t ∷ ts) l (inr h) = parent-below i j ts l h
  parent-below zero j (t ∷ ts) l (inl e) = let z : 0 ≡ j = cc in omega (arith, l, z)
  parent-below (suc i) j (t ∷ ts) l (inl e) = place-below t.name.number j e

  pair-below : (xs : List RawParam) (i j : ℕ) → Contains (pairs_among types count xs) (pair i j) → (i < count) × (j < count)
  pair-below [] i j c = absurd (not-in_empty (pair i j) c)
  pair-below (x ∷ xs) i j c = elim (Contains-append_cases (pairs_behind types count x) (pairs_among types count xs) (pair i j) c) [
    | inl h ↦ let p = pair-of x i j h in let l = place-below x.name.number i p.0 in (l, parent-below i j x.ty l p.1)
    | inr h ↦ pair-below xs i j h
  ]

  pub pairs-below : (xs : List RawParam) → AreBelow count (pairs_among types count xs)
  pairs-below xs = below_from_pairs count (pairs_among types count xs) (λ i j c. pair-below xs i j c)

  pub offset-there : (xs : List RawParam) (k : ℕ) → IsFirstClosing pair (pairs_among types count xs) k → k < length (places_among types count xs)
  offset-there xs k f =
      let p = ap length f.parts ∙ length-append f.before (pair f.first f.second ∷ f.rest) in
      let same = length-places xs in
      let at = f.place in
      omega (arith, p, same, at)
