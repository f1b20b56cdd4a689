-- Which written pair is the first that closes a cycle with the chain and the earlier pairs.
use Rattle.std.proofs.Common.{ℕ, suc, ◌≡◌, ◌+◌, ◌-◌, ◌<◌, ◌≤◌, ◌⊎◌, inl, inr, Bool, true, false, List, [], ◌∷◌, ◌++◌, Option, Some, None, length, slice_get, refl, ap, sym, subst, ◌∙◌, Contains, append_assoc, length-append, arith}
use Rattle.std.specs.List.{flat_map}
use Rattle.std.proofs.lemmas.List.Concat.{flat_map-append}
use Rattle.std.proofs.lemmas.List.Elements.{Contains-append_left, Contains-append_right, Contains-append_cases}
use Rattle.plan_model.proofs.task_networks.Lists.{not-in_empty, head_or_tail}
use Rattle.plan_model.specs.task_networks.Order.{Precedes, direct, through, IsAcyclic, Among, IsFirstClosing}
use Rattle.plan_model.proofs.net_order.Chains.{chain_map}
use Rattle.plan_model.specs.declared.networks.Pair.{Pair}
use Rattle.plan_model.specs.Pairs.{pair, Pairs}
use Rattle.plan_texts.specs.Networks.{chain_if}
use Rattle.htn_base.specs.Lists.{One, IsFirst}
use Rattle.hddl_bind.specs.Pairs.{if_both, if_pair}
use Rattle.hddl_bind.proofs.ChainPairs.{IsStep, step_in_chain, chain_has_step}

-- a list cut in front of an element, which stands in the first part or in the second
pub cut_append : {A : Type 0} (xs ys zs : List A) (w : A) (ws : List A) → xs ++ ys ≡ zs ++ w ∷ ws → ((m : List A) × (xs ≡ zs ++ w ∷ m)) ⊎ ((m : List A) × (zs ≡ xs ++ m) × (ys ≡ m ++ w ∷ ws))
cut_append [] ys zs w ws e = inr (zs, refl, e)
cut_append (x ∷ xs) ys [] w ws e = inl (xs, cc)
cut_append {A = A} (x ∷ xs) ys (z ∷ zs) w ws e = go (cc) (cut_append xs ys zs w ws (cc))
  where
    go : x ≡ z → ((m : List A) × (xs ≡ zs ++ w ∷ m)) ⊎ ((m : List A) × (zs ≡ xs ++ m) × (ys ≡ m ++ w ∷ ws)) → ((m : List A) × (x ∷ xs ≡ (z ∷ zs) ++ w ∷ m)) ⊎ ((m : List A) × (z ∷ zs ≡ (x ∷ xs) ++ m) × (ys ≡ m ++ w ∷ ws))
    go f (inl (m, h)) = inl (m, cc)
    go f (inr (m, h, k)) = inr (m, cc, k)

-- of written pairs x, whose two subtasks may be known, and whose place is known
module _ {X : Type 0} (first second : X → Option ℕ) (place : X → ℕ) where
  abbrev pub IsPair : X → ℕ → ℕ → Type 0
  IsPair x i j = (first x ≡ Some i) × (second x ≡ Some j)

  abbrev pub written : X → List Pair
  written x = if_pair (λ p. p) (if_both (first x) (second x))

  abbrev pub places : X → List ℕ
  places x = if_pair (λ p. place x) (if_both (first x) (second x))

  pub written_is : (x : X) (i j : ℕ) → IsPair x i j → written x ≡ pair i j ∷ []
  written_is x i j h = ap (λ o. if_pair (λ p. p) (if_both o (second x))) h.0 ∙ ap (λ o. if_pair (λ p. p) (if_both (Some i) o)) h.1

  pub place_is : (x : X) (i j : ℕ) → IsPair x i j → places x ≡ place x ∷ []
  place_is x i j h = ap (λ o. if_pair (λ p. place x) (if_both o (second x))) h.0 ∙ ap (λ o. if_pair (λ p. place x) (if_both (Some i) o)) h.1

  -- a written pair is of two subtasks, or of none
  pub record IsKnown (x : X) : Type 0 where
    pub one : ℕ
    pub other : ℕ
    pub pair_is : IsPair x one other

  pub known_or_none : (x : X) → IsKnown x ⊎ ((written x ≡ []) × (places x ≡ []))
  known_or_none x = go (first x) (second x) refl refl
    where
      go : (a b : Option ℕ) → first x ≡ a → second x ≡ b → IsKnown x ⊎ ((written x ≡ []) × (places x ≡ []))
      go None b e f = inr (ap (λ o. if_pair (λ p. p) (if_both o (second x))) e, ap (λ o. if_pair (λ p. place x) (if_both o (second x))) e)
      go (Some i) None e f = inr (
        ap (λ o. if_pair (λ p. p) (if_both o (second x))) e ∙ ap (λ o. if_pair (λ p. p) (if_both (Some i) o)) f,
        ap (λ o. if_pair (λ p. place x) (if_both o (second x))) e ∙ ap (λ o. if_pair (λ p. place x) (if_both (Some i) o)) f,
      )
      go (Some i) (Some j) e f = inl (record { one = i; other = j; pair_is = (e, f) })

  -- the pair at a place is that of a written pair
  pub record IsWritten (xs : List X) (m : List Pair) (p : Pair) : Type 0 where
    pub front : List X
    pub item : X
    pub back : List X
    pub parts : xs ≡ front ++ item ∷ back
    pub earlier : flat_map written front ≡ m
    pub is : IsPair item p.first p.then
    pub at : slice_get (flat_map places xs) (length m) ≡ Some (place item)

  pub written_at : (xs : List X) (m : List Pair) (p : Pair) (rest : List Pair) → flat_map written xs ≡ m ++ p ∷ rest → IsWritten xs m p
  written_at [] [] p rest e = absurd cc
  written_at [] (q ∷ m) p rest e = absurd cc
  written_at (x ∷ xs) m p rest e = go m e (known_or_none x) (λ m' e'. written_at xs m' p rest e')
    where
      later : (m : List Pair) (m' : List Pair) (here : List Pair) → written x ≡ here → m ≡ here ++ m' → (slice_get (flat_map places (x ∷ xs)) (length m) ≡ slice_get (flat_map places xs) (length m')) → IsWritten xs m' p → IsWritten (x ∷ xs) m p
      later m m' here w f s i = record {
        front = x ∷ i.front;
        item = i.item;
        back = i.back;
        parts = ap (λ zs. x ∷ zs) i.parts;
        earlier = ap (λ zs. zs ++ flat_map written i.front) w ∙ ap (λ zs. here ++ zs) i.earlier ∙ sym f;
        is = i.is;
        at = s ∙ i.at;
      }

      none : (m : List Pair) → flat_map written (x ∷ xs) ≡ m ++ p ∷ rest → written x ≡ [] → flat_map written xs ≡ m ++ p ∷ rest
      none m e w = sym (ap (λ zs. zs ++ flat_map written xs) w) ∙ e

      one : (i j : ℕ) (m : List Pair) → flat_map written (x ∷ xs) ≡ m ++ p ∷ rest → written x ≡ pair i j ∷ [] → pair i j ∷ flat_map written xs ≡ m ++ p ∷ rest
      one i j m e w = sym (ap (λ zs. zs ++ flat_map written xs) w) ∙ e

      head : (k : IsKnown x) → pair k.one k.other ≡ p → IsWritten (x ∷ xs) [] p
      head k f = record {
        front = [];
        item = x;
        back = xs;
        parts = refl;
        earlier = refl;
        is = (k.pair_is.0 ∙ ap (λ (q : Pair). Some q.first) f, k.pair_is.1 ∙ ap (λ (q : Pair). Some q.then) f);
        at = ap (λ zs. slice_get (zs ++ flat_map places xs) 0) (place_is x k.one k.other k.pair_is);
      }

      go : (m : List Pair) → flat_map written (x ∷ xs) ≡ m ++ p ∷ rest → IsKnown x ⊎ ((written x ≡ []) × (places x ≡ [])) → ((m' : List Pair) → flat_map written xs ≡ m' ++ p ∷ rest → IsWritten xs m' p) → IsWritten (x ∷ xs) m p
      go m e (inr (w, l)) next = later m m [] w refl (ap (λ zs. slice_get (zs ++ flat_map places xs) (length m)) l) (next m (none m e w))
      go [] e (inl k) next = let f = one k.one k.other [] e (written_is x k.one k.other k.pair_is) in head k cc
      go (q ∷ m) e (inl k) next =
          let w = written_is x k.one k.other k.pair_is in
          let f = one k.one k.other (q ∷ m) e w in
          let g : pair k.one k.other ≡ q = cc in
          later (q ∷ m) m (pair k.one k.other ∷ []) w (sym (ap (λ z. z ∷ m) g)) (ap (λ zs. slice_get (zs ++ flat_map places xs) (suc (length m))) (place_is x k.one k.other k.pair_is)) (next m cc)

  -- as many places as pairs
  pub length-places : (xs : List X) → length (flat_map places xs) ≡ length (flat_map written xs)
  length-places [] = refl
  length-places (x ∷ xs) = go (known_or_none x) (length-places xs)
    where
      go : IsKnown x ⊎ ((written x ≡ []) × (places x ≡ [])) → length (flat_map places xs) ≡ length (flat_map written xs) → length (flat_map places (x ∷ xs)) ≡ length (flat_map written (x ∷ xs))
      go (inr (w, l)) h = ap (λ zs. length (zs ++ flat_map places xs)) l ∙ h ∙ sym (ap (λ zs. length (zs ++ flat_map written xs)) w)
      go (inl k) h =
          ap (λ zs. length (zs ++ flat_map places xs)) (place_is x k.one k.other k.pair_is) ∙ ap suc h
          ∙ sym (ap (λ zs. length (zs ++ flat_map written xs)) (written_is x k.one k.other k.pair_is))

  -- the chain, and the written pairs
  module _ (ordered : Bool) (count : ℕ) where
    abbrev pub chained : List Pair
    chained = chain_if ordered count

    abbrev pub all : List X → List Pair
    all xs = chained ++ flat_map written xs

    abbrev pub IsChained : ℕ → ℕ → Type 0
    IsChained i j = (ordered ≡ true) × (j ≡ suc i) × (j < count)

    abbrev pub IsOrdered : List X → ℕ → ℕ → Type 0
    IsOrdered xs i j = IsChained i j ⊎ One (λ x. IsPair x i j) xs

    abbrev pub ClosesOrder : List X → X → Type 0
    ClosesOrder earlier x = (i : ℕ) × (j : ℕ) × IsPair x i j × ((i ≡ j) ⊎ Precedes (IsOrdered earlier) j i)

    step_if : (b : Bool) (i j : ℕ) → Contains (chain_if b count) (pair i j) → (b ≡ true) × IsStep 0 count i j
    step_if true i j h = (refl, step_in_chain 0 count i j h)
    step_if false i j h = absurd (not-in_empty (pair i j) h)

    if_step : (b : Bool) (i j : ℕ) → (b ≡ true) × (j ≡ suc i) × (j < count) → Contains (chain_if b count) (pair i j)
    if_step true i j h = let l = h.2 in chain_has_step 0 count i j (record { from = omega arith; next = h.1; within = omega arith })
    if_step false i j h = absurd (let e = h.0 in cc)

    pub chained_step : (i j : ℕ) → Contains chained (pair i j) → IsChained i j
    chained_step i j h = let s = step_if ordered i j h in let l = s.1.within in (s.0, s.1.next, omega arith)

    written_has : (xs : List X) (i j : ℕ) → One (λ x. IsPair x i j) xs → Contains (flat_map written xs) (pair i j)
    written_has [] i j h = absurd h
    written_has (x ∷ xs) i j (inl h) = subst (λ zs. Contains (zs ++ flat_map written xs) (pair i j)) (sym (written_is x i j h)) (0, omega arith, refl)
    written_has (x ∷ xs) i j (inr h) = Contains-append_right (written x) (flat_map written xs) (pair i j) (written_has xs i j h)

    has_written : (xs : List X) (i j : ℕ) → Contains (flat_map written xs) (pair i j) → One (λ x. IsPair x i j) xs
    has_written [] i j h = not-in_empty (pair i j) h
    has_written (x ∷ xs) i j h = go (Contains-append_cases (written x) (flat_map written xs) (pair i j) h) (known_or_none x) (λ k. has_written xs i j k)
      where
        at : (k : IsKnown x) → Contains (pair k.one k.other ∷ []) (pair i j) → IsPair x i j
        at k h = elim (head_or_tail (pair k.one k.other) [] (pair i j) h) [
          | inl e ↦ (k.pair_is.0 ∙ ap (λ (q : Pair). Some q.first) e, k.pair_is.1 ∙ ap (λ (q : Pair). Some q.then) e)
          | inr t ↦ absurd (not-in_empty (pair i j) t)
        ]

        go : Contains (written x) (pair i j) ⊎ Contains (flat_map written xs) (pair i j) → IsKnown x ⊎ ((written x ≡ []) × (places x ≡ [])) → (Contains (flat_map written xs) (pair i j) → One (λ x. IsPair x i j) xs) → One (λ x. IsPair x i j) (x ∷ xs)
        go (inr r) k next = inr (next r)
        go (inl l) (inl k) next = inl (at k (subst (λ zs. Contains zs (pair i j)) (written_is x k.one k.other k.pair_is) l))
        go (inl l) (inr n) next = absurd (not-in_empty (pair i j) (subst (λ zs. Contains zs (pair i j)) n.0 l))

    pub ordered_in_all : (xs : List X) (i j : ℕ) → IsOrdered xs i j → Contains (all xs) (pair i j)
    ordered_in_all xs i j (inl h) = Contains-append_left chained (flat_map written xs) (pair i j) (if_step ordered i j h)
    ordered_in_all xs i j (inr h) = Contains-append_right chained (flat_map written xs) (pair i j) (written_has xs i j h)

    pub all_in_ordered : (xs : List X) (i j : ℕ) → Contains (all xs) (pair i j) → IsOrdered xs i j
    all_in_ordered xs i j h = elim (Contains-append_cases chained (flat_map written xs) (pair i j) h) [
      | inl l ↦ inl (chained_step i j l)
      | inr r ↦ inr (has_written xs i j r)
    ]

    -- what stands in front of more pairs
    all-append : (xs ys : List X) → all (xs ++ ys) ≡ all xs ++ flat_map written ys
    all-append xs ys = ap (λ zs. chained ++ zs) (flat_map-append written xs ys) ∙ sym (append_assoc chained (flat_map written xs) (flat_map written ys))

    -- where the pairs have no cycle, none of them closes one
    pub no_closing : (xs before behind : List X) (y : X) → xs ≡ before ++ y ∷ behind → IsAcyclic (Pairs (all xs)) → ClosesOrder before y → ⊥
    no_closing xs before behind y e acyclic (i, j, p, closes) = go closes
      where
        here : Pairs (all xs) i j
        here = subst (λ zs. Contains (all zs) (pair i j)) (sym e) (ordered_in_all (before ++ y ∷ behind) i j (inr (found before)))
          where
            found : (zs : List X) → One (λ x. IsPair x i j) (zs ++ y ∷ behind)
            found [] = inl p
            found (z ∷ zs) = inr (found zs)

        wider : (a b : ℕ) → IsOrdered before a b → Precedes (Pairs (all xs)) a b
        wider a b h = direct (subst (λ zs. Contains (all zs) (pair a b)) (sym e) (subst (λ ps. Contains ps (pair a b)) (sym (all-append before (y ∷ behind))) (Contains-append_left (all before) (flat_map written (y ∷ behind)) (pair a b) (ordered_in_all before a b h))))

        go : (i ≡ j) ⊎ Precedes (IsOrdered before) j i → ⊥
        go (inl f) = acyclic i (subst (λ m. Precedes (Pairs (all xs)) i m) (sym f) (direct here))
        go (inr c) = acyclic j (through (chain_map wider j i c) here)

    -- the chain alone goes up
    chain_rises : (before : List Pair) → ((i j : ℕ) → Contains before (pair i j) → Contains chained (pair i j)) → (i j : ℕ) → Precedes (Pairs before) i j → i < j
    chain_rises before sub i j (direct h) = let s = chained_step i j (sub i j h) in let e = s.1 in omega arith
    chain_rises before sub i j (through {j = k} c h) = let l = chain_rises before sub i k c in let s = chained_step k j (sub k j h) in let e = s.1 in omega arith

    -- so the first pair that closes a cycle is written
    pub record ClosesAt (xs : List X) (k : ℕ) : Type 0 where
      pub item : X
      pub behind : length chained ≤ k
      pub at : slice_get (flat_map places xs) (k - length chained) ≡ Some (place item)
      pub closes : IsFirst ClosesOrder xs item

    pub closes_at : (xs : List X) (k : ℕ) → IsFirstClosing pair (all xs) k → ClosesAt xs k
    closes_at xs k f = go (cut_append chained (flat_map written xs) f.before (pair f.first f.second) f.rest f.parts)
      where
        in_chain : (m : List Pair) → chained ≡ f.before ++ pair f.first f.second ∷ m → ⊥
        in_chain m e = elim f.closes [
          | inl same ↦ let s = here.1 in omega arith
          | inr c ↦ let l = chain_rises f.before sub f.second f.first c in let s = here.1 in omega arith
        ]
          where
            sub : (i j : ℕ) → Contains f.before (pair i j) → Contains chained (pair i j)
            sub i j h = subst (λ zs. Contains zs (pair i j)) (sym e) (Contains-append_left f.before (pair f.first f.second ∷ m) (pair i j) h)

            here : IsChained f.first f.second
            here = chained_step f.first f.second (subst (λ zs. Contains zs (pair f.first f.second)) (sym e) (Contains-append_right f.before (pair f.first f.second ∷ m) (pair f.first f.second) (0, omega arith, refl)))

        go : ((m : List Pair) × (chained ≡ f.before ++ pair f.first f.second ∷ m)) ⊎ ((m : List Pair) × (f.before ≡ chained ++ m) × (flat_map written xs ≡ m ++ pair f.first f.second ∷ f.rest)) → ClosesAt xs k
        go (inl (m, e)) = absurd (in_chain m e)
        go (inr (m, e, g)) = record {
          item = w.item;
          behind = omega (arith, long);
          at = ap (λ n. slice_get (flat_map places xs) n) from ∙ w.at;
          closes = record {
            front = w.front;
            rest = w.back;
            parts = w.parts;
            is = (f.first, f.second, w.is, closing);
            none_before = λ before behind y h c. no_closing w.front before behind y h acyclic c;
          };
        }
          where
            w : IsWritten xs m (pair f.first f.second)
            w = written_at xs m (pair f.first f.second) f.rest g

            long : k ≡ length chained + length m
            long = sym f.place ∙ ap length e ∙ length-append chained m

            from : k - length chained ≡ length m
            from = omega (arith, long)

            same : f.before ≡ all w.front
            same = e ∙ ap (λ zs. chained ++ zs) (sym w.earlier)

            acyclic : IsAcyclic (Pairs (all w.front))
            acyclic = subst (λ ps. IsAcyclic (Pairs ps)) same f.acyclic

            narrower : (a b : ℕ) → Among pair f.before a b → Precedes (IsOrdered w.front) a b
            narrower a b h = direct (all_in_ordered w.front a b (subst (λ ps. Contains ps (pair a b)) same h))

            closing : (f.first ≡ f.second) ⊎ Precedes (IsOrdered w.front) f.second f.first
            closing = elim f.closes [ inl s ↦ inl s | inr c ↦ inr (chain_map narrower f.second f.first c) ]

    -- where no written pair is of two subtasks, none closes a cycle
    pub none_closes : (xs : List X) (x : X) → length (flat_map places xs) ≡ 0 → IsFirst ClosesOrder xs x → ⊥
    none_closes xs x e f =
        let c = f.is in
        let a = ap (flat_map places) f.parts ∙ flat_map-append places f.front (x ∷ f.rest) in
        let p = place_is x c.0 c.1 c.2 in
        let b = ap (λ zs. length (zs ++ flat_map places f.rest)) p in
        omega (arith, ap length a, length-append (flat_map places f.front) (flat_map places (x ∷ f.rest)), b)

    pub none_first : (xs : List X) (x : X) → IsAcyclic (Pairs (all xs)) → IsFirst ClosesOrder xs x → ⊥
    none_first xs x acyclic f = no_closing xs f.front f.rest x f.parts acyclic f.is
