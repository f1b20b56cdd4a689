-- The ordering of a network by numbers and in words.
use Rattle.std.proofs.Common.{ℕ, suc, ◌≡◌, ◌<◌, Bool, true, false, cond, inl, inr, List, [], ◌∷◌, ◌++◌, length, Option, Some, None, refl, sym, ap, subst, ◌∙◌}
use Rattle.std.specs.Prelude.{◌⊎◌, option_map, slice_get, IfSome}
use Rattle.std.proofs.lemmas.Bool.{eqb-true, eqb-false}
use Rattle.htn_base.specs.Limits.{most_subtasks}
use Rattle.htn_base.specs.Different.{AreDifferent}
use Rattle.text_forms.specs.Words.{word_at}
use Rattle.plan_model.specs.task_networks.Order.{Precedes, direct, through}
use Rattle.gd_reader.specs.Terms.{Names}
use Rattle.gd_reader.specs.declared.term.RawTerm.{RawTerm}
use Rattle.hddl_reader.specs.declared.networks.RawNet.{RawNet}
use Rattle.hddl_reader.specs.declared.networks.RawPair.{RawPair}
use Rattle.hddl_reader.specs.declared.networks.RawSub.{RawSub}
use Rattle.plan_texts.specs.Types.{EachIs}
use Rattle.text_values.specs.form_spellings.InTable.{IsIn}
use Rattle.htn_base.specs.Lists.{One, Has, IsFirst}
use Rattle.hddl_reader.specs.names.Words.{WordAt}
use Rattle.hddl_reader.specs.names.Networks as words
use Rattle.name_binding.specs.declared.faults.Spot.{Spot}
use Rattle.name_binding.specs.Spots.{spot}
use Rattle.name_binding.specs.Terms.{unless_found}
use Rattle.hddl_bind.specs.Ids.{has_id, subtask_of}
use Rattle.hddl_bind.specs.Pairs.{pair_faults}
use Rattle.hddl_bind.specs.Cycle as numbers
use Rattle.text_values.specs.form_spellings.binding_laws.Orders.{AreIdsIn, HasUnknownIds, HasCycle, HasLimit, OfAllNetworks}
use Rattle.text_values.proofs.form_spellings.binding_laws.Lists.{append_there, append_left, append_right, flat_there, flat_back, unless_has}
use Rattle.text_values.proofs.form_spellings.binding_laws.Ones.{each_front, each_back}
use Rattle.text_values.proofs.form_spellings.binding_laws.Places.{same_number}

abbrev pub AreIn : Names → List RawSub → Type 0
AreIn names ss = EachIs (λ (s : RawSub). IfSome s.id (λ (t : RawTerm). IsIn names t.name)) ss

module _ (names : Names) (differ : AreDifferent names) (n : ℕ) (known : n < length names) where
  abbrev HasIt : RawSub → Type 0
  HasIt s = words.HasId names (word_at names n) s

  abbrev HasItAt : Option RawTerm → Type 0
  HasItAt o = One (λ (x : WordAt). x.word ≡ word_at names n) (words.id_at names o)

  id_there : (o : Option RawTerm) → has_id n o ≡ true → HasItAt o
  id_there None e = absurd (cc)
  id_there (Some t) e = inl (ap (word_at names) (sym (eqb-true n t.name.number e)))

  id_not : (o : Option RawTerm) → IfSome o (λ (t : RawTerm). IsIn names t.name) → has_id n o ≡ false → HasItAt o → ⊥
  id_not None i e h = absurd h
  id_not (Some t) i e (inl h) = eqb-false n t.name.number e (same_number names n t.name.number differ known i (sym h))
  id_not (Some t) i e (inr h) = absurd h

  none_behind : (o : Option ℕ) → option_map suc o ≡ None → o ≡ None
  none_behind None e = refl
  none_behind (Some k) e = absurd (cc)

  -- no subtask has the id
  none_there : (ss : List RawSub) → AreIn names ss → subtask_of n ss ≡ None → One HasIt ss → ⊥
  none_there [] i e o = absurd o
  none_there (s ∷ ss) i e o = go (has_id n s.id) refl e o (none_there ss i.1)
    where
      go : (b : Bool) → has_id n s.id ≡ b → cond b (Some 0) (option_map suc (subtask_of n ss)) ≡ None → One HasIt (s ∷ ss) → (subtask_of n ss ≡ None → One HasIt ss → ⊥) → ⊥
      go true f e o more = absurd (cc)
      go false f e (inl h) more = id_not s.id i.0 f h
      go false f e (inr o) more = more (none_behind (subtask_of n ss) e) o

  none_back : (ss : List RawSub) → (One HasIt ss → ⊥) → subtask_of n ss ≡ None
  none_back [] x = refl
  none_back (s ∷ ss) x = go (has_id n s.id) refl (none_back ss (λ o. x (inr o)))
    where
      go : (b : Bool) → has_id n s.id ≡ b → subtask_of n ss ≡ None → cond b (Some 0) (option_map suc (subtask_of n ss)) ≡ None
      go true f e = absurd (x (inl (id_there s.id f)))
      go false f e = ap (option_map suc) e

  -- the first subtask with the id
  abbrev IsAt : List RawSub → ℕ → Type 0
  IsAt ss i = (front : List RawSub) × (s : RawSub) × (rest : List RawSub) × (ss ≡ front ++ s ∷ rest) × (length front ≡ i) × HasIt s × (One HasIt front → ⊥)

  some_there : (ss : List RawSub) (i : ℕ) → AreIn names ss → subtask_of n ss ≡ Some i → IsAt ss i
  some_there [] i is e = absurd (cc)
  some_there (s ∷ ss) i is e = go (has_id n s.id) refl e (λ j. some_there ss j is.1)
    where
      behind : (o : Option ℕ) → subtask_of n ss ≡ o → has_id n s.id ≡ false → option_map suc o ≡ Some i → ((j : ℕ) → subtask_of n ss ≡ Some j → IsAt ss j) → IsAt (s ∷ ss) i
      behind None g f e more = absurd (cc)
      behind (Some j) g f e more =
          let r = more j g in
          let next : suc j ≡ i = cc in
          (s ∷ r.0, r.1, r.2, ap (λ zs. s ∷ zs) r.3, ap suc r.4 ∙ next, r.5, λ o. elim o [ inl h ↦ id_not s.id is.0 f h | inr h ↦ r.6 h ])

      go : (b : Bool) → has_id n s.id ≡ b → cond b (Some 0) (option_map suc (subtask_of n ss)) ≡ Some i → ((j : ℕ) → subtask_of n ss ≡ Some j → IsAt ss j) → IsAt (s ∷ ss) i
      go true f e more = let first : 0 ≡ i = cc in ([], s, ss, refl, first, id_there s.id f, λ o. o)
      go false f e more = behind (subtask_of n ss) refl f e more

  front_back : (front : List RawSub) (s : RawSub) (rest : List RawSub) → AreIn names (front ++ s ∷ rest) → HasIt s → (One HasIt front → ⊥) → subtask_of n (front ++ s ∷ rest) ≡ Some (length front)
  front_back [] s rest is h x = go (has_id n s.id) refl
    where
      go : (b : Bool) → has_id n s.id ≡ b → cond b (Some 0) (option_map suc (subtask_of n rest)) ≡ Some 0
      go true f = refl
      go false f = absurd (id_not s.id is.0 f h)
  front_back (r ∷ front) s rest is h x = go (has_id n r.id) refl (front_back front s rest is.1 h (λ o. x (inr o)))
    where
      go : (b : Bool) → has_id n r.id ≡ b → subtask_of n (front ++ s ∷ rest) ≡ Some (length front) → cond b (Some 0) (option_map suc (subtask_of n (front ++ s ∷ rest))) ≡ Some (suc (length front))
      go true f e = absurd (x (inl (id_there r.id f)))
      go false f e = ap (option_map suc) e

  some_back : (ss : List RawSub) (i : ℕ) → AreIn names ss → IsAt ss i → subtask_of n ss ≡ Some i
  some_back ss i is (front, s, rest, parts, number, h, x) =
      ap (subtask_of n) parts ∙ front_back front s rest (subst (AreIn names) parts is) h x ∙ ap Some number

module _ (names : Names) (net : RawNet) (of : AreIdsIn names net) where
  -- 19
  unknown_there : (t : RawTerm) (code at : ℕ) → IsIn names t.name → Has (unless_found 19 t.at (subtask_of t.name.number net.subs)) (spot at code) → (code ≡ 19) × words.IsUnknownId names net at t
  unknown_there t code at i h =
      let r = (unless_has 19 t.at (subtask_of t.name.number net.subs) code at).0 h in
      (sym r.2, (r.1, none_there names of.differ t.name.number i net.subs of.ids r.0))

  unknown_back : (t : RawTerm) (code at : ℕ) → IsIn names t.name → code ≡ 19 → words.IsUnknownId names net at t → Has (unless_found 19 t.at (subtask_of t.name.number net.subs)) (spot at code)
  unknown_back t code at i c u = (unless_has 19 t.at (subtask_of t.name.number net.subs) code at).1 (none_back names of.differ t.name.number i net.subs u.1, u.0, sym c)

  abbrev IsUnknown : ℕ → RawPair → Type 0
  IsUnknown at x = words.IsUnknownId names net at x.first ⊎ words.IsUnknownId names net at x.then

  abbrev ArePairsIn : List RawPair → Type 0
  ArePairsIn xs = EachIs (λ (x : RawPair). IsIn names x.first.name × IsIn names x.then.name) xs

  pairs_there : (xs : List RawPair) (code at : ℕ) → ArePairsIn xs → One (λ x. Has (pair_faults net.subs x) (spot at code)) xs → (code ≡ 19) × One (IsUnknown at) xs
  pairs_there [] code at i o = absurd o
  pairs_there (x ∷ xs) code at i (inr o) = let r = pairs_there xs code at i.1 o in (r.0, inr r.1)
  pairs_there (x ∷ xs) code at i (inl o) = elim (append_there (unless_found 19 x.first.at (subtask_of x.first.name.number net.subs)) (unless_found 19 x.then.at (subtask_of x.then.name.number net.subs)) (spot at code) o) [
    | inl h ↦ let r = unknown_there x.first code at i.0.0 h in (r.0, inl (inl r.1))
    | inr h ↦ let r = unknown_there x.then code at i.0.1 h in (r.0, inl (inr r.1))
  ]

  pairs_back : (xs : List RawPair) (code at : ℕ) → ArePairsIn xs → code ≡ 19 → One (IsUnknown at) xs → One (λ x. Has (pair_faults net.subs x) (spot at code)) xs
  pairs_back [] code at i c o = absurd o
  pairs_back (x ∷ xs) code at i c (inr o) = inr (pairs_back xs code at i.1 c o)
  pairs_back (x ∷ xs) code at i c (inl (inl u)) = inl (append_left (unless_found 19 x.first.at (subtask_of x.first.name.number net.subs)) (unless_found 19 x.then.at (subtask_of x.then.name.number net.subs)) (spot at code) (unknown_back x.first code at i.0.0 c u))
  pairs_back (x ∷ xs) code at i c (inl (inr u)) = inl (append_right (unless_found 19 x.first.at (subtask_of x.first.name.number net.subs)) (unless_found 19 x.then.at (subtask_of x.then.name.number net.subs)) (spot at code) (unknown_back x.then code at i.0.1 c u))

  -- 20: the subtask of an id, and the two of a pair
  subtask_there : (t : RawTerm) (i : ℕ) → IsIn names t.name → subtask_of t.name.number net.subs ≡ Some i → words.IsSubtask names net t i
  subtask_there t i k e =
      let r = some_there names of.differ t.name.number k net.subs i of.ids e in
      record { front = r.0; sub = r.1; rest = r.2; parts = r.3; number = r.4; has_id = r.5; none_before = r.6 }

  subtask_back : (t : RawTerm) (i : ℕ) → IsIn names t.name → words.IsSubtask names net t i → subtask_of t.name.number net.subs ≡ Some i
  subtask_back t i k r = some_back names of.differ t.name.number k net.subs i of.ids (r.front, r.sub, r.rest, r.parts, r.number, r.has_id, r.none_before)

  pair_there : (x : RawPair) (i j : ℕ) → IsIn names x.first.name × IsIn names x.then.name → numbers.IsPair net x i j → words.IsPair names net x i j
  pair_there x i j k p = (subtask_there x.first i k.0 p.0, subtask_there x.then j k.1 p.1)

  pair_back : (x : RawPair) (i j : ℕ) → IsIn names x.first.name × IsIn names x.then.name → words.IsPair names net x i j → numbers.IsPair net x i j
  pair_back x i j k p = (subtask_back x.first i k.0 p.0, subtask_back x.then j k.1 p.1)

  one_there : (xs : List RawPair) (i j : ℕ) → ArePairsIn xs → One (λ x. numbers.IsPair net x i j) xs → One (λ x. words.IsPair names net x i j) xs
  one_there [] i j k o = absurd o
  one_there (x ∷ xs) i j k (inl o) = inl (pair_there x i j k.0 o)
  one_there (x ∷ xs) i j k (inr o) = inr (one_there xs i j k.1 o)

  one_back : (xs : List RawPair) (i j : ℕ) → ArePairsIn xs → One (λ x. words.IsPair names net x i j) xs → One (λ x. numbers.IsPair net x i j) xs
  one_back [] i j k o = absurd o
  one_back (x ∷ xs) i j k (inl o) = inl (pair_back x i j k.0 o)
  one_back (x ∷ xs) i j k (inr o) = inr (one_back xs i j k.1 o)

  ordered_there : (xs : List RawPair) → ArePairsIn xs → (i j : ℕ) → numbers.IsOrdered net xs i j → words.IsOrdered names net xs i j
  ordered_there xs k i j (inl c) = inl c
  ordered_there xs k i j (inr o) = inr (one_there xs i j k o)

  ordered_back : (xs : List RawPair) → ArePairsIn xs → (i j : ℕ) → words.IsOrdered names net xs i j → numbers.IsOrdered net xs i j
  ordered_back xs k i j (inl c) = inl c
  ordered_back xs k i j (inr o) = inr (one_back xs i j k o)

  precedes_by : (P R : ℕ → ℕ → Type 0) → ((i j : ℕ) → P i j → R i j) → (i j : ℕ) → Precedes P i j → Precedes R i j
  precedes_by P R f i j (direct p) = direct (f i j p)
  precedes_by P R f i j (through {j = k} p q) = through (precedes_by P R f i k p) (f k j q)

  closes_there : (xs : List RawPair) (x : RawPair) → ArePairsIn xs → IsIn names x.first.name × IsIn names x.then.name → numbers.ClosesOrder net xs x → words.ClosesOrder names net xs x
  closes_there xs x k l (i, j, p, inl e) = (i, j, pair_there x i j l p, inl e)
  closes_there xs x k l (i, j, p, inr q) = (i, j, pair_there x i j l p, inr (precedes_by (numbers.IsOrdered net xs) (words.IsOrdered names net xs) (ordered_there xs k) j i q))

  closes_back : (xs : List RawPair) (x : RawPair) → ArePairsIn xs → IsIn names x.first.name × IsIn names x.then.name → words.ClosesOrder names net xs x → numbers.ClosesOrder net xs x
  closes_back xs x k l (i, j, p, inl e) = (i, j, pair_back x i j l p, inl e)
  closes_back xs x k l (i, j, p, inr q) = (i, j, pair_back x i j l p, inr (precedes_by (words.IsOrdered names net xs) (numbers.IsOrdered net xs) (ordered_back xs k) j i q))

-- the first for which the one holds is the first for which the other does
pub first_by : {X : Type 0} (K : X → Type 0) (P Q : List X → X → Type 0) (xs : List X) (x : X) → EachIs K xs → ((ys : List X) (y : X) → EachIs K ys → K y → P ys y → Q ys y) → ((ys : List X) (y : X) → EachIs K ys → K y → Q ys y → P ys y) → IsFirst P xs x → IsFirst Q xs x
first_by K P Q xs x k there back first =
    let all = subst (EachIs K) first.parts k in
    let front = each_front K first.front (x ∷ first.rest) all in
    record {
      front = first.front;
      rest = first.rest;
      parts = first.parts;
      is = there first.front x front (each_back K first.front (x ∷ first.rest) all).0 first.is;
      none_before = λ before behind y e q.
          let within = subst (EachIs K) e front in
          first.none_before before behind y e (back before y (each_front K before (y ∷ behind) within) (each_back K before (y ∷ behind) within).0 q);
    }

pub has_unknown_ids : OfAllNetworks HasUnknownIds
has_unknown_ids names n code at of = (
  λ h. pairs_there names n of n.pairs code at of.pairs (flat_there (pair_faults n.subs) n.pairs (spot at code) h),
  λ u. flat_back (pair_faults n.subs) n.pairs (spot at code) (pairs_back names n of n.pairs code at of.pairs u.0 u.1),
)

pub has_cycle : OfAllNetworks HasCycle
has_cycle names n at of = (
  λ c. (c.0, (c.1.0, c.1.1, first_by known (numbers.ClosesOrder n) (words.ClosesOrder names n) n.pairs c.1.0 of.pairs (closes_there names n of) (closes_back names n of) c.1.2)),
  λ c. (c.0, (c.1.0, c.1.1, first_by known (words.ClosesOrder names n) (numbers.ClosesOrder n) n.pairs c.1.0 of.pairs (closes_back names n of) (closes_there names n of) c.1.2)),
)
  where
    known : RawPair → Type 0
    known x = IsIn names x.first.name × IsIn names x.then.name

-- 21
limit_there : (o : Option RawSub) (code at : ℕ) → Has (numbers.limit_at o) (spot at code) → (code ≡ 21) × ((s : RawSub) × (o ≡ Some s) × (s.at ≡ at))
limit_there None code at h = absurd h
limit_there (Some s) code at (inl e) = (sym (ap (λ (z : Spot). z.code) e), (s, refl, ap (λ (z : Spot). z.at) e))
limit_there (Some s) code at (inr e) = absurd e

limit_back : (o : Option RawSub) (s : RawSub) (code at : ℕ) → code ≡ 21 → o ≡ Some s → s.at ≡ at → Has (numbers.limit_at o) (spot at code)
limit_back o s code at c e f = subst (λ o. Has (numbers.limit_at o) (spot at code)) (sym e) (inl (ap (λ x. spot x 21) f ∙ ap (spot at) (sym c)))

pub has_limit : (n : RawNet) → HasLimit n
has_limit n code at = (
  limit_there (slice_get n.subs most_subtasks) code at,
  λ l. limit_back (slice_get n.subs most_subtasks) l.1.0 code at l.0 l.1.1 l.1.2,
)
