-- What is noted of a section of types is the least of its faults.
use Rattle.std.proofs.Common.{ℕ, zero, suc, ◌≡◌, ◌+◌, ◌<◌, ◌≤◌, ◌⊎◌, inl, inr, slice_get, List, [], ◌∷◌, ◌++◌, Option, Some, None, false, cond, refl, ap, sym, subst, ◌∙◌, Contains, arith}
use Rattle.std.specs.Prelude.{Any, MatchOption}
use Rattle.std.proofs.lemmas.Bool.{cases_Bool, cases_lt, eq-eqb}
use Rattle.std.proofs.lemmas.Bool.Decides.{nat_tests}
use Rattle.std.proofs.lemmas.List.Elements.{All-nil, All-cons, All-head}
use Rattle.plan_model.specs.Pairs.{pair}
use Rattle.htn_base.specs.Lists.{Each, IsFirst}
use Rattle.name_binding.specs.Places.{first_place}
use Rattle.name_binding.specs.Spots.{spot, is_in_front, sooner, noted, AreLeastOf}
use Rattle.name_binding.specs.declared.faults.Spot.{Spot}
use Rattle.name_binding.proofs.Least.{not_in_front_after}
use Rattle.gd_reader.specs.declared.term.RawTerm.{RawTerm}
use Rattle.gd_reader.specs.declared.typed_lists.RawParam.{RawParam}
use Rattle.name_binding.specs.Cycle.{ClosesCycle, IsTypeCycle, IsSectionFault, IsSection}
use Rattle.name_binding.specs.Mentions.{own_word, mentioned, AreInTextOrder, types_in_order}
use Rattle.name_binding.specs.PairsAmong.{if_at, place_among, places_among, IsCycleAmong}
use Rattle.name_binding.specs.TooMany.{IsTooManyTypes, NotesLeast, NoneIsOfType, IsFirstOfType}
use Rattle.name_binding.proofs.CycleLemmas.{IsKnownAmong, each-back, none_closes, found as item_found, item_is_first, none_in_front}
use Rattle.name_binding.proofs.KnownLemmas.{Rises, rises, front-below, rises-back, each-weaker, own-mentioned, all-known, known-up-to, each-known}
use Rattle.name_binding.proofs.PairLemmas.{cut_of, place-among, place-at, IsPairAt}
use Rattle.name_binding.proofs.TooManyNoted.{found, absent}

-- a fault behind another is not the least
later-spot : (s t : Spot) → s.at < t.at → is_in_front t s ≡ false
later-spot s t l = grind (arith, nat_tests, l)

kept-sooner : (old : Option Spot) (s t : Spot) → s.at < t.at → sooner (sooner old s) t ≡ sooner old s
kept-sooner None s t l = ap (λ b. cond b (Some t) (Some s)) (later-spot s t l)
kept-sooner (Some o) s t l = elim (cases_Bool (is_in_front s o)) [
  | inl b ↦
      let e : sooner (Some o) s ≡ Some s = ap (λ c. cond c (Some s) (Some o)) b in
      ap (λ x. sooner x t) e ∙ ap (λ c. cond c (Some t) (Some s)) (later-spot s t l) ∙ sym e
  | inr b ↦
      let e : sooner (Some o) s ≡ Some o = ap (λ c. cond c (Some s) (Some o)) b in
      ap (λ x. sooner x t) e ∙ ap (λ c. cond c (Some t) (Some o)) (not_in_front_after t s o (later-spot s t l) b) ∙ sym e
]

module _ (most object : ℕ) (xs : List RawParam) (words : List RawTerm) (order : AreInTextOrder xs words) (section : IsSection xs) where
  abbrev types : List ℕ
  types = types_in_order object words

  abbrev count : ℕ
  count = most + 2

  pub object-first : place_among types count object ≡ Some 0
  object-first = place-among types count object 0 first (omega arith)
    where
      first : first_place object types ≡ Some 0
      first = rw (eq-eqb object object refl) refl

  abbrev Known : RawParam → Type 0
  Known x = IsKnownAmong types count x

  -- up to this place all words are known
  abbrev KnownTo : (RawParam → Type 0) → Type 0
  KnownTo P = (x : RawParam) → Contains (mentioned xs) (own_word x) → P x → Known x

  rising : Rises xs
  rising = rises xs section.in_order

  -- words of which P holds are known, and so are those in front of them
  module _ (P : RawParam → Type 0) (known : KnownTo P) (earlier : (x y : RawParam) → y.at < x.at → P x → P y) where
    known-front : (front rest : List RawParam) (x : RawParam) → xs ≡ front ++ x ∷ rest → P x → Each Known front
    known-front front rest x e p =
        each-known most object xs words order section.words P known [] front (x ∷ rest)
        (each-weaker (λ (y : RawParam). y.at < x.at) P (λ y l. earlier x y l p) front (front-below front rest x (subst Rises e rising))) e

    known-word : (front rest : List RawParam) (x : RawParam) → xs ≡ front ++ x ∷ rest → P x → Known x
    known-word front rest x e p = known x (subst (λ ys. Contains (mentioned ys) (own_word x)) (sym e) (own-mentioned front rest x)) p

    -- without a cycle among them
    pub none-first : IsCycleAmong types count xs None → (x : RawParam) → P x → IsFirst (ClosesCycle object) xs x → ⊥
    none-first acyclic x p g =
        none_closes types count object object-first xs g.front g.rest x acyclic g.parts (known-front g.front g.rest x g.parts p) (known-word g.front g.rest x g.parts p) g.is

    module _ (at : ℕ) (c : IsCycleAmong types count xs (Some at)) where
      abbrev pub item : RawParam
      item = (item_found types count object object-first xs c.0 c.1).item

      pub item-at : item.at ≡ at
      item-at =
          let p = place-at types count xs c.1.before (pair c.1.first c.1.second) (item_found types count object object-first xs c.0 c.1) in
          let q = ap (slice_get (places_among types count xs)) c.1.place in
          let e : Some item.at ≡ Some at = sym p ∙ q ∙ c.2 in
          cc

      pub item-first : P item → IsFirst (ClosesCycle object) xs item
      item-first p =
          let w = item_found types count object object-first xs c.0 c.1 in
          item_is_first types count object object-first xs c.0 c.1 (known-front w.front w.back w.item w.parts p)

      -- any other one stands behind it
      pub others-behind : (x : RawParam) → P x → IsFirst (ClosesCycle object) xs x → at ≤ x.at
      others-behind x p g = go (cut_of w.front (w.item ∷ w.back) g.front x g.rest (sym w.parts ∙ g.parts))
        where
          w : IsPairAt types count xs c.1.before (pair c.1.first c.1.second)
          w = item_found types count object object-first xs c.0 c.1

          go : ((m : List RawParam) × (w.front ≡ g.front ++ x ∷ m)) ⊎ ((m : List RawParam) × (g.front ≡ w.front ++ m) × (w.item ∷ w.back ≡ m ++ x ∷ g.rest)) → at ≤ x.at
          go (inl (m, e)) = absurd (none_in_front types count object object-first xs c.0 c.1 g.front m x e (known-front g.front g.rest x g.parts p) (known-word g.front g.rest x g.parts p) g.is)
          go (inr ([], e, f)) = let s : w.item ≡ x = cc in let a = ap (λ (y : RawParam). y.at) s in let b = item-at in omega (arith, a, b)
          go (inr (y ∷ m, e, f)) =
              let back : w.back ≡ m ++ x ∷ g.rest = cc in
              let r = rises-back w.front (w.item ∷ w.back) (subst Rises w.parts rising) in
              let l = (each-back (λ (z : RawParam). w.item.at < z.at) m (x ∷ g.rest) (subst (Each (λ (z : RawParam). w.item.at < z.at)) back r.0)).0 in
              let b = item-at in
              omega (arith, l, b)

  behind : (s : Spot) (at : ℕ) → at ≤ s.at → s.code ≡ 12 → is_in_front s (spot at 12) ≡ false
  behind s at l e = grind (arith, nat_tests, l, e)

  further : (s : Spot) (at code : ℕ) → at < s.at → is_in_front s (spot at code) ≡ false
  further s at code l = grind (arith, nat_tests, l)

  abbrev IsFault : Spot → Type 0
  IsFault s = IsSectionFault most object xs s

  -- where no type is one too many
  module _ (none : NoneIsOfType types (most + 1) words) where
    abbrev Any-word : RawParam → Type 0
    Any-word x = Unit {0}

    known-all : KnownTo Any-word
    known-all x m p = all-known most object xs words order section.words none (own_word x) m

    all-earlier : (x y : RawParam) → y.at < x.at → Any-word x → Any-word y
    all-earlier x y l p = tt

    none-too-many : (s : Spot) → IsTooManyTypes most object xs s → ⊥
    none-too-many s m = let a = (absent most object xs words order section.words none).least s m in let l = a.2 in omega (arith, l)

    pub without-limit : (cycle : Option ℕ) → IsCycleAmong types count xs cycle → AreLeastOf IsFault (if_at 12 cycle)
    without-limit None c = record {
      sound = All-nil IsFault;
      least = λ s h. absurd (no s h);
    }
      where
        no : (s : Spot) → IsFault s → ⊥
        no s (inl m) = none-too-many s m
        no s (inr t) = none-first Any-word known-all all-earlier c t.1.0 tt t.1.2
    without-limit (Some at) c = record {
      sound = All-cons IsFault (spot at 12) [] (inr (refl, (item Any-word known-all all-earlier at c, item-at Any-word known-all all-earlier at c, item-first Any-word known-all all-earlier at c tt))) (All-nil IsFault);
      least = λ s h. (0, spot at 12, omega arith, refl, by s h);
    }
      where
        by : (s : Spot) → IsFault s → is_in_front s (spot at 12) ≡ false
        by s (inl m) = absurd (none-too-many s m)
        by s (inr t) = behind s at (let l = others-behind Any-word known-all all-earlier at c t.1.0 tt t.1.2 in let e = t.1.1 in omega (arith, l, e)) t.0

  -- where the first word of that type stands at this place
  module _ (limit : ℕ) (f : IsFirstOfType types (most + 1) words limit) where
    abbrev Up-to : RawParam → Type 0
    Up-to x = x.at ≤ limit

    known-there : KnownTo Up-to
    known-there x m p = known-up-to most object xs words order section.words limit f (own_word x) m p

    earlier-there : (x y : RawParam) → y.at < x.at → Up-to x → Up-to y
    earlier-there x y l p = omega (arith, l, p)

    limit-fault : IsFault (spot limit 22)
    limit-fault = inl (All-head (IsTooManyTypes most object xs) (spot limit 22) [] (found most object xs words order section.words limit f).sound)

    only : {P : Spot → Type 0} (s : Spot) → Any P (s ∷ []) → P s
    only {P = P} s (zero, t, l, e, p) = subst P (sym e) p
    only s (suc k, t, l, e, p) = absurd (omega (arith, l))

    first-too-many : (s : Spot) → IsTooManyTypes most object xs s → is_in_front s (spot limit 22) ≡ false
    first-too-many s m = only (spot limit 22) ((found most object xs words order section.words limit f).least s m)

    -- where each cycle that is a fault stands further on
    limit-alone : ((s : Spot) → IsTypeCycle object xs s → limit < s.at) → AreLeastOf IsFault (spot limit 22 ∷ [])
    limit-alone past = record {
      sound = All-cons IsFault (spot limit 22) [] limit-fault (All-nil IsFault);
      least = λ s h. (0, spot limit 22, omega arith, refl, by s h);
    }
      where
        by : (s : Spot) → IsFault s → is_in_front s (spot limit 22) ≡ false
        by s (inl m) = first-too-many s m
        by s (inr t) = further s limit 22 (past s t)

    abbrev Noted : Option ℕ → Type 0
    Noted cycle = (old : Option Spot) → (spots : List Spot) × AreLeastOf IsFault spots × (noted (noted old (spot limit 22 ∷ [])) (if_at 12 cycle) ≡ noted old spots)

    module _ (at : ℕ) (c : IsCycleAmong types count xs (Some at)) where
      not-earlier : (s : Spot) → IsTypeCycle object xs s → s.at ≤ limit → at ≤ s.at
      not-earlier s t l =
          let e = t.1.1 in
          let b = others-behind Up-to known-there earlier-there at c t.1.0 (omega (arith, l, e)) t.1.2 in
          omega (arith, b, e)

      further-on : limit < at → Noted (Some at)
      further-on l old = (
        spot limit 22 ∷ [],
        limit-alone (λ s t. elim (cases_lt limit s.at) [ inl b ↦ b | inr b ↦ let q = not-earlier s t b in absurd (omega (arith, q, l, b)) ]),
        kept-sooner old (spot limit 22) (spot at 12) l,
      )

      up-to : at ≤ limit → Noted (Some at)
      up-to l old = (
        spot limit 22 ∷ spot at 12 ∷ [],
        record {
          sound = All-cons IsFault (spot limit 22) (spot at 12 ∷ []) limit-fault (All-cons IsFault (spot at 12) [] (inr (refl, (item Up-to known-there earlier-there at c, there, item-first Up-to known-there earlier-there at c (omega (arith, l, there))))) (All-nil IsFault));
          least = λ s h. by s h;
        },
        refl,
      )
        where
          there : (item Up-to known-there earlier-there at c).at ≡ at
          there = item-at Up-to known-there earlier-there at c

          by : (s : Spot) → IsFault s → Any (λ t. is_in_front s t ≡ false) (spot limit 22 ∷ spot at 12 ∷ [])
          by s (inl m) = (0, spot limit 22, omega arith, refl, first-too-many s m)
          by s (inr t) = elim (cases_lt limit s.at) [
            | inl b ↦ (0, spot limit 22, omega arith, refl, further s limit 22 b)
            | inr b ↦ (1, spot at 12, omega arith, refl, behind s at (not-earlier s t b) t.0)
          ]

    pub with-limit : (cycle : Option ℕ) → IsCycleAmong types count xs cycle → Noted cycle
    with-limit None c old = (
      spot limit 22 ∷ [],
      limit-alone (λ s t. elim (cases_lt limit s.at) [
        | inl b ↦ b
        | inr b ↦ let e = t.1.1 in absurd (none-first Up-to known-there earlier-there c t.1.0 (omega (arith, e, b)) t.1.2)
      ]),
      refl,
    )
    with-limit (Some at) c old = elim (cases_lt limit at) [
      | inl l ↦ further-on at c l old
      | inr l ↦ up-to at c l old
    ]

  -- what is noted in the end
  pub section-noted : (ts : List ℕ) (ws : List RawTerm) → ts ≡ types → ws ≡ words
      → (limit : Option ℕ) → MatchOption limit (NoneIsOfType ts (most + 1) ws) (IsFirstOfType ts (most + 1) ws)
      → (cycle : Option ℕ) → IsCycleAmong ts count xs cycle
      → (old now new : Option Spot) → now ≡ noted old (if_at 22 limit) → new ≡ noted now (if_at 12 cycle)
      → NotesLeast IsFault old new
  section-noted ts ws are same None none cycle c old now new e f = (
    if_at 12 cycle,
    without-limit (subst (NoneIsOfType types (most + 1)) same (subst (λ t. NoneIsOfType t (most + 1) ws) are none)) cycle (subst (λ t. IsCycleAmong t count xs cycle) are c),
    f ∙ ap (λ o. noted o (if_at 12 cycle)) e,
  )
  section-noted ts ws are same (Some limit) first cycle c old now new e f =
      let is = subst (λ v. IsFirstOfType types (most + 1) v limit) same (subst (λ t. IsFirstOfType t (most + 1) ws limit) are first) in
      let (spots, least, whole) = with-limit limit is cycle (subst (λ t. IsCycleAmong t count xs cycle) are c) old in
      (spots, least, f ∙ ap (λ o. noted o (if_at 12 cycle)) e ∙ whole)
