-- Places of names, filled in one by one, and what is found for a word.
use Rattle.std.proofs.Common.{ℕ, zero, suc, ◌≡◌, ◌+◌, ◌<◌, ◌≤◌, inl, inr, MatchOption, Bool, true, false, List, [], ◌∷◌, length, get_or, set, Option, Some, None, slice_get, cond, not, map, replicate, refl, ap, sym, subst, ◌∙◌, arith, length-set, get_or-set_same, get_or-set_other, true≢false}
use Rattle.std.specs.List.{position_or_len}
use Rattle.std.specs.Option.{option_map}
use Rattle.std.specs.Str.{bytes_eq}
use Rattle.std.proofs.lemmas.Bool.{cases_eq, cases_lt, lt-ltb}
use Rattle.std.proofs.lemmas.Option.{slice_get_within, slice_get-get_or, get_or_from_slice_get, slice_get-map}
use Rattle.std.proofs.lemmas.List.{set_past, length-replicate, length-map}
use Rattle.std.proofs.lemmas.List.Quantifiers.{position-Some}
use Rattle.std.proofs.lemmas.Slice.Eq.{bytes_eq-Decides}
use Rattle.htn_base.specs.declared.name.Name.{Name}
use Rattle.htn_base.specs.Different.{AreDifferent}
use Rattle.htn_base.specs.Table.{number_of}
use Rattle.htn_base.proofs.DifferentLemmas.{different-places}
use Rattle.problem_index.specs.Places.{HasNumber, HasWordAt, AreFirstPlaces, ArePlaces, Finds}

abbrev pub IsPlaceOf : ℕ → List Name → ℕ → Option ℕ → Type 0
IsPlaceOf many names n place = MatchOption place ((k : ℕ) → k < many → HasNumber names k n → ⊥) (λ k. HasNumber names k n)

one_number : (names : List Name) (i : ℕ) (x : Name) (n : ℕ) → slice_get names i ≡ Some x → HasNumber names i n → x.number ≡ n
one_number names i x n e (y, f, g) = let same : x ≡ y = cc in ap (λ (z : Name). z.number) same ∙ g

-- one name more, which is not of this number
other_name : (names : List Name) (i : ℕ) (x : Name) (n : ℕ) (place : Option ℕ) → slice_get names i ≡ Some x → (x.number ≡ n → ⊥) → IsPlaceOf i names n place → IsPlaceOf (i + 1) names n place
other_name names i x n (Some k) e f h = h
other_name names i x n None e f h = λ k l has. elim (cases_lt k i) [
  | inl m ↦ h k m has
  | inr m ↦ (let at : k ≡ i = omega arith in f (one_number names i x n e (subst (λ j. HasNumber names j n) at has)))
]

places_set : (names : List Name) (i : ℕ) (x : Name) (places : List (Option ℕ)) → slice_get names i ≡ Some x → x.number < length places → AreFirstPlaces i names places → AreFirstPlaces (i + 1) names (set places x.number (Some i))
places_set names i x places e l h n m =
    let within : n < length places = subst (λ k. n < k) (length-set places x.number (Some i)) m in
    elim (cases_eq n x.number) [
      | inl same ↦ subst (IsPlaceOf (i + 1) names n) (sym (ap (λ j. get_or (set places x.number (Some i)) j None) same ∙ get_or-set_same places x.number (Some i) None l)) (x, e, sym same)
      | inr other ↦ subst (IsPlaceOf (i + 1) names n) (sym (get_or-set_other places x.number n (Some i) None other)) (other_name names i x n (get_or places n None) e (λ s. other (sym s)) (h n within))
    ]

places_past : (names : List Name) (i : ℕ) (x : Name) (places : List (Option ℕ)) → slice_get names i ≡ Some x → length places ≤ x.number → AreFirstPlaces i names places → AreFirstPlaces (i + 1) names places
places_past names i x places e l h n m = other_name names i x n (get_or places n None) e (λ s. (let t = ap (λ j. j) s in omega arith)) (h n m)

-- one name more, whose place is noted where there is a place for its number
places_more : (names : List Name) (i : ℕ) (x : Name) (places : List (Option ℕ)) → slice_get names i ≡ Some x → AreFirstPlaces i names places → AreFirstPlaces (i + 1) names (set places x.number (Some i))
places_more names i x places e h = elim (cases_lt x.number (length places)) [
  | inl l ↦ places_set names i x places e l h
  | inr l ↦ subst (AreFirstPlaces (i + 1) names) (sym (set_past places x.number (Some i) l)) (places_past names i x places e l h)
]

no_places : (names : List Name) (count : ℕ) → AreFirstPlaces 0 names (replicate count None)
no_places names count n m = subst (IsPlaceOf 0 names n) (sym (none count n)) (λ k l has. absurd (omega arith))
  where
    none : (count n : ℕ) → ◌≡◌ {A = Option ℕ} (get_or (replicate count None) n None) None
    none zero n = refl
    none (suc c) zero = refl
    none (suc c) (suc n) = none c n

all_places : (names : List Name) (i count : ℕ) (places : List (Option ℕ)) → length names ≤ i → length places ≡ count → AreFirstPlaces i names places → ArePlaces count names places
all_places names i count places l r h = record { room = r; each = λ n m. go n (get_or places n None) (h n m) }
  where
    go : (n : ℕ) (place : Option ℕ) → IsPlaceOf i names n place → IsPlaceOf (length names) names n place
    go n (Some k) p = p
    go n None p = λ k m has. p k (omega arith) has

module _ {X : Type 0} (name : X → Name) (xs : List X) (count : ℕ) where
  -- the places of the first i things, by their names
  abbrev pub AreNoted : ℕ → List (Option ℕ) → Type 0
  AreNoted i places = (length places ≡ count) × AreFirstPlaces i (map name xs) places

  pub noted_none : (places : List (Option ℕ)) → places ≡ replicate count None → AreNoted 0 places
  noted_none places e = (ap length e ∙ length-replicate count None, subst (AreFirstPlaces 0 (map name xs)) (sym e) (no_places (map name xs) count))

  pub noted_more : (i : ℕ) (x : X) (old new : List (Option ℕ)) → i < length xs → x ≡ get_or xs i x → new ≡ set old (name x).number (Some i) → AreNoted i old → AreNoted (i + 1) new
  noted_more i x old new l e s h =
      let at : slice_get (map name xs) i ≡ Some (name x) = slice_get-map name xs i ∙ ap (option_map name) (slice_get-get_or xs i x l ∙ ap (λ y. Some y) (sym e)) in
      (ap length s ∙ (length-set old (name x).number (Some i) ∙ h.0), subst (AreFirstPlaces (i + 1) (map name xs)) (sym s) (places_more (map name xs) i (name x) old at h.1))

  pub noted_all : (i : ℕ) (places : List (Option ℕ)) → length xs ≤ i → AreNoted i places → ArePlaces count (map name xs) places
  noted_all i places l h = all_places (map name xs) i count places (let n = length-map xs name in omega (arith, n, l)) h.0 h.1

-- the number of a word is the one place at which it stands
word_there : (table : List (List ℕ)) (word : List ℕ) (n : ℕ) → number_of table word ≡ Some n → slice_get table n ≡ Some word
word_there table word n e =
    let p = position-Some (bytes_eq word) table n [] e in
    slice_get-get_or table n [] p.0 ∙ ap (λ w. Some w) (sym ((bytes_eq-Decides word (get_or table n [])).0 p.1))

first_within : {X : Type 0} (p : X → Bool) (xs : List X) (n : ℕ) (d : X) → n < length xs → p (get_or xs n d) ≡ true → position_or_len p xs < length xs
first_within p [] n d l e = absurd (omega arith)
first_within p (x ∷ xs) zero d l e = by (p x) e
  where
    by : (now : Bool) → now ≡ true → cond (not now) (1 + position_or_len p xs) 0 < length (x ∷ xs)
    by true f = omega arith
    by false f = absurd (true≢false (sym f))
first_within p (x ∷ xs) (suc n) d l e = by (p x) (first_within p xs n d (omega arith) e)
  where
    by : (now : Bool) → position_or_len p xs < length xs → cond (not now) (1 + position_or_len p xs) 0 < length (x ∷ xs)
    by true f = omega arith
    by false f = omega arith

-- a word that stands somewhere has a number
word_numbered : (table : List (List ℕ)) (word : List ℕ) (n : ℕ) → slice_get table n ≡ Some word → number_of table word ≡ Some (position_or_len (bytes_eq word) table)
word_numbered table word n e =
    let l = slice_get_within table n word e in
    let is = get_or_from_slice_get table n word [] e in
    let first = first_within (bytes_eq word) table n [] l ((bytes_eq-Decides word (get_or table n [])).1 (sym is)) in
    ap (λ found. cond found (Some (position_or_len (bytes_eq word) table)) None) (lt-ltb _ _ first)

pub not_numbered : (table : List (List ℕ)) (word : List ℕ) (n : ℕ) → number_of table word ≡ None → slice_get table n ≡ Some word → ⊥
not_numbered table word n e f = let g : None ≡ Some (position_or_len (bytes_eq word) table) = sym e ∙ word_numbered table word n f in absurd cc

pub one_place : (table : List (List ℕ)) (word : List ℕ) (n m : ℕ) → AreDifferent table → slice_get table n ≡ Some word → slice_get table m ≡ Some word → n ≡ m
one_place table word n m differ e f =
    let a = slice_get_within table n word e in
    let b = slice_get_within table m word f in
    let same : get_or table n [] ≡ get_or table m [] = get_or_from_slice_get table n word [] e ∙ sym (get_or_from_slice_get table m word [] f) in
    elim (cases_lt n m) [
      | inl l ↦ absurd (different-places table differ n m [] l b same)
      | inr l ↦ elim (cases_lt m n) [
        | inl k ↦ absurd (different-places table differ m n [] k a (sym same))
        | inr k ↦ omega arith
      ]
    ]

-- where the word has no number, nothing has the word
pub finds_none : (table : List (List ℕ)) (places : List (Option ℕ)) (word : List ℕ) → number_of table word ≡ None → Finds table places word None
finds_none table places word e names are k (x, f, g) = not_numbered table word x.number e g

-- where it has one, the place of the number is that of the word
pub finds_at : (table : List (List ℕ)) (places : List (Option ℕ)) (word : List ℕ) (n : ℕ) (place : Option ℕ) → AreDifferent table → number_of table word ≡ Some n → slice_get places n ≡ Some place → Finds table places word place
finds_at table places word n place differ e at names are = go place (subst (IsPlaceOf (length names) names n) (get_or_from_slice_get places n place None at) (are.each n (slice_get_within places n place at)))
  where
    there : slice_get table n ≡ Some word
    there = word_there table word n e

    go : (place : Option ℕ) → IsPlaceOf (length names) names n place → MatchOption place ((k : ℕ) → HasWordAt table names word k → ⊥) (HasWordAt table names word)
    go (Some k) (x, f, g) = (x, f, subst (λ j. slice_get table j ≡ Some word) (sym g) there)
    go None h = λ k has. h k (slice_get_within names k has.0 has.1) (has.0, has.1, one_place table word has.0.number n differ has.2 there)
