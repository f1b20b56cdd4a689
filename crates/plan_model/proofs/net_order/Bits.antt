-- Bits of the words of a set, and its marks.
use Rattle.std.proofs.Common.{ℕ, zero, suc, ◌≡◌, ◌≢◌, ◌+◌, ◌-◌, ◌*◌, ◌/◌, ◌%◌, ◌^◌, ◌<◌, ◌≤◌, ◌⊎◌, ◌||◌, min, max, inl, inr, List, length, Bool, true, false, IsTrue, get_or, set, eqb, refl, sym, subst, ap, ◌∙◌, arith, length-set, replicate, get_or-set_same, get_or-set_other, w64, bit_and, bit_or}
use Rattle.std.specs.Int.{bit_at, bit_not, trailing_zeros}
use Rattle.std.proofs.lemmas.List.{get_or_past, ext_get_or, length-replicate, get_or-replicate}
use Rattle.std.proofs.lemmas.List.FromFn.{length-map-range_with_len, get_or-map-range_with_len}
use Rattle.std.proofs.lemmas.Nat.Bits.{bit_at_set_same, bit_at_set_other, bit_at_or, bit_at_and, bit_at_not, bit_at-lt, bit_at-zero, bit_at-trailing_zeros}
use Rattle.std.proofs.lemmas.Nat.{and_le_l}
use Rattle.std.proofs.lemmas.Bool.{cases_lt, cases_eq, eqb-true, eq-eqb, false≢true}
use Rattle.plan_model.specs.net_order.Marks.{has, IsLeastOutside}
use Rattle.plan_model.specs.net_order.Words.{is_set, marks_of, AreWords}

pub length-marks_of : (count : ℕ) (words : List ℕ) → length (marks_of count words) ≡ count
unfolding marks_of
length-marks_of count words = length-map-range_with_len (is_set words) 0 count

pub has-marks_of : (count : ℕ) (words : List ℕ) → AreWords count words → (i : ℕ) → has (marks_of count words) i ≡ is_set words i
unfolding marks_of
has-marks_of count words h i = elim (cases_lt i count) [
  | inl l ↦ get_or-map-range_with_len (is_set words) 0 count i i false l (omega arith)
  | inr l ↦ get_or_past (marks_of count words) i false (omega (arith, length-marks_of count words)) ∙ sym (h.none_past i l)
]

-- two sets of one network with the same marks are the same
pub same_marks : (xs ys : List Bool) → length xs ≡ length ys → ((i : ℕ) → i < length xs → has xs i ≡ has ys i) → xs ≡ ys
same_marks = ext_get_or false

module _ (words : List ℕ) (c : ℕ) where
  abbrev pub with_bit : List ℕ
  with_bit = set words (c / 64) (bit_or (get_or words (c / 64) 0) (1 * 2 ^ (c % 64) % 2 ^ 64))

  pub is_set_same : c / 64 < length words → is_set with_bit c ≡ true
  is_set_same l = ap (λ w. eqb (bit_at w (c % 64)) 1) (get_or-set_same words (c / 64) (bit_or (get_or words (c / 64) 0) (1 * 2 ^ (c % 64) % 2 ^ 64)) 0 l)
      ∙ eq-eqb (bit_at (bit_or (get_or words (c / 64) 0) (1 * 2 ^ (c % 64) % 2 ^ 64)) (c % 64)) 1 (bit_at_set_same w64 (get_or words (c / 64) 0) (c % 64) (omega arith))

  pub is_set_other : c / 64 < length words → (i : ℕ) → (i ≡ c → ⊥) → is_set with_bit i ≡ is_set words i
  is_set_other l i d = go (cases_eq (i / 64) (c / 64))
    where
      go : ((i / 64 ≡ c / 64) ⊎ (i / 64 ≡ c / 64 → ⊥)) → is_set with_bit i ≡ is_set words i
      go (inr f) = ap (λ w. eqb (bit_at w (i % 64)) 1) (get_or-set_other words (c / 64) (i / 64) (bit_or (get_or words (c / 64) 0) (1 * 2 ^ (c % 64) % 2 ^ 64)) 0 f)
      go (inl e) =
          let apart : i % 64 ≢ c % 64 = (λ f. d (omega arith)) in
          let at : get_or with_bit (i / 64) 0 ≡ bit_or (get_or words (c / 64) 0) (1 * 2 ^ (c % 64) % 2 ^ 64) =
          ap (λ k. get_or with_bit k 0) e ∙ get_or-set_same words (c / 64) (bit_or (get_or words (c / 64) 0) (1 * 2 ^ (c % 64) % 2 ^ 64)) 0 l in
          ap (λ w. eqb (bit_at w (i % 64)) 1) at
          ∙ (ap (λ b. eqb b 1) (bit_at_set_other w64 (get_or words (c / 64) 0) (c % 64) (omega arith) (i % 64) apart)
          ∙ ap (λ k. eqb (bit_at (get_or words k 0) (i % 64)) 1) (sym e))

pub word_within : (count : ℕ) (words : List ℕ) (c : ℕ) → AreWords count words → c < count → c / 64 < length words
word_within count words c h l = let e = h.room in omega arith

pub insert_words : (count : ℕ) (words : List ℕ) (c : ℕ) → AreWords count words → c < count → AreWords count (with_bit words c)
insert_words count words c h l = record {
  room = length-set words (c / 64) (bit_or (get_or words (c / 64) 0) (1 * 2 ^ (c % 64) % 2 ^ 64)) ∙ h.room;
  none_past = λ i a. (is_set_other words c (word_within count words c h l) i (omega arith) ∙ h.none_past i a);
}

pub insert_marks : (count : ℕ) (words : List ℕ) (c : ℕ) → AreWords count words → c < count → marks_of count (with_bit words c) ≡ set (marks_of count words) c true
insert_marks count words c h l = same_marks (marks_of count (with_bit words c)) (set (marks_of count words) c true)
    (length-marks_of count (with_bit words c) ∙ sym (length-set (marks_of count words) c true ∙ length-marks_of count words)) (λ i a. at i (cases_eq i c))
  where
    w : c / 64 < length words
    w = word_within count words c h l

    here : has (marks_of count (with_bit words c)) c ≡ has (set (marks_of count words) c true) c
    here = has-marks_of count (with_bit words c) (insert_words count words c h l) c ∙ (is_set_same words c w ∙ sym (get_or-set_same (marks_of count words) c true false (omega (arith, length-marks_of count words))))

    at : (i : ℕ) → ((i ≡ c) ⊎ (i ≡ c → ⊥)) → has (marks_of count (with_bit words c)) i ≡ has (set (marks_of count words) c true) i
    at i (inl e) = subst (λ x. has (marks_of count (with_bit words c)) x ≡ has (set (marks_of count words) c true) x) (sym e) here
    at i (inr d) = has-marks_of count (with_bit words c) (insert_words count words c h l) i ∙ (is_set_other words c w i d ∙ (sym (has-marks_of count words h i) ∙ sym (get_or-set_other (marks_of count words) c i true false d)))

-- a bit of two words
either_bit : (a b : ℕ) → a < 2 → b < 2 → eqb (max a b) 1 ≡ (eqb a 1 || eqb b 1)
either_bit zero zero l m = refl
either_bit zero (suc zero) l m = refl
either_bit (suc zero) zero l m = refl
either_bit (suc zero) (suc zero) l m = refl
either_bit (suc (suc a)) b l m = absurd (omega arith)
either_bit zero (suc (suc b)) l m = absurd (omega arith)
either_bit (suc zero) (suc (suc b)) l m = absurd (omega arith)

pub is_set_or : (xs ys zs : List ℕ) → ((k : ℕ) → get_or zs k 0 ≡ bit_or (get_or xs k 0) (get_or ys k 0)) → (i : ℕ) → is_set zs i ≡ (is_set xs i || is_set ys i)
is_set_or xs ys zs h i =
    let x = get_or xs (i / 64) 0 in
    let y = get_or ys (i / 64) 0 in
    ap (λ w. eqb (bit_at w (i % 64)) 1) (h (i / 64))
    ∙ (ap (λ b. eqb b 1) (bit_at_or (get_or xs (i / 64) 0) (get_or ys (i / 64) 0) (i % 64)) ∙ either_bit (bit_at (get_or xs (i / 64) 0) (i % 64)) (bit_at (get_or ys (i / 64) 0) (i % 64)) (bit_at-lt (get_or xs (i / 64) 0) (i % 64)) (bit_at-lt (get_or ys (i / 64) 0) (i % 64)))

pub count_of : (count : ℕ) (words : List ℕ) (marks : List Bool) → marks_of count words ≡ marks → length marks ≡ count
count_of count words marks e = ap length (sym e) ∙ length-marks_of count words

pub same_count : (m : ℕ) (xs : List ℕ) (a : List Bool) (n : ℕ) (ys : List ℕ) (b : List Bool) → marks_of m xs ≡ a → marks_of n ys ≡ b → length b ≡ length a → n ≡ m
same_count m xs a n ys b e f l = sym (count_of n ys b f) ∙ (l ∙ count_of m xs a e)

-- sets of as many children have as many words
pub same_room : (m : ℕ) (xs : List ℕ) (a : List Bool) (n : ℕ) (ys : List ℕ) (b : List Bool) → marks_of m xs ≡ a → marks_of n ys ≡ b → AreWords m xs → AreWords n ys → length b ≡ length a → length ys ≡ length xs
same_room m xs a n ys b e f g h l =
    let c = same_count m xs a n ys b e f l in
    h.room ∙ (ap (λ x. x / 64 + 1) c ∙ sym g.room)

-- a read of the marks is one of the words
pub reads : (count : ℕ) (words : List ℕ) (marks : List Bool) → marks_of count words ≡ marks → AreWords count words → (i : ℕ) → has marks i ≡ is_set words i
reads count words marks e h i = ap (λ xs. has xs i) (sym e) ∙ has-marks_of count words h i

pub past_words : (words : List ℕ) (i : ℕ) → length words ≤ i / 64 → is_set words i ≡ false
past_words words i l = ap (λ w. eqb (bit_at w (i % 64)) 1) (get_or_past words (i / 64) 0 l) ∙ ap (λ b. eqb b 1) (bit_at-zero (i % 64))

pub none_set : (n : ℕ) (i : ℕ) → is_set (replicate n 0) i ≡ false
none_set n i = elim (cases_lt (i / 64) n) [
  | inl l ↦ ap (λ w. eqb (bit_at w (i % 64)) 1) (get_or-replicate n (i / 64) 0 0 l) ∙ zero_bit
  | inr l ↦ ap (λ w. eqb (bit_at w (i % 64)) 1) (get_or_past (replicate n 0) (i / 64) 0 (let e = length-replicate {A = ℕ} n 0 in omega arith)) ∙ zero_bit
]
  where
    zero_bit : eqb (bit_at 0 (i % 64)) 1 ≡ false
    zero_bit = ap (λ b. eqb b 1) (bit_at-zero (i % 64))

module _ (xs ys : List ℕ) where
  abbrev pub rest : ℕ → ℕ
  rest k = bit_and (get_or xs k 0) (bit_not w64 (get_or ys k 0))

  bit_of_rest : (k b : ℕ) → get_or ys k 0 < 2 ^ 64 → b < 64 → bit_at (rest k) b ≡ min (bit_at (get_or xs k 0) b) (1 - bit_at (get_or ys k 0) b)
  bit_of_rest k b f l = bit_at_and (get_or xs k 0) (bit_not w64 (get_or ys k 0)) b ∙ ap (λ y. min (bit_at (get_or xs k 0) b) y) (bit_at_not w64 (get_or ys k 0) b f l)

  -- where no word has a bit that the other lacks, no child is in the first set alone
  pub set_within : (i : ℕ) → get_or ys (i / 64) 0 < 2 ^ 64 → rest (i / 64) ≡ 0 → IsTrue (is_set xs i) → IsTrue (is_set ys i)
  set_within i f e t =
      let a = eqb-true (bit_at (get_or xs (i / 64) 0) (i % 64)) 1 t in
      let r = sym (bit_of_rest (i / 64) (i % 64) f (omega arith)) ∙ (ap (λ w. bit_at w (i % 64)) e ∙ bit_at-zero (i % 64)) in
      let m = bit_at-lt (get_or ys (i / 64) 0) (i % 64) in
      eq-eqb (bit_at (get_or ys (i / 64) 0) (i % 64)) 1 (omega arith)

  -- where a word has a bit that the other lacks, the lowest such bit is the first of its children that the first set has alone
  module _ (k : ℕ) (f : get_or xs k 0 < 2 ^ 64) (g : get_or ys k 0 < 2 ^ 64) (some : 0 < rest k) where
    abbrev lowest : ℕ
    lowest = trailing_zeros w64 (rest k)

    fits : rest k < 2 ^ 64
    fits = let l = and_le_l (get_or xs k 0) (bit_not w64 (get_or ys k 0)) in omega arith

    places : (lowest < 64) × (bit_at (rest k) lowest ≡ 1) × ((b : ℕ) → b < lowest → bit_at (rest k) b ≡ 0)
    places = bit_at-trailing_zeros w64 (rest k) some fits

    is_at : (ws : List ℕ) (b : ℕ) → b < 64 → is_set ws (64 * k + b) ≡ eqb (bit_at (get_or ws k 0) b) 1
    is_at ws b l = ap (λ q. eqb (bit_at (get_or ws q 0) ((64 * k + b) % 64)) 1) (let e : (64 * k + b) / 64 ≡ k = omega arith in e)
        ∙ ap (λ r. eqb (bit_at (get_or ws k 0) r) 1) (let e : (64 * k + b) % 64 ≡ b = omega arith in e)

    pub lowest_fits : trailing_zeros w64 (rest k) < 64
    lowest_fits = places.0

    pub lowest_inside : IsTrue (is_set xs (64 * k + trailing_zeros w64 (rest k)))
    lowest_inside =
        let e = bit_of_rest k lowest g places.0 in
        let o = places.1 in
        let l = bit_at-lt (get_or xs k 0) lowest in
        is_at xs lowest places.0 ∙ eq-eqb (bit_at (get_or xs k 0) lowest) 1 (omega arith)

    pub lowest_outside : IsTrue (is_set ys (64 * k + trailing_zeros w64 (rest k))) → ⊥
    lowest_outside t =
        let e = bit_of_rest k lowest g places.0 in
        let o = places.1 in
        let b = eqb-true (bit_at (get_or ys k 0) lowest) 1 (sym (is_at ys lowest places.0) ∙ t) in
        omega arith

    pub lowest_least : (b : ℕ) → b < trailing_zeros w64 (rest k) → IsTrue (is_set xs (64 * k + b)) → IsTrue (is_set ys (64 * k + b))
    lowest_least b l t =
        let m = places.0 in
        let e = bit_of_rest k b g (omega arith) in
        let o = places.2 b l in
        let a = eqb-true (bit_at (get_or xs k 0) b) 1 (sym (is_at xs b (omega arith)) ∙ t) in
        let n = bit_at-lt (get_or ys k 0) b in
        is_at ys b (omega arith) ∙ eq-eqb (bit_at (get_or ys k 0) b) 1 (omega arith)

pub positive : (n : ℕ) → (n ≡ 0 → ⊥) → 0 < n
positive zero f = absurd (f refl)
positive (suc n) f = omega arith

-- a child of the set is one of the network
pub has_within : (s : List Bool) (i : ℕ) → IsTrue (has s i) → i < length s
has_within s i t = elim (cases_lt i (length s)) [ inl l ↦ l | inr l ↦ absurd (false≢true (sym (get_or_past s i false l) ∙ t)) ]

-- the child of the lowest such bit of the first such word
module _ (xs ys : List ℕ) (a b : List Bool) (mine : (i : ℕ) → has a i ≡ is_set xs i) (theirs : (i : ℕ) → has b i ≡ is_set ys i) (k : ℕ)
    (before : (i : ℕ) → i / 64 < k → IsTrue (is_set xs i) → IsTrue (is_set ys i)) where
  pub least_outside : get_or xs k 0 < 2 ^ 64 → get_or ys k 0 < 2 ^ 64 → 0 < rest xs ys k → IsLeastOutside a b (64 * k + trailing_zeros w64 (rest xs ys k))
  least_outside f g some = record {
    child = has_within a place inside;
    inside = inside;
    outside = λ t. lowest_outside xs ys k f g some (sym (theirs place) ∙ t);
    least = λ i l t. theirs i ∙ under i l (sym (mine i) ∙ t);
  }
    where
      lowest : ℕ
      lowest = trailing_zeros w64 (rest xs ys k)

      place : ℕ
      place = 64 * k + trailing_zeros w64 (rest xs ys k)

      inside : IsTrue (has a place)
      inside = mine place ∙ lowest_inside xs ys k f g some

      under : (i : ℕ) → i < 64 * k + trailing_zeros w64 (rest xs ys k) → IsTrue (is_set xs i) → IsTrue (is_set ys i)
      under i l t = elim (cases_lt (i / 64) k) [
        | inl m ↦ before i m t
        | inr m ↦ (
            let h = lowest_fits xs ys k f g some in
            let e : 64 * k + i % 64 ≡ i = omega arith in
            let n : i % 64 < trailing_zeros w64 (rest xs ys k) = omega arith in
            subst (λ x. IsTrue (is_set ys x)) e (lowest_least xs ys k f g some (i % 64) n (subst (λ x. IsTrue (is_set xs x)) (sym e) t))
            )
      ]

pub none_words : (count : ℕ) → AreWords count (replicate (count / 64 + 1) 0)
none_words count = record { room = length-replicate {A = ℕ} (count / 64 + 1) 0; none_past = λ i l. none_set (count / 64 + 1) i }

-- the words of two sets, put together
module _ (count : ℕ) (xs ys zs : List ℕ) (k : ℕ) (room : length zs ≡ length xs) (same : length ys ≡ length xs) (end : length xs ≤ k)
    (done : (i : ℕ) → i < k → get_or zs i 0 ≡ bit_or (get_or xs i 0) (get_or ys i 0)) where
  pub each_or : (i : ℕ) → get_or zs i 0 ≡ bit_or (get_or xs i 0) (get_or ys i 0)
  each_or i = elim (cases_lt i k) [ inl l ↦ done i l | inr l ↦ past l ]
    where
      past : k ≤ i → get_or zs i 0 ≡ bit_or (get_or xs i 0) (get_or ys i 0)
      past l =
          let x : get_or xs i 0 ≡ 0 = get_or_past xs i 0 (omega arith) in
          let y : get_or ys i 0 ≡ 0 = get_or_past ys i 0 (omega arith) in
          get_or_past zs i 0 (omega arith) ∙ sym (ap (λ n. bit_or n (get_or ys i 0)) x ∙ ap (λ n. bit_or 0 n) y)

  pub or_words : AreWords count xs → AreWords count ys → AreWords count zs
  or_words f g = record {
    room = room ∙ f.room;
    none_past = λ i l. (is_set_or xs ys zs each_or i ∙ (ap (λ b. b || is_set ys i) (f.none_past i l) ∙ ap (λ b. false || b) (g.none_past i l)));
  }

  pub or_marks : AreWords count xs → AreWords count ys → (i : ℕ) → has (marks_of count zs) i ≡ (has (marks_of count xs) i || has (marks_of count ys) i)
  or_marks f g i = has-marks_of count zs (or_words f g) i ∙ (is_set_or xs ys zs each_or i
      ∙ sym (ap (λ b. b || has (marks_of count ys) i) (has-marks_of count xs f i) ∙ ap (λ b. is_set xs i || b) (has-marks_of count ys g i)))
