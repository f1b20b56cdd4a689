-- Second declarations by numbers and in words.
use Rattle.std.proofs.Common.{ℕ, zero, suc, ◌≡◌, ◌<◌, inl, inr, List, [], ◌∷◌, ◌++◌, map, length, get_or, Option, Some, None, refl, sym, ap, subst, ◌∙◌, append-nil, arith}
use Rattle.std.specs.Prelude.{◌⊎◌}
use Rattle.std.proofs.lemmas.List.{map-append, append_assoc}
use Rattle.htn_base.specs.Different.{AreDifferent}
use Rattle.text_forms.specs.Words.{Word, word_at}
use Rattle.text_forms.specs.Words as words
use Rattle.gd_reader.specs.Terms.{Names}
use Rattle.htn_base.specs.Lists.{One, Each, Has}
use Rattle.hddl_reader.specs.names.Words.{WordAt, IsSameEarlier}
use Rattle.name_binding.specs.declared.faults.Spot.{Spot}
use Rattle.name_binding.specs.Places as numbers
use Rattle.name_binding.specs.Spots.{spot, IsInTextOrder}
use Rattle.hddl_bind.specs.Seconds.{if_known, seconds}
use Rattle.text_values.specs.form_spellings.binding_laws.Numbers.{words_of, AreKnown}
use Rattle.text_values.specs.form_spellings.binding_laws.Seconds.{declares_at, HasSeconds}
use Rattle.text_values.proofs.form_spellings.binding_laws.Lists.{no_first, append_there, append_left, append_right}
use Rattle.text_values.proofs.form_spellings.binding_laws.Numbered.{first_is}
use Rattle.text_values.proofs.form_spellings.binding_laws.Places.{have_one_place}

-- each later offset is greater
abbrev AreRisingAt : List WordAt → Type 0
AreRisingAt [] = Unit {0}
AreRisingAt (x ∷ xs) = Each (λ (y : WordAt). x.at < y.at) xs × AreRisingAt xs

abbrev words_at : List WordAt → List Word
words_at xs = map (λ (x : WordAt). x.word) xs

pub has_at : (ws : List Word) (k : ℕ) → k < length ws → Has ws (word_at ws k)
has_at [] k l = absurd (omega arith)
has_at (w ∷ ws) zero l = inl refl
has_at (w ∷ ws) (suc k) l = inr (has_at ws k (omega arith))

-- a name that stands in front, one declaration at a time
abbrev IsSecondFrom : List Word → List WordAt → ℕ → Type 0
IsSecondFrom before [] at = ⊥
IsSecondFrom before (x ∷ xs) at = ((x.at ≡ at) × Has before x.word) ⊎ IsSecondFrom (before ++ x.word ∷ []) xs at

has_words : (xs : List WordAt) (w : Word) → Has (words_at xs) w → One (λ (y : WordAt). y.word ≡ w) xs
has_words [] w h = absurd h
has_words (x ∷ xs) w (inl h) = inl h
has_words (x ∷ xs) w (inr h) = inr (has_words xs w h)

has_place : (w : Word) (ws : List Word) (k : ℕ) → words.first_place w ws ≡ Some k → Has ws w
has_place w ws k e = let f = first_is w ws k e in subst (Has ws) f.1 (has_at ws k f.0)

-- those in front of an offset
earlier_there : (front : List WordAt) (x : WordAt) (rest : List WordAt) → AreRisingAt (front ++ x ∷ rest) → Has (words_at front) x.word → One (IsSameEarlier x) (front ++ x ∷ rest)
earlier_there [] x rest up h = absurd h
earlier_there (y ∷ front) x rest up (inl h) = inl (h, first front up.0)
  where
    first : (zs : List WordAt) → Each (λ (z : WordAt). y.at < z.at) (zs ++ x ∷ rest) → y.at < x.at
    first [] e = e.0
    first (z ∷ zs) e = first zs e.1
earlier_there (y ∷ front) x rest up (inr h) = inr (earlier_there front x rest up.1 h)

none_later : (x : WordAt) (rest : List WordAt) → Each (λ (z : WordAt). x.at < z.at) rest → One (IsSameEarlier x) rest → ⊥
none_later x [] e o = absurd o
none_later x (z ∷ rest) e (inl o) = let l = e.0 in let m = o.1 in absurd (omega arith)
none_later x (z ∷ rest) e (inr o) = none_later x rest e.1 o

earlier_back : (front : List WordAt) (x : WordAt) (rest : List WordAt) → AreRisingAt (front ++ x ∷ rest) → One (IsSameEarlier x) (front ++ x ∷ rest) → Has (words_at front) x.word
earlier_back [] x rest up (inl o) = let l = o.1 in absurd (omega arith)
earlier_back [] x rest up (inr o) = absurd (none_later x rest up.0 o)
earlier_back (y ∷ front) x rest up (inl o) = inl o.0
earlier_back (y ∷ front) x rest up (inr o) = inr (earlier_back front x rest up.1 o)

abbrev IsOne : List Word → List WordAt → ℕ → WordAt → Type 0
IsOne before all at x = (x.at ≡ at) × (Has before x.word ⊎ One (IsSameEarlier x) all)

module _ (before : List Word) (at : ℕ) where
  step : (front rest : List WordAt) (x : WordAt) → (front ++ x ∷ []) ++ rest ≡ front ++ x ∷ rest
  step front rest x = append_assoc front (x ∷ []) rest

  more : (front : List WordAt) (x : WordAt) → (before ++ words_at front) ++ x.word ∷ [] ≡ before ++ words_at (front ++ x ∷ [])
  more front x = append_assoc before (words_at front) (x.word ∷ []) ∙ ap (λ ws. before ++ ws) (sym (map-append (λ (y : WordAt). y.word) front (x ∷ [])))

  from_there : (front xs : List WordAt) → AreRisingAt (front ++ xs) → IsSecondFrom (before ++ words_at front) xs at → One (IsOne before (front ++ xs) at) xs
  from_there front [] up s = absurd s
  from_there front (x ∷ xs) up (inl s) = inl (s.0, elim (append_there before (words_at front) x.word s.1) [ inl i ↦ inl i | inr i ↦ inr (earlier_there front x xs up i) ])
  from_there front (x ∷ xs) up (inr s) =
      inr (subst (λ all. One (IsOne before all at) xs) (step front xs x)
      (from_there (front ++ x ∷ []) xs (subst AreRisingAt (sym (step front xs x)) up) (subst (λ ws. IsSecondFrom ws xs at) (more front x) s)))

  from_back : (front xs : List WordAt) → AreRisingAt (front ++ xs) → One (IsOne before (front ++ xs) at) xs → IsSecondFrom (before ++ words_at front) xs at
  from_back front [] up o = absurd o
  from_back front (x ∷ xs) up (inl (a, inl o)) = inl (a, append_left before (words_at front) x.word o)
  from_back front (x ∷ xs) up (inl (a, inr o)) = inl (a, append_right before (words_at front) x.word (earlier_back front x xs up o))
  from_back front (x ∷ xs) up (inr o) =
      inr (subst (λ ws. IsSecondFrom ws xs at) (sym (more front x))
      (from_back (front ++ x ∷ []) xs (subst AreRisingAt (sym (step front xs x)) up) (subst (λ all. One (IsOne before all at) xs) (sym (step front xs x)) o)))

module _ {X : Type 0} (number offset : X → ℕ) (names : Names) (differ : AreDifferent names) where
  abbrev said : List X → List WordAt
  said xs = map (declares_at number offset names) xs

  behind_first : (a : ℕ) (xs : List X) → ((j : ℕ) (d : ℕ) → j < length (map offset xs) → a < get_or (map offset xs) j d) → Each (λ (y : WordAt). a < y.at) (said xs)
  behind_first a [] p = tt
  behind_first a (x ∷ xs) p = (p 0 0 (omega arith), behind_first a xs (λ j d l. p (suc j) d (omega arith)))

  rising_at : (xs : List X) → IsInTextOrder (map offset xs) → AreRisingAt (said xs)
  rising_at [] p = tt
  rising_at (x ∷ xs) p = (behind_first (offset x) xs (λ j d l. p 0 (suc j) d (omega arith) (omega arith)), rising_at xs (λ i j d l m. p (suc i) (suc j) d (omega arith) (omega arith)))

  known_push : (ns : List ℕ) (n : ℕ) → AreKnown names ns → n < length names → AreKnown names (ns ++ n ∷ [])
  known_push [] n k l = (l, tt)
  known_push (m ∷ ns) n k l = (k.0, known_push ns n k.1 l)

  if_there : (o : Option ℕ) (a code at : ℕ) → Has (if_known o a) (spot at code) → (k : ℕ) × (o ≡ Some k) × (a ≡ at) × (code ≡ 10)
  if_there None a code at h = absurd h
  if_there (Some k) a code at (inl e) = (k, refl, ap (λ (s : Spot). s.at) e, sym (ap (λ (s : Spot). s.code) e))
  if_there (Some k) a code at (inr e) = absurd e

  if_back : (o : Option ℕ) (a code at : ℕ) → (o ≡ None → ⊥) → a ≡ at → code ≡ 10 → Has (if_known o a) (spot at code)
  if_back None a code at n e c = absurd (n refl)
  if_back (Some k) a code at n e c = inl (ap (λ x. spot x 10) e ∙ ap (spot at) (sym c))

  found_word : (ns : List ℕ) (n k : ℕ) → n < length names → AreKnown names ns → numbers.first_place n ns ≡ Some k → Has (words_of names ns) (word_at names n)
  found_word ns n k l i e = has_place (word_at names n) (words_of names ns) k ((have_one_place names n ns differ l i).0 ∙ e)

  seconds_there : (before : List ℕ) (xs : List X) (code at : ℕ) → AreKnown names before → Each (λ x. number x < length names) xs → Has (seconds number offset before xs) (spot at code) → (code ≡ 10) × IsSecondFrom (words_of names before) (said xs) at
  seconds_there before [] code at k is h = absurd h
  seconds_there before (x ∷ xs) code at k is h = elim (append_there (if_known (numbers.first_place (number x) before) (offset x)) (seconds number offset (before ++ number x ∷ []) xs) (spot at code) h) [
    | inl i ↦ let r = if_there (numbers.first_place (number x) before) (offset x) code at i in (r.3, inl (r.2, found_word before (number x) r.0 is.0 k r.1))
    | inr i ↦ let r = seconds_there (before ++ number x ∷ []) xs code at (known_push before (number x) k is.0) is.1 i in
        (r.0, inr (subst (λ ws. IsSecondFrom ws (said xs) at) (map-append (word_at names) before (number x ∷ [])) r.1))
  ]

  seconds_back : (before : List ℕ) (xs : List X) (code at : ℕ) → AreKnown names before → Each (λ x. number x < length names) xs → code ≡ 10 → IsSecondFrom (words_of names before) (said xs) at → Has (seconds number offset before xs) (spot at code)
  seconds_back before [] code at k is c s = absurd s
  seconds_back before (x ∷ xs) code at k is c (inl s) =
      append_left (if_known (numbers.first_place (number x) before) (offset x)) (seconds number offset (before ++ number x ∷ []) xs) (spot at code)
      (if_back (numbers.first_place (number x) before) (offset x) code at (λ e. no_first (word_at names (number x)) (words_of names before) ((have_one_place names (number x) before differ is.0 k).0 ∙ e) s.1) s.0 c)
  seconds_back before (x ∷ xs) code at k is c (inr s) =
      append_right (if_known (numbers.first_place (number x) before) (offset x)) (seconds number offset (before ++ number x ∷ []) xs) (spot at code)
      (seconds_back (before ++ number x ∷ []) xs code at (known_push before (number x) k is.0) is.1 c (subst (λ ws. IsSecondFrom ws (said xs) at) (sym (map-append (word_at names) before (number x ∷ []))) s))

pub has_seconds : {X : Type 0} (number offset : X → ℕ) → HasSeconds number offset
has_seconds number offset names earlier xs code at of = (
  λ h. let r = seconds_there number offset names of.differ earlier xs code at of.earlier_in of.words_in h in
      (r.0, from_there (words_of names earlier) at [] (map (declares_at number offset names) xs) up (subst (λ ws. IsSecondFrom ws (map (declares_at number offset names) xs) at) (sym (append-nil (words_of names earlier))) r.1)),
  λ s. seconds_back number offset names of.differ earlier xs code at of.earlier_in of.words_in s.0
      (subst (λ ws. IsSecondFrom ws (map (declares_at number offset names) xs) at) (append-nil (words_of names earlier)) (from_back (words_of names earlier) at [] (map (declares_at number offset names) xs) up s.1)),
)
  where
    up : AreRisingAt (map (declares_at number offset names) xs)
    up = rising_at number offset names of.differ xs of.in_order
