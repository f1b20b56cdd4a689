-- Where no declaration is a second one, all words differ.
use Rattle.std.proofs.Common.{ℕ, suc, ◌≡◌, ◌<◌, inl, inr, List, [], ◌∷◌, map, length, get_or, refl, sym, arith}
use Rattle.std.specs.Prelude.{◌⊎◌}
use Rattle.std.proofs.lemmas.Bool.{cases_lt}
use Rattle.htn_base.specs.Different.{AreDifferent}
use Rattle.text_forms.specs.Words.{Word}
use Rattle.htn_base.specs.Lists.{One, Has}
use Rattle.hddl_reader.specs.names.Words.{WordAt, IsSameEarlier, IsSecond}
use Rattle.name_binding.specs.Spots.{IsInTextOrder}
use Rattle.text_values.proofs.form_spellings.binding_laws.Numbered.{contains_has, has_contains, has_of_map, has_to_map}
use Rattle.text_values.proofs.form_spellings.binding_laws.Ones.{one_has, has_one}

abbrev pub at_of : WordAt → ℕ
at_of x = x.at

abbrev pub word_of : WordAt → Word
word_of x = x.word

module _ (earlier : List Word) (all : List WordAt) (none : (at : ℕ) → IsSecond earlier all at → ⊥) where
  again : (x y : WordAt) → Has all x → Has all y → y.word ≡ x.word → y.at < x.at → ⊥
  again x y h i e l =
      none x.at (has_one (λ z. (z.at ≡ x.at) × (Has earlier z.word ⊎ One (IsSameEarlier z) all)) all x h (refl, inr (has_one (IsSameEarlier x) all y i (e, l))))

  pub new : (x : WordAt) → Has all x → Has earlier x.word → ⊥
  new x h i = none x.at (has_one (λ z. (z.at ≡ x.at) × (Has earlier z.word ⊎ One (IsSameEarlier z) all)) all x h (refl, inl i))

  differ_from : (xs : List WordAt) → ((x : WordAt) → Has xs x → Has all x) → AreDifferent (map at_of xs) → AreDifferent (map word_of xs)
  differ_from [] within apart = tt
  differ_from (x ∷ xs) within apart = (
    λ c. let y = one_has (λ y. y.word ≡ x.word) xs (has_of_map word_of xs x.word (contains_has (map word_of xs) x.word c)) in
        elim (cases_lt y.0.at x.at) [
          | inl l ↦ again x y.0 (within x (inl refl)) (within y.0 (inr y.1)) y.2 l
          | inr l ↦ elim (cases_lt x.at y.0.at) [
            | inl m ↦ again y.0 x (within y.0 (inr y.1)) (within x (inl refl)) (sym y.2) m
            | inr m ↦ apart.0 (has_contains (map at_of xs) x.at (has_to_map at_of xs x.at (has_one (λ z. z.at ≡ x.at) xs y.0 y.1 (omega arith))))
          ]
        ],
    differ_from xs (λ y h. within y (inr h)) apart.1,
  )

  pub words_differ : AreDifferent (map at_of all) → AreDifferent (map word_of all)
  words_differ apart = differ_from all (λ x h. h) apart

-- what rises differs
each_greater : (a : ℕ) (xs : List ℕ) → ((j : ℕ) (e : ℕ) → j < length xs → a < get_or xs j e) → Has xs a → ⊥
each_greater a [] p h = h
each_greater a (x ∷ xs) p (inl e) = let l = p 0 0 (omega arith) in omega arith
each_greater a (x ∷ xs) p (inr h) = each_greater a xs (λ j e l. p (suc j) e (omega arith)) h

pub rising_differ : (xs : List ℕ) → IsInTextOrder xs → AreDifferent xs
rising_differ [] p = tt
rising_differ (x ∷ xs) p = (
  λ c. each_greater x xs (λ j d l. p 0 (suc j) d (omega arith) (omega arith)) (contains_has xs x c),
  rising_differ xs (λ i j d l m. p (suc i) (suc j) d (omega arith) (omega arith)),
)
