-- The definitions on worked rows, by computation.
use Rattle.std.proofs.Common.{◌≡◌, [], ◌∷◌, true, false, None, Some, refl}
use Rattle.plan_model.specs.net_order.Words.{is_set, marks_of}
use Rattle.plan_model.specs.net_order.Answers.{Answers, precedes, heir, maximal, cut}

-- three children, where 2 must come before 0 and 1 is free
abbrev last_before_first : Answers
last_before_first = record {
  count = 3;
  before = (false ∷ false ∷ true ∷ []) ∷ (false ∷ false ∷ false ∷ []) ∷ (false ∷ false ∷ false ∷ []) ∷ [];
  line = 1 ∷ 2 ∷ 0 ∷ [];
  last = None;
  begins = false ∷ false ∷ true ∷ [];
  cuts = true ∷ false ∷ false ∷ [];
}

third_precedes_first : precedes last_before_first 2 0 ≡ true
third_precedes_first = refl

first_precedes_none : precedes last_before_first 0 2 ≡ false
first_precedes_none = refl

heir_is_first : heir last_before_first ≡ Some 0
heir_is_first = refl

free_is_maximal : maximal last_before_first 1 ≡ true
free_is_maximal = refl

third_is_not_maximal : maximal last_before_first 2 ≡ false
third_is_not_maximal = refl

no_cut_after_one : cut last_before_first 1 ≡ false
no_cut_after_one = refl

-- the word 5 has the bits 0 and 2
two_bits : marks_of 4 (5 ∷ []) ≡ true ∷ false ∷ true ∷ false ∷ []
unfolding marks_of
two_bits = refl

-- child 64 is bit 0 of the second word
second_word : is_set (0 ∷ 1 ∷ []) 64 ≡ true
second_word = refl
