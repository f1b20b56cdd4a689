-- The words that the printed problem with first-free slots declares: one predicate more, the last one.
use Rattle.std.proofs.Common.{ℕ, zero, suc, ◌≡◌, ◌<◌, List, [], ◌∷◌, ◌++◌, map, length, slice_index, refl, subst, arith}
use Rattle.text_forms.specs.Words.{Word}
use Rattle.plan_model.specs.declared.options.Style.{Style}
use Rattle.plan_model.specs.declared.schemas.Predicate.{Predicate}
use Rattle.plan_model.specs.declared.values.Compiled.{Compiled}
use Rattle.plan_texts.specs.Declared.{Declared, named}
use Rattle.slot_encoding.specs.EncodedNames.{encoded_predicates}
use Rattle.slot_encoding.specs.FirstFree.{less, less_predicate}
use Rattle.slot_encoding.proofs.words.PrintedWords.{printed_words, printed_arities}
use Rattle.slot_encoding.proofs.words.PredicatePlaces.{length-predicates}
use Rattle.slot_encoding.proofs.first_free.MorePredicates.{with_predicates}

module _ {X : Type 0} (word : X → Word) (count : X → ℕ) where
  -- a place among the first ones stays
  kept : (xs ys : List X) (n : ℕ) → n < length (map word xs) → (n < length (map word (xs ++ ys))) × (slice_index (map count xs) n ≡ slice_index (map count (xs ++ ys)) n)
  kept [] ys n l = absurd (omega arith)
  kept (x ∷ xs) ys zero l = (omega arith, refl)
  kept (x ∷ xs) ys (suc n) l = let h = kept xs ys n (omega arith) in ((let k = h.0 in omega arith), h.1)

  -- behind them comes the last one
  last : (xs : List X) (y : X) → (length xs < length (map word (xs ++ y ∷ []))) × (slice_index (map count (xs ++ y ∷ [])) (length xs) ≡ count y)
  last [] y = (omega arith, refl)
  last (x ∷ xs) y = let h = last xs y in ((let k = h.0 in omega arith), h.1)

module _ (c : Compiled) (names : List Word) (b : ℕ) (style : Style) where
  abbrev pub first_predicates : List Predicate
  first_predicates = encoded_predicates c names b ++ less c names b style ∷ []

  abbrev pub first_predicate_words : List Word
  first_predicate_words = map (λ (d : Predicate). named names d.name) first_predicates

  abbrev pub first_words : Declared
  first_words = with_predicates (printed_words c names b) first_predicate_words

  abbrev pub first_arities : List ℕ
  first_arities = map (λ (d : Predicate). length d.params) first_predicates

  pub first_keeps : (n : ℕ) → n < length (printed_words c names b).predicates → (n < length first_predicate_words) × (slice_index (printed_arities c names b) n ≡ slice_index first_arities n)
  first_keeps = kept (λ (d : Predicate). named names d.name) (λ (d : Predicate). length d.params) (encoded_predicates c names b) (less c names b style ∷ [])

  pub less_arity : (less_predicate c < length first_predicate_words) × (slice_index first_arities (less_predicate c) ≡ 2)
  less_arity = subst (λ n. (n < length first_predicate_words) × (slice_index first_arities n ≡ 2)) (length-predicates c names b)
      (last (λ (d : Predicate). named names d.name) (λ (d : Predicate). length d.params) (encoded_predicates c names b) (less c names b style))
