-- The words of the printed problem, as declared.
use Rattle.std.proofs.Common.{ℕ, List, map, length}
use Rattle.text_forms.specs.Words.{Word}
use Rattle.plan_model.specs.declared.schemas.Predicate.{Predicate}
use Rattle.plan_model.specs.declared.values.Compiled.{Compiled}
use Rattle.plan_texts.specs.Declared.{Declared, words_with}
use Rattle.slot_encoding.specs.EncodedNames.{encoded_types, encoded_objects, encoded_predicates}

module _ (c : Compiled) (names : List Word) (b : ℕ) where
  abbrev pub printed_words : Declared
  printed_words = words_with names (encoded_types c names b) (encoded_predicates c names b) (encoded_objects c names b)

  abbrev pub printed_arities : List ℕ
  printed_arities = map (λ (d : Predicate). length d.params) (encoded_predicates c names b)
