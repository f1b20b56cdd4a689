-- Why a table must have the words: over an empty one the smallest problem has an encoded value too, with another text.
use Rattle.std.proofs.Common.{ℕ, ◌≡◌, List, [], ◌∷◌, ◌++◌, get_or, refl, ap, subst, Contains}
use Rattle.plan_texts.proofs.Basics.{apart}
use Rattle.plan_texts.specs.PrintedTexts.{domain_text}
use Rattle.plan_model.specs.declared.options.Style.TheVariants.{Adl}
use Rattle.plan_model.specs.declared.values.Pddl.{Pddl}
use Rattle.plan_model.proofs.plan_meaning.examples.SmallestRow.{smallest}
use Rattle.slot_encoding.specs.EncodedValue.{first_atoms, IsEncoded}
use Rattle.slot_encoding.specs.encoded_texts.FullyEncoded.{IsFullyEncoded}
use Rattle.slot_encoding.proofs.ValueOver.{over, over_is_encoded}
use Rattle.slot_encoding.proofs.encoded_texts.examples.AllWords.{all_words, smallest_words}

abbrev over_table : List (List ℕ) → Pddl
over_table names = over smallest 1 Adl names (first_atoms smallest names 1 Adl ++ [])

nameless : IsEncoded smallest 1 Adl (over_table [])
nameless = over_is_encoded smallest 1 Adl [] [] refl

with_words : IsFullyEncoded smallest 1 Adl (over_table all_words)
with_words = record { encoded = over_is_encoded smallest 1 Adl all_words [] refl; words = λ w m. subst (λ ws. Contains ws w) smallest_words m }

-- ( define ( domain ) against ( define ( domain d )
texts_differ : domain_text (over_table []) ≡ domain_text (over_table all_words) → ⊥
texts_differ e = apart (41 ∷ []) (100 ∷ []) refl (ap (λ text. get_or text 16 0 ∷ []) e)
