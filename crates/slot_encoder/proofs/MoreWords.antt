-- The word for lower slots is put into a table that has all others.
use Rattle.std.proofs.Common.{ℕ, List, [], ◌∷◌}
use Rattle.plan_model.specs.declared.options.Slots.TheVariants.{First}
use Rattle.plan_model.specs.declared.values.Compiled.{Compiled}
use Rattle.plan_texts.proofs.Members.{contains-has, has-contains}
use Rattle.slot_encoding.specs.EncodedWords.{HasEncodedWords}
use Rattle.slot_encoding.specs.FirstFree.{less_word, HasWordsBy}
use Rattle.slot_encoding.specs.slot_declarations.Vocabulary.{Gains}

pub first-words : (c : Compiled) (b : ℕ) (old new : List (List ℕ)) → Gains (less_word ∷ []) old new → HasEncodedWords c b old → HasWordsBy First c b new
first-words c b old new g has = (λ w h. has-contains new w (g.kept w (contains-has old w (has w h))), has-contains new less_word g.gained.0)
