-- The words that the printed problem of a stack has besides those that it has with slots.
-- Source: this project's encoding.
use Rattle.std.specs.Prelude.{List, [], ◌∷◌, codes}
use Rattle.text_forms.specs.Words.{Word}

abbrev pub more_words : List Word
more_words = codes "htn_s0" ∷ codes "htn_d" ∷ codes "htn_tip" ∷ codes "htn_up" ∷ []
