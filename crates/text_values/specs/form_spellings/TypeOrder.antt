-- The words of a list of types, sorted by their offsets, name the types in the order of the text.
-- Source: this project's; a parent is read behind each type in front of it, while the text names it once, behind them.
use Rattle.std.specs.Prelude.{◌≡◌, ℕ, List, map, Ok}
use Rattle.std.specs.List.Sorted.{IsPermutation, IsNonDecreasingBy}
use Rattle.text_forms.specs.Placed.{Placed, parts_at, parts_of}
use Rattle.text_forms.specs.Words.{Word}
use Rattle.plan_texts.specs.FirstSeen.{type_words_in}
use Rattle.plan_texts.specs.TypedLists.{first_seen}
use Rattle.gd_reader.specs.declared.term.RawTerm.{RawTerm}
use Rattle.gd_reader.specs.declared.typed_lists.ListKind.TheVariants.{Types}
use Rattle.gd_reader.specs.declared.typed_lists.RawParam.{RawParam}
use Rattle.gd_reader.specs.Terms.{Names, Keeps}
use Rattle.gd_reader.specs.TypedLists.{listed}
use Rattle.text_values.specs.form_spellings.InOrder.{term_word}
use Rattle.text_values.specs.form_spellings.Rising.{mentioned}

-- whichever types were seen before
abbrev pub TypesAreInOrder : Names → List RawParam → Placed → Type 0
TypesAreInOrder table xs p = (words : List RawTerm) → IsPermutation (mentioned xs) words → IsNonDecreasingBy (λ (w : RawTerm). w.at) words
    → (seen : List Word) → first_seen seen (map (term_word table) words) ≡ first_seen seen (type_words_in (parts_of p))

-- of each list of types that is read of a text from some token on
abbrev pub TypesStandInOrder : Type 0
TypesStandInOrder = (text : List ℕ) (i : ℕ) (names left later : Names) (xs : List RawParam) → listed Types names (parts_at text i) ≡ Ok (xs, left) → Keeps left later
    → TypesAreInOrder later xs (parts_at text i)
