-- The smallest problem, m: t -> a with t on top, at one slot: a table with all its words, and what is asked of it holds.
use Rattle.std.proofs.Common.{List, [], ◌∷◌, ◌++◌, codes, refl, subst, Contains, arith}
use Rattle.text_forms.specs.Words.{Word}
use Rattle.plan_model.specs.declared.options.Checks.{Checks}
use Rattle.plan_model.specs.declared.options.Style.{Style}
use Rattle.plan_texts.specs.Types.{Has, EachIs}
use Rattle.plan_texts.specs.PrintableValue.{IsPrintable}
use Rattle.plan_texts.proofs.Members.{each-has, has-at, contains-has, has-contains}
use Rattle.plan_texts.proofs.examples.SmallestRow.{smallest as printed}
use Rattle.slot_encoding.specs.EncodedValue.{first_atoms}
use Rattle.plan_model.proofs.plan_meaning.examples.SmallestRow.{smallest}
use Rattle.slot_encoding.proofs.encoded_texts.examples.AllWords.{all_words, smallest_words}
use Rattle.plan_proof.proofs.examples.SmallestFaithful.{smallest_is_printed}
use Rattle.slot_encoding.specs.EncodedWords.{HasEncodedWords}
use Rattle.slot_encoding.specs.Numberable.{IsNumberable}
use Rattle.slot_encoding.proofs.words.EncodedIsPrintable.{value, value_printable}

-- the table of the row lacks the variable of guards, which this problem doesn't use
abbrev pub table : List Word
table = printed.names ++ codes "htn_a1" ∷ []

pub smallest_has_words : HasEncodedWords smallest 1 (printed.names ++ codes "htn_a1" ∷ [])
smallest_has_words w m = has-contains table w (each-has (Has table) all_words w each (contains-has all_words w (subst (λ ws. Contains ws w) smallest_words m)))
  where
    each : EachIs (Has table) all_words
    each = (has-at table 0 (omega arith), (has-at table 1 (omega arith), (has-at table 2 (omega arith), (has-at table 3 (omega arith), (has-at table 4 (omega arith), (has-at table 5 (omega arith), (has-at table 11 (omega arith), (has-at table 12 (omega arith), (has-at table 16 (omega arith), (has-at table 6 (omega arith), (has-at table 7 (omega arith), (has-at table 8 (omega arith), (has-at table 9 (omega arith), (has-at table 10 (omega arith), (has-at table 13 (omega arith), (has-at table 14 (omega arith), (has-at table 15 (omega arith), tt)))))))))))))))))

pub smallest_numberable : IsNumberable smallest 1 (printed.names ++ codes "htn_a1" ∷ [])
smallest_numberable = record { top = refl; some_slot = omega arith; short = omega arith; unions = omega arith }

-- so the encoded value over this table is printable, in both styles
pub smallest_encoded_printable : (mode : Checks) (style : Style) → IsPrintable (value mode smallest 1 style table (first_atoms smallest table 1 style) (smallest_is_printed mode).sound (smallest_is_printed mode).compiled ([], refl, refl) smallest_has_words smallest_numberable)
smallest_encoded_printable mode style = value_printable mode smallest 1 style table (first_atoms smallest table 1 style) (smallest_is_printed mode).sound (smallest_is_printed mode).compiled ([], refl, refl) smallest_has_words smallest_numberable
