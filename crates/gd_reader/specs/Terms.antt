-- Terms and atoms as they are read: the words of a name table grow from the front to the end of the text.
use Rattle.std.specs.Prelude.{◌≡◌, ℕ, Bool, true, false, List, [], ◌∷◌, drop, take, length, Option, Some, None, Result, Ok, Err}
use Rattle.htn_base.specs.declared.name.Name.{Name as Numbered}
use Rattle.htn_base.specs.Table.{number_of, with_word}
use Rattle.text_forms.specs.Placed.{Placed, cut, close, word, list}
use Rattle.text_forms.specs.Words.{Word}
use Rattle.gd_reader.specs.declared.term.RawTerm.{RawTerm}
use Rattle.gd_reader.specs.declared.term.RawAtom.{RawAtom}
use Rattle.gd_reader.specs.declared.stop.Stop.{Stop}
use Rattle.gd_reader.specs.declared.stop.Stop.TheVariants.{Ends, Departs}
use Rattle.gd_reader.specs.declared.words.Sort.{Sort}
use Rattle.gd_reader.specs.declared.words.Sort.TheVariants.{Variable, Name, Other}
use Rattle.gd_reader.specs.Answers.{◌>>=◌, word_due, end_due}
use Rattle.gd_reader.specs.Words.{sort_of}

-- the words that have numbers
abbrev pub Names : Type 0
Names = List Word

-- the old words keep their places
abbrev pub Keeps : Names → Names → Type 0
Keeps old new = take (length old) new ≡ old

abbrev pub found : Option ℕ → ℕ
found None = 0
found (Some n) = n

-- the number of a word in the table that has it
abbrev pub name_in : Names → Word → Numbered
name_in names w = record { number = found (number_of (with_word names w) w) }

abbrev pub raw_term : Names → Bool → ℕ → Word → RawTerm × Names
raw_term names variable at w = (record { name = name_in names w; variable = variable; at = at }, with_word names w)

abbrev pub term_by : Sort → Names → ℕ → Word → Result (RawTerm × Names) Stop
term_by Variable names at w = Ok (raw_term names true at (drop 1 w))
term_by Name names at w = Ok (raw_term names false at w)
term_by Other names at w = Err (Departs 8 at)

-- a variable or a name
unfoldable pub term : Names → ℕ → Word → Result (RawTerm × Names) Stop
term names at w = term_by (sort_of w) names at w

abbrev pub name_by : Sort → Names → ℕ → Word → Result (RawTerm × Names) Stop
name_by Variable names at w = Err (Departs 8 at)
name_by Name names at w = Ok (raw_term names false at w)
name_by Other names at w = Err (Departs 8 at)

-- a name that is used
unfoldable pub used : Names → ℕ → Word → Result (RawTerm × Names) Stop
used names at w = name_by (sort_of w) names at w

-- terms up to the end of their list
unfoldable pub terms : Names → Placed → Result (List RawTerm × Names) Stop
terms names cut = Err Ends
terms names (close at) = Ok ([], names)
terms names (list at inside behind) = Err (Departs 8 at)
terms names (word at w behind) = term names at w >>= (λ x. terms x.1 behind >>= (λ xs. Ok (x.0 ∷ xs.0, xs.1)))

-- two terms, and the end of their list
unfoldable pub two_terms : Names → Placed → Result ((RawTerm × RawTerm) × Names) Stop
two_terms names p = word_due p >>= (λ v. term names v.0 v.1 >>= (λ x. word_due v.2 >>= (λ w. term x.1 w.0 w.1 >>= (λ y. end_due w.2 >>= (λ _. Ok ((x.0, y.0), y.1))))))

-- a name and terms, up to the end of their list
unfoldable pub applied : Names → Placed → Result (RawAtom × Names) Stop
applied names p = word_due p >>= (λ v. used names v.0 v.1 >>= (λ x. terms x.1 v.2 >>= (λ xs. Ok (record { head = x.0; args = xs.0 }, xs.1))))

-- the same, behind the name
unfoldable pub atom : Names → ℕ → Word → Placed → Result (RawAtom × Names) Stop
atom names at w p = terms (raw_term names false at w).1 p >>= (λ xs. Ok (record { head = (raw_term names false at w).0; args = xs.0 }, xs.1))
