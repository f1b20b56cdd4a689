-- A word of a table has its number in each table that keeps the words.
use Rattle.std.proofs.Common.{ℕ, ◌≡◌, ◌<◌, ◌≤◌, [], length, get_or, Some, sym, ap, ◌∙◌, arith}
use Rattle.std.specs.Str.{bytes_eq}
use Rattle.std.proofs.lemmas.List.{get_or-take, length-take}
use Rattle.std.proofs.lemmas.List.Quantifiers.{position-Some}
use Rattle.htn_base.specs.Table.{number_of}
use Rattle.text_forms.specs.Words.{Word, word_at}
use Rattle.gd_reader.specs.Terms.{Names, Keeps}
use Rattle.plan_texts.proofs.Basics.{bytes_eq-true}

-- the word that has a number stands there
pub number_is : (names : Names) (w : Word) (n : ℕ) → number_of names w ≡ Some n → (n < length names) × (word_at names n ≡ w)
number_is names w n e = let p = position-Some (bytes_eq w) names n [] e in (p.0, sym (bytes_eq-true w (word_at names n) p.1))

pub keeps_longer : (before names : Names) → Keeps before names → length before ≤ length names
keeps_longer before names k = let e = sym (ap length k) ∙ length-take (length before) names in omega arith

pub keeps_word : (before names : Names) (n : ℕ) → Keeps before names → n < length before → word_at names n ≡ word_at before n
keeps_word before names n k l = sym (get_or-take (length before) names n [] l) ∙ ap (λ ws. get_or ws n []) k
