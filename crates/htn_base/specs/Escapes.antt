-- How a source name is printed, and how a slot is named. These words are this project's own.
use Rattle.std.specs.Prelude.{◌≡◌, ◌^◌, ◌<◌, true, ℕ, ◌+◌, ◌/◌, ◌%◌, List, [], ◌∷◌, ◌++◌, Bool, false, not, ◌&&◌, ◌||◌, ◌==◌, nat_eq, nat_lt, codes, decimal, All, if◌then◌else◌}
use Rattle.std.specs.Char.{is_ascii_lowercase, is_ascii_digit}
use Rattle.std.specs.List.{list_all, starts_with, flat_map}
use Rattle.htn_base.specs.Words.{is_reserved, IsFolded}

-- a lower-case letter, a digit, `-` or `_`
abbrev pub is_plain_byte : ℕ → Bool
is_plain_byte byte = is_ascii_lowercase byte || is_ascii_digit byte || byte == 45 || byte == 95

abbrev pub begins_with_letter : List ℕ → Bool
begins_with_letter [] = false
begins_with_letter (first ∷ others) = is_ascii_lowercase first

-- a plain word: a lower-case letter, then lower-case letters, digits, `-` and `_`, and no generated word, which begin with `htn_`
abbrev pub is_plain_word : List ℕ → Bool
is_plain_word word = begins_with_letter word && list_all is_plain_byte word && not (starts_with nat_eq word (codes "htn_"))

-- the hexadecimal digit of a number below 16: 0 to 9, a to f
abbrev pub hex_digit : ℕ → ℕ
hex_digit digit = if nat_lt digit 10 then 48 + digit else 87 + digit

-- a byte in two hexadecimal digits
abbrev pub hex : ℕ → List ℕ
hex byte = hex_digit (byte / 16) ∷ hex_digit (byte % 16) ∷ []

-- the printed word of a source name: a plain word itself, and any other its bytes in hexadecimal after `htn_u_`
abbrev pub escaped : List ℕ → List ℕ
escaped word = if is_plain_word word then word else codes "htn_u_" ++ flat_map hex word

-- the word of slot k
abbrev pub slot_word : ℕ → List ℕ
slot_word k = codes "htn_s" ++ decimal k

-- slots are counted from 1, by numbers of 32 bits
abbrev pub IsWordOfSlot : ℕ → List ℕ → Type 0
IsWordOfSlot k word = (0 < k) × (k < 2 ^ 32) × (word ≡ slot_word k)

-- A name that the printed texts may have: a letter, then letters, digits, `-` and `_`, in lower case.
pub record IsPrintedName (printed : List ℕ) : Type 0 where
  pub letter : begins_with_letter printed ≡ true
  pub others : list_all is_plain_byte printed ≡ true
  pub folded : IsFolded printed

-- What the escapes are for: the printed names of different words stay apart. A word here is any list of bytes.
pub record KeepsNamesApart : Type 0 where
  -- two words with one escape are the same word
  pub one_to_one : (one other : List ℕ) → escaped one ≡ escaped other → one ≡ other
  -- an escape that begins as the generated words do begins with `htn_u_`, as no generated word does
  pub no_generated : (word rest : List ℕ) → escaped word ≡ codes "htn_" ++ rest → starts_with nat_eq rest (codes "u_") ≡ true
  -- two slots have two words
  pub slots : (j k : ℕ) → j < 2 ^ 32 → k < 2 ^ 32 → slot_word j ≡ slot_word k → j ≡ k
  -- an escape may be printed
  pub printed : (word : List ℕ) → All (λ byte. byte < 2 ^ 8) word → IsPrintedName (escaped word)
  -- an escape is reserved only where the word is
  pub unreserved : (word : List ℕ) → is_reserved (escaped word) ≡ true → is_reserved word ≡ true
