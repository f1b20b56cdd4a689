-- The escapes of two words differ, and no escape is a generated word.
use Rattle.std.proofs.Common.{◌≡◌, ℕ, suc, ◌/◌, ◌%◌, ◌<◌, ◌^◌, List, [], ◌∷◌, ◌++◌, Bool, true, false, cond, nat_eq, codes, drop, refl, sym, ap, ◌∙◌, arith, true≢false, All}
use Rattle.std.specs.Char.{to_ascii_lowercase}
use Rattle.std.specs.List.{list_all, starts_with, flat_map}
use Rattle.std.proofs.lemmas.Bool.{and_parts, and_right, and_from}
use Rattle.std.proofs.lemmas.Bool.Decides.{nat_tests}
use Rattle.std.proofs.lemmas.Fmt.{decimal_injective}
use Rattle.htn_base.specs.Words.{is_reserved, IsFolded}
use Rattle.htn_base.specs.Escapes.{is_plain_byte, is_plain_word, hex_digit, hex, escaped, slot_word, KeepsNamesApart, IsPrintedName}

hex_digit-injective : (c d : ℕ) → hex_digit c ≡ hex_digit d → c ≡ d
hex_digit-injective c d e = grind arith

hex-injective : (b c : ℕ) (xs ys : List ℕ) → hex b ++ xs ≡ hex c ++ ys → (b ≡ c) × (xs ≡ ys)
hex-injective b c xs ys e =
    let high = hex_digit-injective (b / 16) (c / 16) (cc) in
    let low = hex_digit-injective (b % 16) (c % 16) (cc) in
    (omega arith, cc)

flat_map-hex-injective : (one other : List ℕ) → flat_map hex one ≡ flat_map hex other → one ≡ other
flat_map-hex-injective [] [] e = refl
flat_map-hex-injective [] (c ∷ other) e = cc
flat_map-hex-injective (b ∷ one) [] e = cc
flat_map-hex-injective (b ∷ one) (c ∷ other) e =
    let parts = hex-injective b c (flat_map hex one) (flat_map hex other) e in
    let rest = flat_map-hex-injective one other parts.1 in
    cc

-- no plain word begins with `htn_`
plain-htn : (rest : List ℕ) → is_plain_word (codes "htn_" ++ rest) ≡ false
plain-htn rest = and_right _ _ refl

to_ascii_lowercase-plain : (byte : ℕ) → is_plain_byte byte ≡ true → to_ascii_lowercase byte ≡ byte
to_ascii_lowercase-plain byte plain = grind (arith, nat_tests)

-- a word of plain bytes is in lower case
IsFolded-plain : (word : List ℕ) → list_all is_plain_byte word ≡ true → IsFolded word
IsFolded-plain [] all = refl
IsFolded-plain (byte ∷ word) all =
    let parts = and_parts _ _ all in
    let here = to_ascii_lowercase-plain byte parts.0 in
    let rest = IsFolded-plain word parts.1 in
    λ i. here i ∷ rest i

is_plain_byte-hex_digit : (digit : ℕ) → digit < 16 → is_plain_byte (hex_digit digit) ≡ true
is_plain_byte-hex_digit digit below = grind (arith, nat_tests)

list_all-flat_map-hex : (word : List ℕ) → All (λ byte. byte < 2 ^ 8) word → list_all is_plain_byte (flat_map hex word) ≡ true
list_all-flat_map-hex [] bytes = refl
list_all-flat_map-hex (byte ∷ word) bytes =
    let fits : byte < 256 = bytes 0 byte (omega arith) in
    let high = is_plain_byte-hex_digit (byte / 16) (omega arith) in
    let low = is_plain_byte-hex_digit (byte % 16) (omega arith) in
    let rest = list_all-flat_map-hex word (λ k d below. bytes (suc k) d (omega arith)) in
    and_from _ _ high (and_from _ _ low rest)

escaped-injective : (one other : List ℕ) → escaped one ≡ escaped other → one ≡ other
escaped-injective one other = by (is_plain_word one) refl (is_plain_word other) refl
  where
    by : (p : Bool) → is_plain_word one ≡ p → (q : Bool) → is_plain_word other ≡ q
        → cond p one (codes "htn_u_" ++ flat_map hex one) ≡ cond q other (codes "htn_u_" ++ flat_map hex other) → one ≡ other
    by true a true b e = e
    by true a false b e = absurd (true≢false (sym a ∙ ap is_plain_word e ∙ plain-htn (codes "u_" ++ flat_map hex other)))
    by false a true b e = absurd (true≢false (sym b ∙ ap is_plain_word (sym e) ∙ plain-htn (codes "u_" ++ flat_map hex one)))
    by false a false b e = flat_map-hex-injective one other (ap (drop 6) e)

escaped-htn : (word rest : List ℕ) → escaped word ≡ codes "htn_" ++ rest → starts_with nat_eq rest (codes "u_") ≡ true
escaped-htn word rest = by (is_plain_word word) refl
  where
    by : (p : Bool) → is_plain_word word ≡ p → cond p word (codes "htn_u_" ++ flat_map hex word) ≡ codes "htn_" ++ rest → starts_with nat_eq rest (codes "u_") ≡ true
    by true a e = absurd (true≢false (sym a ∙ ap is_plain_word e ∙ plain-htn rest))
    by false a e = ap (λ bytes. starts_with nat_eq bytes (codes "u_")) (sym (ap (drop 4) e))

slot_word-injective : (j k : ℕ) → j < 2 ^ 32 → k < 2 ^ 32 → slot_word j ≡ slot_word k → j ≡ k
slot_word-injective j k p q e = decimal_injective j k (omega arith) (omega arith) (ap (drop 5) e)

IsPrintedName-escaped : (word : List ℕ) → All (λ byte. byte < 2 ^ 8) word → IsPrintedName (escaped word)
IsPrintedName-escaped word bytes = by (is_plain_word word) refl
  where
    by : (p : Bool) → is_plain_word word ≡ p → IsPrintedName (cond p word (codes "htn_u_" ++ flat_map hex word))
    by true a =
        let begins = and_parts _ _ (and_parts _ _ a).0 in
        record { letter = begins.0; others = begins.1; folded = IsFolded-plain word begins.1 }
    by false a =
        let others = list_all-flat_map-hex word bytes in
        record { letter = refl; others = others; folded = IsFolded-plain (codes "htn_u_" ++ flat_map hex word) others }

is_reserved-escaped : (word : List ℕ) → is_reserved (escaped word) ≡ true → is_reserved word ≡ true
is_reserved-escaped word = by (is_plain_word word)
  where
    by : (p : Bool) → is_reserved (cond p word (codes "htn_u_" ++ flat_map hex word)) ≡ true → is_reserved word ≡ true
    by true e = e
    by false e = absurd (true≢false (sym e))

pub names_apart : KeepsNamesApart
names_apart = record {
  one_to_one = escaped-injective;
  no_generated = escaped-htn;
  slots = slot_word-injective;
  printed = IsPrintedName-escaped;
  unreserved = is_reserved-escaped;
}
