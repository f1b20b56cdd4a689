-- Escapes of plain words, generated words and numerals can be printed, and the kinds of generated words are apart.
use Rattle.std.proofs.Common.{ℕ, zero, suc, ◌≡◌, ◌<◌, ◌≤◌, ◌/◌, ◌%◌, ◌^◌, ◌==◌, ◌&&◌, nat_eq, Bool, true, false, not, cond, [], ◌∷◌, ◌++◌, length, get_or, drop, codes, decimal, refl, ap, sym, ◌∙◌, arith, true≢false, All}
use Rattle.std.specs.Char.{to_ascii_lowercase}
use Rattle.std.specs.Fmt.{digits, digits_onto, digit_glyph}
use Rattle.std.specs.List.{list_all, starts_with}
use Rattle.std.proofs.lemmas.Bool.{and_parts, and_from}
use Rattle.std.proofs.lemmas.Bool.Decides.{nat_tests}
use Rattle.htn_base.specs.Words.{is_reserved}
use Rattle.htn_base.specs.Escapes.{is_plain_byte, begins_with_letter, is_plain_word, hex, escaped}
use Rattle.std.specs.List.{flat_map}
use Rattle.htn_base.proofs.EscapeLemmas.{names_apart}
use Rattle.text_forms.specs.Bytes.{is_letter}
use Rattle.text_forms.specs.Words.{Word, is_name, is_variable}
use Rattle.text_forms.specs.Printing.{are_folded}
use Rattle.plan_texts.specs.Printable.{IsPlain, IsPlainVariable}
use Rattle.plan_texts.proofs.Places.{plain-variable}

pub folded-join : (u w : Word) → are_folded u ≡ true → are_folded w ≡ true → are_folded (u ++ w) ≡ true
folded-join [] w e f = f
folded-join (b ∷ u) w e f = let p = and_parts _ _ e in and_from _ _ p.0 (folded-join u w p.1 f)

plain_letter : (b : ℕ) → is_plain_byte b ≡ true → (is_letter b && (to_ascii_lowercase b == b)) ≡ true
plain_letter b e = grind (arith, nat_tests)

pub folded-plain : (w : Word) → list_all is_plain_byte w ≡ true → are_folded w ≡ true
folded-plain [] e = refl
folded-plain (b ∷ w) e = let p = and_parts _ _ e in and_from _ _ (plain_letter b p.0) (folded-plain w p.1)

folded_byte : (b : ℕ) → (is_letter b && (to_ascii_lowercase b == b)) ≡ true → b < 2 ^ 8
folded_byte b e = grind (arith, nat_tests)

bytes-folded : (w : Word) → are_folded w ≡ true → All (λ byte. byte < 2 ^ 8) w
bytes-folded [] e k d l = absurd (omega arith)
bytes-folded (b ∷ w) e zero d l = folded_byte b (and_parts _ _ e).0
bytes-folded (b ∷ w) e (suc k) d l = bytes-folded w (and_parts _ _ e).1 k d (omega arith)

first_letter : (b : ℕ) → begins_with_letter (b ∷ []) ≡ true → (not (b == 63) ≡ true) × (not (b == 58) ≡ true)
first_letter b e = (grind (arith, nat_tests), grind (arith, nat_tests))

unreserved : (w : Word) → is_variable w ≡ true → is_reserved w ≡ false
unreserved [] e = refl
unreserved (b ∷ w) e = go (is_reserved (b ∷ w)) refl
  where
    go : (t : Bool) → is_reserved (b ∷ w) ≡ t → t ≡ false
    go false f = refl
    go true f = absurd (true≢false (sym e ∙ ap not f))

name-letter : (w : Word) → begins_with_letter w ≡ true → is_reserved w ≡ false → is_name w ≡ true
name-letter [] e f = e
name-letter (b ∷ w) e f = let p = first_letter b e in and_from _ _ p.0 (and_from _ _ p.1 (ap not f))

-- the escape of a plain variable is a NAME
pub name-escaped : (w : Word) → IsPlainVariable w → IsPlain (escaped w)
name-escaped w p =
    let n = names_apart.printed w (bytes-folded w p.0) in
    (folded-plain (escaped w) n.others, name-letter (escaped w) n.letter (go (is_reserved (escaped w)) refl))
  where
    go : (t : Bool) → is_reserved (escaped w) ≡ t → t ≡ false
    go false f = refl
    go true f = absurd (true≢false (sym (names_apart.unreserved w f) ∙ unreserved w p.1))

-- so is that of a plain word
pub plain-escaped : (w : Word) → IsPlain w → IsPlain (escaped w)
plain-escaped w p = name-escaped w (plain-variable w p)

pub escaped-once : (u w : Word) → escaped u ≡ escaped w → u ≡ w
escaped-once = names_apart.one_to_one

-- numerals
folded_glyph : (d : ℕ) (acc : Word) → d < 10 → are_folded acc ≡ true → are_folded (digit_glyph false d ∷ acc) ≡ true
folded_glyph d acc l e = and_from _ _ (grind (arith, nat_tests)) e

folded_digits : (k n : ℕ) (acc : Word) → are_folded acc ≡ true → are_folded (digits_onto k 10 false n acc) ≡ true
folded_digits zero n acc e = e
folded_digits (suc k) n acc e = let here = folded_glyph (n % 10) acc (omega arith) e in go (n / 10 == 0) here (folded_digits k (n / 10) (digit_glyph false (n % 10) ∷ acc) here)
  where
    go : (t : Bool) → are_folded (digit_glyph false (n % 10) ∷ acc) ≡ true → are_folded (digits_onto k 10 false (n / 10) (digit_glyph false (n % 10) ∷ acc)) ≡ true
        → are_folded (cond t (digit_glyph false (n % 10) ∷ acc) (digits_onto k 10 false (n / 10) (digit_glyph false (n % 10) ∷ acc))) ≡ true
    go true f g = f
    go false f g = g

grown_digits : (k n : ℕ) (acc : Word) → length acc ≤ length (digits_onto k 10 false n acc)
grown_digits zero n acc = omega arith
grown_digits (suc k) n acc = go (n / 10 == 0) (grown_digits k (n / 10) (digit_glyph false (n % 10) ∷ acc))
  where
    go : (t : Bool) → suc (length acc) ≤ length (digits_onto k 10 false (n / 10) (digit_glyph false (n % 10) ∷ acc))
        → length acc ≤ length (cond t (digit_glyph false (n % 10) ∷ acc) (digits_onto k 10 false (n / 10) (digit_glyph false (n % 10) ∷ acc)))
    go true h = omega arith
    go false h = omega arith

long_digits : (k n : ℕ) (acc : Word) → length acc < length (digits_onto (suc k) 10 false n acc)
long_digits k n acc = go (n / 10 == 0) (grown_digits k (n / 10) (digit_glyph false (n % 10) ∷ acc))
  where
    go : (t : Bool) → suc (length acc) ≤ length (digits_onto k 10 false (n / 10) (digit_glyph false (n % 10) ∷ acc))
        → length acc < length (cond t (digit_glyph false (n % 10) ∷ acc) (digits_onto k 10 false (n / 10) (digit_glyph false (n % 10) ∷ acc)))
    go true h = omega arith
    go false h = omega arith

pub folded-decimal : (n : ℕ) → are_folded (decimal n) ≡ true
unfolding digits
folded-decimal n = folded_digits 64 n [] refl

long_decimal : (n : ℕ) → 0 < length (decimal n)
unfolding digits
long_decimal n = long_digits 63 n []

pub some-decimal : (n : ℕ) → decimal n ≡ [] → ⊥
some-decimal n e = let h = long_decimal n in let f = ap length e in omega arith

-- a word that begins as the generated ones do, and is no escape
abbrev pub is_generated : Word → Bool
is_generated w = starts_with nat_eq w (codes "htn_") && not (starts_with nat_eq (drop 4 w) (codes "u_"))

plain_or_hex : (w : Word) (P : Word → Type 0) → (is_plain_word w ≡ true → P w) → (is_plain_word w ≡ false → P (codes "htn_u_" ++ flat_map hex w)) → P (escaped w)
plain_or_hex w P f g = go (is_plain_word w) refl
  where
    go : (t : Bool) → is_plain_word w ≡ t → P (cond t w (codes "htn_u_" ++ flat_map hex w))
    go true e = f e
    go false e = g e

pub escape_is_none : (w : Word) → is_generated (escaped w) ≡ false
escape_is_none w = plain_or_hex w (λ u. is_generated u ≡ false) (λ e. ap (λ t. t && not (starts_with nat_eq (drop 4 w) (codes "u_"))) (other w (and_parts _ _ e).1)) (λ e. refl)
  where
    other : (w : Word) → not (starts_with nat_eq w (codes "htn_")) ≡ true → starts_with nat_eq w (codes "htn_") ≡ false
    other w e = go (starts_with nat_eq w (codes "htn_")) e
      where
        go : (t : Bool) → not t ≡ true → t ≡ false
        go false e = refl
        go true e = absurd (true≢false (sym e))

-- the rank of a kind of words, by the fifth and the sixth byte: escapes 0, single words 1, and then `htn_t_`, `htn_a_`, `htn_c_`, types of guards, `htn_m_`, `htn_start`
abbrev pub kind_rank : ℕ → ℕ → ℕ
kind_rank a b = cond (b == 95) (cond (a == 116) 2 (cond (a == 97) 3 (cond (a == 99) 4 6))) (cond (a == 105) 5 (cond (a == 115) 7 1))

abbrev pub rank : Word → ℕ
rank w = cond (is_generated w) (kind_rank (get_or w 4 0) (get_or w 5 0)) 0

pub rank-escaped : (w : Word) → rank (escaped w) ≡ 0
rank-escaped w = ap (λ t. cond t (kind_rank (get_or (escaped w) 4 0) (get_or (escaped w) 5 0)) 0) (escape_is_none w)

-- a generated word with a source word or a numeral behind it
pub plain-behind : (prefix w : Word) → are_folded prefix ≡ true → is_name (prefix ++ w) ≡ true → are_folded w ≡ true → IsPlain (prefix ++ w)
plain-behind prefix w e n f = (folded-join prefix w e f, n)
