-- The printed words of a table are a table.
use Rattle.std.proofs.Common.{ℕ, ◌≡◌, ◌<◌, ◌/◌, ◌%◌, List, [], ◌∷◌, ◌++◌, length, get_or, map, Bool, true, false, cond, codes, Contains, refl, sym, ap, subst, ◌∙◌, arith}
use Rattle.std.specs.Char.{to_ascii_lowercase}
use Rattle.std.specs.List.{list_all, flat_map}
use Rattle.std.proofs.lemmas.Bool.{and_parts}
use Rattle.std.proofs.lemmas.Bool.Decides.{nat_tests}
use Rattle.std.proofs.lemmas.List.{length-map, get_or-map}
use Rattle.htn_base.specs.Different.{AreDifferent}
use Rattle.htn_base.specs.Escapes.{is_plain_byte, is_plain_word, hex_digit, hex, escaped}
use Rattle.htn_base.specs.Table.{IsTable}
use Rattle.htn_base.specs.Words.{folded, IsFolded}
use Rattle.htn_base.proofs.EscapeLemmas.{names_apart}

-- printed words are in lower case
lower_plain : (byte : ℕ) → is_plain_byte byte ≡ true → to_ascii_lowercase byte ≡ byte
lower_plain byte plain = grind (arith, nat_tests)

lower_digit : (digit : ℕ) → to_ascii_lowercase (hex_digit digit) ≡ hex_digit digit
lower_digit digit = grind (arith, nat_tests)

folded_plain : (word : List ℕ) → list_all is_plain_byte word ≡ true → folded word ≡ word
folded_plain [] all = refl
folded_plain (byte ∷ word) all =
    let parts = and_parts _ _ all in
    let here = lower_plain byte parts.0 in
    let rest = folded_plain word parts.1 in
    λ i. here i ∷ rest i

folded_hex : (word : List ℕ) → folded (flat_map hex word) ≡ flat_map hex word
folded_hex [] = refl
folded_hex (byte ∷ word) =
    let high = lower_digit (byte / 16) in
    let low = lower_digit (byte % 16) in
    let rest = folded_hex word in
    λ i. high i ∷ (low i ∷ rest i)

folded_escaped : (word : List ℕ) → IsFolded (escaped word)
folded_escaped word = by (is_plain_word word) refl
  where
    by : (p : Bool) → is_plain_word word ≡ p → IsFolded (cond p word (codes "htn_u_" ++ flat_map hex word))
    by true plain = folded_plain word (and_parts _ _ (and_parts _ _ plain).0).1
    by false other = ap (λ (w : List ℕ). codes "htn_u_" ++ w) (folded_hex word)

-- what differs is printed as what differs
contains_back : (words : List (List ℕ)) (word : List ℕ) → Contains (map escaped words) (escaped word) → Contains words word
contains_back words word (k, l, e) =
    let few = length-map words escaped in
    let within : k < length words = omega (arith, few, l) in
    (k, within, names_apart.one_to_one (get_or words k word) word (sym (get_or-map escaped words k word (escaped word) within) ∙ e))

different_printed : (words : List (List ℕ)) → AreDifferent words → AreDifferent (map escaped words)
different_printed [] d = tt
different_printed (word ∷ words) d = (λ there. d.0 (contains_back words word there), different_printed words d.1)

pub printed_table : (words : List (List ℕ)) → IsTable words → IsTable (map escaped words)
printed_table words table =
    let few = length-map words escaped in
    let short = table.short in
    record {
      differ = different_printed words table.differ;
      folded = λ k d l. (let within : k < length words = omega (arith, few, l) in subst IsFolded (sym (get_or-map escaped words k [] d within)) (folded_escaped (get_or words k [])));
      short = omega (arith, few, short);
    }
