-- Words, tables and escapes, worked out.
use Rattle.std.proofs.Common.{◌≡◌, [], ◌∷◌, true, false, codes, None, Some, refl}
use Rattle.std.specs.Fmt.{digits}
use Rattle.htn_base.specs.Words.{folded, is_reserved, is_name}
use Rattle.htn_base.specs.Table.{number_of, with_word}
use Rattle.htn_base.specs.Escapes.{is_plain_word, hex, escaped, slot_word}

folding : folded (codes "HTN_Start-1") ≡ codes "htn_start-1"
folding = refl

reserved : is_reserved (codes "->") ≡ true
reserved = refl

either_is_reserved : is_reserved (codes "either") ≡ true
either_is_reserved = refl

a_name : is_name (codes "andy") ≡ true
a_name = refl

a_variable : is_name (codes "?x") ≡ false
a_variable = refl

a_keyword : is_name (codes ":htn") ≡ false
a_keyword = refl

no_word : is_name [] ≡ false
no_word = refl

a_name_is_not : is_reserved (codes "andy") ≡ false
a_name_is_not = refl

second_number : number_of (codes "truck" ∷ codes "city" ∷ []) (codes "city") ≡ Some 1
second_number = refl

no_number : number_of (codes "truck" ∷ []) (codes "Truck") ≡ None
no_number = refl

known : with_word (codes "truck" ∷ codes "city" ∷ []) (codes "truck") ≡ codes "truck" ∷ codes "city" ∷ []
known = refl

new : with_word (codes "truck" ∷ []) (codes "city") ≡ codes "truck" ∷ codes "city" ∷ []
new = refl

plain : is_plain_word (codes "go-to_2") ≡ true
plain = refl

a_digit_first : is_plain_word (codes "2nd") ≡ false
a_digit_first = refl

a_generated_word : is_plain_word (codes "htn_free") ≡ false
a_generated_word = refl

no_letter : is_plain_word [] ≡ false
no_letter = refl

two_digits : hex 10 ≡ codes "0a"
two_digits = refl

stays : escaped (codes "go-to_2") ≡ codes "go-to_2"
stays = refl

clash : escaped (codes "htn_free") ≡ codes "htn_u_68746e5f66726565"
clash = refl

dot : escaped (codes "a.b") ≡ codes "htn_u_612e62"
dot = refl

slot : slot_word 12 ≡ codes "htn_s12"
unfolding digits
slot = refl
