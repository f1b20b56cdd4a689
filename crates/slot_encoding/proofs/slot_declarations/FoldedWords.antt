-- Printed words are in lower case.
use Rattle.std.proofs.Common.{ℕ, ◌≡◌, ◌+◌, ◌-◌, ◌/◌, ◌%◌, List, [], ◌∷◌, ◌++◌, Bool, true, false, cond, nat_lt, length, codes, decimal, slice_index_or, refl, ◌∙◌, arith}
use Rattle.std.specs.Char.{to_ascii_lowercase}
use Rattle.std.specs.List.{flat_map}
use Rattle.std.proofs.lemmas.Bool.{and_parts, eqb-true}
use Rattle.std.proofs.lemmas.Bool.Decides.{nat_tests}
use Rattle.std.proofs.lemmas.List.{map-append}
use Rattle.htn_base.specs.Words.{IsFolded}
use Rattle.htn_base.specs.Escapes.{is_plain_word, hex_digit, hex, escaped}
use Rattle.htn_base.specs.declared.name.Name.{Name}
use Rattle.text_forms.specs.Words.{Word}
use Rattle.text_forms.specs.Printing.{are_folded}
use Rattle.plan_model.specs.declared.values.Compiled.{Compiled}
use Rattle.slot_encoding.specs.SourceParts.{source_word}
use Rattle.slot_encoding.specs.EncodedNames.{guard_word}
use Rattle.slot_encoding.proofs.words.PlainWords.{folded-plain, folded-decimal}

pub join-folded : (u w : Word) → IsFolded u → IsFolded w → IsFolded (u ++ w)
join-folded u w e f = map-append to_ascii_lowercase u w ∙ (λ i. e i ++ f i)

letters-folded : (w : Word) → are_folded w ≡ true → IsFolded w
letters-folded [] e = refl
letters-folded (b ∷ w) e =
    let p = and_parts _ _ e in
    let q = and_parts _ _ p.0 in
    let here : to_ascii_lowercase b ≡ b = eqb-true (to_ascii_lowercase b) b q.1 in
    let rest : IsFolded w = letters-folded w p.1 in
    λ i. here i ∷ rest i

digit-folded : (d : ℕ) → to_ascii_lowercase (hex_digit d) ≡ hex_digit d
digit-folded d = grind (arith, nat_tests)

hex-folded : (w : Word) → IsFolded (flat_map hex w)
hex-folded [] = refl
hex-folded (b ∷ w) =
    let high = digit-folded (b / 16) in
    let low = digit-folded (b % 16) in
    let rest : IsFolded (flat_map hex w) = hex-folded w in
    λ i. high i ∷ (low i ∷ rest i)

pub escaped-folded : (w : Word) → IsFolded (escaped w)
escaped-folded w = by (is_plain_word w) refl
  where
    by : (t : Bool) → is_plain_word w ≡ t → IsFolded (cond t w (codes "htn_u_" ++ flat_map hex w))
    by true e = letters-folded w (folded-plain w (and_parts _ _ (and_parts _ _ e).0).1)
    by false e = join-folded (codes "htn_u_") (flat_map hex w) refl (hex-folded w)

pub own-folded : (source : List Word) (n : Name) → IsFolded (source_word source n)
own-folded source n = escaped-folded (slice_index_or source n.number [])

pub decimal-folded : (n : ℕ) → IsFolded (decimal n)
decimal-folded n = letters-folded (decimal n) (folded-decimal n)

pub guard-folded : (c : Compiled) (ty : ℕ) → IsFolded (guard_word c [] 0 ty)
guard-folded c ty = by (nat_lt ty (length c.hddl.types.names))
  where
    by : (t : Bool) → IsFolded (cond t (codes "htn_is_" ++ source_word c.hddl.names (slice_index_or c.hddl.types.names ty (record { number = 0 }))) (codes "htn_in_" ++ decimal (ty - length c.hddl.types.names + 1)))
    by true = join-folded (codes "htn_is_") (source_word c.hddl.names (slice_index_or c.hddl.types.names ty (record { number = 0 }))) refl (own-folded c.hddl.names (slice_index_or c.hddl.types.names ty (record { number = 0 })))
    by false = join-folded (codes "htn_in_") (decimal (ty - length c.hddl.types.names + 1)) refl (decimal-folded (ty - length c.hddl.types.names + 1))
