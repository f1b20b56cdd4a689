-- A word that stands in a table has the number of its place.
use Rattle.std.proofs.Common.{ℕ, zero, suc, ◌≡◌, ◌+◌, false, not, cond, nat_lt, unwrap_or, List, [], ◌∷◌, length, slice_get, Some, None, ap, sym, ◌∙◌, arith}
use Rattle.std.specs.List.{position_or_len}
use Rattle.std.specs.Str.{bytes_eq}
use Rattle.std.proofs.lemmas.Bool.{lt-ltb}
use Rattle.std.proofs.lemmas.Option.{none-some, same_Some, slice_get_within, get_or_from_slice_get}
use Rattle.htn_base.specs.Different.{AreDifferent}
use Rattle.htn_base.specs.Table.{number_of}
use Rattle.htn_base.specs.declared.name.Name.{Name}
use Rattle.text_forms.specs.Words.{Word}
use Rattle.plan_texts.proofs.Basics.{bytes_eq-refl, bytes_eq-other}
use Rattle.slot_encoding.specs.SourceParts.{name}

place : (ws : List Word) (k : ℕ) (w : Word) → AreDifferent ws → slice_get ws k ≡ Some w → position_or_len (bytes_eq w) ws ≡ k
place [] k w d e = absurd (none-some w e)
place (x ∷ ws) zero w d e =
    ap (λ y. cond (not (bytes_eq w y)) (1 + position_or_len (bytes_eq w) ws) 0) (same_Some x w e)
    ∙ ap (λ t. cond (not t) (1 + position_or_len (bytes_eq w) ws) 0) (bytes_eq-refl w)
place (x ∷ ws) (suc k) w d e =
    let other : bytes_eq w x ≡ false = bytes_eq-other w x (λ same. d.0 (k, slice_get_within ws k w e, get_or_from_slice_get ws k w x e ∙ same)) in
    let next : 1 + k ≡ suc k = omega arith in
    ap (λ t. cond (not t) (1 + position_or_len (bytes_eq w) ws) 0) other ∙ ap (λ j. 1 + j) (place ws k w d.1 e) ∙ next

number : (ws : List Word) (k : ℕ) (w : Word) → AreDifferent ws → slice_get ws k ≡ Some w → number_of ws w ≡ Some k
number ws k w d e =
    ap (λ j. cond (nat_lt j (length ws)) (Some j) None) (place ws k w d e) ∙ ap (λ t. cond t (Some k) None) (lt-ltb k (length ws) (slice_get_within ws k w e))

-- so a name is that of the word that it has
pub name-at : (ws : List Word) (n : Name) (w : Word) → AreDifferent ws → slice_get ws n.number ≡ Some w → n ≡ name ws w
name-at ws n w d e = λ i. record { number = unwrap_or (sym (number ws n.number w d e) i) (length ws) }
