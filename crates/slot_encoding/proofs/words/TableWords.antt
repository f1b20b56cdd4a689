-- A word that a name table has is the word of its name.
use Rattle.std.proofs.Common.{suc, ◌≡◌, ◌+◌, inl, inr, Bool, true, false, not, cond, List, [], ◌∷◌, map, length, slice_get, unwrap_or, Some, None, refl, ap, sym, ◌∙◌, arith, true≢false}
use Rattle.std.specs.List.{position_or_len}
use Rattle.std.specs.Str.{bytes_eq}
use Rattle.text_forms.specs.Words.{Word, word_at}
use Rattle.plan_texts.specs.Declared.{named}
use Rattle.plan_texts.specs.Types.{Has}
use Rattle.plan_texts.proofs.Basics.{bytes_eq-true, bytes_eq-refl}
use Rattle.slot_encoding.proofs.places.Places.{get-word}
use Rattle.slot_encoding.specs.SourceParts.{name}
use Rattle.plan_model.proofs.plan_meaning.examples.Unequal.{to_lt}
use Rattle.slot_encoding.proofs.places.ListPlaces.{get_within}

module _ (w : Word) where
  at_place : (names : List Word) → Has names w → slice_get names (position_or_len (bytes_eq w) names) ≡ Some w
  at_place [] h = absurd h
  at_place (x ∷ names) h = go (bytes_eq w x) refl h (at_place names)
    where
      one_more : 1 + position_or_len (bytes_eq w) names ≡ suc (position_or_len (bytes_eq w) names)
      one_more = omega arith

      go : (t : Bool) → bytes_eq w x ≡ t → Has (x ∷ names) w → (Has names w → slice_get names (position_or_len (bytes_eq w) names) ≡ Some w) → slice_get (x ∷ names) (cond (not t) (1 + position_or_len (bytes_eq w) names) 0) ≡ Some w
      go true e k r = ap Some (sym (bytes_eq-true w x e))
      go false e (inl f) r = absurd (true≢false (sym (bytes_eq-refl w) ∙ ap (bytes_eq w) (sym f) ∙ e))
      go false e (inr k) r = ap (slice_get (x ∷ names)) one_more ∙ r k

  pub named-name : (names : List Word) → Has names w → named names (name names w) ≡ w
  named-name names h =
      let k = position_or_len (bytes_eq w) names in
      let e = at_place names h in
      let f = ap (λ z. cond z (Some k) None) (to_lt k (length names) (get_within names k w e)) in
      ap (λ z. word_at names (unwrap_or z (length names))) f ∙ get-word names k w e

-- and so the words of names that are those of listed words
pub words-named : {X : Type 0} (names : List Word) (word : X → Word) (xs : List X) → ((x : X) → Has xs x → Has names (word x)) → map (λ x. named names (name names (word x))) xs ≡ map word xs
words-named names word [] h = refl
words-named names word (x ∷ xs) h = let e = named-name (word x) names (h x (inl refl)) in let r = words-named names word xs (λ y k. h y (inr k)) in λ i. e i ∷ r i

-- words of what is made of a list
pub words-made : {X Y : Type 0} (made : X → Y) (read : Y → Word) (word : X → Word) (xs : List X) → ((x : X) → Has xs x → read (made x) ≡ word x) → map read (map made xs) ≡ map word xs
words-made made read word [] h = refl
words-made made read word (x ∷ xs) h = let e = h x (inl refl) in let r = words-made made read word xs (λ y k. h y (inr k)) in λ i. e i ∷ r i
