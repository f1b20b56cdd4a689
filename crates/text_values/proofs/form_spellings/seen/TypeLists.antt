-- The words of a list of types, put in the order of their offsets, name the types in the order of the text.
use Rattle.std.proofs.Common.{◌≡◌, ◌∙◌, ℕ, zero, suc, ◌<◌, List, [], ◌∷◌, map, length, slice_index_or, refl, sym, ap, arith}
use Rattle.std.proofs.lemmas.List.Sorted.{IsPermutation-map}
use Rattle.std.specs.List.Sorted.{IsNonDecreasingBy}
use Rattle.text_forms.specs.Placed.{parts_at, parts_of}
use Rattle.plan_texts.specs.FirstSeen.{type_words_in}
use Rattle.plan_texts.specs.TypedLists.{first_seen}
use Rattle.plan_texts.proofs.Unique.{map-map}
use Rattle.gd_reader.specs.declared.typed_lists.ListKind.TheVariants.{Types}
use Rattle.gd_reader.specs.TypedLists.{listed}
use Rattle.text_values.specs.form_spellings.Rising.{mentioned}
use Rattle.text_values.specs.form_spellings.SeenInOrder.{AreSorted}
use Rattle.text_values.specs.form_spellings.TypeOrder.{TypesStandInOrder}
use Rattle.text_values.specs.form_spellings.Written.{Written, word_written, type_words}
use Rattle.text_values.proofs.form_spellings.NamesIn.{stands}
use Rattle.text_values.proofs.form_spellings.order.Spans.{parts_rise}
use Rattle.text_values.proofs.form_spellings.seen.Theorem.{IsShown, words_kept}
use Rattle.text_values.proofs.form_spellings.seen.TypeWords.{words_at, words_erased, words_climb, WordsSeen, type_words_seen}

-- a list of what stands at its places
module _ {X Y : Type 0} (f : X → Written Y) where
  standing : (xs : List X) (i : ℕ) (d : Written Y) → i < length xs → (x : X) × (slice_index_or (map f xs) i d ≡ f x) × ((e : X) → slice_index_or xs i e ≡ x)
  standing [] i d l = absurd (omega arith)
  standing (x ∷ xs) zero d l = (x, refl, λ e. refl)
  standing (x ∷ xs) (suc i) d l = standing xs i d (omega arith)

  count : (xs : List X) → length (map f xs) ≡ length xs
  count [] = refl
  count (x ∷ xs) = ap suc (count xs)

  pub mapped_rise : (xs : List X) → IsNonDecreasingBy (λ (x : X). (f x).at) xs → IsNonDecreasingBy (λ (w : Written Y). w.at) (map f xs)
  mapped_rise xs h i j d l m =
      let c = count xs in
      let a = standing xs i d (omega arith) in
      let b = standing xs j d (omega arith) in
      let r = h i j a.0 l (omega arith) in
      let x : (slice_index_or (map f xs) i d).at ≡ (f (slice_index_or xs i a.0)).at = ap (λ (w : Written Y). w.at) (a.1 ∙ ap f (sym (a.2 a.0))) in
      let y : (slice_index_or (map f xs) j d).at ≡ (f (slice_index_or xs j a.0)).at = ap (λ (w : Written Y). w.at) (b.1 ∙ ap f (sym (b.2 a.0))) in
      omega arith

pub types_stand : TypesStandInOrder
types_stand text i names left later xs e k words q r seen =
    let p = parts_at text i in
    let s = parts_rise text i in
    let same = stands (WordsSeen p) names left (listed Types names p) xs e (type_words_seen p names) later k in
    let shown : IsShown (type_words later xs) (type_words_in (parts_of p)) = record { ordered = words_at p; from = s.0; to = s.1; climbs = words_climb p s.0 s.1 s.2; same = same; text_is = sym (words_erased p) } in
    let sorted : AreSorted (type_words later xs) (map (word_written later) words) = record { same = IsPermutation-map (word_written later) (mentioned xs) words q; rise = mapped_rise (word_written later) words r } in
    ap (first_seen seen) (map-map (word_written later) (λ w. w.is) words) ∙ words_kept (type_words later xs) (map (word_written later) words) (type_words_in (parts_of p)) seen shown sorted
