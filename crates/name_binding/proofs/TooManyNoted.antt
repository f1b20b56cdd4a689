-- The fault that is noted is the least of too many types.
use Rattle.std.proofs.Common.{◌≡◌, ◌≢◌, ℕ, suc, ◌+◌, ◌≤◌, List, [], ◌∷◌, ◌++◌, false, length, take, drop, get_or, Some, refl, sym, ap, subst, ◌∙◌, inl, inr, arith}
use Rattle.std.proofs.lemmas.Bool.{cases_lt, cases_Bool, eq-eqb, ne_eqb, le-ltb, and_right}
use Rattle.std.proofs.lemmas.List.{map-append, append_assoc, take-append-drop}
use Rattle.std.proofs.lemmas.List.Elements.{All-nil, All-cons, All-contains, Contains-get_or}
use Rattle.htn_base.specs.Different.{AreDifferent}
use Rattle.plan_model.proofs.task_networks.Lists.{head_or_tail}
use Rattle.name_binding.specs.Places.{first_place}
use Rattle.name_binding.specs.Spots.{spot, is_in_front, AreLeastOf}
use Rattle.name_binding.specs.declared.faults.Spot.{Spot}
use Rattle.gd_reader.specs.declared.term.RawTerm.{RawTerm}
use Rattle.gd_reader.specs.declared.typed_lists.RawParam.{RawParam}
use Rattle.name_binding.specs.Seen.{is_among, first_seen}
use Rattle.name_binding.specs.Mentions.{mentioned, numbers_of, AreInTextOrder, types_in_order}
use Rattle.name_binding.specs.TooMany.{HaveOneWordAPlace, IsOneTooMany, IsTooManyTypes, NoneIsOfType, IsFirstOfType}
use Rattle.name_binding.proofs.SeenLemmas.{first_seen-push}
use Rattle.name_binding.proofs.StepLemmas.{map-push, take-read}
use Rattle.name_binding.proofs.TooManyLemmas.{among-first_seen, among-said, first_seen-different, first_seen-append, first_place-after, first_place-different, seen-out, one_too_many, at_least, none_too_many}

in_front-later : (s : Spot) (at : ℕ) → s.code ≡ 22 → at ≤ s.at → is_in_front s (spot at 22) ≡ false
in_front-later s at code later = rw (le-ltb s.at at later) (and_right _ _ (le-ltb s.code 22 (omega arith)))

place-object : (object n k : ℕ) (types : List ℕ) → n ≡ object → first_place n (object ∷ types) ≡ Some (k + 1) → ⊥
place-object object n k types e is =
    let first : Some 0 ≡ Some (k + 1) = sym (rw (eq-eqb n object e) refl) ∙ is in
    let zero : 0 ≡ k + 1 = cc in
    omega arith

first_seen-new : (object n : ℕ) (ns : List ℕ) → n ≢ object → is_among n ns ≡ false → first_seen (object ∷ []) (ns ++ n ∷ []) ≡ first_seen (object ∷ []) ns ++ n ∷ []
first_seen-new object n ns d none =
    let later : is_among n (first_seen (object ∷ []) ns) ≡ false = among-first_seen n (object ∷ []) ns ∙ and_right _ _ none in
    first_seen-push (object ∷ []) ns n ∙ rw (ne_eqb n object d, later) refl

module _ (most object : ℕ) (xs : List RawParam) (words : List RawTerm) (order : AreInTextOrder xs words) (one : HaveOneWordAPlace (mentioned xs)) where
  module _ (at : ℕ) (f : IsFirstOfType (types_in_order object words) (most + 1) words at) where
    not_object : f.word.name.number ≢ object
    not_object e = place-object object f.word.name.number most (first_seen (object ∷ []) (numbers_of words)) e f.is

    new : is_among f.word.name.number (numbers_of (take f.index words)) ≡ false
    new = elim (cases_Bool (is_among f.word.name.number (numbers_of (take f.index words)))) [
      | inl there ↦
          let (m, c, e) = among-said f.word.name.number (take f.index words) there in
          absurd (All-contains (λ (v : RawTerm). first_place v.name.number (types_in_order object words) ≢ Some (most + 1)) (take f.index words) m f.none_before c (ap (λ n. first_place n (types_in_order object words)) e ∙ f.is))
      | inr none ↦ none
    ]

    numbers : numbers_of words ≡ (numbers_of (take f.index words) ++ f.word.name.number ∷ []) ++ numbers_of (drop (f.index + 1) words)
    numbers =
        ap numbers_of (sym (take-append-drop (f.index + 1) words))
        ∙ map-append (λ (v : RawTerm). v.name.number) (take (f.index + 1) words) (drop (f.index + 1) words)
        ∙ ap (λ ws. numbers_of ws ++ numbers_of (drop (f.index + 1) words)) (take-read words f.index f.word f.word f.below f.read)
        ∙ ap (λ ns. ns ++ numbers_of (drop (f.index + 1) words)) (map-push (λ (v : RawTerm). v.name.number) (take f.index words) f.word)

    pub most_seen : length (first_seen (object ∷ []) (numbers_of (take f.index words))) ≡ most
    most_seen =
        let n = f.word.name.number in
        let ns = numbers_of (take f.index words) in
        let front = first_seen (object ∷ []) ns in
        let (zs, split) = first_seen-append (object ∷ []) (ns ++ n ∷ []) (numbers_of (drop (f.index + 1) words)) in
        let whole : types_in_order object words ≡ (object ∷ front) ++ n ∷ zs =
        ap (λ ms. object ∷ first_seen (object ∷ []) ms) numbers
        ∙ ap (λ ms. object ∷ ms) split
        ∙ ap (λ ms. object ∷ (ms ++ zs)) (first_seen-new object n ns not_object new)
        ∙ ap (λ ms. object ∷ ms) (append_assoc front (n ∷ []) zs) in
        let none : is_among n (object ∷ front) ≡ false = rw (ne_eqb n object not_object) (among-first_seen n (object ∷ []) ns ∙ and_right _ _ new) in
        let place : Some (most + 1) ≡ Some (suc (length front)) = sym f.is ∙ ap (first_place n) whole ∙ first_place-after n (object ∷ front) zs none in
        let same : most + 1 ≡ suc (length front) = cc in
        omega arith

    pub found : AreLeastOf (IsTooManyTypes most object xs) (spot at 22 ∷ [])
    found = record {
      sound = All-cons (IsTooManyTypes most object xs) (spot at 22) [] (refl, subst (IsOneTooMany most object (mentioned xs)) f.here (one_too_many most object xs words order one f.index f.word f.below f.read new not_object most_seen)) (All-nil (IsTooManyTypes most object xs));
      least = λ s g. (
        0,
        spot at 22,
        omega arith,
        refl,
        elim (cases_lt s.at at) [
          | inl before ↦ absurd (at_least most object xs words order one f.index f.word f.below f.read new most_seen s.at g.1 (let h = f.here in omega arith))
          | inr later ↦ in_front-later s at g.0 later
        ],
      );
    }

  types-different : AreDifferent (types_in_order object words)
  types-different = (λ c. (seen-out most object xs words order one words object c).0 refl, first_seen-different (object ∷ []) (numbers_of words))

  pub room : NoneIsOfType (types_in_order object words) (most + 1) words → length (first_seen (object ∷ []) (numbers_of words)) ≤ most
  room none = elim (cases_lt most (length (first_seen (object ∷ []) (numbers_of words)))) [
    | inl over ↦
        let types = types_in_order object words in
        let n = get_or types (most + 1) 0 in
        let place = first_place-different types (most + 1) 0 types-different (omega arith) in
        elim (head_or_tail object (first_seen (object ∷ []) (numbers_of words)) n (Contains-get_or types (most + 1) 0 (omega arith))) [
          | inl e ↦ absurd (place-object object n most (first_seen (object ∷ []) (numbers_of words)) (sym e) place)
          | inr c ↦
              let (d, (m, cm, e)) = seen-out most object xs words order one words n c in
              absurd (All-contains (λ (v : RawTerm). first_place v.name.number types ≢ Some (most + 1)) words m none cm (ap (λ k. first_place k types) e ∙ place))
        ]
    | inr fits ↦ fits
  ]

  pub absent : NoneIsOfType (types_in_order object words) (most + 1) words → AreLeastOf (IsTooManyTypes most object xs) []
  absent none = record {
    sound = All-nil (IsTooManyTypes most object xs);
    least = λ s g. absurd (none_too_many most object xs words order one (room none) s.at g.1);
  }
