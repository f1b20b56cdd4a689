-- Variables enter and leave.
use Rattle.std.proofs.Common.{ℕ, ◌≡◌, ◌<◌, List, [], ◌∷◌, ◌++◌, Option, Some, length, set, refl, ◌∙◌, inl, inr, arith, length-append}
use Rattle.std.proofs.lemmas.Bool.{cases_lt}
use Rattle.std.proofs.lemmas.List.{get_or_append_left, get_or_at, take-append-le, take_at, map_push, length-map}
use Rattle.name_binding.specs.declared.variables.Entered.{Entered}
use Rattle.name_binding.specs.Places.{last_place, cell}
use Rattle.name_binding.specs.Entered.{numbers_of, HideLast, AreInForce}
use Rattle.name_binding.proofs.Found.{cell_within, last_same, last_entered, last_left}

abbrev number : Entered → ℕ
number e = e.number

module _ (es : List Entered) (e : Entered) where
  pushed : numbers_of (es ++ e ∷ []) ≡ numbers_of es ++ e.number ∷ []
  pushed = map_push number es e

  count : length (numbers_of es) ≡ length es
  count = length-map es number

  hidden_push : HideLast es → e.hidden ≡ last_place e.number (numbers_of es) → HideLast (es ++ e ∷ [])
  hidden_push h same k d l = elim (cases_lt k (length es)) [
    | inl b ↦ rw (pushed, get_or_append_left es (e ∷ []) d k b, take-append-le k (numbers_of es) (e.number ∷ []) (omega (arith, count))) (h k d b)
    | inr p ↦
        let at : length es ≡ k = omega (arith, length-append es (e ∷ [])) in
        rw (pushed, get_or_at es e [] d k at, take_at (numbers_of es) (e.number ∷ []) k (count ∙ at)) same
  ]

  hidden_pop : HideLast (es ++ e ∷ []) → HideLast es
  hidden_pop h k d l =
      let here = h k d (omega (arith, length-append es (e ∷ []))) in
      rw (pushed, get_or_append_left es (e ∷ []) d k l, take-append-le k (numbers_of es) (e.number ∷ []) (omega (arith, count))) at here

  hidden_last : HideLast (es ++ e ∷ []) → e.hidden ≡ last_place e.number (numbers_of es)
  hidden_last h =
      let here = h (length es) e (omega (arith, length-append es (e ∷ []))) in
      rw (pushed, get_or_at es e [] e (length es) refl, take_at (numbers_of es) (e.number ∷ []) (length es) count) at here

pub entered : (cells : List (Option ℕ)) (es : List Entered) (e : Entered) (k : ℕ) → AreInForce cells es → e.number < length cells → e.hidden ≡ cell cells e.number → k ≡ length es → AreInForce (set cells e.number (Some k)) (es ++ e ∷ [])
entered cells es e k h l same at = record {
  last = rw (pushed es e, at, ← count es e) (last_entered cells (numbers_of es) e.number h.last l);
  hidden = hidden_push es e h.hidden (same ∙ h.last e.number);
}

pub left : (cells : List (Option ℕ)) (es : List Entered) (e : Entered) → AreInForce cells (es ++ e ∷ []) → AreInForce (set cells e.number e.hidden) es
left cells es e h = record {
  last = let last = h.last in last_left cells (numbers_of es) e.number e.hidden (rw (pushed es e) at last) (hidden_last es e h.hidden);
  hidden = hidden_pop es e h.hidden;
}

pub room_to_leave : (cells : List (Option ℕ)) (es : List Entered) (e : Entered) → AreInForce cells (es ++ e ∷ []) → e.number < length cells
room_to_leave cells es e h =
    let last = h.last e.number in
    let is = rw (pushed es e) at last in
    cell_within cells e.number (length (numbers_of es)) (is ∙ last_same e.number (numbers_of es))
