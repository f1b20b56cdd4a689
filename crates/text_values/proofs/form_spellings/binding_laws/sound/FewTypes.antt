-- Where no type is one too many, the types are as few as is allowed.
use Rattle.std.proofs.Common.{ℕ, zero, suc, ◌≡◌, ◌<◌, ◌≤◌, ◌+◌, Bool, true, false, cond, ◌||◌, ◌&&◌, not, inl, inr, List, [], ◌∷◌, ◌++◌, length, get_or, take, refl, sym, ap, subst, ◌∙◌, length-append, arith}
use Rattle.std.proofs.lemmas.Bool.{cases_lt, eq-eqb}
use Rattle.std.proofs.lemmas.List.{map-append, take_more}
use Rattle.std.proofs.Math.Seq.{take-length}
use Rattle.std.proofs.lemmas.Option.{slice_get_cases}
use Rattle.gd_reader.specs.declared.term.RawTerm.{RawTerm}
use Rattle.gd_reader.specs.declared.typed_lists.RawParam.{RawParam}
use Rattle.text_values.specs.form_spellings.Rising as read
use Rattle.name_binding.specs.Mentions.{own_word, mentioned, numbers_of, AreInTextOrder}
use Rattle.name_binding.specs.Seen.{is_among, first_seen}
use Rattle.name_binding.specs.TooMany.{HaveOneWordAPlace, IsOneTooMany}
use Rattle.name_binding.proofs.SeenLemmas.{first_seen-push}
use Rattle.name_binding.proofs.TooManyLemmas.{among-first_seen, one_too_many}

pub same_mentioned : (xs : List RawParam) → read.mentioned xs ≡ mentioned xs
same_mentioned [] = refl
same_mentioned (x ∷ xs) = ap (λ ws. own_word x ∷ (x.ty ++ ws)) (same_mentioned xs)

module _ (most object : ℕ) (xs : List RawParam) (words : List RawTerm) (order : AreInTextOrder xs words) (one : HaveOneWordAPlace (mentioned xs)) (none : (at : ℕ) → IsOneTooMany most object (mentioned xs) at → ⊥) where
  abbrev seen : List RawTerm → List ℕ
  seen ws = first_seen (object ∷ []) (numbers_of ws)

  grow : (j : ℕ) → j ≤ length words → length (seen (take j words)) ≤ most
  grow zero l = omega arith
  grow (suc j) l = elim (slice_get_cases words j).1 [
    | inl (w, here, e, g) ↦ step w here (sym g) (grow j (omega arith))
    | inr (past, e) ↦ absurd (omega arith)
  ]
    where
      step : (w : RawTerm) → j < length words → w ≡ get_or words j w → length (seen (take j words)) ≤ most → length (seen (take (suc j) words)) ≤ most
      step w here is few =
          let on : j + 1 ≡ suc j = omega arith in
          let more = sym (ap (λ k. take k words) on) ∙ take_more words j w here ∙ ap (λ t. take j words ++ t ∷ []) (sym is) in
          let said = ap numbers_of more ∙ map-append (λ (t : RawTerm). t.name.number) (take j words) (w ∷ []) in
          let pushed = ap (first_seen (object ∷ [])) said ∙ first_seen-push (object ∷ []) (numbers_of (take j words)) w.name.number in
          subst (λ ns. length ns ≤ most) (sym pushed) (go (is_among w.name.number (object ∷ [])) (is_among w.name.number (seen (take j words))) refl refl)
        where
          other : w.name.number ≡ object → is_among w.name.number (object ∷ []) ≡ false → ⊥
          other e f = let g = ap (λ b. b || false) (eq-eqb w.name.number object e) in let h = sym g ∙ f in absurd (cc)

          go : (a c : Bool) → is_among w.name.number (object ∷ []) ≡ a → is_among w.name.number (seen (take j words)) ≡ c → length (cond (a || c) (seen (take j words)) (seen (take j words) ++ w.name.number ∷ [])) ≤ most
          go true c f g = few
          go false true f g = few
          go false false f g = elim (cases_lt (length (seen (take j words))) most) [
            | inl l ↦ let e = length-append (seen (take j words)) (w.name.number ∷ []) in omega arith
            | inr l ↦
                let fresh = sym (among-first_seen w.name.number (object ∷ []) (numbers_of (take j words)) ∙ ap (λ b. not b && is_among w.name.number (numbers_of (take j words))) f) ∙ g in
                absurd (none w.at (one_too_many most object xs words order one j w here is fresh (λ e. other e f) (omega arith)))
          ]

  pub few_types : length (seen words) ≤ most
  few_types = subst (λ ws. length (seen ws) ≤ most) (take-length words) (grow (length words) (omega arith))
