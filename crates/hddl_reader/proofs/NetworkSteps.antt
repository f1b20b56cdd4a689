-- Each production of networks as steps from token to token, as the code takes them.
use Rattle.std.proofs.Common.{◌≡◌, ℕ, if◌then◌else◌, Ok, Result, Option, Some, None, List, [], ◌∷◌, ◌++◌, refl, sym, ◌∙◌, ap, subst, codes}
use Rattle.std.proofs.lemmas.List.{append-nil}
use Rattle.text_forms.specs.Placed.{Placed, cut, close, word, list}
use Rattle.gd_reader.specs.declared.stop.Stop.{Stop}
use Rattle.gd_reader.specs.declared.stop.Failure.{Failure}
use Rattle.gd_reader.specs.Answers.{◌>>=◌, Fails, with_front, word_or_end}
use Rattle.gd_reader.specs.Terms.{Names}
use Rattle.gd_reader.proofs.Steps.{Met, fails_bind, front_more}
use Rattle.hddl_reader.specs.Networks.{is_word, Headed, one_of, all_of, some_of}

module _ {X : Type 0} (headed : Headed X) where
  -- the items so far, and what is still read
  module _ (front : List X) (names : Names) (p : Placed) (whole : Result (List X × Names) Stop) (so_far : with_front front (all_of headed names p) ≡ whole) where
    pub all_of_end : (at : ℕ) → p ≡ close at → whole ≡ Ok (front, names)
    all_of_end at e = sym so_far ∙ ap (λ p. with_front front (all_of headed names p)) e ∙ ap (λ (l : List X). Ok (l, names)) (append-nil front)

    module _ (at : ℕ) (inside behind : Placed) (is : p ≡ list at inside behind) where
      all_of_then : with_front front (one_of headed names at inside >>= (λ x. all_of headed x.1 behind >>= (λ xs. Ok (x.0 ∷ xs.0, xs.1)))) ≡ whole
      all_of_then = sym (ap (λ p. with_front front (all_of headed names p)) is) ∙ so_far

      pub all_of_stop : (e : Failure) → Fails e (one_of headed names at inside) → Fails e whole
      all_of_stop e f =
          subst (Fails e) all_of_then
          (fails_bind e _ (λ r. Ok (front ++ r.0, r.1)) (fails_bind e (one_of headed names at inside) (λ x. all_of headed x.1 behind >>= (λ xs. Ok (x.0 ∷ xs.0, xs.1))) f))

      pub all_of_next : (x : X) (left : Names) → one_of headed names at inside ≡ Ok (x, left) → with_front (front ++ x ∷ []) (all_of headed left behind) ≡ whole
      all_of_next x left t =
          sym (front_more front x (all_of headed left behind))
          ∙ sym (ap (λ a. with_front front (a >>= (λ x. all_of headed x.1 behind >>= (λ xs. Ok (x.0 ∷ xs.0, xs.1))))) t)
          ∙ all_of_then

  -- what the word at the front of the list begins
  abbrev pub some_by : Names → ℕ → Option Met → Result (List X × Names) Stop
  some_by names place None = Ok ([], names)
  some_by names place (Some v) = if is_word (codes "and") v.1 then all_of headed names v.2 else headed names place v.0 v.1 v.2 >>= (λ x. Ok (x.0 ∷ [], x.1))

  pub some_of_is : (names : Names) (place : ℕ) (p : Placed) → some_of headed names place p ≡ word_or_end p >>= some_by names place
  unfolding some_of word_or_end
  some_of_is names place cut = refl
  some_of_is names place (close at) = refl
  some_of_is names place (word at w p) = refl
  some_of_is names place (list at p q) = refl
