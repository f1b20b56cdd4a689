-- Steps of a list, taken one after another.
use Rattle.std.proofs.Common.{ℕ, ◌≡◌, ◌+◌, ◌≤◌, ◌<◌, ◌⊎◌, inl, inr, false, Option, Some, None, List, [], ◌∷◌, ◌++◌, length, get_or, take, drop, refl, ap, sym, subst, ◌∙◌, arith, append_assoc, take-append-drop, length-take-le}
use Rattle.std.specs.Option.{is_some}
use Rattle.std.proofs.lemmas.Bool.{cases_lt}
use Rattle.std.proofs.lemmas.List.{take_all}
use Rattle.plan_model.specs.declared.steps.GroundAction.{GroundAction}
use Rattle.plan_model.specs.declared.values.Compiled.{Compiled}
use Rattle.ground_state.proofs.Lists.{take_next}
use Rattle.decoding.specs.declared.causes.Why.{Why}
use Rattle.decoding.specs.PrintedSteps.{FailsAt}
use Rattle.tree_decoder.specs.declared.decoder.Decoder.{Decoder}
use Rattle.tree_decoder.specs.Decoding.{HasTaken, FailsHere}

module _ (c : Compiled) (b : ℕ) (steps : List GroundAction) where
  -- one more of them
  module _ (i : ℕ) (step : GroundAction) (l : i < length steps) (e : step ≡ get_or steps i step) where
    more : take (i + 1) steps ≡ take i steps ++ step ∷ []
    more = take_next steps i step l e

    pub taken_more : (decoder : Decoder) → HasTaken c b (take i steps ++ step ∷ []) decoder → HasTaken c b (take (i + 1) steps) decoder
    taken_more decoder h = subst (λ s. HasTaken c b s decoder) (sym more) h

    pub fails_there : (why : Why) → FailsHere c b (take i steps) step why → FailsAt c b steps (i + 1) why
    fails_there why f =
        let all : take i steps ++ step ∷ drop (i + 1) steps ≡ steps =
        sym (append_assoc (take i steps) (step ∷ []) (drop (i + 1) steps))
        ∙ ap (λ t. t ++ drop (i + 1) steps) (sym more) ∙ take-append-drop (i + 1) steps in
        let k : length (take i steps) ≡ i = length-take-le i steps (omega arith) in
        subst (λ n. FailsAt c b steps (n + 1) why) k
        (subst (λ s. FailsAt c b s (length (take i steps) + 1) why) all (f (drop (i + 1) steps)))

  -- and all of them
  pub taken_all : (i : ℕ) (decoder : Decoder) → length steps ≤ i → HasTaken c b (take i steps) decoder → HasTaken c b steps decoder
  taken_all i decoder l h = subst (λ s. HasTaken c b s decoder) (take_all i steps l) h

-- what is so of the numbers from 1 on, up to one more
pub next_below : (P : ℕ → Type 0) (n : ℕ) → ((x : ℕ) → 1 ≤ x → x < n → P x) → P n → (x : ℕ) → 1 ≤ x → x < n + 1 → P x
next_below P n below here x l m = go (cases_lt x n)
  where
    go : (x < n) ⊎ (n ≤ x) → P x
    go (inl k) = below x l k
    go (inr k) = let e : n ≡ x = omega arith in subst P e here

pub none_of : {A : Type 0} (o : Option A) → is_some o ≡ false → o ≡ None
none_of None e = refl
none_of (Some x) e = absurd cc
