-- Each token is a longest run of letters or a parenthesis.
use Rattle.std.proofs.Common.{ℕ, suc, ◌+◌, ◌-◌, ◌<◌, ◌≤◌, ◌≡◌, ◌⊎◌, inl, inr, Option, Some, None, List, [], ◌∷◌, ◌++◌, All, refl, subst, arith}
use Rattle.std.specs.Prelude.{slice_get}
use Rattle.std.proofs.lemmas.Bool.{cases_lt}
use Rattle.std.proofs.lemmas.List.Elements.{All-append, All-push}
use Rattle.text_forms.specs.Bytes.{Class, blank, opening, closing, letter, bad, classes}
use Rattle.text_forms.specs.Tokens.{start, stop, word, token, ended, begun, tokens_from, tokens}
use Rattle.text_forms.specs.LongestRuns.{IsAt, IsFreeBefore, IsMade}

module _ (text : List ℕ) where
  -- these are the classes from a place on
  abbrev pub Rest : ℕ → List Class → Type 0
  Rest at cs = (k : ℕ) → slice_get (classes text) (at + k) ≡ slice_get cs k

  pub whole : Rest 0 (classes text)
  whole k = let e : k ≡ 0 + k = omega arith in subst (λ z. slice_get (classes text) z ≡ slice_get (classes text) k) e refl

  pub here : (at : ℕ) (c : Class) (cs : List Class) → Rest at (c ∷ cs) → IsAt text at c
  here at c cs r = let e : at + 0 ≡ at = omega arith in subst (λ z. IsAt text z c) e (r 0)

  pub next : (at : ℕ) (c : Class) (cs : List Class) → Rest at (c ∷ cs) → Rest (at + 1) cs
  next at c cs r k = let e : at + suc k ≡ (at + 1) + k = omega arith in subst (λ z. slice_get (classes text) z ≡ slice_get cs k) e (r (suc k))

  pub past : (at : ℕ) → Rest at [] → (k : ℕ) → at ≤ k → (c : Class) → IsAt text k c → ⊥
  past at r k l c g = let e : at + (k - at) ≡ k = omega arith in let n : slice_get (classes text) k ≡ None = subst (λ z. slice_get (classes text) z ≡ None) e (r (k - at)) in cc

  -- a word is under way since a place
  abbrev Under : Option ℕ → ℕ → Type 0
  Under None at = IsFreeBefore text at
  Under (Some first) at = (first < at) × ((k : ℕ) → first ≤ k → k < at → IsAt text k letter) × IsFreeBefore text first

  -- behind a letter
  longer : (u : Option ℕ) (at : ℕ) → Under u at → IsAt text at letter → Under (begun u at) (at + 1)
  longer None at h e = (omega arith, λ k l m. (let s : at ≡ k = omega arith in subst (λ z. IsAt text z letter) s e), h)
  longer (Some first) at h e = (let l = h.0 in omega arith, λ k l m. go k l m (cases_lt k at), h.2)
    where
      go : (k : ℕ) → first ≤ k → k < at + 1 → (k < at) ⊎ (at ≤ k) → IsAt text k letter
      go k l m (inl n) = h.1 k l n
      go k l m (inr n) = let s : at ≡ k = omega arith in subst (λ z. IsAt text z letter) s e

  -- behind another byte
  free : (at : ℕ) → (IsAt text at letter → ⊥) → IsFreeBefore text (at + 1)
  free at n k e g = let s : k ≡ at = omega arith in n (subst (λ z. IsAt text z letter) s g)

  run_made : (u : Option ℕ) (at : ℕ) → Under u at → (IsAt text at letter → ⊥) → All (IsMade text) (ended u at)
  run_made None at h n = λ k d l. absurd (omega arith)
  run_made (Some first) at h n = All-push (IsMade text) [] (token word first at) (λ k d l. absurd (omega arith)) (record { some = h.0; letters = h.1; free_before = h.2; free_behind = n })

  made_from : (u : Option ℕ) (at : ℕ) (cs : List Class) → Rest at cs → Under u at → All (IsMade text) (tokens_from u at cs)
  made_from u at [] r h = run_made u at h (past at r at (omega arith) letter)
  made_from u at (letter ∷ cs) r h = made_from (begun u at) (at + 1) cs (next at letter cs r) (longer u at h (here at letter cs r))
  made_from u at (blank ∷ cs) r h = let e = here at blank cs r in let n : IsAt text at letter → ⊥ = λ f. cc in All-append (IsMade text) (ended u at) _ (run_made u at h n) (made_from None (at + 1) cs (next at blank cs r) (free at n))
  made_from u at (bad ∷ cs) r h = let e = here at bad cs r in let n : IsAt text at letter → ⊥ = λ f. cc in All-append (IsMade text) (ended u at) _ (run_made u at h n) (made_from None (at + 1) cs (next at bad cs r) (free at n))
  made_from u at (opening ∷ cs) r h =
      let e = here at opening cs r in let n : IsAt text at letter → ⊥ = λ f. cc in
      All-append (IsMade text) (ended u at ++ token start at (at + 1) ∷ []) _ (All-push (IsMade text) (ended u at) (token start at (at + 1)) (run_made u at h n) (e, refl)) (made_from None (at + 1) cs (next at opening cs r) (free at n))
  made_from u at (closing ∷ cs) r h =
      let e = here at closing cs r in let n : IsAt text at letter → ⊥ = λ f. cc in
      All-append (IsMade text) (ended u at ++ token stop at (at + 1) ∷ []) _ (All-push (IsMade text) (ended u at) (token stop at (at + 1)) (run_made u at h n) (e, refl)) (made_from None (at + 1) cs (next at closing cs r) (free at n))

  pub each_made : All (IsMade text) (tokens text)
  each_made = made_from None 0 (classes text) whole (λ k e g. absurd (omega arith))
