-- Parentheses match exactly where no list is left open and no closing parenthesis is stray.
use Rattle.std.proofs.Common.{◌≡◌, ℕ, zero, suc, ◌+◌, ◌⊎◌, inl, inr, Bool, true, false, nat_le, if◌then◌else◌, length, map, Option, Some, None, List, [], ◌∷◌, ◌++◌, refl, sym, ◌∙◌, ap, subst, append_assoc}
use Rattle.text_forms.specs.Bytes.{Class, blank, opening, closing, letter, bad, classes}
use Rattle.text_forms.specs.Tokens.{Token, token, start, stop, ended, begun, tokens_from, lexeme, symbol}
use Rattle.htn_base.specs.Limits.{deepest}
use Rattle.text_forms.specs.Faults.{Fault, fault, HasFault}
use Rattle.text_forms.specs.Lists.{AreMatched}
use Rattle.text_forms.specs.Laws.{MatchedAreFaultless}

abbrev IsOfLists : Fault → Type 0
IsOfLists f = (f.code ≡ 2) ⊎ (f.code ≡ 3)

module _ (text : List ℕ) where
  abbrev Matched : ℕ → List Token → Type 0
  Matched d ts = AreMatched d (map symbol (map (lexeme text) ts))

  -- a word under way changes nothing
  matched-ended : (d at : ℕ) (w : Option ℕ) (ts : List Token) → Matched d (ended w at ++ ts) ≡ Matched d ts
  matched-ended zero at None ts = refl
  matched-ended (suc d) at None ts = refl
  matched-ended zero at (Some first) ts = refl
  matched-ended (suc d) at (Some first) ts = refl

  matched-opening : (d at : ℕ) (w : Option ℕ) (ts : List Token) → Matched d ((ended w at ++ token start at (at + 1) ∷ []) ++ ts) ≡ Matched (suc d) ts
  matched-opening d at w ts = ap (Matched d) (append_assoc (ended w at) (token start at (at + 1) ∷ []) ts) ∙ matched-ended d at w (token start at (at + 1) ∷ ts) ∙ same d
    where
      same : (d : ℕ) → Matched d (token start at (at + 1) ∷ ts) ≡ Matched (suc d) ts
      same zero = refl
      same (suc d) = refl

  matched-closing : (d at : ℕ) (w : Option ℕ) (ts : List Token) → Matched (suc d) ((ended w at ++ token stop at (at + 1) ∷ []) ++ ts) ≡ Matched d ts
  matched-closing d at w ts = ap (Matched (suc d)) (append_assoc (ended w at) (token stop at (at + 1) ∷ []) ts) ∙ matched-ended (suc d) at w (token stop at (at + 1) ∷ ts)

  matched-stray : (at : ℕ) (w : Option ℕ) (ts : List Token) → Matched zero ((ended w at ++ token stop at (at + 1) ∷ []) ++ ts) ≡ ⊥
  matched-stray at w ts = ap (Matched zero) (append_assoc (ended w at) (token stop at (at + 1) ∷ []) ts) ∙ matched-ended zero at w (token stop at (at + 1) ∷ ts)

  four : (t : Bool) (code : ℕ) → (if t then Some 4 else None) ≡ Some code → code ≡ 4
  four true code e = cc
  four false code e = cc

  no_fault : (ps : List ℕ) (w : Option ℕ) (at : ℕ) (cs : List Class) → Matched (length ps) (tokens_from w at cs) → (f : Fault) → HasFault ps at cs f → IsOfLists f → ⊥
  no_fault [] w at [] m f h k = absurd (let e = h.1 in cc)
  no_fault (p ∷ ps) None at [] m f h k = m
  no_fault (p ∷ ps) (Some first) at [] m f h k = m
  no_fault ps w at (letter ∷ cs) m f (inl h) k = absurd (let e = h.1 in cc)
  no_fault ps w at (letter ∷ cs) m f (inr h) k = no_fault ps (begun w at) (at + 1) cs m f h k
  no_fault ps w at (blank ∷ cs) m f (inl h) k = absurd (let e = h.1 in cc)
  no_fault ps w at (blank ∷ cs) m f (inr h) k = no_fault ps None (at + 1) cs (subst (λ (T : Type 0). T) (matched-ended (length ps) at w (tokens_from None (at + 1) cs)) m) f h k
  no_fault ps w at (bad ∷ cs) m f (inl h) (inl k) = absurd (let e = h.1 in let g = ap (λ (x : Fault). x.code) h.2 in cc)
  no_fault ps w at (bad ∷ cs) m f (inl h) (inr k) = absurd (let e = h.1 in let g = ap (λ (x : Fault). x.code) h.2 in cc)
  no_fault ps w at (bad ∷ cs) m f (inr h) k = no_fault ps None (at + 1) cs (subst (λ (T : Type 0). T) (matched-ended (length ps) at w (tokens_from None (at + 1) cs)) m) f h k
  no_fault ps w at (opening ∷ cs) m f (inl h) (inl k) = absurd (let e = four (nat_le deepest (length ps)) h.0 h.1 in let g = ap (λ (x : Fault). x.code) h.2 in cc)
  no_fault ps w at (opening ∷ cs) m f (inl h) (inr k) = absurd (let e = four (nat_le deepest (length ps)) h.0 h.1 in let g = ap (λ (x : Fault). x.code) h.2 in cc)
  no_fault ps w at (opening ∷ cs) m f (inr h) k = no_fault (at ∷ ps) None (at + 1) cs (subst (λ (T : Type 0). T) (matched-opening (length ps) at w (tokens_from None (at + 1) cs)) m) f h k
  no_fault [] w at (closing ∷ cs) m f h k = subst (λ (T : Type 0). T) (matched-stray at w (tokens_from None (at + 1) cs)) m
  no_fault (p ∷ ps) w at (closing ∷ cs) m f (inl h) k = absurd (let e = h.1 in cc)
  no_fault (p ∷ ps) w at (closing ∷ cs) m f (inr h) k = no_fault ps None (at + 1) cs (subst (λ (T : Type 0). T) (matched-closing (length ps) at w (tokens_from None (at + 1) cs)) m) f h k

  abbrev NoFault : List ℕ → ℕ → List Class → Type 0
  NoFault ps at cs = (f : Fault) → HasFault ps at cs f → IsOfLists f → ⊥

  matched : (ps : List ℕ) (w : Option ℕ) (at : ℕ) (cs : List Class) → NoFault ps at cs → Matched (length ps) (tokens_from w at cs)
  matched [] None at [] n = tt
  matched [] (Some first) at [] n = tt
  matched (p ∷ ps) w at [] n = absurd (n (fault 2 p) (p, refl, refl) (inl refl))
  matched ps w at (letter ∷ cs) n = matched ps (begun w at) (at + 1) cs (λ f h. n f (inr h))
  matched ps w at (blank ∷ cs) n = subst (λ (T : Type 0). T) (sym (matched-ended (length ps) at w (tokens_from None (at + 1) cs))) (matched ps None (at + 1) cs (λ f h. n f (inr h)))
  matched ps w at (bad ∷ cs) n = subst (λ (T : Type 0). T) (sym (matched-ended (length ps) at w (tokens_from None (at + 1) cs))) (matched ps None (at + 1) cs (λ f h. n f (inr h)))
  matched ps w at (opening ∷ cs) n = subst (λ (T : Type 0). T) (sym (matched-opening (length ps) at w (tokens_from None (at + 1) cs))) (matched (at ∷ ps) None (at + 1) cs (λ f h. n f (inr h)))
  matched [] w at (closing ∷ cs) n = absurd (n (fault 3 at) (inl (3, refl, refl)) (inr refl))
  matched (p ∷ ps) w at (closing ∷ cs) n = subst (λ (T : Type 0). T) (sym (matched-closing (length ps) at w (tokens_from None (at + 1) cs))) (matched ps None (at + 1) cs (λ f h. n f (inr h)))

pub matched_are_faultless : (text : List ℕ) → MatchedAreFaultless text
matched_are_faultless text = (no_fault text [] None 0 (classes text), matched text [] None 0 (classes text))
