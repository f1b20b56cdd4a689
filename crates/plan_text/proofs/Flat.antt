-- A text that spells a plan has no fault of tokens: no list stands in a list.
use Rattle.std.proofs.Common.{◌≡◌, ℕ, zero, suc, ◌+◌, inl, inr, true, length, map, Option, Some, None, List, [], ◌∷◌, ◌++◌, refl, sym, ◌∙◌, ap, subst, append_assoc}
use Rattle.text_forms.specs.Bytes.{Class, blank, opening, closing, letter, bad, classes, are_good}
use Rattle.text_forms.specs.Faults.{Fault, HasFault, IsFaultless}
use Rattle.text_forms.specs.Lists.{Parts, name, group, nothing, part, written, written_all}
use Rattle.text_forms.specs.Tokens.{Token, token, start, stop, ended, begun, tokens_from, lexeme, Symbol, left, right, said, symbol}
use Rattle.text_forms.specs.Words.{Word}
use Rattle.plan_model.specs.declared.steps.GroundAction.{GroundAction}
use Rattle.plan_texts.specs.PlanText.{AreArgs, IsStep, AreSteps, SpellsPlan}

-- no list in a list, where so many are open in front of the symbols
abbrev IsFlat : ℕ → List Symbol → Type 0
IsFlat zero [] = Unit {0}
IsFlat (suc d) [] = ⊥
IsFlat zero (said w ∷ ss) = IsFlat zero ss
IsFlat (suc d) (said w ∷ ss) = IsFlat (suc d) ss
IsFlat zero (left ∷ ss) = IsFlat (suc zero) ss
IsFlat (suc d) (left ∷ ss) = ⊥
IsFlat zero (right ∷ ss) = ⊥
IsFlat (suc d) (right ∷ ss) = IsFlat d ss

flat-args : (ws : List Word) (ps : Parts) (ss : List Symbol) → AreArgs ws ps → IsFlat zero ss → IsFlat (suc zero) ((written_all ps ++ right ∷ []) ++ ss)
flat-args [] nothing ss a f = f
flat-args (w ∷ ws) nothing ss a f = absurd a
flat-args [] (part p ps) ss a f = absurd a
flat-args (w ∷ ws) (part (name u) ps) ss a f = flat-args ws ps ss a.2 f
flat-args (w ∷ ws) (part (group qs) ps) ss a f = absurd (let e = a.0 in cc)

inside : {ps qs : Parts} → group ps ≡ group qs → ps ≡ qs
inside e = cc

flat-step : (s : GroundAction) (qs : Parts) (ss : List Symbol) → IsStep s (group qs) → IsFlat zero ss → IsFlat zero (written (group qs) ++ ss)
flat-step s qs ss e f =
    subst (λ (qs : Parts). IsFlat zero (written (group qs) ++ ss)) (sym (inside e.1)) (flat-args s.args e.0 ss e.3 f)

flat-steps : (ss : List GroundAction) (ps : Parts) → AreSteps ss ps → IsFlat zero (written_all ps)
flat-steps [] nothing e = tt
flat-steps (s ∷ ss) nothing e = absurd e
flat-steps [] (part (name w) nothing) e = absurd e
flat-steps (s ∷ ss) (part (name w) nothing) e = absurd e
flat-steps [] (part (name w) (part (name u) ps)) e = absurd e
flat-steps (s ∷ ss) (part (name w) (part (name u) ps)) e = absurd e
flat-steps [] (part (name w) (part (group qs) ps)) e = absurd e.1
flat-steps (s ∷ ss) (part (name w) (part (group qs) ps)) e = flat-step s qs (written_all ps) e.1.0 (flat-steps ss ps e.1.1)
flat-steps [] (part (group qs) ps) e = absurd e
flat-steps (s ∷ ss) (part (group qs) ps) e = flat-step s qs (written_all ps) e.0 (flat-steps ss ps e.1)

module _ (text : List ℕ) where
  abbrev Flat : ℕ → List Token → Type 0
  Flat d ts = IsFlat d (map symbol (map (lexeme text) ts))

  -- a word under way changes nothing
  flat-ended : (d at : ℕ) (w : Option ℕ) (ts : List Token) → Flat d (ended w at ++ ts) ≡ Flat d ts
  flat-ended zero at None ts = refl
  flat-ended (suc d) at None ts = refl
  flat-ended zero at (Some first) ts = refl
  flat-ended (suc d) at (Some first) ts = refl

  flat-opening : (at : ℕ) (w : Option ℕ) (ts : List Token) → Flat zero ((ended w at ++ token start at (at + 1) ∷ []) ++ ts) ≡ Flat (suc zero) ts
  flat-opening at w ts = ap (Flat zero) (append_assoc (ended w at) (token start at (at + 1) ∷ []) ts) ∙ flat-ended zero at w (token start at (at + 1) ∷ ts)

  flat-nested : (d at : ℕ) (w : Option ℕ) (ts : List Token) → Flat (suc d) ((ended w at ++ token start at (at + 1) ∷ []) ++ ts) ≡ ⊥
  flat-nested d at w ts = ap (Flat (suc d)) (append_assoc (ended w at) (token start at (at + 1) ∷ []) ts) ∙ flat-ended (suc d) at w (token start at (at + 1) ∷ ts)

  flat-closing : (d at : ℕ) (w : Option ℕ) (ts : List Token) → Flat (suc d) ((ended w at ++ token stop at (at + 1) ∷ []) ++ ts) ≡ Flat d ts
  flat-closing d at w ts = ap (Flat (suc d)) (append_assoc (ended w at) (token stop at (at + 1) ∷ []) ts) ∙ flat-ended (suc d) at w (token stop at (at + 1) ∷ ts)

  flat-stray : (at : ℕ) (w : Option ℕ) (ts : List Token) → Flat zero ((ended w at ++ token stop at (at + 1) ∷ []) ++ ts) ≡ ⊥
  flat-stray at w ts = ap (Flat zero) (append_assoc (ended w at) (token stop at (at + 1) ∷ []) ts) ∙ flat-ended zero at w (token stop at (at + 1) ∷ ts)

  no_fault : (ps : List ℕ) (w : Option ℕ) (at : ℕ) (cs : List Class) → Flat (length ps) (tokens_from w at cs) → are_good cs ≡ true → (f : Fault) → HasFault ps at cs f → ⊥
  no_fault [] w at [] m g f h = absurd (let e = h.1 in cc)
  no_fault (p ∷ ps) None at [] m g f h = m
  no_fault (p ∷ ps) (Some first) at [] m g f h = m
  no_fault ps w at (letter ∷ cs) m g f (inl h) = absurd (let e = h.1 in cc)
  no_fault ps w at (letter ∷ cs) m g f (inr h) = no_fault ps (begun w at) (at + 1) cs m g f h
  no_fault ps w at (blank ∷ cs) m g f (inl h) = absurd (let e = h.1 in cc)
  no_fault ps w at (blank ∷ cs) m g f (inr h) = no_fault ps None (at + 1) cs (subst (λ (T : Type 0). T) (flat-ended (length ps) at w (tokens_from None (at + 1) cs)) m) g f h
  no_fault ps w at (bad ∷ cs) m g f h = absurd (cc)
  no_fault [] w at (opening ∷ cs) m g f (inl h) = absurd (let e = h.1 in cc)
  no_fault [] w at (opening ∷ cs) m g f (inr h) = no_fault (at ∷ []) None (at + 1) cs (subst (λ (T : Type 0). T) (flat-opening at w (tokens_from None (at + 1) cs)) m) g f h
  no_fault (p ∷ ps) w at (opening ∷ cs) m g f h = subst (λ (T : Type 0). T) (flat-nested (length ps) at w (tokens_from None (at + 1) cs)) m
  no_fault [] w at (closing ∷ cs) m g f h = subst (λ (T : Type 0). T) (flat-stray at w (tokens_from None (at + 1) cs)) m
  no_fault (p ∷ ps) w at (closing ∷ cs) m g f (inl h) = absurd (let e = h.1 in cc)
  no_fault (p ∷ ps) w at (closing ∷ cs) m g f (inr h) = no_fault ps None (at + 1) cs (subst (λ (T : Type 0). T) (flat-closing (length ps) at w (tokens_from None (at + 1) cs)) m) g f h

pub faultless : (text : List ℕ) (steps : List GroundAction) → SpellsPlan text steps → IsFaultless text
faultless text steps s = no_fault text [] None 0 (classes text) (subst (IsFlat zero) (sym s.is) (flat-steps steps s.parts s.spelled)) s.clean
