-- No list of a text stands too deep exactly where at most 200 lists of what it says stand in one another.
use Rattle.std.proofs.Common.{ℕ, zero, suc, ◌≡◌, ◌+◌, ◌<◌, inl, inr, Bool, true, false, nat_le, if◌then◌else◌, Option, Some, None, List, [], ◌∷◌, ◌++◌, length, map, append_assoc, append-nil, arith, refl, sym, ap, subst, ◌∙◌}
use Rattle.std.proofs.lemmas.Bool.{leb-true, leb-false}
use Rattle.htn_base.specs.Limits.{deepest}
use Rattle.text_forms.specs.Bytes.{Class, blank, opening, closing, letter, bad, classes}
use Rattle.text_forms.specs.Faults.{Fault, fault, but_innermost, HasFault}
use Rattle.text_forms.specs.Lists.{Part, Parts, name, group, nothing, part, written, written_all}
use Rattle.text_forms.specs.Tokens.{Token, token, start, stop, ended, begun, tokens_from, lexeme, symbol, Symbol, left, right, said, symbols}
use Rattle.text_values.specs.form_spellings.Depth.{IsWithinDepth, AreWithinDepth, DepthIsThatOfLists}

-- where so many lists are open in front, at most 200 are open at a time
abbrev Fits : ℕ → List Symbol → Type 0
Fits d [] = Unit {0}
Fits d (said w ∷ ss) = Fits d ss
Fits d (left ∷ ss) = (d < deepest) × Fits (suc d) ss
Fits zero (right ∷ ss) = Fits zero ss
Fits (suc d) (right ∷ ss) = Fits d ss

module _ (text : List ℕ) where
  abbrev Fitting : ℕ → List Token → Type 0
  Fitting d ts = Fits d (map symbol (map (lexeme text) ts))

  -- a word under way changes nothing
  fits-ended : (d at : ℕ) (w : Option ℕ) (ts : List Token) → Fitting d (ended w at ++ ts) ≡ Fitting d ts
  fits-ended d at None ts = refl
  fits-ended d at (Some first) ts = refl

  fits-opening : (d at : ℕ) (w : Option ℕ) (ts : List Token) → Fitting d ((ended w at ++ token start at (at + 1) ∷ []) ++ ts) ≡ ((d < deepest) × Fitting (suc d) ts)
  fits-opening d at w ts = ap (Fitting d) (append_assoc (ended w at) (token start at (at + 1) ∷ []) ts) ∙ fits-ended d at w (token start at (at + 1) ∷ ts)

  fits-closing : (ps : List ℕ) (at : ℕ) (w : Option ℕ) (ts : List Token) → Fitting (length ps) ((ended w at ++ token stop at (at + 1) ∷ []) ++ ts) ≡ Fitting (length (but_innermost ps)) ts
  fits-closing ps at w ts = ap (Fitting (length ps)) (append_assoc (ended w at) (token stop at (at + 1) ∷ []) ts) ∙ fits-ended (length ps) at w (token stop at (at + 1) ∷ ts) ∙ same ps
    where
      same : (ps : List ℕ) → Fitting (length ps) (token stop at (at + 1) ∷ ts) ≡ Fitting (length (but_innermost ps)) ts
      same [] = refl
      same (p ∷ ps) = refl

  abbrev code_of : Bool → Option ℕ
  code_of deep = if deep then Some 4 else None

  not_too_many : (code : ℕ) (ps : List ℕ) → code_of (nat_le deepest (length ps)) ≡ Some code → length ps < deepest → ⊥
  not_too_many code ps e l = go (nat_le deepest (length ps)) refl e
    where
      go : (b : Bool) → nat_le deepest (length ps) ≡ b → code_of b ≡ Some code → ⊥
      go true f e = let m = leb-true deepest (length ps) f in omega (arith, l, m)
      go false f e = cc

  few_open : (ps : List ℕ) → (code_of (nat_le deepest (length ps)) ≡ Some 4 → ⊥) → length ps < deepest
  few_open ps none = go (nat_le deepest (length ps)) refl none
    where
      go : (b : Bool) → nat_le deepest (length ps) ≡ b → (code_of b ≡ Some 4 → ⊥) → length ps < deepest
      go true f none = absurd (none refl)
      go false f none = let m = leb-false deepest (length ps) f in omega (arith, m)

  no_deep : (ps : List ℕ) (w : Option ℕ) (at : ℕ) (cs : List Class) → Fitting (length ps) (tokens_from w at cs) → (k : ℕ) → HasFault ps at cs (fault 4 k) → ⊥
  no_deep ps w at [] m k h = (let g = ap (λ (x : Fault). x.code) h.2 in cc)
  no_deep ps w at (letter ∷ cs) m k (inl h) = (let e = h.1 in cc)
  no_deep ps w at (letter ∷ cs) m k (inr h) = no_deep ps (begun w at) (at + 1) cs m k h
  no_deep ps w at (blank ∷ cs) m k (inl h) = (let e = h.1 in cc)
  no_deep ps w at (blank ∷ cs) m k (inr h) = no_deep ps None (at + 1) cs (subst (λ (T : Type 0). T) (fits-ended (length ps) at w (tokens_from None (at + 1) cs)) m) k h
  no_deep ps w at (bad ∷ cs) m k (inl h) = (let e = h.1 in let g = ap (λ (x : Fault). x.code) h.2 in cc)
  no_deep ps w at (bad ∷ cs) m k (inr h) = no_deep ps None (at + 1) cs (subst (λ (T : Type 0). T) (fits-ended (length ps) at w (tokens_from None (at + 1) cs)) m) k h
  no_deep ps w at (opening ∷ cs) m k (inl h) = not_too_many h.0 ps h.1 (subst (λ (T : Type 0). T) (fits-opening (length ps) at w (tokens_from None (at + 1) cs)) m).0
  no_deep ps w at (opening ∷ cs) m k (inr h) = no_deep (at ∷ ps) None (at + 1) cs (subst (λ (T : Type 0). T) (fits-opening (length ps) at w (tokens_from None (at + 1) cs)) m).1 k h
  no_deep [] w at (closing ∷ cs) m k (inl h) = (let e = h.1 in let g = ap (λ (x : Fault). x.code) h.2 in cc)
  no_deep (p ∷ ps) w at (closing ∷ cs) m k (inl h) = (let e = h.1 in cc)
  no_deep ps w at (closing ∷ cs) m k (inr h) = no_deep (but_innermost ps) None (at + 1) cs (subst (λ (T : Type 0). T) (fits-closing ps at w (tokens_from None (at + 1) cs)) m) k h

  fitting : (ps : List ℕ) (w : Option ℕ) (at : ℕ) (cs : List Class) → ((k : ℕ) → HasFault ps at cs (fault 4 k) → ⊥) → Fitting (length ps) (tokens_from w at cs)
  fitting ps None at [] n = tt
  fitting ps (Some first) at [] n = tt
  fitting ps w at (letter ∷ cs) n = fitting ps (begun w at) (at + 1) cs (λ k h. n k (inr h))
  fitting ps w at (blank ∷ cs) n = subst (λ (T : Type 0). T) (sym (fits-ended (length ps) at w (tokens_from None (at + 1) cs))) (fitting ps None (at + 1) cs (λ k h. n k (inr h)))
  fitting ps w at (bad ∷ cs) n = subst (λ (T : Type 0). T) (sym (fits-ended (length ps) at w (tokens_from None (at + 1) cs))) (fitting ps None (at + 1) cs (λ k h. n k (inr h)))
  fitting ps w at (opening ∷ cs) n =
      subst (λ (T : Type 0). T) (sym (fits-opening (length ps) at w (tokens_from None (at + 1) cs)))
      (few_open ps (λ e. n at (inl (4, e, refl))), fitting (at ∷ ps) None (at + 1) cs (λ k h. n k (inr h)))
  fitting ps w at (closing ∷ cs) n = subst (λ (T : Type 0). T) (sym (fits-closing ps at w (tokens_from None (at + 1) cs))) (fitting (but_innermost ps) None (at + 1) cs (λ k h. n k (inr h)))

-- the lists of a part, where so many more levels may stand
mutual
  fits-part : (n d : ℕ) → d + n ≡ deepest → (p : Part) (ss : List Symbol) → IsWithinDepth n p → Fits d ss → Fits d (written p ++ ss)
  fits-part n d e (name w) ss i f = f
  fits-part zero d e (group ps) ss i f = absurd i
  fits-part (suc n) d e (group ps) ss i f = (omega (arith, e), subst (Fits (suc d)) (sym (append_assoc (written_all ps) (right ∷ []) ss)) (fits-all n (suc d) (omega (arith, e)) ps (right ∷ ss) i f))

  fits-all : (n d : ℕ) → d + n ≡ deepest → (ps : Parts) (ss : List Symbol) → AreWithinDepth n ps → Fits d ss → Fits d (written_all ps ++ ss)
  fits-all n d e nothing ss i f = f
  fits-all n d e (part p ps) ss i f = subst (Fits d) (sym (append_assoc (written p) (written_all ps) ss)) (fits-part n d e p (written_all ps ++ ss) i.0 (fits-all n d e ps ss i.1 f))

mutual
  part-within : (n d : ℕ) → d + n ≡ deepest → (p : Part) (ss : List Symbol) → Fits d (written p ++ ss) → IsWithinDepth n p × Fits d ss
  part-within n d e (name w) ss f = (tt, f)
  part-within zero d e (group ps) ss f = absurd (let l = f.0 in omega (arith, e, l))
  part-within (suc n) d e (group ps) ss f = all-within n (suc d) (omega (arith, e)) ps (right ∷ ss) (subst (Fits (suc d)) (append_assoc (written_all ps) (right ∷ []) ss) f.1)

  all-within : (n d : ℕ) → d + n ≡ deepest → (ps : Parts) (ss : List Symbol) → Fits d (written_all ps ++ ss) → AreWithinDepth n ps × Fits d ss
  all-within n d e nothing ss f = (tt, f)
  all-within n d e (part p ps) ss f =
      let g = part-within n d e p (written_all ps ++ ss) (subst (Fits d) (append_assoc (written p) (written_all ps) ss) f) in
      let h = all-within n d e ps ss g.1 in
      ((g.0, h.0), h.1)

pub depth_is_that_of_lists : DepthIsThatOfLists
depth_is_that_of_lists text p e =
    let same : written p ++ [] ≡ symbols text = append-nil (written p) ∙ sym e in (
      λ i. no_deep text [] None 0 (classes text) (subst (Fits 0) same (fits-part deepest 0 refl p [] i tt)),
      λ s. (part-within deepest 0 refl p [] (subst (Fits 0) (sym same) (fitting text [] None 0 (classes text) s))).0,
    )
