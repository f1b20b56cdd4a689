-- What is computed as the least fault is the least fault.
use Rattle.std.proofs.Common.{◌≡◌, ℕ, zero, suc, ◌+◌, ◌<◌, ◌≤◌, ◌⊎◌, inl, inr, false, Bool, true, nat_le, length, if◌then◌else◌, ⊎_elim, Option, Some, None, List, [], ◌∷◌, refl, sym, ◌∙◌, ap, subst, arith}
use Rattle.std.proofs.str.Laws.{order}
use Rattle.text_forms.specs.Bytes.{Class, blank, opening, closing, letter, bad, classes}
use Rattle.text_forms.specs.Faults.{Fault, fault, innermost, but_innermost, open_after, code_at, HasFault, IsFault, IsBefore, IsLeast}
use Rattle.text_forms.specs.Least.{newer, older, left_open, settled, least_by, least, least_fault}
use Rattle.text_forms.specs.Laws.{IsLeastOrNone}

-- qs are n lists from place m on, and then ps
abbrev Over : ℕ → ℕ → List ℕ → List ℕ → Type 0
Over m zero qs ps = qs ≡ ps
Over m (suc n) [] ps = ⊥
Over m (suc n) (q ∷ qs) ps = (m ≤ q) × Over m n qs ps

over_step : (m at n : ℕ) (qs ps : List ℕ) (c : Class) → m ≤ at → Over m n qs ps → Over m (newer n c) (open_after qs at c) (older n ps c)
over_step m at n qs ps opening h o = (h, o)
over_step m at n qs ps blank h o = o
over_step m at n qs ps letter h o = o
over_step m at n qs ps bad h o = o
over_step m at zero qs ps closing h o = ap but_innermost o
over_step m at (suc n) [] ps closing h o = absurd o
over_step m at (suc n) (q ∷ qs) ps closing h o = o.1

-- a list that is left_open open is a fault
left_is : (n at p : ℕ) (qs ps : List ℕ) (cs : List Class) → Over 0 n qs ps → left_open n ps cs ≡ Some p → HasFault qs at cs (fault 2 p)
left_is zero at p qs ps [] o e = (p, ap innermost o ∙ e, refl)
left_is (suc n) at p qs ps [] o e = cc
left_is n at p qs ps (c ∷ cs) o e = inr (left_is (newer n c) (at + 1) p (open_after qs at c) (older n ps c) cs (over_step 0 at n qs ps c (omega arith) o) e)

-- a fault from here on stands at m or behind it, or is the list that is left_open open
left_all : (m n at : ℕ) (qs ps : List ℕ) (cs : List Class) (g : Fault) → m ≤ at → Over m n qs ps → HasFault qs at cs g → (m ≤ g.at) ⊎ ((p : ℕ) × (left_open n ps cs ≡ Some p) × (g ≡ fault 2 p))
left_all m zero at qs ps [] g h o f = inr (f.0, ap innermost (sym o) ∙ f.1, f.2)
left_all m (suc n) at [] ps [] g h o f = absurd o
left_all m (suc n) at (q ∷ qs) ps [] g h o f =
    let same : q ≡ f.0 = cc in
    let place : g.at ≡ f.0 = ap (λ x. x.at) f.2 in
    inl (omega arith)
left_all m n at qs ps (c ∷ cs) g h o (inl f) = let place : g.at ≡ at = ap (λ x. x.at) f.2 in inl (omega arith)
left_all m n at qs ps (c ∷ cs) g h o (inr f) = left_all m (newer n c) (at + 1) (open_after qs at c) (older n ps c) cs g (omega arith) (over_step m at n qs ps c h o) f

-- all places of a list are below m
abbrev AreBelow : ℕ → List ℕ → Type 0
AreBelow m [] = Unit {0}
AreBelow m (p ∷ ps) = (p < m) × AreBelow m ps

below_more : (m : ℕ) (ps : List ℕ) → AreBelow m ps → AreBelow (m + 1) ps
below_more m [] b = tt
below_more m (p ∷ ps) b = (omega arith, below_more m ps b.1)

below_tail : (m : ℕ) (ps : List ℕ) → AreBelow m ps → AreBelow m (but_innermost ps)
below_tail m [] b = tt
below_tail m (p ∷ ps) b = b.1

below_opened : (at : ℕ) (ps : List ℕ) (c : Class) → AreBelow at ps → AreBelow (at + 1) (open_after ps at c)
below_opened at ps opening b = (omega arith, below_more at ps b)
below_opened at ps closing b = below_more at (but_innermost ps) (below_tail at ps b)
below_opened at ps blank b = below_more at ps b
below_opened at ps letter b = below_more at ps b
below_opened at ps bad b = below_more at ps b

below_older : (m n : ℕ) (ps : List ℕ) (c : Class) → AreBelow m ps → AreBelow m (older n ps c)
below_older m n ps opening b = b
below_older m n ps blank b = b
below_older m n ps letter b = b
below_older m n ps bad b = b
below_older m zero ps closing b = below_tail m ps b
below_older m (suc n) ps closing b = b

left_below : (m n p : ℕ) (ps : List ℕ) (cs : List Class) → AreBelow m ps → left_open n ps cs ≡ Some p → p < m
left_below m zero p [] [] b e = cc
left_below m zero p (q ∷ ps) [] b e = let same : q ≡ p = cc in omega arith
left_below m (suc n) p ps [] b e = cc
left_below m n p ps (c ∷ cs) b e = left_below m (newer n c) p (older n ps c) cs (below_older m n ps c b) e

-- a list that is left_open open where a byte is a fault stands in front of it, or is that byte's own, which then has the code 4
left_first : (at p k : ℕ) (ps : List ℕ) (c : Class) (cs : List Class) → AreBelow at ps → code_at ps c ≡ Some k → left_open 0 (open_after ps at c) cs ≡ Some p → (p < at) ⊎ ((p ≡ at) × (2 ≤ k))
left_first at p k ps bad cs b e l = inl (left_below at 0 p ps cs b l)
left_first at p k ps blank cs b e l = cc
left_first at p k ps letter cs b e l = cc
left_first at p k ps closing cs b e l = inl (left_below at 0 p (but_innermost ps) cs (below_tail at ps b) l)
left_first at p k ps opening cs b e l =
    let le : p < at + 1 = left_below (at + 1) 0 p (at ∷ ps) cs (omega arith, below_more at ps b) l in
    four (nat_le 200 (length ps)) e le
  where
    four : (t : Bool) → (if t then Some 4 else None) ≡ Some k → p < at + 1 → (p < at) ⊎ ((p ≡ at) × (2 ≤ k))
    four true e le = let is : 4 ≡ k = cc in ⊎_elim (λ l. inl l) (λ g. inr (omega arith, omega arith)) (order p at)
    four false e le = cc

-- what is computed is a fault
least_is : (ps : List ℕ) (at : ℕ) (cs : List Class) (f : Fault) → least ps at cs ≡ Some f → HasFault ps at cs f
least_is [] at [] f e = cc
least_is (p ∷ ps) at [] f e = (p, refl, cc)
least_is ps at (c ∷ cs) f e = by_code (least_is (open_after ps at c) (at + 1) cs f) (code_at ps c) refl (left_open 0 (open_after ps at c) cs) refl e
  where
    by_code : (least (open_after ps at c) (at + 1) cs ≡ Some f → HasFault (open_after ps at c) (at + 1) cs f) → (k : Option ℕ) → code_at ps c ≡ k → (l : Option ℕ) → left_open 0 (open_after ps at c) cs ≡ l → least_by k at l (least (open_after ps at c) (at + 1) cs) ≡ Some f → HasFault ps at (c ∷ cs) f
    by_code further None k l d e = inr (further e)
    by_code further (Some code) k None d e = inl (code, k, cc)
    by_code further (Some code) k (Some p) d e =
        let is : f ≡ fault 2 p = cc in
        inr (subst (λ g. HasFault (open_after ps at c) (at + 1) cs g) (sym is) (left_is 0 (at + 1) p (open_after ps at c) (open_after ps at c) cs refl d))

-- each fault comes with a computed one that isn't behind it
least_all : (ps : List ℕ) (at : ℕ) (cs : List Class) (g : Fault) → AreBelow at ps → HasFault ps at cs g → (f : Fault) × (least ps at cs ≡ Some f) × IsBefore f g
least_all [] at [] g b h = cc
least_all (p ∷ ps) at [] g b h = (fault 2 p, refl, subst (λ x. IsBefore (fault 2 p) x) (let is : fault 2 p ≡ g = cc in is) (inr (refl, omega arith)))
least_all ps at (c ∷ cs) g b h = by_code (least_all (open_after ps at c) (at + 1) cs g (below_opened at ps c b)) (code_at ps c) refl (left_open 0 (open_after ps at c) cs) refl h
  where
    front : (k : ℕ) → code_at ps c ≡ Some k → (l : Option ℕ) → left_open 0 (open_after ps at c) cs ≡ l → ((settled k at l).at < at) ⊎ (((settled k at l).at ≡ at) × ((settled k at l).code ≤ k))
    front k e None d = inr (refl, omega arith)
    front k e (Some p) d = ⊎_elim (λ lt. inl lt) (λ same. inr same) (left_first at p k ps c cs b e d)

    by_code : (HasFault (open_after ps at c) (at + 1) cs g → (f : Fault) × (least (open_after ps at c) (at + 1) cs ≡ Some f) × IsBefore f g) → (k : Option ℕ) → code_at ps c ≡ k → (l : Option ℕ) → left_open 0 (open_after ps at c) cs ≡ l → HasFault ps at (c ∷ cs) g → (f : Fault) × (least_by k at l (least (open_after ps at c) (at + 1) cs) ≡ Some f) × IsBefore f g
    by_code further None k l d (inl h) = cc
    by_code further None k l d (inr h) = further h
    by_code further (Some code) k l d (inl h) =
        let same : code ≡ h.0 = cc in
        let place : g.at ≡ at = ap (λ x. x.at) h.2 in
        let number : g.code ≡ h.0 = ap (λ x. x.code) h.2 in
        (settled code at l, refl, ⊎_elim (λ lt. inl (omega arith)) (λ eq. inr (omega arith, omega arith)) (front code k l d))
    by_code further (Some code) k l d (inr h) =
        ⊎_elim
        (λ behind. (settled code at l, refl, ⊎_elim (λ lt. inl (omega arith)) (λ eq. inl (omega arith)) (front code k l d)))
        (λ open'. (
          settled code at l,
          refl,
          let is : settled code at l ≡ g = ap (settled code at) (sym d ∙ open'.1) ∙ sym open'.2 in
              subst (λ x. IsBefore (settled code at l) x) is (inr (refl, omega arith)),
        ))
        (left_all (at + 1) 0 (at + 1) (open_after ps at c) (open_after ps at c) cs g (omega arith) refl h)

pub least_fault_is : (text : List ℕ) (f : Fault) → least_fault text ≡ Some f → IsLeast text f
least_fault_is text f e = record {
  is = least_is [] 0 (classes text) f e;
  least = λ g h. let all = least_all [] 0 (classes text) g tt h in let same : all.0 ≡ f = cc in subst (λ x. IsBefore x g) same all.2;
}

pub no_fault : (text : List ℕ) → least_fault text ≡ None → (g : Fault) → IsFault text g → ⊥
no_fault text e g h = let all = least_all [] 0 (classes text) g tt h in cc

pub least_or_none : (text : List ℕ) → IsLeastOrNone text (least_fault text)
least_or_none text = go (least_fault text) refl
  where
    go : (o : Option Fault) → least_fault text ≡ o → IsLeastOrNone text o
    go None e = no_fault text e
    go (Some f) e = least_fault_is text f e
