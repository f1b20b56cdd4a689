-- A text that says a definition has no fault of tokens, if no list stands too deep in it.
use Rattle.std.proofs.Common.{ℕ, ◌≡◌, ◌+◌, inl, inr, Bool, true, false, nat_le, if◌then◌else◌, Some, None, List, [], ◌∷◌, length, append-nil, sym, ap, subst, ◌∙◌}
use Rattle.std.specs.Prelude.{◌⊎◌}
use Rattle.htn_base.specs.Limits.{deepest}
use Rattle.text_forms.specs.Bytes.{Class, blank, opening, closing, letter, bad, classes, are_good}
use Rattle.text_forms.specs.Faults.{Fault, fault, open_after, HasFault, IsFault, IsFaultless}
use Rattle.text_forms.specs.Lists.{Part, Parts, nothing, part, written}
use Rattle.text_forms.specs.Printing.{definition}
use Rattle.text_forms.specs.Tokens.{symbols}
use Rattle.text_forms.specs.Words.{Word}
use Rattle.text_forms.proofs.Matched.{matched_are_lists}
use Rattle.text_forms.proofs.MatchedFaults.{matched_are_faultless}
use Rattle.plan_texts.specs.Domains.{IsDefinition}
use Rattle.text_values.specs.form_spellings.Depth.{IsShallow}

-- a list without an end or a stray parenthesis, or a list too deep
abbrev IsOfLists : Fault → Type 0
IsOfLists f = ((f.code ≡ 2) ⊎ (f.code ≡ 3)) ⊎ ((at : ℕ) × (f ≡ fault 4 at))

four : (t : Bool) (code : ℕ) → (if t then Some 4 else None) ≡ Some code → code ≡ 4
four true code e = cc
four false code e = cc

-- without a bad byte each fault is one of lists
of_lists : (ps : List ℕ) (at : ℕ) (cs : List Class) → are_good cs ≡ true → (f : Fault) → HasFault ps at cs f → IsOfLists f
of_lists ps at [] g f h = inl (inl (ap (λ (x : Fault). x.code) h.2))
of_lists ps at (bad ∷ cs) g f h = absurd (cc)
of_lists ps at (blank ∷ cs) g f (inl h) = absurd (let e = h.1 in cc)
of_lists ps at (blank ∷ cs) g f (inr h) = of_lists (open_after ps at blank) (at + 1) cs g f h
of_lists ps at (letter ∷ cs) g f (inl h) = absurd (let e = h.1 in cc)
of_lists ps at (letter ∷ cs) g f (inr h) = of_lists (open_after ps at letter) (at + 1) cs g f h
of_lists ps at (opening ∷ cs) g f (inl h) = inr (at, h.2 ∙ ap (λ code. fault code at) (four (nat_le deepest (length ps)) h.0 h.1))
of_lists ps at (opening ∷ cs) g f (inr h) = of_lists (open_after ps at opening) (at + 1) cs g f h
of_lists [] at (closing ∷ cs) g f (inl h) = inl (inr (let e = h.1 in let c = ap (λ (x : Fault). x.code) h.2 in cc))
of_lists (p ∷ ps) at (closing ∷ cs) g f (inl h) = absurd (let e = h.1 in cc)
of_lists ps at (closing ∷ cs) g f (inr h) = of_lists (open_after ps at closing) (at + 1) cs g f h

pub definition_faultless : (kind : Word) (text : List ℕ) (w : Word) (ss : Parts) → IsDefinition kind text w ss → IsShallow text → IsFaultless text
definition_faultless kind text w ss i shallow f h =
    let whole : Part = definition kind w ss in
    let m = (matched_are_lists (symbols text)).1 (part whole nothing, i.is ∙ sym (append-nil (written whole))) in
    elim (of_lists [] 0 (classes text) i.clean f h) [
      | inl k ↦ (matched_are_faultless text).0 m f h k
      | inr g ↦ shallow g.0 (subst (IsFault text) g.1 h)
    ]
