-- Each list of a text without faults is closed, and there are no more tokens than bytes.
use Rattle.std.proofs.Common.{◌≡◌, ℕ, zero, suc, ◌+◌, ◌<◌, ◌≤◌, inl, inr, false, Bool, length, Option, Some, None, List, [], ◌∷◌, ◌++◌, refl, sym, ap, subst, arith, append_assoc, rules}
use Rattle.std.specs.Prelude.{slice_get, IsSome, ◌↔◌}
use Rattle.text_forms.specs.Bytes.{Class, blank, opening, closing, letter, bad, comment_after, classes_from, classes}
use Rattle.text_forms.specs.Tokens.{Kind, start, stop, word, Token, token, ended, begun, tokens_from, tokens}
use Rattle.text_forms.specs.Closing.{close_after, closings, flattened, OpensBy}
use Rattle.text_forms.specs.Faults.{Fault, fault, but_innermost, HasFault, IsFault}
use Rattle.text_forms.specs.Laws.{StandInOrder, ClosesItsLists}

length_classes : (text : List ℕ) (comment : Bool) → length (classes_from comment text) ≡ length text
length_classes [] comment = refl
length_classes (b ∷ text) comment = ap suc (length_classes text (comment_after comment b))

-- the lists that are open are closed later
abbrev Closed : Option ℕ → Type 0
Closed None = ⊥
Closed (Some j) = Unit {0}

abbrev AllClose : ℕ → List Token → Type 0
AllClose d ps = (e j : ℕ) → e < d → Closed (close_after e j ps)

close_ended : (w : Option ℕ) (at d : ℕ) (ps : List Token) → AllClose d ps → AllClose d (ended w at ++ ps)
close_ended None at d ps a = a
close_ended (Some first) at d ps a = λ e j h. a e (j + 1) h

close_opens : (at d : ℕ) (ps : List Token) → AllClose (suc d) ps → AllClose d (token start at (at + 1) ∷ ps)
close_opens at d ps a = λ e j h. a (suc e) (j + 1) (omega arith)

close_closes : (at d : ℕ) (ps : List Token) → AllClose d ps → AllClose (suc d) (token stop at (at + 1) ∷ ps)
close_closes at d ps a zero j h = tt
close_closes at d ps a (suc e) j h = a e (j + 1) (omega arith)

abbrev NoFault : List ℕ → ℕ → List Class → Type 0
NoFault ps at cs = (f : Fault) → HasFault ps at cs f → ⊥

all_close : (ps : List ℕ) (w : Option ℕ) (at : ℕ) (cs : List Class) → NoFault ps at cs → AllClose (length ps) (tokens_from w at cs)
all_close [] w at [] clean = λ e j h. absurd (omega arith)
all_close (p ∷ ps) w at [] clean = absurd (clean (fault 2 p) (p, refl, refl))
all_close ps w at (letter ∷ cs) clean = all_close ps (begun w at) (at + 1) cs (λ f h. clean f (inr h))
all_close ps w at (blank ∷ cs) clean = close_ended w at (length ps) (tokens_from None (at + 1) cs) (all_close ps None (at + 1) cs (λ f h. clean f (inr h)))
all_close ps w at (bad ∷ cs) clean = absurd (clean (fault 1 at) (inl (1, refl, refl)))
all_close ps w at (opening ∷ cs) clean =
    subst (AllClose (length ps)) (sym (append_assoc (ended w at) (token start at (at + 1) ∷ []) (tokens_from None (at + 1) cs)))
    (close_ended w at (length ps) (token start at (at + 1) ∷ tokens_from None (at + 1) cs)
    (close_opens at (length ps) (tokens_from None (at + 1) cs) (all_close (at ∷ ps) None (at + 1) cs (λ f h. clean f (inr h)))))
all_close [] w at (closing ∷ cs) clean = absurd (clean (fault 3 at) (inl (3, refl, refl)))
all_close (p ∷ ps) w at (closing ∷ cs) clean =
    subst (AllClose (suc (length ps))) (sym (append_assoc (ended w at) (token stop at (at + 1) ∷ []) (tokens_from None (at + 1) cs)))
    (close_ended w at (suc (length ps)) (token stop at (at + 1) ∷ tokens_from None (at + 1) cs)
    (close_closes at (length ps) (tokens_from None (at + 1) cs) (all_close ps None (at + 1) cs (λ f h. clean f (inr h)))))

-- a token opens a list that is closed, or has no closing token
abbrev pub PairedBy : Kind → Option ℕ → Type 0
PairedBy start o = Closed o
PairedBy stop o = o ≡ None
PairedBy word o = o ≡ None

abbrev pub ArePaired : List Token → List (Option ℕ) → Type 0
ArePaired [] [] = Unit {0}
ArePaired [] (o ∷ os) = ⊥
ArePaired (p ∷ ps) [] = ⊥
ArePaired (p ∷ ps) (o ∷ os) = PairedBy p.kind o × ArePaired ps os

abbrev Paired : List Token → Type 0
Paired ps = (j : ℕ) → ArePaired ps (closings j ps)

paired_ended : (w : Option ℕ) (at : ℕ) (ps : List Token) → Paired ps → Paired (ended w at ++ ps)
paired_ended None at ps a = a
paired_ended (Some first) at ps a = λ j. (refl, a (j + 1))

paired_pieces : (ps : List ℕ) (w : Option ℕ) (at : ℕ) (cs : List Class) → NoFault ps at cs → Paired (tokens_from w at cs)
paired_pieces ps None at [] clean = λ j. tt
paired_pieces ps (Some first) at [] clean = λ j. (refl, tt)
paired_pieces ps w at (letter ∷ cs) clean = paired_pieces ps (begun w at) (at + 1) cs (λ f h. clean f (inr h))
paired_pieces ps w at (blank ∷ cs) clean = paired_ended w at (tokens_from None (at + 1) cs) (paired_pieces ps None (at + 1) cs (λ f h. clean f (inr h)))
paired_pieces ps w at (bad ∷ cs) clean = absurd (clean (fault 1 at) (inl (1, refl, refl)))
paired_pieces ps w at (opening ∷ cs) clean =
    let rest = paired_pieces (at ∷ ps) None (at + 1) cs (λ f h. clean f (inr h)) in
    let closed = all_close (at ∷ ps) None (at + 1) cs (λ f h. clean f (inr h)) in
    subst Paired (sym (append_assoc (ended w at) (token start at (at + 1) ∷ []) (tokens_from None (at + 1) cs)))
    (paired_ended w at (token start at (at + 1) ∷ tokens_from None (at + 1) cs) (λ j. (closed 0 (j + 1) (omega arith), rest (j + 1))))
paired_pieces ps w at (closing ∷ cs) clean =
    let rest = paired_pieces (but_innermost ps) None (at + 1) cs (λ f h. clean f (inr h)) in
    subst Paired (sym (append_assoc (ended w at) (token stop at (at + 1) ∷ []) (tokens_from None (at + 1) cs)))
    (paired_ended w at (token stop at (at + 1) ∷ tokens_from None (at + 1) cs) (λ j. (refl, rest (j + 1))))

pub paired_tokens : (text : List ℕ) → ((f : Fault) → IsFault text f → ⊥) → ArePaired (tokens text) (closings 0 (tokens text))
paired_tokens text clean = paired_pieces [] None 0 (classes text) clean 0

by_kind : (k : Kind) (o : Option ℕ) → PairedBy k o → IsSome o ↔ (k ≡ start)
by_kind start None p = absurd p
by_kind start (Some j) p = search rules
by_kind stop o p = rw p (search rules)
by_kind word o p = rw p (search rules)

pub paired_at : (ps : List Token) (os : List (Option ℕ)) (i : ℕ) → ArePaired ps os → IsSome (flattened (slice_get os i)) ↔ OpensBy (slice_get ps i)
paired_at [] [] i a = search rules
paired_at [] (o ∷ os) i a = absurd a
paired_at (p ∷ ps) [] i a = absurd a
paired_at (p ∷ ps) (o ∷ os) zero a = by_kind p.kind o a.0
paired_at (p ∷ ps) (o ∷ os) (suc i) a = paired_at ps os i a.1

abbrev one_if : Option ℕ → ℕ
one_if None = 0
one_if (Some at) = 1

few_ended : (w : Option ℕ) (at : ℕ) (ps : List Token) → length (ended w at ++ ps) ≡ one_if w + length ps
few_ended None at ps = omega arith
few_ended (Some first) at ps = omega arith

few_pieces : (w : Option ℕ) (at : ℕ) (cs : List Class) → length (tokens_from w at cs) ≤ one_if w + length cs
few_pieces None at [] = omega arith
few_pieces (Some first) at [] = omega arith
few_pieces None at (letter ∷ cs) = omega (arith, few_pieces (Some at) (at + 1) cs)
few_pieces (Some first) at (letter ∷ cs) = omega (arith, few_pieces (Some first) (at + 1) cs)
few_pieces w at (blank ∷ cs) = omega (arith, few_ended w at (tokens_from None (at + 1) cs), few_pieces None (at + 1) cs)
few_pieces w at (bad ∷ cs) = omega (arith, few_ended w at (tokens_from None (at + 1) cs), few_pieces None (at + 1) cs)
few_pieces w at (opening ∷ cs) = omega (arith, ap length (append_assoc (ended w at) (token start at (at + 1) ∷ []) (tokens_from None (at + 1) cs)), few_ended w at (token start at (at + 1) ∷ tokens_from None (at + 1) cs), few_pieces None (at + 1) cs)
few_pieces w at (closing ∷ cs) = omega (arith, ap length (append_assoc (ended w at) (token stop at (at + 1) ∷ []) (tokens_from None (at + 1) cs)), few_ended w at (token stop at (at + 1) ∷ tokens_from None (at + 1) cs), few_pieces None (at + 1) cs)

pub few_tokens : (text : List ℕ) → length (tokens text) ≤ length text
few_tokens text = omega (arith, few_pieces None 0 (classes text), length_classes text false)

pub closes_its_lists : (text : List ℕ) → ClosesItsLists text
closes_its_lists text clean i = paired_at (tokens text) (closings 0 (tokens text)) i (paired_tokens text clean)

-- tokens stand in order
abbrev From : ℕ → Option ℕ → ℕ → Type 0
From lo None at = lo ≤ at
From lo (Some first) at = (lo ≤ first) × (first < at)

order-ended : (w : Option ℕ) (at lo hi : ℕ) (ts : List Token) → From lo w at → ((low : ℕ) → low ≤ at → StandInOrder low ts hi) → StandInOrder lo (ended w at ++ ts) hi
order-ended None at lo hi ts f more = more lo f
order-ended (Some first) at lo hi ts f more = (f.0, f.1, more at (omega arith))

order-from : (cs : List Class) (w : Option ℕ) (at lo hi : ℕ) → From lo w at → at + length cs ≡ hi → StandInOrder lo (tokens_from w at cs) hi
order-from [] None at lo hi f e = omega arith
order-from [] (Some first) at lo hi f e = (f.0, f.1, omega arith)
order-from (letter ∷ cs) None at lo hi f e = order-from cs (Some at) (at + 1) lo hi (f, omega arith) (omega arith)
order-from (letter ∷ cs) (Some first) at lo hi f e = let g = f.1 in order-from cs (Some first) (at + 1) lo hi (f.0, omega arith) (omega arith)
order-from (blank ∷ cs) w at lo hi f e = order-ended w at lo hi (tokens_from None (at + 1) cs) f (λ low l. order-from cs None (at + 1) low hi (omega arith) (omega arith))
order-from (bad ∷ cs) w at lo hi f e = order-ended w at lo hi (tokens_from None (at + 1) cs) f (λ low l. order-from cs None (at + 1) low hi (omega arith) (omega arith))
order-from (opening ∷ cs) w at lo hi f e =
    subst (λ ts. StandInOrder lo ts hi) (sym (append_assoc (ended w at) (token start at (at + 1) ∷ []) (tokens_from None (at + 1) cs)))
    (order-ended w at lo hi (token start at (at + 1) ∷ tokens_from None (at + 1) cs) f (λ low l. (l, omega arith, order-from cs None (at + 1) (at + 1) hi (omega arith) (omega arith))))
order-from (closing ∷ cs) w at lo hi f e =
    subst (λ ts. StandInOrder lo ts hi) (sym (append_assoc (ended w at) (token stop at (at + 1) ∷ []) (tokens_from None (at + 1) cs)))
    (order-ended w at lo hi (token stop at (at + 1) ∷ tokens_from None (at + 1) cs) f (λ low l. (l, omega arith, order-from cs None (at + 1) (at + 1) hi (omega arith) (omega arith))))

pub in_order : (text : List ℕ) → StandInOrder 0 (tokens text) (length text)
in_order text = order-from (classes text) None 0 0 (length text) (omega arith) (omega (arith, length_classes text false))
