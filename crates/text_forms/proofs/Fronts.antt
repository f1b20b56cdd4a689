-- The lists of the first tokens of a text are the lists of the text, cut.
use Rattle.std.proofs.Common.{◌≡◌, ℕ, zero, suc, ◌+◌, ◌<◌, ◌≤◌, Bool, true, false, nat_lt, if◌then◌else◌, Option, Some, None, List, [], ◌∷◌, map, drop, length, refl, sym, ◌∙◌, ap, subst, arith, rules}
use borrow.Author.Tests.{ltb-false}
use Rattle.text_forms.specs.Bytes.{Class, blank, opening, closing, letter, bad, classes}
use Rattle.text_forms.specs.Tokens.{Lexeme, opens, closes, spells, lexeme, lexemes, tokens_from}
use Rattle.text_forms.specs.Placed.{Placed, cut, close, word, list, level, parts_at}
use Rattle.text_forms.specs.Fronts.{place, before, cut_before}

-- the places of these tokens rise, from lo on and below hi
abbrev pub Rises : ℕ → Placed → ℕ → Type 0
Rises lo cut hi = lo ≤ hi
Rises lo (close at) hi = (lo ≤ at) × (at < hi)
Rises lo (word at w p) hi = (lo ≤ at) × Rises (suc at) p hi
Rises lo (list at p q) hi = (lo ≤ at) × ((mid : ℕ) × Rises (suc at) p mid × Rises mid q hi)

abbrev pub Sorted : ℕ → List Lexeme → ℕ → Type 0
Sorted lo [] hi = lo ≤ hi
Sorted lo (t ∷ ts) hi = (lo ≤ place t) × Sorted (suc (place t)) ts hi

-- where level k ends
level_end : ℕ → List Lexeme → ℕ → ℕ
level_end k [] hi = hi
level_end zero (closes at ∷ ts) hi = suc at
level_end (suc k) (closes at ∷ ts) hi = level_end k ts hi
level_end zero (spells at w ∷ ts) hi = level_end zero ts hi
level_end (suc k) (spells at w ∷ ts) hi = level_end (suc k) ts hi
level_end zero (opens at ∷ ts) hi = level_end (suc zero) ts hi
level_end (suc k) (opens at ∷ ts) hi = level_end (suc (suc k)) ts hi

level_start : ℕ → ℕ → List Lexeme → ℕ → ℕ
level_start lo zero ts hi = lo
level_start lo (suc k) ts hi = level_end k ts hi

level_rises : (ts : List Lexeme) (k lo hi : ℕ) → Sorted lo ts hi → Rises (level_start lo k ts hi) (level k ts) (level_end k ts hi)
unfolding level_start level_end
level_rises [] zero lo hi s = s
level_rises [] (suc k) lo hi s = omega arith
level_rises (closes at ∷ ts) zero lo hi s = (s.0, omega arith)
level_rises (closes at ∷ ts) (suc zero) lo hi s = level_rises ts zero (suc at) hi s.1
level_rises (closes at ∷ ts) (suc (suc k)) lo hi s = level_rises ts (suc k) (suc at) hi s.1
level_rises (spells at w ∷ ts) zero lo hi s = (s.0, level_rises ts zero (suc at) hi s.1)
level_rises (spells at w ∷ ts) (suc zero) lo hi s = level_rises ts (suc zero) (suc at) hi s.1
level_rises (spells at w ∷ ts) (suc (suc k)) lo hi s = level_rises ts (suc (suc k)) (suc at) hi s.1
level_rises (opens at ∷ ts) zero lo hi s = (s.0, (level_end zero ts hi, level_rises ts zero (suc at) hi s.1, level_rises ts (suc zero) (suc at) hi s.1))
level_rises (opens at ∷ ts) (suc zero) lo hi s = level_rises ts (suc (suc zero)) (suc at) hi s.1
level_rises (opens at ∷ ts) (suc (suc k)) lo hi s = level_rises ts (suc (suc (suc k))) (suc at) hi s.1

sorted_le : (lo hi : ℕ) (ts : List Lexeme) → Sorted lo ts hi → lo ≤ hi
sorted_le lo hi [] s = s
sorted_le lo hi (t ∷ ts) s = let a = s.0 in omega (arith, sorted_le (suc (place t)) hi ts s.1)

mark_ge : (ts : List Lexeme) (k lo hi : ℕ) → Sorted lo ts hi → lo ≤ level_end k ts hi
unfolding level_end
mark_ge [] k lo hi s = s
mark_ge (closes at ∷ ts) zero lo hi s = let a = s.0 in omega arith
mark_ge (closes at ∷ ts) (suc k) lo hi s = let a = s.0 in omega (arith, mark_ge ts k (suc at) hi s.1)
mark_ge (spells at w ∷ ts) zero lo hi s = let a = s.0 in omega (arith, mark_ge ts zero (suc at) hi s.1)
mark_ge (spells at w ∷ ts) (suc k) lo hi s = let a = s.0 in omega (arith, mark_ge ts (suc k) (suc at) hi s.1)
mark_ge (opens at ∷ ts) zero lo hi s = let a = s.0 in omega (arith, mark_ge ts (suc zero) (suc at) hi s.1)
mark_ge (opens at ∷ ts) (suc k) lo hi s = let a = s.0 in omega (arith, mark_ge ts (suc (suc k)) (suc at) hi s.1)

start_ge : (ts : List Lexeme) (k lo hi : ℕ) → Sorted lo ts hi → lo ≤ level_start lo k ts hi
unfolding level_start
start_ge ts zero lo hi s = omega arith
start_ge ts (suc k) lo hi s = mark_ge ts k lo hi s

test_true : (at m : ℕ) → at < m → nat_lt at m ≡ true
test_true at m h = search (arith, rules)

test_false : (at m : ℕ) → m ≤ at → nat_lt at m ≡ false
test_false at m h = search (arith, rules)

-- nothing is left of what begins at m or behind it
cut_all : (m lo hi : ℕ) (p : Placed) → Rises lo p hi → m ≤ lo → cut_before m p ≡ cut
cut_all m lo hi cut r h = refl
cut_all m lo hi (close at) r h = let a = r.0 in ap (λ b. if b then close at else cut) (test_false at m (omega arith))
cut_all m lo hi (word at w p) r h = let a = r.0 in ap (λ b. if b then word at w (cut_before m p) else cut) (test_false at m (omega arith))
cut_all m lo hi (list at p q) r h = let a = r.0 in ap (λ b. if b then list at (cut_before m p) (cut_before m q) else cut) (test_false at m (omega arith))

pub level_before : (ts : List Lexeme) (k m lo hi : ℕ) → Sorted lo ts hi → level k (before m ts) ≡ cut_before m (level k ts)
level_before [] k m lo hi s = refl
level_before (t ∷ ts) k m lo hi s = by_test (nat_lt (place t) m) refl (λ j. level_before ts j m (suc (place t)) hi s.1)
  where
    one_more : (t : Lexeme) (k : ℕ) → nat_lt (place t) m ≡ true → ((j : ℕ) → level j (before m ts) ≡ cut_before m (level j ts)) → level k (t ∷ before m ts) ≡ cut_before m (level k (t ∷ ts))
    one_more (closes at) zero e more = sym (ap (λ b. if b then close at else cut) e)
    one_more (closes at) (suc k) e more = more k
    one_more (spells at w) zero e more = ap (word at w) (more zero) ∙ sym (ap (λ b. if b then word at w (cut_before m (level zero ts)) else cut) e)
    one_more (spells at w) (suc k) e more = more (suc k)
    one_more (opens at) zero e more = (λ i. list at (more zero i) (more (suc zero) i)) ∙ sym (ap (λ b. if b then list at (cut_before m (level zero ts)) (cut_before m (level (suc zero) ts)) else cut) e)
    one_more (opens at) (suc k) e more = more (suc (suc k))

    by_test : (b : Bool) → nat_lt (place t) m ≡ b → ((j : ℕ) → level j (before m ts) ≡ cut_before m (level j ts)) → level k (if b then t ∷ before m ts else []) ≡ cut_before m (level k (t ∷ ts))
    by_test true e more = one_more t k e more
    by_test false e more =
        let here : Sorted (place t) (t ∷ ts) hi = (omega arith, s.1) in
        sym (cut_all m (level_start (place t) k (t ∷ ts) hi) (level_end k (t ∷ ts) hi) (level k (t ∷ ts)) (level_rises (t ∷ ts) k (place t) hi here) (omega (arith, start_ge (t ∷ ts) k (place t) hi here, ltb-false (place t) m e)))

-- the tokens of a text stand in order
abbrev From : ℕ → Option ℕ → ℕ → Type 0
From lo None at = lo ≤ at
From lo (Some s) at = (lo ≤ s) × (s < at)

sorted_from : (text : List ℕ) (cs : List Class) (w : Option ℕ) (at lo : ℕ) → From lo w at → Sorted lo (map (lexeme text) (tokens_from w at cs)) (at + length cs)
sorted_from text [] None at lo f = omega arith
sorted_from text [] (Some s) at lo f = (f.0, omega (arith, f.1))
sorted_from text (letter ∷ cs) None at lo f = subst (Sorted lo _) (let n : at + 1 + length cs ≡ at + length (letter ∷ cs) = omega arith in n) (sorted_from text cs (Some at) (at + 1) lo (f, omega arith))
sorted_from text (letter ∷ cs) (Some s) at lo f = subst (Sorted lo _) (let n : at + 1 + length cs ≡ at + length (letter ∷ cs) = omega arith in n) (sorted_from text cs (Some s) (at + 1) lo (f.0, omega (arith, f.1)))
sorted_from text (blank ∷ cs) None at lo f = subst (Sorted lo _) (let n : at + 1 + length cs ≡ at + length (blank ∷ cs) = omega arith in n) (sorted_from text cs None (at + 1) lo (omega arith))
sorted_from text (blank ∷ cs) (Some s) at lo f = (f.0, subst (Sorted (suc s) _) (let n : at + 1 + length cs ≡ at + length (blank ∷ cs) = omega arith in n) (sorted_from text cs None (at + 1) (suc s) (omega (arith, f.1))))
sorted_from text (bad ∷ cs) None at lo f = subst (Sorted lo _) (let n : at + 1 + length cs ≡ at + length (bad ∷ cs) = omega arith in n) (sorted_from text cs None (at + 1) lo (omega arith))
sorted_from text (bad ∷ cs) (Some s) at lo f = (f.0, subst (Sorted (suc s) _) (let n : at + 1 + length cs ≡ at + length (bad ∷ cs) = omega arith in n) (sorted_from text cs None (at + 1) (suc s) (omega (arith, f.1))))
sorted_from text (opening ∷ cs) None at lo f = (f, subst (Sorted (suc at) _) (let n : at + 1 + length cs ≡ at + length (opening ∷ cs) = omega arith in n) (sorted_from text cs None (at + 1) (suc at) (omega arith)))
sorted_from text (opening ∷ cs) (Some s) at lo f = (f.0, (omega (arith, f.1), subst (Sorted (suc at) _) (let n : at + 1 + length cs ≡ at + length (opening ∷ cs) = omega arith in n) (sorted_from text cs None (at + 1) (suc at) (omega arith))))
sorted_from text (closing ∷ cs) None at lo f = (f, subst (Sorted (suc at) _) (let n : at + 1 + length cs ≡ at + length (closing ∷ cs) = omega arith in n) (sorted_from text cs None (at + 1) (suc at) (omega arith)))
sorted_from text (closing ∷ cs) (Some s) at lo f = (f.0, (omega (arith, f.1), subst (Sorted (suc at) _) (let n : at + 1 + length cs ≡ at + length (closing ∷ cs) = omega arith in n) (sorted_from text cs None (at + 1) (suc at) (omega arith))))

pub sorted_lexemes : (text : List ℕ) → Sorted 0 (lexemes text) (length (classes text))
sorted_lexemes text = subst (Sorted 0 (lexemes text)) (let n : 0 + length (classes text) ≡ length (classes text) = omega arith in n) (sorted_from text (classes text) None 0 0 (omega arith))

sorted_drop : (i lo hi : ℕ) (ts : List Lexeme) → Sorted lo ts hi → (low : ℕ) × Sorted low (drop i ts) hi
sorted_drop zero lo hi ts s = (lo, s)
sorted_drop (suc i) lo hi [] s = (lo, s)
sorted_drop (suc i) lo hi (t ∷ ts) s = sorted_drop i (suc (place t)) hi ts s.1

-- what stands inside a list that opens at token i, up to a place, is what the tokens from i on up to this place show
pub parts_before : (text : List ℕ) (i m : ℕ) → level 0 (before m (drop i (lexemes text))) ≡ cut_before m (parts_at text i)
parts_before text i m =
    let s = sorted_drop i 0 (length (classes text)) (lexemes text) (sorted_lexemes text) in
    level_before (drop i (lexemes text)) 0 m s.0 (length (classes text)) s.1

pub rises_at : (text : List ℕ) (i : ℕ) → (lo : ℕ) × (hi : ℕ) × Rises lo (parts_at text i) hi
unfolding level_start
rises_at text i =
    let s = sorted_drop i 0 (length (classes text)) (lexemes text) (sorted_lexemes text) in
    (s.0, level_end 0 (drop i (lexemes text)) (length (classes text)), level_rises (drop i (lexemes text)) 0 s.0 (length (classes text)) s.1)
