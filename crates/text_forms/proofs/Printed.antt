-- What is printed says its list.
use Rattle.std.proofs.Common.{ℕ, ◌≡◌, ◌==◌, ◌&&◌, Bool, true, false, not, Option, Some, None, List, [], ◌∷◌, ◌++◌, codes, refl, ap, sym, ◌∙◌, append_assoc, append-nil}
use Rattle.std.specs.Char.{to_ascii_lowercase}
use Rattle.std.proofs.lemmas.Bool.{cond-true, and_parts, and_from, eqb-true}
use Rattle.text_forms.specs.Bytes.{Class, blank, opening, closing, letter, bad, is_letter, class_of, classes_from, are_good, is_clean}
use Rattle.text_forms.specs.Tokens.{left, right, said, symbols}
use Rattle.text_forms.specs.Lists.{Part, Parts, name, group, nothing, part, written, written_all}
use Rattle.text_forms.specs.Words.{Word}
use Rattle.text_forms.specs.Printing.{bytes, bytes_behind, lines, rows, headed, definition, page, are_folded, is_folded_word, IsPrintablePart, ArePrintableParts}
use Rattle.text_forms.proofs.ReadOn.{made_said, one_more, letters_after, read_on, symbols-read}

-- a letter opens no comment
letter-quiet : (b : ℕ) → is_letter b ≡ true → (b == 59) ≡ false
letter-quiet b e = go (b == 59) refl
  where
    go : (x : Bool) → (b == 59) ≡ x → x ≡ false
    go false f = refl
    go true f = let g : b ≡ 59 = eqb-true b 59 f in let h = ap is_letter g in cc

letter-class : (b : ℕ) → is_letter b ≡ true → class_of b ≡ letter
letter-class b e = cond-true _ _ _ e

abbrev more : Option Word → ℕ → Word
more None b = b ∷ []
more (Some w) b = w ++ b ∷ []

read-letter : (w : Option Word) (b : ℕ) (bs : List ℕ) → is_letter b ≡ true → to_ascii_lowercase b ≡ b → read_on w false (b ∷ bs) ≡ read_on (Some (more w b)) false bs
read-letter w b bs e f =
    (λ i. made_said w (letter-class b e i) ++ read_on (letters_after w b (letter-class b e i)) (letter-quiet b e i) bs) ∙ ap (λ t. read_on (Some t) false bs) (same w)
  where
    same : (w : Option Word) → one_more w b ≡ more w b
    same None = ap (λ t. t ∷ []) f
    same (Some u) = ap (λ t. u ++ t ∷ []) f

-- a word that is under way ends in front of these bytes
abbrev IsEnd : List ℕ → Type 0
IsEnd rest = (w : Word) → read_on (Some w) false rest ≡ said w ∷ read_on None false rest

read-letters : (u w rest : List ℕ) → are_folded w ≡ true → read_on (Some u) false (w ++ rest) ≡ read_on (Some (u ++ w)) false rest
read-letters u [] rest e = ap (λ t. read_on (Some t) false rest) (sym (append-nil u))
read-letters u (b ∷ w) rest e =
    let p = and_parts _ _ e in
    let q = and_parts _ _ p.0 in
    read-letter (Some u) b (w ++ rest) q.0 (eqb-true _ _ q.1) ∙ read-letters (u ++ b ∷ []) w rest p.1 ∙ ap (λ t. read_on (Some t) false rest) (append_assoc u (b ∷ []) w)

read-word : (w rest : List ℕ) → is_folded_word w ≡ true → IsEnd rest → read_on None false (w ++ rest) ≡ said w ∷ read_on None false rest
read-word [] rest e f = cc
read-word (b ∷ w) rest e f =
    let p = and_parts _ _ e in
    let q = and_parts _ _ p.0 in
    read-letter None b (w ++ rest) q.0 (eqb-true _ _ q.1) ∙ read-letters (b ∷ []) w rest p.1 ∙ f (b ∷ w)

end-behind : (ps : Parts) (rest : List ℕ) → IsEnd (bytes_behind ps ++ 41 ∷ rest)
end-behind nothing rest = λ w. refl
end-behind (part p ps) rest = λ w. refl

mutual
  read-part : (p : Part) (rest : List ℕ) → IsPrintablePart p → IsEnd rest → read_on None false (bytes p ++ rest) ≡ written p ++ read_on None false rest
  read-part (name w) rest e f = read-word w rest e f
  read-part (group nothing) rest e f = refl
  read-part (group (part p ps)) rest e f =
      let a : (bytes p ++ (bytes_behind ps ++ 41 ∷ [])) ++ rest ≡ bytes p ++ (bytes_behind ps ++ 41 ∷ rest) = simp append_assoc in
      let b : ((written p ++ written_all ps) ++ right ∷ []) ++ read_on None false rest ≡ written p ++ (written_all ps ++ right ∷ read_on None false rest) = simp append_assoc in
      let g = read-part p (bytes_behind ps ++ 41 ∷ rest) e.0 (end-behind ps rest) in
      let h = read-behind ps rest e.1 in
      ap (λ x. left ∷ read_on None false x) a ∙ ap (λ x. left ∷ x) (g ∙ ap (λ x. written p ++ x) h) ∙ ap (λ x. left ∷ x) (sym b)

  read-behind : (ps : Parts) (rest : List ℕ) → ArePrintableParts ps → read_on None false (bytes_behind ps ++ 41 ∷ rest) ≡ written_all ps ++ right ∷ read_on None false rest
  read-behind nothing rest e = refl
  read-behind (part p ps) rest e =
      ap (read_on None false) (append_assoc (bytes p) (bytes_behind ps) (41 ∷ rest)) ∙ read-part p (bytes_behind ps ++ 41 ∷ rest) e.0 (end-behind ps rest) ∙ ap (λ x. written p ++ x) (read-behind ps rest e.1) ∙ sym (append_assoc (written p) (written_all ps) (right ∷ read_on None false rest))

pub symbols-bytes : (p : Part) → IsPrintablePart p → symbols (bytes p) ≡ written p
symbols-bytes p e = symbols-read (bytes p) ∙ ap (read_on None false) (sym (append-nil (bytes p))) ∙ read-part p [] e (λ w. refl) ∙ append-nil (written p)

read-lines : (ps : Parts) → ArePrintableParts ps → read_on None false (lines ps ++ codes ")\n") ≡ written_all ps ++ right ∷ []
read-lines nothing e = refl
read-lines (part p ps) e =
    ap (read_on None false) (append_assoc (bytes p) (10 ∷ lines ps) (codes ")\n")) ∙ read-part p (10 ∷ (lines ps ++ codes ")\n")) e.0 (λ w. refl) ∙ ap (λ t. written p ++ t) (read-lines ps e.1) ∙ sym (append_assoc (written p) (written_all ps) (right ∷ []))

pub symbols-page : (kind w : Word) (ps : Parts) → is_folded_word kind ≡ true → is_folded_word w ≡ true → ArePrintableParts ps → symbols (page kind w ps) ≡ written (definition kind w ps)
symbols-page kind w ps k e f =
    let head : Part = headed kind (part (name w) nothing) in
    let rest : List ℕ = 10 ∷ (lines ps ++ codes ")\n") in
    let inside : read_on None false (bytes head ++ rest) ≡ written head ++ (written_all ps ++ right ∷ []) = read-part head rest (k, (e, tt)) (λ w. refl) ∙ ap (λ t. written head ++ t) (read-lines ps f) in
    symbols-read (page kind w ps) ∙ ap (λ t. left ∷ t) (read-word (codes "define") (32 ∷ (bytes head ++ rest)) refl (λ w. refl)) ∙ ap (λ t. left ∷ said (codes "define") ∷ t) inside ∙ ap (λ t. left ∷ said (codes "define") ∷ t) (sym (append_assoc (written head) (written_all ps) (right ∷ [])))

-- a byte that opens no comment and isn't bad
abbrev is_well : Class → Bool
is_well bad = false
is_well blank = true
is_well opening = true
is_well closing = true
is_well letter = true

abbrev is_quiet : ℕ → Bool
is_quiet b = not (b == 59) && is_well (class_of b)

abbrev are_quiet : List ℕ → Bool
are_quiet [] = true
are_quiet (b ∷ bs) = is_quiet b && are_quiet bs

letter-is_quiet : (b : ℕ) → is_letter b ≡ true → is_quiet b ≡ true
letter-is_quiet b e = and_from _ _ (ap not (letter-quiet b e)) (ap is_well (letter-class b e))

quiet-append : (as' bs : List ℕ) → are_quiet as' ≡ true → are_quiet bs ≡ true → are_quiet (as' ++ bs) ≡ true
quiet-append [] bs e f = f
quiet-append (a ∷ as') bs e f = let p = and_parts _ _ e in and_from _ _ p.0 (quiet-append as' bs p.1 f)

good-quiet : (bs : List ℕ) → are_quiet bs ≡ true → are_good (classes_from false bs) ≡ true
good-quiet [] e = refl
good-quiet (b ∷ bs) e =
    let p = and_parts _ _ e in
    let q = and_parts _ _ p.0 in
    go (b == 59) refl q.0 (class_of b) refl q.1 (good-quiet bs p.1)
  where
    one : (c : Class) → is_well c ≡ true → (cs : List Class) → are_good cs ≡ true → are_good (c ∷ cs) ≡ true
    one bad e cs h = cc
    one blank e cs h = h
    one opening e cs h = h
    one closing e cs h = h
    one letter e cs h = h

    go : (x : Bool) → (b == 59) ≡ x → not x ≡ true → (c : Class) → class_of b ≡ c → is_well c ≡ true → are_good (classes_from false bs) ≡ true → are_good (class_of b ∷ classes_from (b == 59) bs) ≡ true
    go true f g c k l h = cc
    go false f g c k l h = (λ i. are_good (k i ∷ classes_from (f i) bs)) ∙ one c l (classes_from false bs) h

quiet-word : (w : List ℕ) → are_folded w ≡ true → are_quiet w ≡ true
quiet-word [] f = refl
quiet-word (b ∷ w) f = let p = and_parts _ _ f in and_from _ _ (letter-is_quiet b (and_parts _ _ p.0).0) (quiet-word w p.1)

mutual
  quiet-part : (p : Part) → IsPrintablePart p → are_quiet (bytes p) ≡ true
  quiet-part (name []) e = refl
  quiet-part (name (b ∷ w)) e = quiet-word (b ∷ w) e
  quiet-part (group nothing) e = refl
  quiet-part (group (part p ps)) e = quiet-append (bytes p) (bytes_behind ps ++ 41 ∷ []) (quiet-part p e.0) (quiet-append (bytes_behind ps) (41 ∷ []) (quiet-behind ps e.1) refl)

  quiet-behind : (ps : Parts) → ArePrintableParts ps → are_quiet (bytes_behind ps) ≡ true
  quiet-behind nothing e = refl
  quiet-behind (part p ps) e = quiet-append (bytes p) (bytes_behind ps) (quiet-part p e.0) (quiet-behind ps e.1)

quiet-lines : (ps : Parts) → ArePrintableParts ps → are_quiet (lines ps) ≡ true
quiet-lines nothing e = refl
quiet-lines (part p ps) e = quiet-append (bytes p) (10 ∷ lines ps) (quiet-part p e.0) (quiet-lines ps e.1)

pub clean-page : (kind w : Word) (ps : Parts) → is_folded_word kind ≡ true → is_folded_word w ≡ true → ArePrintableParts ps → is_clean (page kind w ps) ≡ true
clean-page kind w ps k e f =
    let head : Part = headed kind (part (name w) nothing) in
    good-quiet (page kind w ps)
    (quiet-append (codes "(define ") (bytes head ++ (10 ∷ (lines ps ++ codes ")\n"))) refl (quiet-append (bytes head) (10 ∷ (lines ps ++ codes ")\n")) (quiet-part head (k, (e, tt))) (quiet-append (lines ps) (codes ")\n") (quiet-lines ps f) refl)))

read-rows : (ps : Parts) → ArePrintableParts ps → read_on None false (rows ps) ≡ written_all ps
read-rows nothing e = refl
read-rows (part p ps) e = read-part p (10 ∷ rows ps) e.0 (λ w. refl) ∙ ap (λ t. written p ++ t) (read-rows ps e.1)

pub symbols-rows : (ps : Parts) → ArePrintableParts ps → symbols (rows ps) ≡ written_all ps
symbols-rows ps e = symbols-read (rows ps) ∙ read-rows ps e

quiet-rows : (ps : Parts) → ArePrintableParts ps → are_quiet (rows ps) ≡ true
quiet-rows nothing e = refl
quiet-rows (part p ps) e = quiet-append (bytes p) (10 ∷ rows ps) (quiet-part p e.0) (quiet-rows ps e.1)

pub clean-rows : (ps : Parts) → ArePrintableParts ps → is_clean (rows ps) ≡ true
clean-rows ps e = good-quiet (rows ps) (quiet-rows ps e)
