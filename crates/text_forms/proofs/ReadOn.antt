-- What a text says, letter by letter: the words under way are kept as their letters.
use Rattle.std.proofs.Common.{◌≡◌, ℕ, ◌+◌, ◌-◌, ◌≤◌, Bool, false, length, map, take, drop, Option, Some, None, List, [], ◌∷◌, ◌++◌, refl, sym, ◌∙◌, ap, arith, append_assoc, length-drop}
use Rattle.std.specs.Prelude.{slice_range}
use Rattle.std.specs.Char.{to_ascii_lowercase}
use Rattle.std.proofs.lemmas.List.{map-append, drop-append-le}
use Rattle.std.proofs.Math.Seq.{take-append_seam, drop-append_seam}
use Rattle.text_forms.specs.Bytes.{Class, blank, opening, closing, letter, bad, class_in, comment_after, classes_from}
use Rattle.text_forms.specs.Tokens.{Token, token, start, stop, ended, made, under_way_after, tokens_from, lexeme, Symbol, left, right, said, symbol, symbols}

-- the word under way, said
abbrev pub word_said : Option (List ℕ) → List Symbol
word_said None = []
word_said (Some w) = said w ∷ []

abbrev pub made_said : Option (List ℕ) → Class → List Symbol
made_said w letter = []
made_said w blank = word_said w
made_said w bad = word_said w
made_said w opening = word_said w ++ left ∷ []
made_said w closing = word_said w ++ right ∷ []

abbrev pub one_more : Option (List ℕ) → ℕ → List ℕ
one_more None b = to_ascii_lowercase b ∷ []
one_more (Some w) b = w ++ to_ascii_lowercase b ∷ []

abbrev pub letters_after : Option (List ℕ) → ℕ → Class → Option (List ℕ)
letters_after w b letter = Some (one_more w b)
letters_after w b blank = None
letters_after w b bad = None
letters_after w b opening = None
letters_after w b closing = None

abbrev pub read_on : Option (List ℕ) → Bool → List ℕ → List Symbol
read_on w comment [] = word_said w
read_on w comment (b ∷ bs) = made_said w (class_in comment b) ++ read_on (letters_after w b (class_in comment b)) (comment_after comment b) bs

-- the letters of the word under way behind these bytes
abbrev so_far : List ℕ → Option ℕ → Option (List ℕ)
so_far before None = None
so_far before (Some first) = Some (map to_ascii_lowercase (drop first before))

abbrev Begins : Option ℕ → List ℕ → Type 0
Begins None before = Unit {0}
Begins (Some first) before = first ≤ length before

slice-behind : (before rest : List ℕ) (first at : ℕ) → at ≡ length before → first ≤ length before → slice_range (before ++ rest) first at ≡ drop first before
slice-behind before rest first at e l =
    let n : at - first ≡ length (drop first before) = omega (arith, length-drop first before) in
    ap (λ t. take (at - first) t) (drop-append-le first before rest l) ∙ ap (λ k. take k (drop first before ++ rest)) n ∙ take-append_seam (drop first before) rest

said-ended : (before rest : List ℕ) (under_way : Option ℕ) (at : ℕ) → at ≡ length before → Begins under_way before
    → map symbol (map (lexeme (before ++ rest)) (ended under_way at)) ≡ word_said (so_far before under_way)
said-ended before rest None at e b = refl
said-ended before rest (Some first) at e b = ap (λ w. said (map to_ascii_lowercase w) ∷ []) (slice-behind before rest first at e b)

said-append : (text : List ℕ) (ts us : List Token) → map symbol (map (lexeme text) (ts ++ us)) ≡ map symbol (map (lexeme text) ts) ++ map symbol (map (lexeme text) us)
said-append text ts us = ap (map symbol) (map-append (lexeme text) ts us) ∙ map-append symbol (map (lexeme text) ts) (map (lexeme text) us)

said-made : (before rest : List ℕ) (under_way : Option ℕ) (at : ℕ) (c : Class) → at ≡ length before → Begins under_way before
    → map symbol (map (lexeme (before ++ rest)) (made under_way at c)) ≡ made_said (so_far before under_way) c
said-made before rest u at letter e b = refl
said-made before rest u at blank e b = said-ended before rest u at e b
said-made before rest u at bad e b = said-ended before rest u at e b
said-made before rest u at opening e b = said-append (before ++ rest) (ended u at) (token start at (at + 1) ∷ []) ∙ ap (λ t. t ++ left ∷ []) (said-ended before rest u at e b)
said-made before rest u at closing e b = said-append (before ++ rest) (ended u at) (token stop at (at + 1) ∷ []) ∙ ap (λ t. t ++ right ∷ []) (said-ended before rest u at e b)

length-more : (xs : List ℕ) (x : ℕ) → length (xs ++ x ∷ []) ≡ length xs + 1
length-more [] x = refl
length-more (y ∷ ys) x = let h = length-more ys x in omega arith

far-after : (before : List ℕ) (under_way : Option ℕ) (at b : ℕ) (c : Class) → at ≡ length before → Begins under_way before
    → (so_far (before ++ b ∷ []) (under_way_after under_way at c) ≡ letters_after (so_far before under_way) b c) × Begins (under_way_after under_way at c) (before ++ b ∷ [])
far-after before None at b letter e l =
    let n : length (before ++ b ∷ []) ≡ length before + 1 = length-more before b in (
      ap (λ k. Some (map to_ascii_lowercase (drop k (before ++ b ∷ [])))) e ∙ ap (λ t. Some (map to_ascii_lowercase t)) (drop-append_seam before (b ∷ [])),
      omega arith,
    )
far-after before (Some first) at b letter e l =
    let n : length (before ++ b ∷ []) ≡ length before + 1 = length-more before b in (
      ap (λ t. Some (map to_ascii_lowercase t)) (drop-append-le first before (b ∷ []) l) ∙ ap Some (map-append to_ascii_lowercase (drop first before) (b ∷ [])),
      omega arith,
    )
far-after before u at b blank e l = (refl, tt)
far-after before u at b bad e l = (refl, tt)
far-after before u at b opening e l = (refl, tt)
far-after before u at b closing e l = (refl, tt)

said-from : (before rest : List ℕ) (under_way : Option ℕ) (at : ℕ) (comment : Bool) → at ≡ length before → Begins under_way before
    → map symbol (map (lexeme (before ++ rest)) (tokens_from under_way at (classes_from comment rest))) ≡ read_on (so_far before under_way) comment rest
said-from before [] u at comment e l = said-ended before [] u at e l
said-from before (b ∷ rest) u at comment e l =
    let c = class_in comment b in
    let f = far-after before u at b c e l in
    let same : (before ++ b ∷ []) ++ rest ≡ before ++ b ∷ rest = append_assoc before (b ∷ []) rest in
    let n : at + 1 ≡ length (before ++ b ∷ []) = omega (arith, length-more before b) in
    let behind = said-from (before ++ b ∷ []) rest (under_way_after u at c) (at + 1) (comment_after comment b) n f.1 in
    said-append (before ++ b ∷ rest) (made u at c) (tokens_from (under_way_after u at c) (at + 1) (classes_from (comment_after comment b) rest))
    ∙ (λ i. said-made before (b ∷ rest) u at c e l i ++ map symbol (map (lexeme (sym same i)) (tokens_from (under_way_after u at c) (at + 1) (classes_from (comment_after comment b) rest))))
    ∙ ap (λ t. made_said (so_far before u) c ++ t) (behind ∙ ap (λ w. read_on w (comment_after comment b) rest) f.0)

pub symbols-read : (text : List ℕ) → symbols text ≡ read_on None false text
symbols-read text = said-from [] text None 0 false refl tt
