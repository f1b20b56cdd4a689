-- The lines of rows of words, and their words, each where it stands.
use Rattle.std.proofs.Common.{ℕ, zero, suc, ◌≡◌, ◌∙◌, ◌+◌, ◌-◌, ◌<◌, ◌==◌, ◌&&◌, nat_le, Bool, true, false, if◌then◌else◌, Some, List, [], ◌∷◌, ◌++◌, take, length, get_or, refl, ap, ap₂, append_assoc, arith}
use Rattle.std.specs.List.{filter_map, cons_option}
use Rattle.std.specs.Str.Lines.{strip_carriage_return}
use Rattle.std.proofs.lemmas.Bool.Decides.{nat_tests}
use Rattle.std.proofs.lemmas.List.{append-nil}
use Rattle.plan_texts.specs.Types.{EachIs}
use Rattle.hplan_text.specs.HPlanText.{words_behind, words_text, row_text, rows_text}
use Rattle.hplan_text.specs.Lines.{piece, with_byte, pieces, is_blank, is_line_end, Said, said, words_from, Line, some_line, line_words, line_of, lines_from}
use Rattle.hplan_text.specs.Rows.{is_word_byte}

pub each-append : {X : Type 0} (P : X → Type 0) (xs ys : List X) → EachIs P xs → EachIs P ys → EachIs P (xs ++ ys)
each-append P [] ys e f = f
each-append P (x ∷ xs) ys e f = (e.0, each-append P xs ys e.1 f)

each-by : {X : Type 0} (P Q : X → Type 0) (xs : List X) → ((x : X) → P x → Q x) → EachIs P xs → EachIs Q xs
each-by P Q [] f e = tt
each-by P Q (x ∷ xs) f e = (f x e.0, each-by P Q xs f e.1)

-- pieces that no byte parts
module _ (parts : ℕ → Bool) where
  abbrev IsWhole : List ℕ → Type 0
  IsWhole bs = EachIs (λ b. parts b ≡ false) bs

  one-piece : (at : ℕ) (bs : List ℕ) → IsWhole bs → pieces parts at bs ≡ piece at bs ∷ []
  one-piece at [] e = refl
  one-piece at (b ∷ bs) e = ap₂ (λ t ps. with_byte t at b ps) e.0 (one-piece (at + 1) bs e.1)

  piece-then : (at : ℕ) (bs : List ℕ) (c : ℕ) (rest : List ℕ) → IsWhole bs → parts c ≡ true → pieces parts at (bs ++ c ∷ rest) ≡ piece at bs ∷ pieces parts (at + suc (length bs)) rest
  piece-then at [] c rest e p = ap (λ t. with_byte t at c (pieces parts (at + 1) rest)) p
  piece-then at (b ∷ bs) c rest e p =
      let n : at + 1 + suc (length bs) ≡ at + suc (suc (length bs)) = omega arith in
      ap₂ (λ t ps. with_byte t at b ps) e.0 (piece-then (at + 1) bs c rest e.1 p) ∙ ap (λ k. piece at (b ∷ bs) ∷ pieces parts k rest) n

-- a word without a blank or an end of a line
abbrev pub IsPlain : List ℕ → Type 0
IsPlain w = (0 < length w) × EachIs (λ b. is_word_byte b ≡ true) w

abbrev is_line_byte : ℕ → Bool
is_line_byte b = nat_le 32 b && nat_le b 126

abbrev IsLine : List ℕ → Type 0
IsLine bs = EachIs (λ b. is_line_byte b ≡ true) bs

in-line : (b : ℕ) → is_word_byte b ≡ true → is_line_byte b ≡ true
in-line b e = grind (arith, nat_tests)

no-blank : (b : ℕ) → is_word_byte b ≡ true → is_blank b ≡ false
no-blank b e = grind (arith, nat_tests)

no-end : (b : ℕ) → is_line_byte b ≡ true → is_line_end b ≡ false
no-end b e = grind (arith, nat_tests)

no-return : (b : ℕ) → is_line_byte b ≡ true → (b == 13) ≡ false
no-return b e = grind (arith, nat_tests)

word-line : (w : List ℕ) → IsPlain w → IsLine w
word-line w p = each-by (λ b. is_word_byte b ≡ true) (λ b. is_line_byte b ≡ true) w in-line p.1

behind-line : (ws : List (List ℕ)) → EachIs IsPlain ws → IsLine (words_behind ws)
behind-line [] p = tt
behind-line (w ∷ ws) p = (refl, each-append (λ b. is_line_byte b ≡ true) w (words_behind ws) (word-line w p.0) (behind-line ws p.1))

text-line : (ws : List (List ℕ)) → EachIs IsPlain ws → IsLine (words_text ws)
text-line [] p = tt
text-line (w ∷ ws) p = each-append (λ b. is_line_byte b ≡ true) w (words_behind ws) (word-line w p.0) (behind-line ws p.1)

-- the words where they stand
abbrev pub placed : ℕ → List (List ℕ) → List Said
placed at [] = []
placed at (w ∷ ws) = record { at = at; word = w } ∷ placed (at + suc (length w)) ws

some-said : (at : ℕ) (w : List ℕ) → 0 < length w → said (piece at w) ≡ Some (record { at = at; word = w })
some-said at [] l = absurd (omega arith)
some-said at (b ∷ bs) l = refl

words-placed : (at : ℕ) (w : List ℕ) (ws : List (List ℕ)) → IsPlain w → EachIs IsPlain ws → words_from at (w ++ words_behind ws) ≡ placed at (w ∷ ws)
words-placed at w [] p ps =
    ap (words_from at) (append-nil w) ∙ ap (filter_map said) (one-piece is_blank at w (each-by (λ b. is_word_byte b ≡ true) (λ b. is_blank b ≡ false) w no-blank p.1))
    ∙ ap (λ o. cons_option o []) (some-said at w p.0)
words-placed at w (v ∷ vs) p ps =
    ap (filter_map said) (piece-then is_blank at w 32 (v ++ words_behind vs) (each-by (λ b. is_word_byte b ≡ true) (λ b. is_blank b ≡ false) w no-blank p.1) refl)
    ∙ ap₂ cons_option (some-said at w p.0) (words-placed (at + suc (length w)) v vs ps.0 ps.1)

-- no byte of a row is a carriage return
nowhere : (bs : List ℕ) (k : ℕ) → IsLine bs → (get_or bs k 0 == 13) ≡ false
nowhere [] zero e = refl
nowhere [] (suc k) e = refl
nowhere (b ∷ bs) zero e = no-return b e.0
nowhere (b ∷ bs) (suc k) e = nowhere bs k e.1

not-stripped : (bs : List ℕ) → IsLine bs → strip_carriage_return bs ≡ bs
not-stripped bs e = ap (λ t. if t then take (length bs - 1) bs else bs) (nowhere bs (length bs - 1) e)

line-placed : (at : ℕ) (ws : List (List ℕ)) → EachIs IsPlain ws → line_words (piece at (words_text ws)) ≡ placed at ws
line-placed at [] p = refl
line-placed at (w ∷ ws) p = ap (words_from at) (not-stripped (words_text (w ∷ ws)) (text-line (w ∷ ws) p)) ∙ words-placed at w ws p.0 p.1

lines-then : (at : ℕ) (ws : List (List ℕ)) (rest : List ℕ) → EachIs IsPlain ws
    → lines_from at (row_text ws ++ rest) ≡ cons_option (some_line (placed at ws)) (lines_from (at + suc (length (words_text ws))) rest)
lines-then at ws rest p =
    ap (lines_from at) (append_assoc (words_text ws) (10 ∷ []) rest)
    ∙ ap (filter_map line_of)
    (piece-then is_line_end at (words_text ws) 10 rest (each-by (λ b. is_line_byte b ≡ true) (λ b. is_line_end b ≡ false) (words_text ws) no-end (text-line ws p)) refl)
    ∙ ap (λ ss. cons_option (some_line ss) (lines_from (at + suc (length (words_text ws))) rest)) (line-placed at ws p)

-- the lines of rows
abbrev pub lines_of : ℕ → List (List (List ℕ)) → List Line
lines_of at [] = []
lines_of at (ws ∷ rs) = cons_option (some_line (placed at ws)) (lines_of (at + suc (length (words_text ws))) rs)

pub rows-lines : (at : ℕ) (rs : List (List (List ℕ))) → EachIs (EachIs IsPlain) rs → lines_from at (rows_text rs) ≡ lines_of at rs
rows-lines at [] p = refl
rows-lines at (ws ∷ rs) p =
    lines-then at ws (rows_text rs) p.0 ∙ ap (cons_option (some_line (placed at ws))) (rows-lines (at + suc (length (words_text ws))) rs p.1)
