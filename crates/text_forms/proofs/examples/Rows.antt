-- Small texts, tried by computation.
use Rattle.std.proofs.Common.{◌≡◌, inl, inr, Some, None, [], ◌∷◌, codes, refl, true, false}
use Rattle.text_forms.specs.Bytes.{blank, opening, closing, letter, bad, classes, is_clean}
use Rattle.text_forms.specs.Tokens.{start, stop, word, token, tokens, left, right, said, lexemes, symbols}
use Rattle.text_forms.specs.Closing.{closings, close_at}
use Rattle.text_forms.specs.Faults.{fault, IsFault}
use Rattle.text_forms.specs.Least.{least_fault}
use Rattle.text_forms.specs.Lists.{name, group, nothing, part, AreMatched}
use Rattle.text_forms.specs.Placed.{cut, close, word as word_at, list, level, parts_at}
use Rattle.text_forms.specs.Fronts.{before}
use Rattle.text_forms.specs.Words.{is_name, is_variable, first_place, last_place}
use Rattle.text_forms.specs.Printing.{bytes, page, headed}

-- a comment is blank up to its line's end, whatever stands in it
pub comment_blank : classes (codes "a;\"\nb") ≡ letter ∷ blank ∷ blank ∷ blank ∷ letter ∷ []
comment_blank = refl

pub comment_clean : is_clean (codes "a;\"\nb") ≡ true
comment_clean = refl

pub quotation_bad : classes (codes "(\")") ≡ opening ∷ bad ∷ closing ∷ []
quotation_bad = refl

-- the bytes 8 and 14 are bad, 9 to 13 are white
pub white : classes (8 ∷ 9 ∷ 13 ∷ 14 ∷ 127 ∷ []) ≡ bad ∷ blank ∷ blank ∷ bad ∷ bad ∷ []
white = refl

pub places : tokens (codes "(ab;c\n d)") ≡ token start 0 1 ∷ token word 1 3 ∷ token word 7 8 ∷ token stop 8 9 ∷ []
places = refl

-- no blank is wanted between a word and a parenthesis, and letters are folded
pub folded : symbols (codes "(define (Domain D)") ≡ left ∷ said (codes "define") ∷ left ∷ said (codes "domain") ∷ said (codes "d") ∷ right ∷ []
folded = refl

pub pairs : closings 0 (tokens (codes "(a () b)")) ≡ Some 5 ∷ None ∷ Some 3 ∷ None ∷ None ∷ None ∷ []
pairs = refl

pub second_pair : close_at (codes "(a () b)") 2 ≡ Some 3
second_pair = refl

pub clean : least_fault (codes "(a (b)) ; \"(") ≡ None
clean = refl

pub bad_byte : least_fault (codes "a\"(") ≡ Some (fault 1 1)
bad_byte = refl

-- an unclosed list in front of a bad byte comes first
pub unclosed : least_fault (codes "(a \"") ≡ Some (fault 2 0)
unclosed = refl

-- one that is opened behind it does not
pub opened_later : least_fault (codes "a \" (") ≡ Some (fault 1 2)
opened_later = refl

-- the innermost of the open lists
pub innermost_open : least_fault (codes "(a (b (c)") ≡ Some (fault 2 3)
innermost_open = refl

pub stray : least_fault (codes "a))") ≡ Some (fault 3 1)
stray = refl

-- a stray parenthesis is passed over, so the next one is a fault too
pub stray_again : IsFault (codes ")a)") (fault 3 2)
stray_again = inr (inr (inl (3, refl, refl)))

pub not_matched : AreMatched 0 (symbols (codes "(a))")) → ⊥
not_matched m = m

pub nested : parts_at (codes "(A (b)) c") 0 ≡ list 0 (word_at 1 (codes "a") (list 3 (word_at 4 (codes "b") (close 5)) (close 6))) (word_at 8 (codes "c") cut)
nested = refl

pub nested_within : parts_at (codes "(a (b)) c") 1 ≡ word_at 1 (codes "a") (list 3 (word_at 4 (codes "b") (close 5)) (close 6))
nested_within = refl

-- the end of the tokens cuts the lists
pub nested_cut : parts_at (codes "(a (b") 0 ≡ list 0 (word_at 1 (codes "a") (list 3 (word_at 4 (codes "b") cut) cut)) cut
nested_cut = refl

pub printed : bytes (headed (codes "and") (part (headed (codes "p") (part (name (codes "?x")) nothing)) (part (group nothing) nothing))) ≡ codes "(and (p ?x) ())"
printed = refl

pub printed_page : page (codes "domain") (codes "d") (part (headed (codes ":types") (part (name (codes "t")) nothing)) nothing) ≡ codes "(define (domain d)\n (:types t)\n)\n"
printed_page = refl

pub reserved_word : is_name (codes "either") ≡ false
reserved_word = refl

pub keyword : is_name (codes ":htn") ≡ false
keyword = refl

pub variable_word : is_name (codes "?x") ≡ false
variable_word = refl

pub number_word : is_name (codes "12") ≡ true
number_word = refl

pub reserved_variable : is_variable (codes "and") ≡ false
reserved_variable = refl

pub last_of_two : last_place (codes "x") (codes "x" ∷ codes "y" ∷ codes "x" ∷ codes "z" ∷ []) ≡ Some 2
last_of_two = refl

pub first_of_two : first_place (codes "x") (codes "y" ∷ codes "x" ∷ codes "x" ∷ []) ≡ Some 1
first_of_two = refl

-- the tokens in front of byte 4 make the same lists, cut there
pub front : level 0 (before 4 (lexemes (codes "(a (b)) c"))) ≡ list 0 (word_at 1 (codes "a") (list 3 cut cut)) cut
front = refl
