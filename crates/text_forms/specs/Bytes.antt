-- What each byte of a text is. A comment is blank, byte for byte, so that places stay.
-- Source: this project's, as texts of PDDL are read: letters in either case, comments from a semicolon to the line's end.
use Rattle.std.specs.Prelude.{ℕ, Bool, true, false, not, ◌&&◌, ◌||◌, ◌==◌, if◌then◌else◌, nat_le, List, [], ◌∷◌}

pub data Class : Type 0 where
  blank : Class
  opening : Class
  closing : Class
  letter : Class
  bad : Class

-- white space: the bytes 9 to 13 and 32
abbrev pub is_white : ℕ → Bool
is_white b = (nat_le 9 b && nat_le b 13) || b == 32

-- a byte of a word: 33 to 126, but for parentheses, the semicolon and the quotation mark
abbrev pub is_letter : ℕ → Bool
is_letter b = nat_le 33 b && (nat_le b 126 && not (b == 40 || (b == 41 || (b == 59 || b == 34))))

-- a byte outside a comment; the semicolon that opens a comment is blank
abbrev pub class_of : ℕ → Class
class_of b =
    if is_letter b then letter
    else (if b == 40 then opening
    else (if b == 41 then closing
    else (if is_white b || b == 59 then blank
    else bad)))

-- a byte, and whether it stands in a comment
abbrev pub class_in : Bool → ℕ → Class
class_in comment b = if comment then blank else class_of b

-- whether a comment goes on behind the byte: it ends with its line
abbrev pub comment_after : Bool → ℕ → Bool
comment_after comment b = if comment then not (b == 10) else b == 59

abbrev pub classes_from : Bool → List ℕ → List Class
classes_from comment [] = []
classes_from comment (b ∷ text) = class_in comment b ∷ classes_from (comment_after comment b) text

abbrev pub classes : List ℕ → List Class
classes text = classes_from false text

-- no bad byte
abbrev pub are_good : List Class → Bool
are_good [] = true
are_good (bad ∷ cs) = false
are_good (blank ∷ cs) = are_good cs
are_good (opening ∷ cs) = are_good cs
are_good (closing ∷ cs) = are_good cs
are_good (letter ∷ cs) = are_good cs

abbrev pub is_clean : List ℕ → Bool
is_clean text = are_good (classes text)
