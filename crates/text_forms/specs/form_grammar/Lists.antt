-- Terms and typed lists, line by line, each up to the closing parenthesis.
-- Source: appendix A (grammar) of Fox and Long, "PDDL2.1", JAIR 20, 2003, level 1; with unions in lists of variables. The codes are this project's.
use Rattle.std.specs.Prelude.{Bool, false, if◌then◌else◌, List, drop, codes}
use Rattle.htn_base.specs.Table.{with_word}
use Rattle.htn_base.specs.Words.{is_reserved}
use Rattle.text_forms.specs.Words.{Word, is_among, is_name}
use Rattle.text_forms.specs.form_grammar.Rows.{Next, go, stop, Rows, row, a_list, end_due, word_due, word_or_end}
use Rattle.text_forms.specs.form_grammar.Words.{is_variable_word, is_term, is_word, used, declared}

pub data TermDue : Type 0 where
  ended : TermDue
  term : TermDue → TermDue
  terms : TermDue
  applied : TermDue
  words : TermDue
  anything : TermDue

abbrev pub term_rows : Rows TermDue
-- )
term_rows ended = end_due 8
-- term, and then more
term_rows (term behind) = word_due 8 (used is_term behind)
-- term* )
term_rows terms = word_or_end 8 (used is_term terms)
-- NAME term* )
term_rows applied = word_due 8 (used is_name terms)
-- word* )
term_rows words = word_or_end 8 (λ w. go words)
-- any* )
term_rows anything = row (go tt) (λ w. go anything) (a_list anything anything)

-- what a typed list declares: parameters, each a new one; variables of a predicate; objects; or types, whose types are their parents
pub data ListKind : Type 0 where
  parameters : ListKind
  of_predicate : ListKind
  objects : ListKind
  types : ListKind

-- in a list of parameters a name that stands in it already has 18
abbrev pub is_repeat : ListKind → List Word → Word → Bool
is_repeat parameters seen name = is_among name seen
is_repeat of_predicate seen name = false
is_repeat objects seen name = false
is_repeat types seen name = false

-- a variable: 8 where the word is none, 9 where its name is reserved
abbrev pub declares_variable : {X : Type 0} → ListKind → List Word → (List Word → X) → Word → Next X
declares_variable kind seen leaves w =
    if is_variable_word w then (if is_reserved (drop 1 w) then stop 9 else (if is_repeat kind seen (drop 1 w) then stop 18 else go (leaves (with_word seen (drop 1 w)))))
    else stop 8

abbrev pub declares : {X : Type 0} → ListKind → List Word → (List Word → X) → Word → Next X
declares parameters seen leaves w = declares_variable parameters seen leaves w
declares of_predicate seen leaves w = declares_variable of_predicate seen leaves w
declares objects seen leaves w = declared 8 (leaves seen) w
declares types seen leaves w = declared 8 (leaves seen) w

-- A type's name is used; that of a parent is declared.
abbrev pub type_word : {X : Type 0} → ListKind → X → Word → Next X
type_word parameters x w = used is_name x w
type_word of_predicate x w = used is_name x w
type_word objects x w = used is_name x w
type_word types x w = declared 8 x w

-- a union, which stands in lists of variables alone
abbrev pub union_if : {X : Type 0} → ListKind → Next X → Next X
union_if parameters union = union
union_if of_predicate union = union
union_if objects union = stop 8
union_if types union = stop 8

-- The names of the parameters that stand in front are seen.
pub data ListDue : Type 0 where
  names : ListKind → (seen : List Word) → ListDue
  behind_name : ListKind → (seen : List Word) → ListDue
  type : ListKind → (seen : List Word) → ListDue
  union : ListDue
  some_types : ListDue
  more_types : ListDue

abbrev pub list_rows : Rows ListDue
-- at the front of a typed list, or behind a type
list_rows (names kind seen) = word_or_end 8 (declares kind seen (behind_name kind))
-- behind a name, where a hyphen may come too
list_rows (behind_name kind seen) = word_or_end 8 (λ w. if is_word (codes "-") w then go (type kind seen) else declares kind seen (behind_name kind) w)
-- behind a hyphen: NAME, or ( either NAME NAME* )
list_rows (type kind seen) = row (stop 8) (type_word kind (names kind seen)) (union_if kind (a_list union (names kind seen)))
-- either NAME NAME* )
list_rows union = word_due 8 (used (is_word (codes "either")) some_types)
-- NAME NAME* )
list_rows some_types = word_due 8 (used is_name more_types)
-- NAME* )
list_rows more_types = word_or_end 8 (used is_name more_types)
