-- Formulas, line by line. What is due stands in a list, up to its closing parenthesis.
-- Source: appendix A (grammar) of Fox and Long, "PDDL2.1", JAIR 20, 2003, level 1. The codes are this project's.
use Rattle.std.specs.Prelude.{[], ◌∷◌, codes}
use Rattle.text_forms.specs.Placed.{Placed}
use Rattle.text_forms.specs.Words.{is_name}
use Rattle.text_forms.specs.form_grammar.Codes.{Form}
use Rattle.text_forms.specs.form_grammar.Rows.{Rows, row_as, list_form, word_or_end, list_due, list_or_end}
use Rattle.text_forms.specs.form_grammar.Words.{Table, by_word, used}
use Rattle.text_forms.specs.form_grammar.Lists.{TermDue, ended, term, terms, term_rows, ListDue, parameters, names, list_rows}

pub data FormulaDue : Type 0 where
  of_terms : TermDue → FormulaDue
  of_list : ListDue → FormulaDue
  -- a list with something due inside, and then more
  group : (inside behind : FormulaDue) → FormulaDue
  gd : FormulaDue
  gds : FormulaDue

-- what the word at the front of a formula leaves due; a name leaves terms
abbrev pub gd_table : Table FormulaDue
gd_table =
    (codes "and", gds) ∷
    (codes "or", gds) ∷
    (codes "not", group gd (of_terms ended)) ∷
    (codes "imply", group gd (group gd (of_terms ended))) ∷
    (codes "forall", group (of_list (names parameters [])) (group gd (of_terms ended))) ∷
    (codes "exists", group (of_list (names parameters [])) (group gd (of_terms ended))) ∷
    (codes "=", of_terms (term (term ended))) ∷
    []

abbrev pub formula_rows : Rows FormulaDue
formula_rows (of_terms d) = row_as of_terms (term_rows d)
formula_rows (of_list d) = row_as of_list (list_rows d)
formula_rows (group inside behind) = list_due 8 inside behind
-- ) | and gd* ) | or gd* ) | not gd ) | imply gd gd ) | forall ( vlist ) gd ) | exists ( vlist ) gd ) | = term term ) | NAME term* )
formula_rows gd = word_or_end 8 (by_word gd_table (used is_name (of_terms terms)))
-- gd* )
formula_rows gds = list_or_end 8 gd gds

-- a formula at a token
abbrev pub formula_form : Placed → Form
formula_form p = list_form formula_rows 8 gd p
