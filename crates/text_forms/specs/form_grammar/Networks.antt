-- Subtasks, ordering and constraints of a network, line by line. What is due stands in a list, up to its closing parenthesis.
-- Source: the full syntax definition of Höller et al., "HDDL", AAAI 2020; a pair may have its sign behind its first name. The codes are this project's.
use Rattle.std.specs.Prelude.{[], ◌∷◌, codes}
use Rattle.text_forms.specs.Words.{Word, is_name}
use Rattle.text_forms.specs.form_grammar.Rows.{Next, go, stop, Rows, row, row_as, a_list, word_due, word_or_end, list_due, list_or_end}
use Rattle.text_forms.specs.form_grammar.Words.{is_term, is_word, by_word, used, declared}
use Rattle.text_forms.specs.form_grammar.Lists.{TermDue, ended, term, terms, applied, term_rows}

pub data NetworkDue : Type 0 where
  of_terms : TermDue → NetworkDue
  group : (inside behind : NetworkDue) → NetworkDue
  subs : NetworkDue
  more_subs : NetworkDue
  sub : NetworkDue
  behind_id : NetworkDue
  pairs : NetworkDue
  more_pairs : NetworkDue
  pair : NetworkDue
  id : (behind : NetworkDue) → NetworkDue
  sign : (behind : NetworkDue) → NetworkDue
  cons : NetworkDue
  more_cons : NetworkDue
  con : NetworkDue
  equality : NetworkDue

-- the front of a subtask: a name that is used, or one that is declared as its id
abbrev pub sub_word : Word → Next NetworkDue
sub_word w = declared 8 behind_id w

-- < NAME NAME ) | NAME < NAME )
abbrev pub pair_word : Word → Next NetworkDue
pair_word w = by_word ((codes "<", id (id (of_terms ended))) ∷ []) (used is_name (sign (id (of_terms ended)))) w

-- = term term ) | not ( = term term ) )
abbrev pub con_word : Word → Next NetworkDue
con_word w = by_word ((codes "=", of_terms (term (term ended))) ∷ (codes "not", group equality (of_terms ended)) ∷ []) (λ v. stop 8) w

abbrev pub network_rows : Rows NetworkDue
network_rows (of_terms d) = row_as of_terms (term_rows d)
network_rows (group inside behind) = list_due 8 inside behind
-- ) | sub's inside | and sub* )
network_rows subs = word_or_end 8 (by_word ((codes "and", more_subs) ∷ []) sub_word)
-- sub* )
network_rows more_subs = list_or_end 8 sub more_subs
-- NAME term* ) | NAME ( NAME term* ) )
network_rows sub = word_due 8 sub_word
-- term* ) | ( NAME term* ) )
network_rows behind_id = row (go tt) (used is_term (of_terms terms)) (a_list (of_terms applied) (of_terms ended))
-- ) | pair's inside | and pair* )
network_rows pairs = word_or_end 8 (by_word ((codes "and", more_pairs) ∷ []) pair_word)
-- pair* )
network_rows more_pairs = list_or_end 8 pair more_pairs
-- < NAME NAME ) | NAME < NAME )
network_rows pair = word_due 8 pair_word
-- NAME, and then more
network_rows (id behind) = word_due 8 (used is_name behind)
-- <, and then more
network_rows (sign behind) = word_due 8 (used (is_word (codes "<")) behind)
-- ) | con's inside | and con* )
network_rows cons = word_or_end 8 (by_word ((codes "and", more_cons) ∷ []) con_word)
-- con* )
network_rows more_cons = list_or_end 8 con more_cons
-- = term term ) | not ( = term term ) )
network_rows con = word_due 8 con_word
-- = term term )
network_rows equality = word_due 8 (used (is_word (codes "=")) (of_terms (term (term ended))))
