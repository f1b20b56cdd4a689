-- Typed lists, line by line: what is a whole list up to its closing parenthesis, and what begins one.
-- Source: appendix A (grammar) of Fox and Long, "PDDL2.1", JAIR 20, 2003, level 1, typed lists; with unions in lists of variables.
use Rattle.std.specs.Prelude.{Bool, true, false, not, ◌&&◌, if◌then◌else◌, List, drop}
use Rattle.htn_base.specs.Table.{with_word}
use Rattle.htn_base.specs.Words.{is_reserved}
use Rattle.gd_reader.specs.Forms.{Form, complete, unfinished, wrong, ◌followed_by◌}
use Rattle.text_forms.specs.Placed.{Placed, cut, close, word, list}
use Rattle.text_forms.specs.Words.{Word, is_among}
use Rattle.gd_reader.specs.declared.typed_lists.ListKind.{ListKind}
use Rattle.gd_reader.specs.declared.words.Sort.{Sort}
use Rattle.gd_reader.specs.declared.words.Sort.TheVariants.{Variable, Name, Other}
use Rattle.gd_reader.specs.TermGrammar.{allowed, name_form}
use Rattle.gd_reader.specs.TypedLists.{is_parameters, are_variables}
use Rattle.gd_reader.specs.Words.{sort_of, is_hyphen, is_either}

-- Whether a word may declare, behind these. A variable's name isn't reserved, and in a list of parameters it is new.
abbrev pub may_declare : Sort → ListKind → List Word → Word → Bool
may_declare Variable kind seen w = are_variables kind && (not (is_reserved (drop 1 w)) && not (is_parameters kind && is_among (drop 1 w) seen))
may_declare Name kind seen w = not (are_variables kind)
may_declare Other kind seen w = false

-- a declared word without its question mark
abbrev pub declared_name : ListKind → Word → Word
declared_name kind w = if are_variables kind then drop 1 w else w

-- NAME* )
abbrev pub more_names_form : Placed → Form
more_names_form cut = unfinished
more_names_form (close at) = complete
more_names_form (list at p q) = wrong
more_names_form (word at w p) = name_form w followed_by more_names_form p

-- NAME NAME* )
abbrev pub some_names_form : Placed → Form
some_names_form cut = unfinished
some_names_form (close at) = wrong
some_names_form (list at p q) = wrong
some_names_form (word at w p) = name_form w followed_by more_names_form p

-- either NAME NAME* )
abbrev pub union_form : Placed → Form
union_form cut = unfinished
union_form (close at) = wrong
union_form (list at p q) = wrong
union_form (word at w p) = allowed (is_either w) followed_by some_names_form p

abbrev pub only_where : Bool → Form → Form
only_where true form = form
only_where false form = wrong

-- a union stands in a list of variables alone
abbrev pub union_due_form : ListKind → Placed → Form
union_due_form kind p = only_where (are_variables kind) (union_form p)

abbrev mutual
  -- at the front of a list, or behind a type: a word that declares, or the end
  pub params_form : ListKind → List Word → Placed → Form
  params_form kind seen cut = unfinished
  params_form kind seen (close at) = complete
  params_form kind seen (list at p q) = wrong
  params_form kind seen (word at w p) = allowed (may_declare (sort_of w) kind seen w) followed_by behind_form kind (with_word seen (declared_name kind w)) p

  -- behind such a word, where a hyphen may come too
  pub behind_form : ListKind → List Word → Placed → Form
  behind_form kind seen cut = unfinished
  behind_form kind seen (close at) = complete
  behind_form kind seen (list at p q) = wrong
  behind_form kind seen (word at w p) = elim (is_hyphen w) [
    | true ↦ typed_form kind seen p
    | false ↦ allowed (may_declare (sort_of w) kind seen w) followed_by behind_form kind (with_word seen (declared_name kind w)) p
  ]

  -- behind a hyphen: a type
  pub typed_form : ListKind → List Word → Placed → Form
  typed_form kind seen cut = unfinished
  typed_form kind seen (close at) = wrong
  typed_form kind seen (word at w p) = name_form w followed_by params_form kind seen p
  typed_form kind seen (list at p q) = union_due_form kind p followed_by params_form kind seen q
