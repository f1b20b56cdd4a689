-- Terms and atoms, line by line: what is a whole text of them, and what begins one.
-- Source: appendix A (grammar) of Fox and Long, "PDDL2.1", JAIR 20, 2003, level 1.
use Rattle.std.specs.Prelude.{Bool, true, false}
use Rattle.gd_reader.specs.Forms.{Form, complete, unfinished, wrong, ◌followed_by◌}
use Rattle.text_forms.specs.Placed.{Placed, cut, close, word, list}
use Rattle.text_forms.specs.Words.{Word}
use Rattle.gd_reader.specs.declared.words.Sort.{Sort}
use Rattle.gd_reader.specs.declared.words.Sort.TheVariants.{Variable, Name, Other}
use Rattle.gd_reader.specs.Words.{sort_of}

abbrev pub allowed : Bool → Form
allowed true = complete
allowed false = wrong

abbrev pub is_term_sort : Sort → Bool
is_term_sort Variable = true
is_term_sort Name = true
is_term_sort Other = false

abbrev pub is_name_sort : Sort → Bool
is_name_sort Variable = false
is_name_sort Name = true
is_name_sort Other = false

-- a variable or a name
abbrev pub term_form : Word → Form
term_form w = allowed (is_term_sort (sort_of w))

abbrev pub name_form : Word → Form
name_form w = allowed (is_name_sort (sort_of w))

-- )
abbrev pub end_form : Placed → Form
end_form cut = unfinished
end_form (close at) = complete
end_form (list at p q) = wrong
end_form (word at w p) = wrong

-- term* )
abbrev pub terms_form : Placed → Form
terms_form cut = unfinished
terms_form (close at) = complete
terms_form (list at p q) = wrong
terms_form (word at w p) = term_form w followed_by terms_form p

-- term )
abbrev pub last_term_form : Placed → Form
last_term_form cut = unfinished
last_term_form (close at) = wrong
last_term_form (list at p q) = wrong
last_term_form (word at w p) = term_form w followed_by end_form p

-- term term )
abbrev pub two_terms_form : Placed → Form
two_terms_form cut = unfinished
two_terms_form (close at) = wrong
two_terms_form (list at p q) = wrong
two_terms_form (word at w p) = term_form w followed_by last_term_form p

-- NAME term* )
abbrev pub applied_form : Placed → Form
applied_form cut = unfinished
applied_form (close at) = wrong
applied_form (list at p q) = wrong
applied_form (word at w p) = name_form w followed_by terms_form p

-- any* )
abbrev pub passed_form : Placed → Form
passed_form cut = unfinished
passed_form (close at) = complete
passed_form (word at w p) = passed_form p
passed_form (list at p q) = passed_form p followed_by passed_form q
