-- A whole domain and its beginnings, by computation.
use Rattle.std.proofs.Common.{◌≡◌, ℕ, None, codes, refl, slice_range}
use Rattle.text_forms.specs.Placed.{parts_at}
use Rattle.text_forms.specs.form_grammar.Codes.{Form, complete, unfinished, wrong}
use Rattle.text_forms.specs.form_grammar.Definitions.{definition_form, definition_fault}
use Rattle.text_forms.specs.form_grammar.Sections.{hddl, domain, problem}

-- a keyword in upper case, and pairs with their sign in either place
both_signs : definition_fault hddl domain (codes "(define (domain d) (:task t :parameters ()) (:method m :parameters () :task (t) :subtasks (and (x (a)) (y (a))) :ORDERING (and (x < y) (< y x))) (:action a :parameters ()))") ≡ None
both_signs = refl

abbrev front : ℕ → Form
front count = definition_form hddl domain (parts_at (slice_range (codes "(define (domain d) (:action a :parameters ()))") 0 count) 0)

-- The first bytes of a domain begin one, where no word is cut.
no_bytes : front 0 ≡ unfinished
no_bytes = refl

up_to_a_section : front 20 ≡ unfinished
up_to_a_section = refl

up_to_a_keyword : front 27 ≡ unfinished
up_to_a_keyword = refl

up_to_a_list : front 43 ≡ unfinished
up_to_a_list = refl

but_one_byte : front 45 ≡ unfinished
but_one_byte = refl

all_bytes : front 46 ≡ complete
all_bytes = refl

-- of a cut keyword the form says that it is unknown
in_a_keyword : front 24 ≡ wrong 6 20
in_a_keyword = refl

-- One more section begins where all sections of a problem stand, but no keyword of it can come.
one_more_section : definition_form hddl problem (parts_at (codes "(define (problem p)(:domain d)(:requirements)(:objects)(:init)(:goal ())(:metric)(:htn)(") 0) ≡ unfinished
one_more_section = refl

one_more_keyword : definition_form hddl problem (parts_at (codes "(define (problem p)(:domain d)(:requirements)(:objects)(:init)(:goal ())(:metric)(:htn)(:goal") 0) ≡ wrong 7 88
one_more_keyword = refl
