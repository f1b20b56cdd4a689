-- A domain or a problem as a whole text, in either language: one list, and the fault of its form.
-- Source: the full syntax definition of Höller et al., "HDDL", AAAI 2020, and appendix A of Fox and Long, "PDDL2.1", JAIR 20, 2003, level 1; the codes are this project's.
use Rattle.std.specs.Prelude.{ℕ, Option, List}
use Rattle.text_forms.specs.Faults.{Fault}
use Rattle.text_forms.specs.Placed.{Placed}
use Rattle.text_forms.specs.form_grammar.Codes.{Form}
use Rattle.text_forms.specs.form_grammar.Sections.{Language, Definition, define, section_rows}
use Rattle.text_forms.specs.form_grammar.Texts.{define_form, define_fault}

abbrev pub definition_form : Language → Definition → Placed → Form
definition_form l d p = define_form section_rows (define l d) p

-- in a text whose tokens have no fault
abbrev pub definition_fault : Language → Definition → List ℕ → Option Fault
definition_fault l d text = define_fault section_rows (define l d) text
