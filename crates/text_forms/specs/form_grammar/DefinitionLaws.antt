-- Laws of domains and problems as whole texts, in either language.
use Rattle.std.specs.Prelude.{ℕ, List}
use Rattle.text_forms.specs.form_grammar.Sections.{Language, Definition, define, section_rows}
use Rattle.text_forms.specs.form_grammar.Definitions.{definition_form}
use Rattle.text_forms.specs.form_grammar.Laws.{TellsDefineFault, HasPrefixLaws}

-- of a text whose tokens have no fault
abbrev pub TellsDefinitionFaults : List ℕ → Type 0
TellsDefinitionFaults text = (l : Language) (d : Definition) → TellsDefineFault section_rows (define l d) text

abbrev pub HasDefinitionPrefixLaws : List ℕ → Type 0
HasDefinitionPrefixLaws text = (l : Language) (d : Definition) → HasPrefixLaws (definition_form l d) text 0
