-- What an answer of a reader says of the tokens, as a form of the grammar with codes.
use Rattle.std.specs.Prelude.{◌≡◌, [], Result, Ok, Err}
use Rattle.text_forms.specs.form_grammar.Codes.{Form, complete, unfinished, wrong}
use Rattle.text_forms.specs.form_grammar.Lists as grammar
use Rattle.text_forms.specs.form_grammar.Rows.{form}
use Rattle.text_forms.specs.Placed.{Placed}
use Rattle.gd_reader.specs.declared.stop.Stop.{Stop}
use Rattle.gd_reader.specs.declared.stop.Stop.TheVariants.{Ends, Departs}
use Rattle.gd_reader.specs.declared.typed_lists.ListKind.{ListKind}
use Rattle.gd_reader.specs.declared.typed_lists.ListKind.TheVariants.{Parameters, Predicate, Objects, Types}
use Rattle.gd_reader.specs.Terms.{Names}

abbrev pub said : {A : Type 0} → Result A Stop → Form
said (Ok x) = complete
said (Err Ends) = unfinished
said (Err (Departs code at)) = wrong code at

-- whatever words the table has and whatever the tokens are, the answer is what the grammar says of them
abbrev pub AnswersAs : {A : Type 0} → (Placed → Form) → (Names → Placed → Result A Stop) → Type 0
AnswersAs f read = (names : Names) (p : Placed) → said (read names p) ≡ f p

-- the kinds of typed lists in the words of the grammar
abbrev pub kind_of : ListKind → grammar.ListKind
kind_of Parameters = grammar.parameters
kind_of Predicate = grammar.of_predicate
kind_of Objects = grammar.objects
kind_of Types = grammar.types

-- a typed list of a kind, from its front up to its end
abbrev pub typed_form : ListKind → Placed → Form
typed_form kind p = form grammar.list_rows (grammar.names (kind_of kind) []) p

-- two terms up to the end of their list
abbrev pub two_terms_form : Placed → Form
two_terms_form p = form grammar.term_rows (grammar.term (grammar.term grammar.ended)) p
