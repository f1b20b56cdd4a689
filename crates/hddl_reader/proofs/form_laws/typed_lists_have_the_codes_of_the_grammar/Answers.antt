use Rattle.std.proofs.Common.{[]}
use Rattle.text_forms.specs.form_grammar.Lists.{names, list_rows}
use Rattle.gd_reader.specs.ListGrammar.{params_form}
use Rattle.gd_reader.specs.TypedLists.{listed}
use Rattle.gd_reader.proofs.ListExact.{listed_exact}
use Rattle.text_forms.proofs.form_grammar.RowLaws.{form_cuttable}
use Rattle.text_forms.proofs.form_grammar.TextLaws.{prefix_laws}
use Rattle.hddl_reader.specs.Said.{kind_of, typed_form}
use Rattle.hddl_reader.proofs.Calls.{reads_whole, faults_depart, same_form}
use Rattle.hddl_reader.proofs.ListsSaid.{listed_said}
use Rattle.hddl_reader.proofs.form_laws.typed_lists_have_the_codes_of_the_grammar.Goals as goal

pub returns : goal.returns
returns c = record {
  answers = λ kind names p. listed_said p kind names;
  read = λ kind. reads_whole (params_form kind []) (typed_form kind) (listed kind) (λ names p. listed_said p kind names);
  refused = λ kind. faults_depart (params_form kind []) (typed_form kind) (listed kind) (λ names p. listed_said p kind names);
  same = λ kind p. same_form (params_form kind [] p) (typed_form kind p) (listed kind [] p) (listed_exact p kind []).tells (listed_said p kind []);
  prefixes = λ kind. prefix_laws (typed_form kind) (form_cuttable list_rows (names (kind_of kind) []));
}
