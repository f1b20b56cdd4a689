use Rattle.std.proofs.Common.{[]}
use Rattle.text_forms.specs.form_grammar.Formulas.{gd, formula_rows, formula_form}
use Rattle.gd_reader.specs.Formulas.{formula_read}
use Rattle.gd_reader.specs.Grammar as plain
use Rattle.gd_reader.proofs.FormulaExact.{formula_exact}
use Rattle.text_forms.proofs.form_grammar.TextLaws.{list_cuttable, prefix_laws}
use Rattle.hddl_reader.proofs.Calls.{reads_whole, faults_depart, same_form}
use Rattle.hddl_reader.proofs.FormulasSaid.{formula_said}
use Rattle.hddl_reader.proofs.form_laws.formulas_have_the_codes_of_the_grammar.Goals as goal

pub returns : goal.returns
returns c = record {
  answers = λ names p. formula_said p names;
  read = reads_whole plain.formula_form formula_form formula_read (λ names p. formula_said p names);
  refused = faults_depart plain.formula_form formula_form formula_read (λ names p. formula_said p names);
  same = λ p. same_form (plain.formula_form p) (formula_form p) (formula_read [] p) (formula_exact p []).tells (formula_said p []);
  prefixes = prefix_laws formula_form (list_cuttable formula_rows 8 gd);
}
