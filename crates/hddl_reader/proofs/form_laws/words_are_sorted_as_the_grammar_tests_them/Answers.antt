use Rattle.hddl_reader.proofs.WordTests.{names_sorted, variables_sorted}
use Rattle.hddl_reader.proofs.form_laws.words_are_sorted_as_the_grammar_tests_them.Goals as goal

pub returns : goal.returns
returns c = record { names = names_sorted; variables = variables_sorted }
