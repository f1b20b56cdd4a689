use Rattle.hddl_reader.proofs.ListsSaid.{union_said}
use Rattle.hddl_reader.proofs.TermsSaid.{ends_said, terms_said, two_terms_said, applied_said, passed_said}
use Rattle.hddl_reader.proofs.form_laws.parts_have_the_codes_of_the_grammar.Goals as goal

pub returns : goal.returns
returns c = record {
  ends = λ names p. ends_said p;
  terms = λ names p. terms_said p names;
  two_terms = λ names p. two_terms_said p names;
  atoms = λ names p. applied_said p names;
  passed = λ names p. passed_said p;
  unions = λ names p. union_said p names;
}
