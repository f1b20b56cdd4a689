-- Texts without a fault of tokens, of form or of names, in the words of the least fault.
use Rattle.std.proofs.Common.{ℕ, ◌≡◌, Some, List, length}
use Rattle.text_forms.specs.Faults.{Fault, fault}
use Rattle.text_forms.specs.Placed.{parts_at}
use Rattle.text_forms.specs.form_grammar.Codes.{Form, complete, unfinished, wrong, Whole}
use Rattle.text_forms.specs.form_grammar.Definitions.{definition_form}
use Rattle.text_forms.specs.form_grammar.Sections as grammar
use Rattle.text_forms.specs.form_grammar.Texts.{fault_or}
use Rattle.hddl_reader.specs.declared.sections.Language.{Language}
use Rattle.hddl_reader.specs.declared.sections.Language.TheVariants.{Hddl}
use Rattle.hddl_reader.specs.Definitions.{language_of}
use Rattle.text_values.specs.form_spellings.Faultless.{AreFaultless, SpelledHddlIsFaultless}
use Rattle.text_values.specs.TextFaults.{HaveNoFault, IsLeastOfDomain, IsLeastOfProblem, IsLeastFault}
use Rattle.text_values.specs.Exactly.{AreAccepted, SpelledHaveNoFault}

-- a whole form has no fault
no_form : (g : Form) (due f : Fault) → Whole g → fault_or due g ≡ Some f → ⊥
no_form complete due f w e = cc
no_form unfinished due f w e = w
no_form (wrong code at) due f w e = w

module _ (l : Language) (domain problem : List ℕ) (f : AreFaultless l domain problem) where
  have_none : HaveNoFault l domain problem
  have_none = let r = f.read in record {
    table = f.table;
    d = f.d;
    p = f.p;
    domain_is = record {
      tokens = f.domain_tokens;
      read = record { before = r.before_domain; behind = r.behind_domain; read = r.domain_read; keeps = r.keeps_domain };
      names = f.domain_names r.before_domain r.behind_domain f.table f.d r.domain_read r.keeps_domain;
    };
    problem_is = record {
      tokens = f.problem_tokens;
      read = record { before = r.before_problem; behind = r.behind_problem; read = r.problem_read; keeps = r.keeps_problem };
      names = f.problem_names f.table f.d f.p r;
    };
  }

  none_of_domain : (code at : ℕ) → IsLeastOfDomain l domain code at → ⊥
  none_of_domain code at (IsLeastOfDomain.domain_tokens t) = f.domain_tokens (fault code at) t.is
  none_of_domain code at (IsLeastOfDomain.domain_form k e) = no_form (definition_form (language_of l) grammar.domain (parts_at domain 0)) (fault 5 (length domain)) (fault code at) f.read.domain_read.2.whole e
  none_of_domain code at (IsLeastOfDomain.domain_names table d k r least) = f.domain_names r.before r.behind table d r.read r.keeps at code least.is

  none_of_problem : (code at : ℕ) → IsLeastOfProblem l domain problem code at → ⊥
  none_of_problem code at (IsLeastOfProblem.problem_tokens t) = f.problem_tokens (fault code at) t.is
  none_of_problem code at (IsLeastOfProblem.problem_form k e) = no_form (definition_form (language_of l) grammar.problem (parts_at problem 0)) (fault 5 (length problem)) (fault code at) f.read.problem_read.2.whole e
  none_of_problem code at (IsLeastOfProblem.problem_names table d p good k r least) =
      let g = good.read in
      f.problem_names table d p (record {
        before_domain = g.before;
        behind_domain = g.behind;
        domain_read = g.read;
        keeps_domain = g.keeps;
        before_problem = r.before;
        behind_problem = r.behind;
        problem_read = r.read;
        keeps_problem = r.keeps;
      }) at code least.is

  none_told : (file code at : ℕ) → IsLeastFault l domain problem file code at → ⊥
  none_told file code at (IsLeastFault.in_domain k) = none_of_domain code at k
  none_told file code at (IsLeastFault.in_problem table d good k) = none_of_problem code at k

  pub accepted : AreAccepted l domain problem
  accepted = record { faultless = have_none; none_told = none_told }

pub spelled_have_none : SpelledHddlIsFaultless → SpelledHaveNoFault
spelled_have_none law domain problem h i shallow_domain shallow_problem s ordered few = accepted Hddl domain problem (law domain problem h i shallow_domain shallow_problem s ordered few)
