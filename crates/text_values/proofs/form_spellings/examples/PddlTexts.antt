-- A small domain and a small problem of PDDL, what is read of them, a value to which it is bound, and that the texts spell this value.
use Rattle.std.proofs.Common.{ℕ, false, List, [], ◌∷◌, codes, refl}
use Rattle.text_forms.proofs.LeastFault.{no_fault}
use Rattle.plan_texts.specs.Domains.{domain_words}
use Rattle.plan_texts.specs.SpellsPddl.{pddl_domain, pddl_words, SpellsPddl}
use Rattle.plan_model.specs.declared.effects.Effect.TheVariants as effect
use Rattle.plan_model.specs.declared.formulas.Formula.TheVariants as formula
use Rattle.plan_model.specs.declared.values.Pddl.{Pddl}
use Rattle.gd_reader.specs.declared.formulas.RawFormula.TheVariants as raw_formula
use Rattle.gd_reader.specs.Answers.{word_due, list_due, end_due}
use Rattle.gd_reader.specs.Terms.{Names}
use Rattle.gd_reader.specs.TypedLists.{params, behind, param_by}
use Rattle.gd_reader.specs.Words.{sort_of}
use Rattle.hddl_reader.specs.declared.sections.Language.TheVariants as language
use Rattle.hddl_reader.specs.declared.sections.RawProblem.{RawProblem}
use Rattle.hddl_reader.specs.Definitions.{title, definition_inside, definition_read, IsDomainRead, IsProblemRead}
use Rattle.hddl_reader.specs.Networks.{declared}
use Rattle.hddl_reader.specs.Parts.{may_end as parts_end, parts}
use Rattle.hddl_reader.specs.Sections.{section_of, has_section, named_parts, section_read, may_end, section_inside, sections}
use Rattle.text_values.specs.form_spellings.BoundTexts.{no_network, IsBoundPddl}
use Rattle.text_values.specs.form_spellings.ReadTexts.{AreRead}
use Rattle.text_values.proofs.form_spellings.TextsRead.{pddl_spelled}
use Rattle.text_values.proofs.form_spellings.examples.Texts.{domain, raw_domain, true_bound, nothing_bound, no_types}

-- the domain is the one of HDDL; the problem has one object
abbrev problem : List ℕ
problem = codes "(define (problem p) (:objects o))"

abbrev table : Names
table = codes "d" ∷ codes "a" ∷ codes "p" ∷ codes "o" ∷ []

abbrev raw_problem : RawProblem
raw_problem = record {
  name = record { number = 2 };
  objects = record { name = record { number = 3 }; at = 30; ty = [] } ∷ [];
  params = [];
  net = no_network;
  init = [];
  goal = raw_formula.And [];
}

row_domain : IsDomainRead language.Pddl [] domain (raw_domain, codes "d" ∷ codes "a" ∷ [])
unfolding definition_read definition_inside title sections section_inside section_of has_section section_read may_end named_parts parts parts_end declared word_due list_due end_due sort_of
row_domain = (_, refl, record { whole = tt; gives = refl })

row_problem : IsProblemRead language.Pddl (codes "d" ∷ codes "a" ∷ []) problem (raw_problem, table)
unfolding definition_read definition_inside title sections section_inside section_of has_section section_read may_end params behind param_by declared word_due list_due end_due sort_of
row_problem = (_, refl, record { whole = tt; gives = refl })

row_read : AreRead language.Pddl domain problem table raw_domain raw_problem
row_read = record {
  before_domain = [];
  behind_domain = codes "d" ∷ codes "a" ∷ [];
  domain_read = row_domain;
  keeps_domain = refl;
  before_problem = codes "d" ∷ codes "a" ∷ [];
  behind_problem = table;
  problem_read = row_problem;
  keeps_problem = refl;
}

-- the value has a table of its own
abbrev value : Pddl
value = record {
  names = codes "a" ∷ codes "d" ∷ codes "p" ∷ codes "object" ∷ codes "o" ∷ [];
  domain = record { number = 1 };
  problem = record { number = 2 };
  types = record { names = record { number = 3 } ∷ []; parents = []; unions = [] };
  objects = record { name = record { number = 4 }; ty = 0; constant = false } ∷ [];
  predicates = [];
  actions = record { name = record { number = 0 }; params = []; pre = formula.And []; eff = effect.And [] } ∷ [];
  init = [];
  goal = formula.And [];
}

row_bound : IsBoundPddl table raw_domain raw_problem value
row_bound = record {
  domain_name = refl;
  problem_name = refl;
  constants = [];
  others = value.objects;
  objects = refl;
  in_domain = record {
    types = no_types (domain_words (pddl_domain value [])) table;
    constants = tt;
    predicates = tt;
    tasks = tt;
    actions = (record { name = refl; params = tt; pre = true_bound (domain_words (pddl_domain value [])) table []; eff = nothing_bound (domain_words (pddl_domain value [])) table [] }, tt);
    methods = tt;
  };
  in_problem = record { objects = ((refl, refl, refl), tt); init = tt; goal = true_bound (pddl_words value) table []; params = refl; net = refl };
}

row_spelled : SpellsPddl domain problem value
row_spelled = pddl_spelled domain problem table raw_domain raw_problem row_read (no_fault domain refl) (no_fault problem refl) value row_bound
