-- Texts that spell a domain or a problem as it is declared, and that declare no variable twice, are whole.
use Rattle.std.specs.Prelude.{List, codes}
use Rattle.text_forms.specs.Placed.{Placed}
use Rattle.text_forms.specs.Words.{Word}
use Rattle.text_forms.specs.form_grammar.Codes.{Whole}
use Rattle.text_forms.specs.form_grammar.Definitions.{definition_form}
use Rattle.text_forms.specs.form_grammar.Sections.{hddl, pddl, domain, problem}
use Rattle.plan_texts.specs.Declared.{Declared}
use Rattle.plan_texts.specs.Domains.{Domain, Problem, AreDomainSections, AreProblemSections}
use Rattle.plan_texts.specs.Sections.{domain_many, problem_once}
use Rattle.plan_texts.specs.SpellsHddl.{AreHddlDomainSections, AreHddlProblemSections}
use Rattle.plan_model.specs.declared.schemas.MethodSchema.{MethodSchema}
use Rattle.text_values.specs.form_spellings.DeclaresOnce.{DeclaresOnce, DifferByWord}
use Rattle.text_values.specs.form_spellings.Fresh.{AreFresh}
use Rattle.text_values.specs.form_spellings.SpellsSomeSections.{IsDefined}

abbrev pub HddlDomainsAreWhole : Type 0
HddlDomainsAreWhole = (d : Domain) (p : Placed) → DeclaresOnce d → IsDefined (codes "domain") (AreHddlDomainSections d) p → Whole (definition_form hddl domain p)

abbrev pub PddlDomainsAreWhole : Type 0
PddlDomainsAreWhole = (d : Domain) (p : Placed) → DeclaresOnce d → IsDefined (codes "domain") (AreDomainSections domain_many d) p → Whole (definition_form pddl domain p)

abbrev pub HddlProblemsAreWhole : Type 0
HddlProblemsAreWhole =
    (v : Declared) (tasks actions : List Word) (x : Problem) (network : MethodSchema) (p : Placed) → AreFresh v x.goal → DifferByWord v network.params
    → IsDefined (codes "problem") (AreHddlProblemSections v tasks actions x network) p → Whole (definition_form hddl problem p)

abbrev pub PddlProblemsAreWhole : Type 0
PddlProblemsAreWhole = (v : Declared) (x : Problem) (p : Placed) → AreFresh v x.goal → IsDefined (codes "problem") (AreProblemSections problem_once v x) p → Whole (definition_form pddl problem p)
