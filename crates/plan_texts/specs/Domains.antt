-- What spells a domain and a problem: sections in any order, which HDDL and PDDL share, and the texts in which they stand.
-- Source: appendix A (grammar) of Fox and Long, "PDDL2.1", JAIR 20, 2003, level 1: domains and problems.
use Rattle.std.specs.Prelude.{ℕ, ◌≡◌, true, false, List, [], codes, Option, Some, None}
use Rattle.text_forms.specs.Bytes.{is_clean}
use Rattle.text_forms.specs.Tokens.{symbols}
use Rattle.text_forms.specs.Lists.{Parts, name, nothing, part, written}
use Rattle.text_forms.specs.Words.{Word, is_name}
use Rattle.text_forms.specs.Printing.{definition}
use Rattle.plan_texts.specs.Declared.{Declared, type_words, words_with}
use Rattle.plan_texts.specs.TypedLists.{Each, EachTyped}
use Rattle.plan_texts.specs.Types.{AreTypes}
use Rattle.plan_texts.specs.Formulas.{IsFormula}
use Rattle.plan_texts.specs.Sections.{are_sections, section, parts_in, only, all_but, one_in, are_words, are_values, domain_once}
use Rattle.plan_texts.specs.Schemas.{IsObject, IsPredicate, IsAction, IsFact}
use Rattle.plan_model.specs.declared.types.Types.{Types}
use Rattle.plan_model.specs.declared.types.Object.{Object}
use Rattle.plan_model.specs.declared.terms.GroundAtom.{GroundAtom}
use Rattle.plan_model.specs.declared.formulas.Formula.{Formula}
use Rattle.plan_model.specs.declared.schemas.Predicate.{Predicate}
use Rattle.plan_model.specs.declared.schemas.TaskSchema.{TaskSchema}
use Rattle.plan_model.specs.declared.schemas.ActionSchema.{ActionSchema}
use Rattle.plan_model.specs.declared.schemas.MethodSchema.{MethodSchema}

-- what a domain declares: one of PDDL has no tasks and no methods
pub record Domain : Type 0 where
  pub names : List Word
  pub types : Types
  pub constants : List Object
  pub predicates : List Predicate
  pub tasks : List TaskSchema
  pub actions : List ActionSchema
  pub methods : List MethodSchema

-- the words that a domain may use: of the objects its constants alone
abbrev pub domain_words : Domain → Declared
domain_words d = words_with d.names d.types d.predicates d.constants

-- what a problem declares beside its domain; the network of one of HDDL is a method of its own
pub record Problem : Type 0 where
  pub objects : List Object
  pub init : List GroundAtom
  pub goal : Formula

-- what stands in a section, if there is one, is a name
abbrev pub IsNameIfThere : Option Parts → Type 0
IsNameIfThere None = Unit {0}
IsNameIfThere (Some ps) = (w : Word) × (ps ≡ part (name w) nothing) × (is_name w ≡ true)

-- the sections of a domain, where those of the keywords many may come any number of times
pub record AreDomainSections (many : List Word) (d : Domain) (domain : Parts) : Type 0 where
  pub domain_form : are_sections domain_once many domain ≡ true
  pub domain_requires : are_words (parts_in (section (codes ":requirements") domain)) ≡ true
  pub types : AreTypes (type_words d.names d.types) d.types.parents (parts_in (section (codes ":types") domain))
  pub constants_spelled : EachTyped (IsObject (domain_words d) true) d.constants (parts_in (section (codes ":constants") domain))
  pub predicates : Each (IsPredicate (domain_words d)) d.predicates (parts_in (section (codes ":predicates") domain))
  pub actions : Each (IsAction (domain_words d)) d.actions (only (codes ":action") domain)

-- the sections of a problem, where those of the keywords once may come one time each, and v has the words that it may use
pub record AreProblemSections (once : List Word) (v : Declared) (p : Problem) (problem : Parts) : Type 0 where
  pub problem_form : are_sections once [] problem ≡ true
  pub problem_requires : are_words (parts_in (section (codes ":requirements") problem)) ≡ true
  pub of_domain : IsNameIfThere (section (codes ":domain") problem)
  pub others_spelled : EachTyped (IsObject v false) p.objects (parts_in (section (codes ":objects") problem))
  pub init_form : are_values (parts_in (section (codes ":init") problem)) ≡ true
  pub init : Each (IsFact v) p.init (all_but (codes "=") (parts_in (section (codes ":init") problem)))
  pub goal : IsFormula v p.goal [] (one_in (section (codes ":goal") problem))

-- a text without bad bytes is a definition of this kind and name, with these sections
pub record IsDefinition (kind : Word) (text : List ℕ) (w : Word) (sections : Parts) : Type 0 where
  pub clean : is_clean text ≡ true
  pub is : symbols text ≡ written (definition kind w sections)
  pub named : is_name w ≡ true

-- two texts are those of a domain and of a problem with these names
pub record AreDefinitions (domain problem : List ℕ) (domain_word problem_word : Word) : Type 0 where
  pub domain_sections : Parts
  pub problem_sections : Parts
  pub domain_text : IsDefinition (codes "domain") domain domain_word domain_sections
  pub open domain_text use {clean as domain_clean, is as domain_is, named as domain_named}
  pub problem_text : IsDefinition (codes "problem") problem problem_word problem_sections
  pub open problem_text use {clean as problem_clean, is as problem_is, named as problem_named}
