-- The sections of a domain or a problem spell something, each once its words are declared suitably.
use Rattle.std.specs.Prelude.{◌≡◌, Bool, true, List, [], codes, Option, Some, None}
use Rattle.text_forms.specs.form_grammar.Sections.{Language, hddl, pddl, Definition, domain, problem}
use Rattle.text_forms.specs.Lists.{Part, Parts, name, nothing, part}
use Rattle.text_forms.specs.Placed.{Placed, IsOneList}
use Rattle.text_forms.specs.Printing.{headed}
use Rattle.plan_texts.specs.Declared.{Declared}
use Rattle.plan_texts.specs.Domains.{IsNameIfThere}
use Rattle.plan_texts.specs.Schemas.{IsObject, IsFact}
use Rattle.plan_texts.specs.Sections.{are_sections, section, parts_in, only, all_but, one_in, content, are_words, are_values, domain_once, domain_many, problem_once}
use Rattle.plan_texts.specs.SpellsHddl.{hddl_many, hddl_problem_once}
use Rattle.plan_texts.specs.TypedLists.{EachTyped}
use Rattle.plan_texts.specs.Types.{TypeItem, IsTypeItem}
use Rattle.text_forms.specs.Words.{Word, is_name}
use Rattle.plan_model.specs.declared.terms.GroundAtom.{GroundAtom}
use Rattle.plan_model.specs.declared.types.Object.{Object}
use Rattle.text_values.specs.form_spellings.SpellsSomeParts.{AreNamed, AreTaskParts, AreMethodParts, AreActionParts, AreNetworkParts, IsSomePredicate, IsSomeFormula}

-- each part is such
abbrev pub EveryPart : (Part → Type 0) → Parts → Type 0
EveryPart Is nothing = Unit {0}
EveryPart Is (part p ps) = Is p × EveryPart Is ps

abbrev pub AreSomeTypes : Parts → Type 0
AreSomeTypes ps = (items : List TypeItem) × EachTyped IsTypeItem items ps

abbrev pub AreSomeObjects : Parts → Type 0
AreSomeObjects ps = (v : Declared) × (constant : Bool) × (xs : List Object) × EachTyped (IsObject v constant) xs ps

abbrev pub IsSomeFact : Part → Type 0
IsSomeFact p = (v : Declared) × (g : GroundAtom) × IsFact v g p

-- a section is there, and its parts are such
abbrev pub IsThere : (Parts → Type 0) → Option Parts → Type 0
IsThere Are None = ⊥
IsThere Are (Some ps) = Are ps

-- where the sections of the keywords many may come any number of times
pub record AreSomeDomainSections (many : List Word) (domain : Parts) : Type 0 where
  pub form : are_sections domain_once many domain ≡ true
  pub requires : are_words (parts_in (section (codes ":requirements") domain)) ≡ true
  pub types : AreSomeTypes (parts_in (section (codes ":types") domain))
  pub constants : AreSomeObjects (parts_in (section (codes ":constants") domain))
  pub predicates : EveryPart IsSomePredicate (parts_in (section (codes ":predicates") domain))
  pub actions : EveryPart (λ p. AreNamed AreActionParts (content p)) (only (codes ":action") domain)
  pub tasks : EveryPart (λ p. AreNamed AreTaskParts (content p)) (only (codes ":task") domain)
  pub methods : EveryPart (λ p. AreNamed AreMethodParts (content p)) (only (codes ":method") domain)

-- where the sections of the keywords once may come one time each
pub record AreSomeProblemSections (once : List Word) (problem : Parts) : Type 0 where
  pub form : are_sections once [] problem ≡ true
  pub requires : are_words (parts_in (section (codes ":requirements") problem)) ≡ true
  pub of_domain : IsNameIfThere (section (codes ":domain") problem)
  pub objects : AreSomeObjects (parts_in (section (codes ":objects") problem))
  pub init_form : are_values (parts_in (section (codes ":init") problem)) ≡ true
  pub init : EveryPart IsSomeFact (all_but (codes "=") (parts_in (section (codes ":init") problem)))
  pub goal : IsSomeFormula (one_in (section (codes ":goal") problem))

pub record AreSomeHddlProblemSections (once : List Word) (problem : Parts) : Type 0 where
  pub common : AreSomeProblemSections once problem
  pub top : IsThere AreNetworkParts (section (codes ":htn") problem)

-- ( define ( KIND NAME ) section* ) and nothing behind it, with such sections
abbrev pub IsDefined : Word → (Parts → Type 0) → Placed → Type 0
IsDefined kind Are p = (w : Word) × (sections : Parts) × IsOneList p (part (name (codes "define")) (part (headed kind (part (name w) nothing)) sections)) × (is_name w ≡ true) × Are sections

abbrev pub SpellsSomeDefinition : Language → Definition → Placed → Type 0
SpellsSomeDefinition hddl domain p = IsDefined (codes "domain") (AreSomeDomainSections hddl_many) p
SpellsSomeDefinition hddl problem p = IsDefined (codes "problem") (AreSomeHddlProblemSections hddl_problem_once) p
SpellsSomeDefinition pddl domain p = IsDefined (codes "domain") (AreSomeDomainSections domain_many) p
SpellsSomeDefinition pddl problem p = IsDefined (codes "problem") (AreSomeProblemSections problem_once) p
