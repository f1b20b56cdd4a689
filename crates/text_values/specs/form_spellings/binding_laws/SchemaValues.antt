-- What the schemas of a domain without faults, and the parts of a problem without faults, are bound to, in words.
-- Source: this project's.
use Rattle.std.specs.Prelude.{ℕ, ◌≡◌, true, false, List, [], Option, codes, length}
use Rattle.htn_base.specs.Different.{AreDifferent}
use Rattle.htn_base.specs.declared.name.Name.{Name}
use Rattle.text_forms.specs.Words.{Word}
use Rattle.gd_reader.specs.Terms.{Names}
use Rattle.hddl_reader.specs.declared.sections.RawDomain.{RawDomain}
use Rattle.hddl_reader.specs.declared.sections.RawProblem.{RawProblem}
use Rattle.plan_texts.specs.Declared as words
use Rattle.plan_texts.specs.Declared.{named}
use Rattle.plan_texts.specs.Together.{Together}
use Rattle.text_values.specs.form_spellings.Bound.{IsBoundObject, IsBoundFormula}
use Rattle.text_values.specs.form_spellings.BoundSchemas.{IsBoundPredicate, IsBoundTask, IsBoundAction, IsBoundMethod, IsBoundTop, IsBoundFact}
use Rattle.hddl_reader.specs.names.Standing.{InDomain, InProblem}
use Rattle.hddl_reader.specs.names.Words.{callables as tasks_and_actions}
use Rattle.name_binding.specs.declared.known.Known.{Known}
use Rattle.hddl_bind.specs.Callables.{Declared, heads}
use Rattle.hddl_bind.specs.declared.domain_schemas.DomainSchemas.{DomainSchemas}
use Rattle.hddl_bind.specs.declared.problem_parts.ProblemParts.{ProblemParts}
use Rattle.hddl_bind.specs.DomainSchemas.{schemas_bound, schemas_faults}
use Rattle.hddl_bind.specs.Methods.{IsCycleOf}
use Rattle.hddl_bind.specs.ProblemParts.{parts_bound, parts_faults}
use Rattle.text_values.specs.form_spellings.binding_laws.Calls.{AreCallablesOf, called_words}
use Rattle.text_values.specs.form_spellings.binding_laws.Formulas.{AreNumberedIn}
use Rattle.text_values.specs.form_spellings.binding_laws.InOrder.{IsDomainInOrder, IsProblemInOrder}
use Rattle.text_values.specs.form_spellings.binding_laws.Known.{IsKnownOf, HasKnown}

module _ (names : Names) (d : RawDomain) (objects : List Word) (known : Known) (callables : Declared) (v : words.Declared) where
  -- What is looked up is what is declared, the words in use are those of the table, and no two callables have one word.
  pub record AreLookedUp : Type 0 where
    pub known_is : IsKnownOf names d objects known
    pub callables_are : AreCallablesOf names d callables
    pub words : HasKnown v names known
    pub apart : AreDifferent (called_words names d callables (tasks_and_actions d))

  abbrev pub task_words : List Word
  task_words = called_words names d callables d.tasks

  abbrev pub action_words : List Word
  action_words = called_words names d callables (heads d.actions)

  pub record AreSchemasBound (x : DomainSchemas) : Type 0 where
    pub constants : Together (IsBoundObject v names true) d.constants x.objects
    pub predicates : Together (IsBoundPredicate v names) d.predicates x.predicates
    pub tasks : Together (IsBoundTask v names) d.tasks x.tasks
    pub actions : Together (IsBoundAction v names) d.actions x.actions
    pub methods : Together (IsBoundMethod v names task_words action_words) d.methods x.methods

  pub record ArePartsBound (p : RawProblem) (x : ProblemParts) : Type 0 where
    pub own_objects : Together (IsBoundObject v names false) p.objects x.objects
    pub init : Together (IsBoundFact v names) p.init x.init
    pub goal : IsBoundFormula v names p.goal [] x.goal
    pub top : IsBoundTop v names task_words action_words p.params p.net x.top

  -- without faults, and where each written type has a number, all that a domain declares but its types is bound to what it stands for
  abbrev pub HasBoundSchemas : Type 0
  HasBoundSchemas = (cycles : List (Option ℕ)) → AreLookedUp → IsDomainInOrder names d → AreNumberedIn names known.types (InDomain names d)
      → Together IsCycleOf d.methods cycles → schemas_faults known callables d cycles ≡ [] → AreSchemasBound (schemas_bound known callables d)

  -- and so is what a problem says, where the name of its top method is that of the word for it
  abbrev pub HasBoundParts : Type 0
  HasBoundParts = (start : Name) (task : ℕ) (p : RawProblem) (cycle : Option ℕ) → AreLookedUp → IsProblemInOrder names p → AreNumberedIn names known.types (InProblem names p)
      → named names start ≡ codes "htn_start" → task ≡ length d.tasks → parts_faults known callables p cycle ≡ [] → ArePartsBound p (parts_bound known callables start task p)

abbrev pub OfAllWords : (Names → RawDomain → List Word → Known → Declared → words.Declared → Type 0) → Type 0
OfAllWords P = (names : Names) (d : RawDomain) (objects : List Word) (known : Known) (callables : Declared) (v : words.Declared) → P names d objects known callables v
