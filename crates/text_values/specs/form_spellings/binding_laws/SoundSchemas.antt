-- The numbers in schemas and in parts of a problem that are bound without faults name what is declared, as is asked of a sound value.
-- Source: this project's.
use Rattle.std.specs.Prelude.{ℕ, ◌≡◌, ◌≤◌, List, [], map, length, Option, codes}
use Rattle.htn_base.specs.declared.name.Name.{Name}
use Rattle.text_forms.specs.Words.{Word}
use Rattle.gd_reader.specs.Terms.{Names}
use Rattle.hddl_reader.specs.declared.sections.RawDomain.{RawDomain}
use Rattle.hddl_reader.specs.declared.sections.RawProblem.{RawProblem}
use Rattle.plan_model.specs.declared.networks.Child.{Child}
use Rattle.plan_model.specs.declared.networks.Constraint.{Constraint}
use Rattle.plan_model.specs.declared.schemas.ActionSchema.{ActionSchema}
use Rattle.plan_model.specs.declared.schemas.MethodSchema.{MethodSchema}
use Rattle.plan_model.specs.declared.schemas.Predicate.{Predicate}
use Rattle.plan_model.specs.declared.schemas.TaskSchema.{TaskSchema}
use Rattle.plan_model.specs.declared.terms.GroundAtom.{GroundAtom}
use Rattle.plan_model.specs.declared.terms.Term.TheVariants.{Obj}
use Rattle.plan_texts.specs.Declared as words
use Rattle.plan_texts.specs.Declared.{named, variable}
use Rattle.plan_texts.specs.Printable.{IsInForce, IsSoundParam, AreSoundParams, IsSound, IsSoundEffect, IsSoundAtom}
use Rattle.plan_texts.specs.Together.{Together}
use Rattle.plan_texts.specs.Types.{EachIs}
use Rattle.hddl_reader.specs.names.Standing.{InDomain, InProblem}
use Rattle.name_binding.specs.declared.heads.Head.{Head}
use Rattle.name_binding.specs.declared.known.Known.{Known}
use Rattle.hddl_bind.specs.Callables.{Declared}
use Rattle.hddl_bind.specs.declared.domain_schemas.DomainSchemas.{DomainSchemas}
use Rattle.hddl_bind.specs.declared.problem_parts.ProblemParts.{ProblemParts}
use Rattle.hddl_bind.specs.DomainSchemas.{schemas_bound, schemas_faults}
use Rattle.hddl_bind.specs.Methods.{IsCycleOf}
use Rattle.hddl_bind.specs.ProblemParts.{parts_bound, parts_faults}
use Rattle.text_values.specs.form_spellings.binding_laws.Formulas.{AreNumberedIn}
use Rattle.text_values.specs.form_spellings.binding_laws.InOrder.{IsDomainInOrder, IsProblemInOrder}
use Rattle.text_values.specs.form_spellings.binding_laws.SchemaValues.{AreLookedUp}

-- the same words with other objects
abbrev pub with_objects : words.Declared → List Word → words.Declared
with_objects v others = record { names = v.names; types = v.types; unions = v.unions; objects = others; predicates = v.predicates }

module _ (v : words.Declared) (arities : List ℕ) where
  -- the parts of a method, where these variables are in force; which tasks and actions it calls is said apart
  pub record IsSoundBody (x : MethodSchema) : Type 0 where
    pub params : AreSoundParams v arities x.params
    pub task_args : EachIs (IsInForce v arities (map (variable v) x.params)) x.task_args
    pub pre : IsSound v arities x.pre (map (variable v) x.params)
    pub child_args : EachIs (λ (c : Child). EachIs (IsInForce v arities (map (variable v) x.params)) c.args) x.children
    pub constraints : EachIs (λ (c : Constraint). IsInForce v arities (map (variable v) x.params) c.left × IsInForce v arities (map (variable v) x.params) c.right) x.constraints

  pub record AreSchemasSound (x : DomainSchemas) : Type 0 where
    pub predicates : EachIs (λ (p : Predicate). EachIs (IsSoundParam v arities) p.params) x.predicates
    pub task_params : EachIs (λ (t : TaskSchema). AreSoundParams v arities t.params) x.tasks
    pub action_params : EachIs (λ (a : ActionSchema). AreSoundParams v arities a.params) x.actions
    pub pre : EachIs (λ (a : ActionSchema). IsSound v arities a.pre (map (variable v) a.params)) x.actions
    pub eff : EachIs (λ (a : ActionSchema). IsSoundEffect v arities a.eff (map (variable v) a.params)) x.actions
    pub methods : EachIs IsSoundBody x.methods

  pub record ArePartsSound (x : ProblemParts) : Type 0 where
    pub init : EachIs (λ (g : GroundAtom). IsSoundAtom v arities [] g.predicate (map Obj g.args)) x.init
    pub goal : IsSound v arities x.goal []
    pub top : IsSoundBody x.top

module _ (names : Names) (d : RawDomain) (objects : List Word) (known : Known) (callables : Declared) (v : words.Declared) where
  -- the predicates have so many parameters each
  abbrev pub AreArities : List ℕ → Type 0
  AreArities arities = arities ≡ map (λ (h : Head). h.arity) known.predicates

  -- a domain may be looked at with the objects of a problem behind its own
  abbrev pub HasSoundSchemas : Type 0
  HasSoundSchemas = (arities : List ℕ) (others : List Word) (cycles : List (Option ℕ)) → AreLookedUp names d objects known callables v → AreArities arities → length v.objects ≤ length others
      → IsDomainInOrder names d → AreNumberedIn names known.types (InDomain names d) → Together IsCycleOf d.methods cycles → schemas_faults known callables d cycles ≡ [] → AreSchemasSound (with_objects v others) arities (schemas_bound known callables d)

  abbrev pub HasSoundParts : Type 0
  HasSoundParts = (arities : List ℕ) (start : Name) (task : ℕ) (p : RawProblem) (cycle : Option ℕ) → AreLookedUp names d objects known callables v → AreArities arities
      → IsProblemInOrder names p → AreNumberedIn names known.types (InProblem names p) → named names start ≡ codes "htn_start" → task ≡ length d.tasks → parts_faults known callables p cycle ≡ [] → ArePartsSound v arities (parts_bound known callables start task p)
