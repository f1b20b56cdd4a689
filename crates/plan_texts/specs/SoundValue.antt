-- When the numbers and words of an HDDL value fit together.
-- Source: this project's; each part is what a text without faults gives.
use Rattle.std.specs.Prelude.{ℕ, ◌≡◌, ◌<◌, ◌++◌, List, [], map, length, codes, slice_get, Some}
use Rattle.text_forms.specs.Words.{Word, word_at}
use Rattle.plan_texts.specs.Declared.{named, variable}
use Rattle.htn_base.specs.Different.{AreDifferent}
use Rattle.plan_texts.specs.Types.{Has, EachIs}
use Rattle.plan_texts.specs.SpellsHddl.{hddl_types, hddl_words, task_words, action_words}
use Rattle.plan_texts.specs.Printable.{IsPlain, IsInForce, IsSoundAtom, IsSoundParam, AreSoundParams, IsSound, IsSoundEffect, HasWords}
use Rattle.plan_model.specs.declared.terms.Term.TheVariants.{Obj}
use Rattle.plan_model.specs.declared.terms.Param.{Param}
use Rattle.plan_model.specs.Typing.{Leads}
use Rattle.plan_model.specs.declared.types.Parent.{Parent}
use Rattle.plan_model.specs.declared.types.Object.{Object}
use Rattle.plan_model.specs.declared.networks.Head.{Head}
use Rattle.plan_model.specs.declared.networks.Head.TheVariants.{Task, Action, Check}
use Rattle.plan_model.specs.declared.networks.Child.{Child}
use Rattle.plan_model.specs.declared.networks.Constraint.{Constraint}
use Rattle.plan_model.specs.declared.schemas.Predicate.{Predicate}
use Rattle.plan_model.specs.declared.schemas.TaskSchema.{TaskSchema}
use Rattle.plan_model.specs.declared.schemas.ActionSchema.{ActionSchema}
use Rattle.plan_model.specs.declared.schemas.MethodSchema.{MethodSchema}
use Rattle.plan_model.specs.declared.terms.GroundAtom.{GroundAtom}
use Rattle.plan_model.specs.declared.values.Hddl.{Hddl}

module _ (h : Hddl) where
  abbrev pub arities : List ℕ
  arities = map (λ (d : Predicate). length d.params) h.predicates

  abbrev pub scope_of : List Param → List Word
  scope_of params = map (variable (hddl_words h)) params

  abbrev pub method_words : List Word
  method_words = map (λ (s : MethodSchema). named h.names s.name) h.methods

  -- a declared task or action, with as many arguments as parameters
  abbrev pub IsSoundHead : Head → ℕ → Type 0
  IsSoundHead (Task t) n = (s : TaskSchema) × (slice_get h.tasks t ≡ Some s) × (n ≡ length s.params)
  IsSoundHead (Action a) n = (s : ActionSchema) × (slice_get h.actions a ≡ Some s) × (n ≡ length s.params)
  IsSoundHead Check n = ⊥

  abbrev pub IsSoundChild : List Word → Child → Type 0
  IsSoundChild scope child = IsSoundHead child.head (length child.args) × EachIs (IsInForce (hddl_words h) arities scope) child.args

  abbrev pub IsSoundConstraint : List Word → Constraint → Type 0
  IsSoundConstraint scope con = IsInForce (hddl_words h) arities scope con.left × IsInForce (hddl_words h) arities scope con.right

  -- the parts of a method, its task aside
  pub record IsSoundMethod (s : MethodSchema) : Type 0 where
    pub params : AreSoundParams (hddl_words h) arities s.params
    pub task_args : EachIs (IsInForce (hddl_words h) arities (scope_of s.params)) s.task_args
    pub pre : IsSound (hddl_words h) arities s.pre (scope_of s.params)
    pub children : EachIs (IsSoundChild (scope_of s.params)) s.children
    pub constraints : EachIs (IsSoundConstraint (scope_of s.params)) s.constraints

  pub record IsSoundHddl : Type 0 where
    pub domain : IsPlain (named h.names h.domain)
    pub problem : IsPlain (named h.names h.problem)
    pub words : HasWords (hddl_words h) arities
    pub first : word_at (hddl_types h) 0 ≡ codes "object"
    pub parents : EachIs (λ (x : Parent). (x.child < length h.types.names) × (x.parent < length h.types.names) × (0 < x.child)) h.types.parents
    pub has_parent : (k : ℕ) → 0 < k → k < length h.types.names → (x : Parent) × Has h.types.parents x × (x.child ≡ k)
    pub no_cycle : (x : Parent) → Has h.types.parents x → Leads h.types.parents x.parent x.child → ⊥
    pub unions : EachIs (EachIs (λ t. t < length h.types.names)) h.types.unions
    pub objects : EachIs (λ (x : Object). x.ty < length h.types.names) h.objects
    pub predicates : EachIs (λ (d : Predicate). EachIs (IsSoundParam (hddl_words h) arities) d.params) h.predicates
    -- tasks and actions share one space of names
    pub calls_named : EachIs IsPlain (task_words h ++ action_words h)
    pub calls_differ : AreDifferent (task_words h ++ action_words h)
    pub methods_named : EachIs IsPlain method_words
    pub methods_differ : AreDifferent method_words
    pub task_params : EachIs (λ (s : TaskSchema). AreSoundParams (hddl_words h) arities s.params) h.tasks
    pub action_params : EachIs (λ (a : ActionSchema). AreSoundParams (hddl_words h) arities a.params) h.actions
    pub pre : EachIs (λ (a : ActionSchema). IsSound (hddl_words h) arities a.pre (scope_of a.params)) h.actions
    pub eff : EachIs (λ (a : ActionSchema). IsSoundEffect (hddl_words h) arities a.eff (scope_of a.params)) h.actions
    -- the top method's task is one behind all others, and has no arguments
    pub top_task : h.top.task ≡ length h.tasks
    pub top_args : h.top.task_args ≡ []
    pub top : IsSoundMethod h.top
    pub method_tasks : EachIs (λ (s : MethodSchema). IsSoundHead (Task s.task) (length s.task_args)) h.methods
    pub methods : EachIs IsSoundMethod h.methods
    pub init : EachIs (λ (g : GroundAtom). IsSoundAtom (hddl_words h) arities [] g.predicate (map Obj g.args)) h.init
    pub goal : IsSound (hddl_words h) arities h.goal []
