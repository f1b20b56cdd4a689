-- What is asked of an HDDL value that was read: one record of all that the crates above it need, cycles aside.
-- Source: this project's; the top method has no precondition (Höller et al., "HDDL", AAAI 2020, the full syntax definition: :htn).
use Rattle.std.specs.Prelude.{ℕ, ◌≡◌, ◌+◌, ◌<◌, ◌≤◌, ◌^◌, List, [], ◌∷◌, map, length}
use Rattle.std.specs.List.{filter_map}
use Rattle.htn_base.specs.Limits.{most_subtasks, most_pddl_types}
use Rattle.text_forms.specs.Words.{Word}
use Rattle.plan_texts.specs.Declared.{named}
use Rattle.htn_base.specs.Different.{AreDifferent}
use Rattle.plan_texts.specs.Types.{EachIs}
use Rattle.plan_texts.specs.Printable.{IsPlain}
use Rattle.plan_texts.specs.SoundValue.{IsSoundHddl}
use Rattle.plan_model.specs.declared.formulas.Formula.TheVariants.{And}
use Rattle.plan_model.specs.declared.networks.Child.{Child}
use Rattle.plan_model.specs.declared.networks.Pair.{Pair}
use Rattle.plan_model.specs.declared.schemas.Predicate.{Predicate}
use Rattle.plan_model.specs.declared.schemas.TaskSchema.{TaskSchema}
use Rattle.plan_model.specs.declared.schemas.ActionSchema.{ActionSchema}
use Rattle.plan_model.specs.declared.schemas.MethodSchema.{MethodSchema}
use Rattle.plan_model.specs.declared.values.Hddl.{Hddl}

-- the method of the network of the problem, and the others
abbrev pub all_methods : Hddl → List MethodSchema
all_methods h = h.top ∷ h.methods

-- the number of subtasks is limited; a parameter's place is a number of 32 bits
pub record IsSmallMethod (s : MethodSchema) : Type 0 where
  pub subtasks : length s.children ≤ most_subtasks
  pub params : length s.params < 2 ^ 32

abbrev pub HasSmallMethods : Hddl → Type 0
HasSmallMethods h = EachIs IsSmallMethod (all_methods h)

abbrev pub IsShort : {X : Type 0} → List X → Type 0
IsShort xs = length xs ≤ 2 ^ 25

pub record IsWithinLimits (h : Hddl) : Type 0 where
  pub names : length h.names ≤ 2 ^ 26
  pub types : length h.types.names ≤ most_pddl_types + 1
  pub unions : IsShort h.types.unions
  pub objects : IsShort h.objects
  pub predicates : IsShort h.predicates
  pub tasks : IsShort h.tasks
  pub actions : IsShort h.actions
  pub methods : IsShort h.methods
  pub init : IsShort h.init
  pub predicate_params : EachIs (λ (d : Predicate). IsShort d.params) h.predicates
  pub task_params : EachIs (λ (t : TaskSchema). IsShort t.params) h.tasks
  pub action_params : EachIs (λ (a : ActionSchema). IsShort a.params) h.actions
  pub method_params : EachIs (λ (s : MethodSchema). IsShort s.params) (all_methods h)
  pub networks : HasSmallMethods h

-- a pair of two of so many subtasks
abbrev pub NamesSubtasks : ℕ → Pair → Type 0
NamesSubtasks count p = (p.first < count) × (p.then < count)

-- the ids of those subtasks that have one
abbrev pub written_ids : List Word → MethodSchema → List Word
written_ids names s = map (named names) (filter_map (λ (c : Child). c.id) s.children)

pub record IsSoundNetwork (names : List Word) (s : MethodSchema) : Type 0 where
  pub pairs : EachIs (NamesSubtasks (length s.children)) s.pairs
  pub ids_named : EachIs IsPlain (written_ids names s)
  pub ids_differ : AreDifferent (written_ids names s)

pub record IsSoundProblem (h : Hddl) : Type 0 where
  pub value : IsSoundHddl h
  pub no_condition : h.top.pre ≡ And []
  pub networks : EachIs (IsSoundNetwork h.names) (all_methods h)
  pub limits : IsWithinLimits h
