-- The predicates, tasks, actions, methods and facts that something read stands for, once its names are bound.
-- Source: this project's.
use Rattle.std.specs.Prelude.{ℕ, ◌≡◌, List, [], map, length, codes, Some}
use Rattle.text_forms.specs.Words.{Word, first_place}
use Rattle.plan_texts.specs.Declared.{Declared, named, variable}
use Rattle.plan_texts.specs.Together.{Together}
use Rattle.plan_model.specs.declared.formulas.Formula.TheVariants.{And}
use Rattle.plan_model.specs.declared.schemas.ActionSchema.{ActionSchema}
use Rattle.plan_model.specs.declared.schemas.MethodSchema.{MethodSchema}
use Rattle.plan_model.specs.declared.schemas.Predicate.{Predicate}
use Rattle.plan_model.specs.declared.schemas.TaskSchema.{TaskSchema}
use Rattle.plan_model.specs.declared.terms.GroundAtom.{GroundAtom}
use Rattle.plan_model.specs.declared.terms.Term.{Term}
use Rattle.plan_model.specs.declared.terms.Term.TheVariants.{Obj}
use Rattle.gd_reader.specs.declared.term.RawAtom.{RawAtom}
use Rattle.gd_reader.specs.declared.typed_lists.RawParam.{RawParam}
use Rattle.gd_reader.specs.Terms.{Names}
use Rattle.hddl_reader.specs.declared.networks.RawNet.{RawNet}
use Rattle.hddl_reader.specs.declared.sections.RawAction.{RawAction}
use Rattle.hddl_reader.specs.declared.sections.RawHead.{RawHead}
use Rattle.hddl_reader.specs.declared.sections.RawMethod.{RawMethod}
use Rattle.text_values.specs.form_spellings.Bound.{IsBoundTerm, IsBoundAtom, IsBoundParam, IsBoundFormula, IsBoundEffect}
use Rattle.text_values.specs.form_spellings.BoundNetworks.{IsBoundNetwork}

module _ (v : Declared) (table : Names) where
  abbrev pub IsBoundPredicate : RawHead → Predicate → Type 0
  IsBoundPredicate r x = (named v.names x.name ≡ named table r.name.name) × Together (IsBoundParam v table) r.params x.params

  abbrev pub IsBoundTask : RawHead → TaskSchema → Type 0
  IsBoundTask r x = (named v.names x.name ≡ named table r.name.name) × Together (IsBoundParam v table) r.params x.params

  pub record IsBoundAction (r : RawAction) (x : ActionSchema) : Type 0 where
    pub name : named v.names x.name ≡ named table r.head.name.name
    pub params : Together (IsBoundParam v table) r.head.params x.params
    pub pre : IsBoundFormula v table r.pre (map (variable v) x.params) x.pre
    pub eff : IsBoundEffect v table r.eff (map (variable v) x.params) x.eff

  -- an atom over objects
  abbrev pub IsBoundFact : RawAtom → GroundAtom → Type 0
  IsBoundFact r x = IsBoundAtom v table [] r x.predicate (map Obj x.args)

  -- the task of a method is the first of its word
  abbrev pub IsBoundHead : List Word → List Word → RawAtom → ℕ → List Term → Type 0
  IsBoundHead tasks scope a n ts = (first_place (named table a.head.name) tasks ≡ Some n) × Together (IsBoundTerm v table scope) a.args ts

  module _ (tasks actions : List Word) where
    pub record IsBoundMethod (r : RawMethod) (x : MethodSchema) : Type 0 where
      pub name : named v.names x.name ≡ named table r.head.name.name
      pub params : Together (IsBoundParam v table) r.head.params x.params
      pub head : IsBoundHead tasks (map (variable v) x.params) r.task x.task x.task_args
      pub pre : IsBoundFormula v table r.pre (map (variable v) x.params) x.pre
      pub network : IsBoundNetwork v table tasks actions (map (variable v) x.params) r.net x.children x.pairs x.constraints

    -- the network of a problem as a method: its task is one behind all others, without arguments or precondition
    pub record IsBoundTop (params : List RawParam) (net : RawNet) (x : MethodSchema) : Type 0 where
      pub name : named v.names x.name ≡ codes "htn_start"
      pub task : x.task ≡ length tasks
      pub task_args : x.task_args ≡ []
      pub pre : x.pre ≡ And []
      pub params_bound : Together (IsBoundParam v table) params x.params
      pub network : IsBoundNetwork v table tasks actions (map (variable v) x.params) net x.children x.pairs x.constraints
