-- What is asked of a PDDL value that was read.
-- Source: this project's.
use Rattle.std.specs.Prelude.{ℕ, ◌≡◌, ◌<◌, ◌≤◌, ◌+◌, ◌^◌, [], map, length, codes}
use Rattle.htn_base.specs.Different.{AreDifferent}
use Rattle.htn_base.specs.Limits.{most_pddl_types}
use Rattle.text_forms.specs.Words.{word_at}
use Rattle.plan_texts.specs.Declared.{named, variable}
use Rattle.plan_texts.specs.Printable.{IsPlain, IsSoundAtom, IsSoundParam, AreSoundParams, IsSound, IsSoundEffect, HasWords}
use Rattle.plan_texts.specs.PrintableValue.{arities_of}
use Rattle.plan_texts.specs.SoundProblem.{IsShort}
use Rattle.plan_texts.specs.SpellsPddl.{pddl_types, pddl_words}
use Rattle.plan_texts.specs.Types.{Has, EachIs}
use Rattle.plan_model.specs.Typing.{Leads}
use Rattle.plan_model.specs.declared.schemas.ActionSchema.{ActionSchema}
use Rattle.plan_model.specs.declared.schemas.Predicate.{Predicate}
use Rattle.plan_model.specs.declared.terms.GroundAtom.{GroundAtom}
use Rattle.plan_model.specs.declared.terms.Term.TheVariants.{Obj}
use Rattle.plan_model.specs.declared.types.Object.{Object}
use Rattle.plan_model.specs.declared.types.Parent.{Parent}
use Rattle.plan_model.specs.declared.values.Pddl.{Pddl}

-- all that lets the value be printed, but that its objects are constants
pub record IsSoundPddl (c : Pddl) : Type 0 where
  pub domain : IsPlain (named c.names c.domain)
  pub problem : IsPlain (named c.names c.problem)
  pub words : HasWords (pddl_words c) (arities_of c)
  pub first : word_at (pddl_types c) 0 ≡ codes "object"
  pub parents : EachIs (λ (x : Parent). (x.child < length c.types.names) × (x.parent < length c.types.names) × (0 < x.child)) c.types.parents
  pub has_parent : (k : ℕ) → 0 < k → k < length c.types.names → (x : Parent) × Has c.types.parents x × (x.child ≡ k)
  pub no_cycle : (x : Parent) → Has c.types.parents x → Leads c.types.parents x.parent x.child → ⊥
  pub objects : EachIs (λ (x : Object). x.ty < length c.types.names) c.objects
  pub predicates : EachIs (λ (d : Predicate). EachIs (IsSoundParam (pddl_words c) (arities_of c)) d.params) c.predicates
  pub actions_named : EachIs IsPlain (map (λ (a : ActionSchema). named c.names a.name) c.actions)
  pub actions_differ : AreDifferent (map (λ (a : ActionSchema). named c.names a.name) c.actions)
  pub params : EachIs (λ (a : ActionSchema). AreSoundParams (pddl_words c) (arities_of c) a.params) c.actions
  pub pre : EachIs (λ (a : ActionSchema). IsSound (pddl_words c) (arities_of c) a.pre (map (variable (pddl_words c)) a.params)) c.actions
  pub eff : EachIs (λ (a : ActionSchema). IsSoundEffect (pddl_words c) (arities_of c) a.eff (map (variable (pddl_words c)) a.params)) c.actions
  pub init : EachIs (λ (g : GroundAtom). IsSoundAtom (pddl_words c) (arities_of c) [] g.predicate (map Obj g.args)) c.init
  pub goal : IsSound (pddl_words c) (arities_of c) c.goal []

pub record IsWithinLimits (c : Pddl) : Type 0 where
  pub names : length c.names ≤ 2 ^ 26
  pub types : length c.types.names ≤ most_pddl_types + 1
  pub unions : IsShort c.types.unions
  pub objects : IsShort c.objects
  pub predicates : IsShort c.predicates
  pub actions : IsShort c.actions
  pub init : IsShort c.init
  pub predicate_params : EachIs (λ (d : Predicate). IsShort d.params) c.predicates
  pub action_params : EachIs (λ (a : ActionSchema). IsShort a.params) c.actions

-- and it is within limits
pub record IsSoundClassical (c : Pddl) : Type 0 where
  pub value : IsSoundPddl c
  pub limits : IsWithinLimits c
