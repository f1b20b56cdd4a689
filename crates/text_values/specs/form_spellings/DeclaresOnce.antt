-- Schemas and quantifiers that declare no variable twice, in a whole domain and in a whole problem. What spells one leaves this open.
-- Source: this project's; a repeated variable is a fault.
use Rattle.std.specs.Prelude.{List, map}
use Rattle.htn_base.specs.Different.{AreDifferent}
use Rattle.plan_texts.specs.Declared.{Declared, variable}
use Rattle.plan_texts.specs.Domains.{Domain, domain_words}
use Rattle.plan_texts.specs.Types.{EachIs}
use Rattle.plan_model.specs.declared.schemas.ActionSchema.{ActionSchema}
use Rattle.plan_model.specs.declared.schemas.MethodSchema.{MethodSchema}
use Rattle.plan_model.specs.declared.schemas.TaskSchema.{TaskSchema}
use Rattle.plan_model.specs.declared.terms.Param.{Param}
use Rattle.text_values.specs.form_spellings.Fresh.{AreFresh, AreFreshEffects}

module _ (v : Declared) where
  abbrev pub DifferByWord : List Param → Type 0
  DifferByWord xs = AreDifferent (map (variable v) xs)

  abbrev pub TaskDeclaresOnce : TaskSchema → Type 0
  TaskDeclaresOnce t = DifferByWord t.params

  abbrev pub MethodDeclaresOnce : MethodSchema → Type 0
  MethodDeclaresOnce m = DifferByWord m.params × AreFresh v m.pre

  abbrev pub ActionDeclaresOnce : ActionSchema → Type 0
  ActionDeclaresOnce a = DifferByWord a.params × AreFresh v a.pre × AreFreshEffects v a.eff

pub record DeclaresOnce (d : Domain) : Type 0 where
  pub tasks : EachIs (TaskDeclaresOnce (domain_words d)) d.tasks
  pub methods : EachIs (MethodDeclaresOnce (domain_words d)) d.methods
  pub actions : EachIs (ActionDeclaresOnce (domain_words d)) d.actions
