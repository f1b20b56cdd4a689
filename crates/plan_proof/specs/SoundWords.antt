-- What is asked of the words of a value, so that its plans go by them.
-- Source: this project's.
use Rattle.std.specs.Prelude.{◌≡◌, ◌<◌, true, length, codes}
use Rattle.text_forms.specs.Words.{is_name, word_at}
use Rattle.plan_texts.specs.Declared.{named}
use Rattle.htn_base.specs.Different.{AreDifferent}
use Rattle.plan_texts.specs.Types.{EachIs}
use Rattle.plan_texts.specs.SpellsPddl.{pddl_types}
use Rattle.plan_model.specs.declared.types.Parent.{Parent}
use Rattle.plan_model.specs.declared.types.Object.{Object}
use Rattle.plan_model.specs.declared.schemas.ActionSchema.{ActionSchema}
use Rattle.plan_model.specs.declared.values.Pddl.{Pddl}

-- No two types have one word, type 0 is object, pairs and objects name types, and what is named has a name.
pub record HasSoundWords (c : Pddl) : Type 0 where
  pub first : word_at (pddl_types c) 0 ≡ codes "object"
  pub different : AreDifferent (pddl_types c)
  pub types_named : EachIs (λ w. is_name w ≡ true) (pddl_types c)
  pub parents : EachIs (λ (x : Parent). (x.child < length (pddl_types c)) × (x.parent < length (pddl_types c))) c.types.parents
  pub objects_typed : EachIs (λ (x : Object). x.ty < length (pddl_types c)) c.objects
  pub objects_named : EachIs (λ (x : Object). is_name (named c.names x.name) ≡ true) c.objects
  pub actions_named : EachIs (λ (a : ActionSchema). is_name (named c.names a.name) ≡ true) c.actions
