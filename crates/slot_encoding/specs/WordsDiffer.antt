-- No two things of one space have the same printed word.
-- Source: this project's.
use Rattle.std.specs.Prelude.{ℕ, ◌≡◌, ◌<◌, List, [], map, length}
use Rattle.text_forms.specs.Words.{Word, word_at}
use Rattle.plan_model.specs.declared.schemas.ActionSchema.{ActionSchema}
use Rattle.plan_model.specs.declared.values.Pddl.{Pddl}
use Rattle.plan_texts.specs.Declared.{named, variable}
use Rattle.plan_texts.specs.Printable.{IsSound, IsSoundEffect}
use Rattle.plan_texts.specs.PrintableValue.{arities_of}
use Rattle.plan_texts.specs.SpellsPddl.{pddl_words}
use Rattle.plan_texts.specs.Types.{EachIs}

-- words at two places differ
abbrev pub DifferByPlace : List Word → Type 0
DifferByPlace ws = (j k : ℕ) → j < length ws → k < length ws → word_at ws j ≡ word_at ws k → j ≡ k

abbrev pub printed_actions : Pddl → List Word
printed_actions p = map (λ (a : ActionSchema). named p.names a.name) p.actions

abbrev pub printed_params : Pddl → ActionSchema → List Word
printed_params p a = map (variable (pddl_words p)) a.params

-- the parameters of an action differ; in its condition and its effect the variables of one quantifier differ, and none that is used is hidden
pub record VariablesDiffer (p : Pddl) (a : ActionSchema) : Type 0 where
  pub params : DifferByPlace (printed_params p a)
  pub condition : IsSound (pddl_words p) (arities_of p) a.pre (printed_params p a)
  pub effect : IsSoundEffect (pddl_words p) (arities_of p) a.eff (printed_params p a)

pub record PrintedWordsDiffer (p : Pddl) : Type 0 where
  pub types : DifferByPlace (pddl_words p).types
  pub objects : DifferByPlace (pddl_words p).objects
  pub predicates : DifferByPlace (pddl_words p).predicates
  pub actions : DifferByPlace (printed_actions p)
  pub variables : EachIs (VariablesDiffer p) p.actions
  -- so do those of one quantifier of the goal, and none that is used is hidden
  pub goal : IsSound (pddl_words p) (arities_of p) p.goal []
