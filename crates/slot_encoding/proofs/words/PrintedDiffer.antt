-- The words of a printable value differ within each space.
use Rattle.std.proofs.Common.{List, [], ◌∷◌}
use Rattle.text_forms.specs.Words.{Word}
use Rattle.plan_model.specs.declared.schemas.ActionSchema.{ActionSchema}
use Rattle.plan_model.specs.declared.values.Pddl.{Pddl}
use Rattle.plan_texts.specs.Printable.{AreSoundParams, IsSound, IsSoundEffect}
use Rattle.htn_base.specs.Different.{AreDifferent}
use Rattle.plan_texts.specs.Types.{EachIs}
use Rattle.plan_texts.specs.SpellsPddl.{pddl_words}
use Rattle.plan_texts.specs.PrintableValue.{arities_of, IsPrintable}
use Rattle.slot_encoding.proofs.places.Places.{same_place}
use Rattle.slot_encoding.specs.WordsDiffer.{DifferByPlace, printed_actions, printed_params, VariablesDiffer, PrintedWordsDiffer}

by_place : (ws : List Word) → AreDifferent ws → DifferByPlace ws
by_place ws d j k l m e = same_place ws j k d l m e

variables_differ : (p : Pddl) (as' : List ActionSchema) → EachIs (λ (a : ActionSchema). AreSoundParams (pddl_words p) (arities_of p) a.params) as'
    → EachIs (λ (a : ActionSchema). IsSound (pddl_words p) (arities_of p) a.pre (printed_params p a)) as' → EachIs (λ (a : ActionSchema). IsSoundEffect (pddl_words p) (arities_of p) a.eff (printed_params p a)) as'
    → EachIs (VariablesDiffer p) as'
variables_differ p [] ps cs es = tt
variables_differ p (a ∷ as') ps cs es = (record { params = by_place (printed_params p a) ps.0.1; condition = cs.0; effect = es.0 }, variables_differ p as' ps.1 cs.1 es.1)

pub printed_differ : (p : Pddl) → IsPrintable p → PrintedWordsDiffer p
printed_differ p is = record {
  types = by_place (pddl_words p).types is.words.types_differ;
  objects = by_place (pddl_words p).objects is.words.objects_differ;
  predicates = by_place (pddl_words p).predicates is.words.predicates_differ;
  actions = by_place (printed_actions p) is.actions_differ;
  variables = variables_differ p p.actions is.params is.pre is.eff;
  goal = is.goal;
}
