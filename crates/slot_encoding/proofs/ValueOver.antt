-- The encoded value over a table of words, with these initial atoms.
use Rattle.std.proofs.Common.{ℕ, ◌≡◌, List, ◌++◌, refl}
use Rattle.text_forms.specs.Words.{Word}
use Rattle.plan_model.specs.declared.options.Style.{Style}
use Rattle.plan_model.specs.declared.terms.GroundAtom.{GroundAtom}
use Rattle.plan_model.specs.declared.formulas.Formula.TheVariants.{And}
use Rattle.plan_model.specs.declared.values.Compiled.{Compiled}
use Rattle.plan_model.specs.declared.values.Pddl.{Pddl}
use Rattle.slot_encoding.specs.SourceParts.{renamed}
use Rattle.order_encoder.specs.OrderFormulas.{free_parts}
use Rattle.slot_encoding.specs.EncodedNames.{guard_types, free_predicate, encoded_types, encoded_objects, encoded_predicates, order_numbers}
use Rattle.slot_encoding.specs.EncodedActions.{source_condition}
use Rattle.slot_encoding.specs.EncodedValue.{first_atoms, encoded_actions, AreGuardAtoms, IsEncoded}

module _ (c : Compiled) (b : ℕ) (style : Style) where
  abbrev pub over : List Word → List GroundAtom → Pddl
  over names init = record {
    names = names;
    domain = renamed names c.hddl.names c.hddl.domain;
    problem = renamed names c.hddl.names c.hddl.problem;
    types = encoded_types c names b;
    objects = encoded_objects c names b;
    predicates = encoded_predicates c names b;
    actions = encoded_actions c names b style;
    init = init;
    goal = And (source_condition c names b style 0 c.hddl.goal ++ free_parts (order_numbers c names b) b 0 style (free_predicate c));
  }

  -- each encoded value is one
  pub is_over : (p : Pddl) → IsEncoded c b style p → p ≡ over p.names p.init
  is_over p e = λ i. record {
    names = p.names;
    domain = e.domain i;
    problem = e.problem i;
    types = e.types i;
    objects = e.objects i;
    predicates = e.predicates i;
    actions = e.actions i;
    init = p.init;
    goal = e.goal i;
  }

  -- over any table there is an encoded value
  pub over_is_encoded : (names : List Word) (guards : List GroundAtom)
      → AreGuardAtoms c names b style (guard_types c) guards → IsEncoded c b style (over names (first_atoms c names b style ++ guards))
  over_is_encoded names guards a = record {
    domain = refl;
    problem = refl;
    types = refl;
    objects = refl;
    predicates = refl;
    actions = refl;
    init = (guards, a, refl);
    goal = refl;
  }
