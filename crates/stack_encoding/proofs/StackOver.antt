-- The value of a stack over a table of words, with these initial atoms.
use Rattle.std.proofs.Common.{ℕ, ◌≡◌, List, [], ◌∷◌, ◌++◌, refl}
use Rattle.text_forms.specs.Words.{Word}
use Rattle.plan_model.specs.declared.options.Style.TheVariants.{Adl}
use Rattle.plan_model.specs.declared.terms.GroundAtom.{GroundAtom}
use Rattle.plan_model.specs.declared.terms.Term.TheVariants.{Obj}
use Rattle.plan_model.specs.declared.formulas.Formula.{Formula}
use Rattle.plan_model.specs.declared.formulas.Formula.TheVariants.{Holds, And}
use Rattle.plan_model.specs.declared.values.Compiled.{Compiled}
use Rattle.plan_model.specs.declared.values.Pddl.{Pddl}
use Rattle.slot_encoding.specs.SourceParts.{renamed}
use Rattle.slot_encoding.specs.EncodedNames.{guard_types, encoded_types}
use Rattle.slot_encoding.specs.MethodParts.{condition_part}
use Rattle.slot_encoding.specs.EncodedValue.{AreGuardAtoms}
use Rattle.slot_encoding.proofs.existence.Kept.{some_guard_atoms}
use Rattle.slot_encoding.proofs.existence.SingleWords.{single_words, to_single, single_differ}
use Rattle.stack_encoding.specs.StackNames.{tip_predicate, cell_object, stack_objects, stack_predicates}
use Rattle.stack_encoding.specs.StackValue.{stack_actions, first_atoms, IsStackEncoded}
use Rattle.stack_encoding.specs.StackWords.{stack_words}
use Rattle.stack_encoding.specs.StackPrinted.{HasStackValue}

module _ (c : Compiled) (b : ℕ) where
  -- nothing is left
  abbrev pub nothing_left : Formula
  nothing_left = Holds (record { predicate = tip_predicate c; args = Obj (cell_object c 0) ∷ [] })

  abbrev pub stack_over : List Word → List GroundAtom → Pddl
  stack_over names init = record {
    names = names;
    domain = renamed names c.hddl.names c.hddl.domain;
    problem = renamed names c.hddl.names c.hddl.problem;
    types = encoded_types c names b;
    objects = stack_objects c names b;
    predicates = stack_predicates c names b;
    actions = stack_actions c names b;
    init = init;
    goal = And (condition_part c names 0 c.hddl.goal ++ nothing_left ∷ []);
  }

  -- each value of a stack is one
  pub is_stack_over : (p : Pddl) → IsStackEncoded c b p → p ≡ stack_over p.names p.init
  is_stack_over p e = λ i. record { names = p.names; domain = e.domain i; problem = e.problem i; types = e.types i; objects = e.objects i; predicates = e.predicates i; actions = e.actions i; init = p.init; goal = e.goal i }

  -- over any table there is one
  stack_over_is : (names : List Word) (guards : List GroundAtom) → AreGuardAtoms c names b Adl (guard_types c) guards → IsStackEncoded c b (stack_over names (first_atoms c names b ++ guards))
  stack_over_is names guards a = record { domain = refl; problem = refl; types = refl; objects = refl; predicates = refl; actions = refl; init = (guards, a, refl); goal = refl }

  pub some_stack : (names : List Word) → (p : Pddl) × (p.names ≡ names) × IsStackEncoded c b p
  some_stack names = let (guards, a) = some_guard_atoms c names b Adl (guard_types c) in (stack_over names (first_atoms c names b ++ guards), refl, stack_over_is names guards a)

  -- over its own words, each listed once
  pub has_stack_value : HasStackValue c b
  has_stack_value =
      let words = stack_words c b in
      let (guards, a) = some_guard_atoms c (single_words words) b Adl (guard_types c) in
      record { value = stack_over (single_words words) (first_atoms c (single_words words) b ++ guards); encoded = stack_over_is (single_words words) guards a; words = to_single words; differ = single_differ words }
