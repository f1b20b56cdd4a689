-- First-free slots: the printed problem with three parts more, so that a method takes the lowest free slots, in the order of their numbers.
-- Source: this project's.
use Rattle.std.specs.Prelude.{ℕ, zero, suc, ◌-◌, ◌+◌, ◌≡◌, List, [], ◌∷◌, ◌++◌, map, length, codes, Contains}
use Rattle.plan_model.specs.declared.options.Slots.{Slots}
use Rattle.plan_model.specs.declared.options.Slots.TheVariants.{Any, First}
use Rattle.plan_model.specs.declared.options.Style.{Style}
use Rattle.plan_model.specs.declared.terms.Term.TheVariants.{Var}
use Rattle.plan_model.specs.declared.terms.GroundAtom.{GroundAtom}
use Rattle.plan_model.specs.declared.formulas.Formula.{Formula}
use Rattle.plan_model.specs.declared.formulas.Formula.TheVariants.{Holds, Equal, Not, And, Or, Imply, Forall}
use Rattle.plan_model.specs.declared.schemas.ActionSchema.{ActionSchema}
use Rattle.plan_model.specs.declared.schemas.MethodPlan.{MethodPlan}
use Rattle.plan_model.specs.declared.schemas.Predicate.{Predicate}
use Rattle.plan_model.specs.declared.values.Compiled.{Compiled}
use Rattle.plan_model.specs.declared.values.Pddl.{Pddl}
use Rattle.plan_model.specs.task_networks.Spelling.{numbers}
use Rattle.text_forms.specs.Words.{Word}
use Rattle.slot_encoding.specs.SourceParts.{name}
use Rattle.slot_encoding.specs.EncodedNames.{joined, guard_types, first_guard, first_slot, slot_param}
use Rattle.slot_encoding.specs.EncodedActions.{is_free, spare, depth, method_pre, encoded_method}
use Rattle.slot_encoding.specs.EncodedValue.{IsEncoded, encoded_checks, encoded_source}
use Rattle.slot_encoding.specs.EncodedWords.{HasEncodedWords}

-- the word of the predicate for lower slots
abbrev pub less_word : Word
less_word = codes "htn_less"

-- which is the last predicate
abbrev pub less_predicate : Compiled → ℕ
less_predicate c = first_guard c + length (guard_types c)

module _ (c : Compiled) (names : List (List ℕ)) (b : ℕ) (style : Style) where
  abbrev pub less : Predicate
  less = record { name = name names less_word; params = slot_param c names b (codes "htn_x") ∷ slot_param c names b (codes "htn_h") ∷ [] }

  -- the slot of variable x is free, and lower than that of variable v
  abbrev pub is_free_below : (x v : ℕ) → Formula
  is_free_below x v = And (Holds (is_free c names b style x) ∷ Holds (record { predicate = less_predicate c; args = Var x ∷ Var v ∷ [] }) ∷ [])

  -- what is free and lower than new slot k is a new slot before it; x is the number of the quantified variable
  abbrev pub lowest_slot : (x k : ℕ) → Formula
  lowest_slot x zero = And []
  lowest_slot x (suc zero) = Forall (slot_param c names b (codes "htn_x") ∷ []) (Not (is_free_below x 1))
  lowest_slot x (suc (suc k)) =
      Forall (slot_param c names b (codes "htn_x") ∷ [])
      (Imply (is_free_below x (suc (suc k))) (Or (map (λ j. Equal (Var x) (Var j)) (numbers 1 (suc k)))))

  abbrev pub lowest_slots : (x count : ℕ) → List Formula
  lowest_slots x count = map (lowest_slot x) (numbers 1 count)

  abbrev pub first_method : ℕ → MethodPlan → ActionSchema
  first_method m plan = record {
    name = (encoded_method c names b style m plan).name;
    params = (encoded_method c names b style m plan).params;
    pre = And (method_pre c names b style m plan ++ lowest_slots (depth c names b style m plan) (spare c names b style m plan));
    eff = (encoded_method c names b style m plan).eff;
  }

  -- from number m on
  abbrev pub first_methods : ℕ → List MethodPlan → List ActionSchema
  first_methods m [] = []
  first_methods m (plan ∷ plans) = first_method m plan ∷ first_methods (suc m) plans

  abbrev pub first_actions : List ActionSchema
  first_actions = first_methods 0 c.methods ++ encoded_checks c names b style 0 c.methods ++ encoded_source c names b style 0 c.hddl.actions

  -- slot j, as an object
  abbrev pub slot_object : ℕ → ℕ
  slot_object j = first_slot c + (j - 1)

  abbrev pub is_less : ℕ → ℕ → GroundAtom
  is_less j k = record { predicate = less_predicate c; args = slot_object j ∷ slot_object k ∷ [] }

  -- each slot with each higher one
  abbrev pub less_facts : List GroundAtom
  less_facts = joined (map (λ j. map (is_less j) (numbers (suc j) (b - j))) (numbers 1 b))

-- the printed problem of a compiled one, with b slots of which a method takes the lowest free ones
pub record IsFirstEncoded (c : Compiled) (b : ℕ) (style : Style) (p : Pddl) : Type 0 where
  pub plain : Pddl
  pub encoded : IsEncoded c b style plain
  pub value_is : p ≡ record {
    names = plain.names;
    domain = plain.domain;
    problem = plain.problem;
    types = plain.types;
    objects = plain.objects;
    predicates = plain.predicates ++ less c plain.names b style ∷ [];
    actions = first_actions c plain.names b style;
    init = plain.init ++ less_facts c plain.names b style;
    goal = plain.goal;
  }

-- the same by which free slots a method takes
abbrev pub IsEncodedBy : Slots → Compiled → ℕ → Style → Pddl → Type 0
IsEncodedBy Any = IsEncoded
IsEncodedBy First = IsFirstEncoded

-- the table lacks none of its words
abbrev pub HasWordsBy : Slots → Compiled → ℕ → List Word → Type 0
HasWordsBy Any c b names = HasEncodedWords c b names
HasWordsBy First c b names = HasEncodedWords c b names × Contains names less_word
