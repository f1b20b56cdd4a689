-- A source problem with its words as they are printed, and what the printed words of a compiled problem stand for.
-- Source: this project's, after the translation of Alford et al., "Bound to Plan", ICAPS 2016.
use Rattle.std.specs.Prelude.{ℕ, suc, ◌≡◌, ◌<◌, ◌+◌, ◌++◌, IsTrue, List, [], ◌∷◌, map, length, codes, slice_get, slice_index_or, Contains, MatchOption, Option, Some}
use Rattle.htn_base.specs.declared.name.Name.{Name}
use Rattle.htn_base.specs.Escapes.{escaped}
use Rattle.plan_model.specs.declared.schemas.ActionSchema.{ActionSchema}
use Rattle.plan_model.specs.declared.schemas.MethodPlan.{MethodPlan}
use Rattle.plan_model.specs.declared.values.Compiled.{Compiled}
use Rattle.plan_model.specs.declared.values.Hddl.{Hddl}
use Rattle.plan_model.specs.declared.values.Pddl.{Pddl}
use Rattle.plan_model.specs.plan_meaning.SpelledPlan.{action_by, method_by, method_name}
use Rattle.problem_index.specs.declared.printed_index.PrintedIndex.{PrintedIndex}
use Rattle.problem_index.specs.declared.printed_index.PrintedName.{PrintedName}
use Rattle.problem_index.specs.declared.printed_index.PrintedName.TheVariants.{Action, Check, Method}
use Rattle.problem_index.specs.Index.{IsIndex}
use Rattle.problem_index.specs.Places.{HasWordAt, ArePlaces}

-- what the problem says without its tasks and methods, in printed words
abbrev pub in_print : Hddl → Pddl
in_print h = record {
  names = map escaped h.names;
  domain = h.domain;
  problem = h.problem;
  types = h.types;
  objects = h.objects;
  predicates = h.predicates;
  actions = h.actions;
  init = h.init;
  goal = h.goal;
}

-- the methods beside the top one, which is the first
abbrev pub others : List MethodPlan → List MethodPlan
others [] = []
others (top ∷ methods) = methods

abbrev pub other_names : Compiled → List Name
other_names c = map (λ (plan : MethodPlan). plan.schema.name) (others c.methods)

pub record IsPrintedIndex (c : Compiled) (printed : PrintedIndex) : Type 0 where
  pub indexed : IsIndex (in_print c.hddl) printed.index
  pub methods_stand : ArePlaces (length c.hddl.names) (other_names c) printed.methods.by_name.items

module _ (c : Compiled) where
  abbrev pub source_word : Name → List ℕ
  source_word name = slice_index_or c.hddl.names name.number []

  -- actions and the methods beside the top one have names of the table, no two such methods have one word, and the top one has no check
  pub record HasPrintedNames : Type 0 where
    pub actions : (s : ActionSchema) → Contains c.hddl.actions s → s.name.number < length c.hddl.names
    pub methods : (plan : MethodPlan) → Contains (others c.methods) plan → plan.schema.name.number < length c.hddl.names
    pub apart : (m n : ℕ) (p q : MethodPlan) → slice_get c.methods (suc m) ≡ Some p → slice_get c.methods (suc n) ≡ Some q → source_word p.schema.name ≡ source_word q.schema.name → m ≡ n
    pub unchecked : (plan : MethodPlan) → slice_get c.methods 0 ≡ Some plan → IsTrue plan.checked → ⊥

  -- there is such an action, such a method that is checked by a leaf, such a method
  abbrev pub IsThere : PrintedName → Type 0
  IsThere (Action a) = (s : ActionSchema) × (slice_get c.hddl.actions a ≡ Some s)
  IsThere (Check m) = (plan : MethodPlan) × (slice_get c.methods m ≡ Some plan) × IsTrue plan.checked
  IsThere (Method m) = (plan : MethodPlan) × (slice_get c.methods m ≡ Some plan)

  -- the name of the printed action
  abbrev pub word_of : PrintedName → List ℕ
  word_of (Action a) = action_by c (slice_get c.hddl.actions a)
  word_of (Check m) = codes "htn_c_" ++ method_by c (slice_get c.methods m)
  word_of (Method m) = method_name c m

  -- what the word stands for, or that it is no printed action's name
  abbrev pub StandsFor : List ℕ → Option PrintedName → Type 0
  StandsFor word found = MatchOption found ((p : PrintedName) → IsThere p → word_of p ≡ word → ⊥) (λ p. IsThere p × (word_of p ≡ word))

  abbrev pub IsTheMethod : List ℕ → Option ℕ → Type 0
  IsTheMethod name found = MatchOption found
      ((k : ℕ) → HasWordAt (map escaped c.hddl.names) (other_names c) name k → ⊥)
      (λ m. (k : ℕ) × (m ≡ k + 1) × HasWordAt (map escaped c.hddl.names) (other_names c) name k)
