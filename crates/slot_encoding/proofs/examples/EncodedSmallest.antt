-- The printed problem of the smallest one, m: t -> a with t on top, in one slot and in both styles, written out by hand.
use Rattle.std.proofs.Common.{ℕ, ◌≡◌, true, cond, List, [], ◌∷◌, ◌++◌, refl, ap, sym}
use Rattle.std.specs.Prelude.{codes}
use Rattle.plan_model.specs.declared.options.Style.TheVariants.{Adl, Flat}
use Rattle.plan_model.specs.declared.options.Style.{Style}
use Rattle.plan_model.specs.declared.terms.Term.{Term}
use Rattle.plan_model.specs.declared.terms.Term.TheVariants.{Var, Obj}
use Rattle.plan_model.specs.declared.terms.Atom.{Atom}
use Rattle.plan_model.specs.declared.terms.Param.{Param}
use Rattle.plan_model.specs.declared.types.Types.{Types}
use Rattle.plan_model.specs.declared.types.Object.{Object}
use Rattle.plan_model.specs.declared.formulas.Formula.{Formula}
use Rattle.plan_model.specs.declared.formulas.Formula.TheVariants.{Holds, Not, And, Forall}
use Rattle.plan_model.specs.declared.effects.Effect.{Effect}
use Rattle.plan_model.specs.declared.effects.Effect.TheVariants as E
use Rattle.plan_model.specs.declared.schemas.Predicate.{Predicate}
use Rattle.plan_model.specs.declared.schemas.ActionSchema.{ActionSchema}
use Rattle.plan_model.specs.declared.values.Pddl.{Pddl}
use Rattle.slot_encoding.specs.SourceParts.{name, source_formula, source_effect}
use Rattle.slot_encoding.specs.EncodedNames.{encoded_objects, order_numbers, free_predicate}
use Rattle.order_encoder.specs.OrderFormulas.{free_parts}
use Rattle.slot_encoding.specs.EncodedActions.{source_condition, source_change}
use Rattle.slot_encoding.specs.EncodedValue.{encoded_actions, IsEncoded}
use Rattle.slot_encoding.proofs.examples.RowTexts.{empty_condition, empty_effect}
use Rattle.plan_model.proofs.plan_meaning.examples.RowValues.{always, nothing}
use Rattle.plan_model.proofs.plan_meaning.examples.RowWords.{slot_1}
use Rattle.plan_model.proofs.plan_meaning.examples.SmallestRow.{smallest, smallest_names}

abbrev words : List (List ℕ)
words =
    codes "object" ∷ codes "htn_slot" ∷ codes "htn_object" ∷ codes "d" ∷ codes "p" ∷ codes "htn_s1" ∷ codes "htn_top" ∷ codes "htn_free" ∷ codes "htn_before"
    ∷ codes "htn_h" ∷ codes "htn_x" ∷ codes "htn_t_t" ∷ codes "htn_a_a" ∷ codes "htn_start" ∷ codes "htn_m_m" ∷ codes "a" ∷ []

-- types: object, htn_slot, htn_object
abbrev types : Types
types = record {
  names = record { number = 0 } ∷ record { number = 1 } ∷ record { number = 2 } ∷ [];
  parents = record { child = 1; parent = 0 } ∷ record { child = 2; parent = 0 } ∷ [];
  unions = [];
}

-- ?htn_h - htn_slot, and ?htn_x - htn_slot
abbrev pub h : Param
h = record { name = record { number = 9 }; ty = 1 }

abbrev pub x : Param
x = record { name = record { number = 10 }; ty = 1 }

abbrev pub slot_object : Object
slot_object = record { name = record { number = 5 }; ty = 1; constant = true }

abbrev predicate : ℕ → List Param → Predicate
predicate word params = record { name = record { number = word }; params = params }

-- htn_top, htn_free, htn_before, htn_t_t and htn_a_a
abbrev predicates : List Predicate
predicates = predicate 6 (h ∷ []) ∷ predicate 7 (h ∷ []) ∷ predicate 8 (x ∷ h ∷ []) ∷ predicate 11 (h ∷ []) ∷ predicate 12 (h ∷ []) ∷ []

-- a predicate of ?htn_h
abbrev pub of_h : ℕ → Atom
of_h number = record { predicate = number; args = Var 0 ∷ [] }

abbrev pub before : Term → Term → Atom
before s t = record { predicate = 2; args = s ∷ t ∷ [] }

-- what stands in either style for: no slot comes before ?htn_h; the pairs that leave ?htn_h go; each slot is free
abbrev pub waits : Style → Formula
-- (forall (?htn_x - htn_slot) (not (htn_before ?htn_x ?htn_h)))
waits Adl = Forall (x ∷ []) (Not (Holds (before (Var 1) (Var 0))))
-- (not (htn_before htn_s1 ?htn_h))
waits Flat = Not (Holds (before (Obj 0) (Var 0)))

abbrev pub clears : Style → Effect
-- (forall (?htn_x - htn_slot) (not (htn_before ?htn_h ?htn_x)))
clears Adl = E.Forall (x ∷ []) (E.Delete (before (Var 0) (Var 1)))
-- (not (htn_before ?htn_h htn_s1))
clears Flat = E.Delete (before (Var 0) (Obj 0))

abbrev pub all_free : Style → Formula
-- (forall (?htn_x - htn_slot) (htn_free ?htn_x))
all_free Adl = Forall (x ∷ []) (Holds (of_h 1))
-- (htn_free htn_s1)
all_free Flat = Holds (record { predicate = 1; args = Obj 0 ∷ [] })

abbrev action : ℕ → List Formula → List Effect → ActionSchema
action word pre eff = record { name = record { number = word }; params = h ∷ []; pre = And pre; eff = E.And eff }

-- htn_start, htn_m_m and a; what a asks and does itself comes last, and is nothing
abbrev pub start : Style → ActionSchema
start style = action 13 (Holds (of_h 0) ∷ waits style ∷ []) (E.Delete (of_h 0) ∷ E.Add (of_h 3) ∷ [])

abbrev pub of_t : Style → ActionSchema
of_t style = action 14 (Holds (of_h 3) ∷ waits style ∷ []) (E.Delete (of_h 3) ∷ E.Add (of_h 4) ∷ [])

abbrev pub a : Style → List Formula → List Effect → ActionSchema
a style pre eff = action 15 (Holds (of_h 4) ∷ waits style ∷ pre) (E.Delete (of_h 4) ∷ E.Add (of_h 1) ∷ clears style ∷ eff)

abbrev pub printed : Style → Pddl
printed style = record {
  names = words;
  domain = record { number = 3 };
  problem = record { number = 4 };
  types = types;
  objects = slot_object ∷ [];
  predicates = predicates;
  actions = start style ∷ of_t style ∷ a style [] [] ∷ [];
  init = record { predicate = 0; args = 0 ∷ [] } ∷ [];
  goal = And (all_free style ∷ []);
}

-- an empty conjunction is no part of a condition
no_condition : (style : Style) (front : ℕ) → source_condition smallest words 1 style front always ≡ []
no_condition style front = ap (λ b. cond b [] (source_formula words smallest_names front always ∷ [])) empty_condition

no_change : (style : Style) → source_change smallest words 1 style 1 nothing ≡ []
no_change style = ap (λ b. cond b [] (source_effect words smallest_names 1 nothing ∷ [])) empty_effect

objects_are : slot_object ∷ [] ≡ encoded_objects smallest words 1
objects_are = λ i. record { name = name words (sym slot_1 i); ty = 1; constant = true } ∷ []

actions_are : (style : Style) → (printed style).actions ≡ encoded_actions smallest words 1 style
actions_are Adl = λ i. start Adl ∷ of_t Adl ∷ a Adl (sym (no_condition Adl 1) i) (sym (no_change Adl) i) ∷ []
actions_are Flat = λ i. start Flat ∷ of_t Flat ∷ a Flat (sym (no_condition Flat 1) i) (sym (no_change Flat) i) ∷ []

goal_is : (style : Style) → (printed style).goal ≡ And (source_condition smallest words 1 style 0 always ++ free_parts (order_numbers smallest words 1) 1 0 style (free_predicate smallest))
goal_is Adl = λ i. And (sym (no_condition Adl 0) i ++ all_free Adl ∷ [])
goal_is Flat = λ i. And (sym (no_condition Flat 0) i ++ all_free Flat ∷ [])

encoded : (style : Style) → IsEncoded smallest 1 style (printed style)
encoded style = record {
  domain = refl;
  problem = refl;
  types = refl;
  objects = objects_are;
  predicates = refl;
  actions = actions_are style;
  init = ([], refl, refl);
  goal = goal_is style;
}
