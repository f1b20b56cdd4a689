-- First-free slots: what is printed where the top method has the unordered actions a, b and c.
use Rattle.std.proofs.Common.{ℕ, zero, suc, ◌≡◌, false, List, [], ◌∷◌, Some, codes, refl, arith}
use Rattle.std.specs.List.Sorted.{IsStrictlyIncreasing}
use Rattle.text_forms.specs.Printing.{bytes}
use Rattle.plan_model.specs.declared.options.Checks.{Checks}
use Rattle.plan_model.specs.declared.options.Style.TheVariants.{Adl, Flat}
use Rattle.plan_model.specs.declared.networks.Head.TheVariants.{Action}
use Rattle.plan_model.specs.declared.schemas.MethodPlan.{MethodPlan}
use Rattle.plan_model.specs.declared.values.Compiled.{Compiled}
use Rattle.plan_model.specs.plan_meaning.Compilation.{IsCompiled}
use Rattle.plan_model.proofs.plan_meaning.examples.PlanKinds.{plain}
use Rattle.plan_model.proofs.plan_meaning.examples.RowValues.{child, always, nothing, problem, method_schema, method_plan, action_schema}
use Rattle.plan_texts.specs.Declared.{Declared}
use Rattle.plan_texts.specs.Printed.{formula_part}
use Rattle.plan_texts.proofs.Equations.{part-Or}
use Rattle.slot_encoding.specs.FirstFree.{less, lowest_slot, less_facts, first_method}
use Rattle.slot_encoding.proofs.examples.RowTexts.{printing, inside, fact_texts, predicate_texts, waits}

abbrev names : List (List ℕ)
names = codes "object" ∷ codes "d" ∷ codes "p" ∷ codes "htn_start" ∷ codes "a" ∷ codes "b" ∷ codes "c" ∷ []

-- c is the last in line, and stays in the slot of the task
abbrev top : MethodPlan
top = method_plan (method_schema 3 0 always (child (Action 0) ∷ child (Action 1) ∷ child (Action 2) ∷ []) []) false (0 ∷ 1 ∷ 2 ∷ []) (Some 2) (0 ∷ 1 ∷ [])

abbrev row : Compiled
row = record {
  hddl = problem names [] [] (action_schema 4 always nothing ∷ action_schema 5 always nothing ∷ action_schema 6 always nothing ∷ []) [] top.schema;
  methods = top ∷ [];
}

two_rise : IsStrictlyIncreasing (0 ∷ 1 ∷ [])
two_rise zero l = omega arith
two_rise (suc k) l = absurd (omega arith)

row_is_compiled : (mode : Checks) → IsCompiled row.hddl mode row
row_is_compiled mode = record {
  hddl = refl;
  methods = (
    plain row.hddl mode top.schema top refl refl refl (record {
      schema = refl;
      up = tt;
      line = refl;
      heir = refl;
      copiers = refl;
      rising = two_rise;
      guards = ([], refl, refl);
    }),
    tt,
  );
}

abbrev words : List (List ℕ)
words =
    codes "object" ∷ codes "htn_slot" ∷ codes "htn_object" ∷ codes "htn_top" ∷ codes "htn_free" ∷ codes "htn_before" ∷ codes "htn_less"
    ∷ codes "htn_h" ∷ codes "htn_h1" ∷ codes "htn_h2" ∷ codes "htn_x" ∷ codes "htn_start" ∷ codes "htn_a_a" ∷ codes "htn_a_b" ∷ codes "htn_a_c" ∷ []

abbrev v : Declared
v = record {
  names = words;
  types = codes "object" ∷ codes "htn_slot" ∷ codes "htn_object" ∷ [];
  unions = [];
  objects = codes "htn_s1" ∷ codes "htn_s2" ∷ codes "htn_s3" ∷ codes "htn_s4" ∷ [];
  predicates = codes "htn_top" ∷ codes "htn_free" ∷ codes "htn_before" ∷ codes "htn_a_a" ∷ codes "htn_a_b" ∷ codes "htn_a_c" ∷ codes "htn_less" ∷ [];
}

-- the variables of the method's action
abbrev scope : List (List ℕ)
scope = codes "htn_h" ∷ codes "htn_h1" ∷ codes "htn_h2" ∷ []

-- what the method asks: last, for each of the two new slots, that nothing lower is free but the new slots before it
asks : inside (formula_part v (first_method row words 4 Adl 0 top).pre scope) ≡
    codes "and" ∷ codes "(htn_top ?htn_h)" ∷ waits ∷ codes "(htn_free ?htn_h1)" ∷ codes "(htn_free ?htn_h2)" ∷ codes "(not (= ?htn_h1 ?htn_h2))"
    ∷ codes "(forall (?htn_x - htn_slot) (not (and (htn_free ?htn_x) (htn_less ?htn_x ?htn_h1))))"
    ∷ codes "(forall (?htn_x - htn_slot) (imply (and (htn_free ?htn_x) (htn_less ?htn_x ?htn_h2)) (or (= ?htn_x ?htn_h1))))" ∷ []
asks = simp (printing, part-Or)

-- of a third new slot, behind these and a further variable
third : bytes (formula_part v (lowest_slot row words 4 Flat 4 3) (codes "htn_h" ∷ codes "htn_h1" ∷ codes "htn_h2" ∷ codes "htn_h3" ∷ [])) ≡
    codes "(forall (?htn_x - htn_slot) (imply (and (htn_free ?htn_x) (htn_less ?htn_x ?htn_h3)) (or (= ?htn_x ?htn_h1) (= ?htn_x ?htn_h2))))"
third = simp (printing, part-Or)

declares : predicate_texts v (less row words 4 Flat ∷ []) ≡ codes "(htn_less ?htn_x - htn_slot ?htn_h - htn_slot)" ∷ []
declares = refl

-- three slots, each with each higher one
facts : fact_texts v (less_facts row words 3 Adl) ≡ codes "(htn_less htn_s1 htn_s2)" ∷ codes "(htn_less htn_s1 htn_s3)" ∷ codes "(htn_less htn_s2 htn_s3)" ∷ []
facts = refl
