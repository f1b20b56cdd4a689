-- Compiled values, worked out: the late check in both modes and the guard; and values that aren't compiled ones.
use Rattle.std.proofs.Common.{◌≡◌, true, inl, inr, List, [], ◌∷◌, length, Some, refl, ap, sym, arith}
use Rattle.plan_model.specs.declared.formulas.Formula.TheVariants.{Holds}
use Rattle.plan_model.specs.declared.networks.Head.TheVariants.{Action, Check}
use Rattle.plan_model.specs.declared.options.Checks.{Checks}
use Rattle.plan_model.specs.declared.options.Checks.TheVariants.{Leaf, AtOnce}
use Rattle.plan_model.specs.declared.networks.Pair.{Pair}
use Rattle.plan_model.specs.declared.schemas.MethodSchema.{MethodSchema}
use Rattle.plan_model.specs.declared.values.Compiled.{Compiled}
use Rattle.plan_model.specs.plan_meaning.Compilation.{IsMethodPlan, IsCompiled}
use Rattle.plan_model.proofs.plan_meaning.examples.Unequal.{less}
use Rattle.plan_model.proofs.plan_meaning.examples.RowValues.{child, method_schema, method_plan}
use Rattle.plan_model.proofs.plan_meaning.examples.PlanKinds.{plain, with_check, when_applied, holds_counts, leaf_is_not_at_once, none_rise, one_rises}
use Rattle.plan_model.proofs.plan_meaning.examples.FreeVariableRow.{free_variable}
use Rattle.plan_model.specs.declared.networks.Guard.{Guard}
use Rattle.plan_model.specs.declared.terms.Term.TheVariants.{Var}
use Rattle.plan_model.specs.plan_meaning.Compilation.{once, same_guard, AreGuards}
use Rattle.plan_model.proofs.plan_meaning.examples.LateCheckRow.{ready, late_hddl, late_top, late_top_plan, late_method, late_method_plan, late_check}
use Rattle.plan_model.proofs.plan_meaning.examples.TestedMethodRow.{tested_method_plan, tested_method}
use Rattle.plan_model.proofs.plan_meaning.examples.GuardRow.{block_is_not_red, guard_hddl, guard_top, guard_method, guard_method_plan, guarded}

-- the top method asks nothing in either mode
top_is : (mode : Checks) → IsMethodPlan late_hddl mode late_top late_top_plan
top_is mode = plain late_hddl mode late_top late_top_plan refl refl refl (record { schema = refl; up = tt; line = refl; heir = refl; copiers = refl; rising = one_rises 0; guards = ([], refl, refl) })

-- the method has a check of its own, before its subtask
pub late_check_is_compiled : IsCompiled late_hddl Leaf late_check
late_check_is_compiled = record {
  hddl = refl;
  methods = (
    top_is Leaf,
    (with_check late_hddl late_method late_method_plan (holds_counts ready) refl refl (record { schema = refl; up = (omega arith, tt); line = refl; heir = refl; copiers = refl; rising = none_rise; guards = ([], refl, refl) }), tt),
  );
}

-- in the other mode it is tested where it is applied, and has no check
pub tested_method_is_compiled : IsCompiled late_hddl AtOnce tested_method
tested_method_is_compiled = record {
  hddl = refl;
  methods = (
    top_is AtOnce,
    (when_applied late_hddl late_method tested_method_plan (holds_counts ready) refl refl (record { schema = refl; up = tt; line = refl; heir = refl; copiers = refl; rising = none_rise; guards = ([], refl, refl) }), tt),
  );
}

-- the argument of paint is declared as a block, which isn't always red: a guard
pub guarded_is_compiled : (mode : Checks) → IsCompiled guard_hddl mode guarded
guarded_is_compiled mode = record {
  hddl = refl;
  methods = (
    plain guard_hddl mode guard_top.schema guard_top refl refl refl (record { schema = refl; up = tt; line = refl; heir = refl; copiers = refl; rising = none_rise; guards = ([], refl, refl) }),
    (plain guard_hddl mode guard_method guard_method_plan refl refl refl (record { schema = refl; up = tt; line = refl; heir = refl; copiers = refl; rising = none_rise; guards = (guard_method_plan.guards, inl (block_is_not_red, [], refl, refl), refl) }), tt),
  );
}

-- without the guard it isn't
guard_left_out : (mode : Checks) → IsCompiled guard_hddl mode (record guarded { methods = guard_top ∷ record guard_method_plan { guards = [] } ∷ [] }) → ⊥
guard_left_out mode c = go c.methods.1.0.guards
  where
    no_guard : (all : List Guard) → [] ≡ once same_guard all → (rest : List Guard) → all ≡ record { ty = 2; term = Var 0 } ∷ rest → ⊥
    no_guard [] e rest f = absurd cc
    no_guard (g ∷ all) e rest f = absurd cc

    go : AreGuards guard_hddl guard_method [] → ⊥
    go (all, inl (is, rest, e, k), o) = no_guard all o rest e
    go (all, inr (other, k), o) = other block_is_not_red

-- a method with a parameter and a check
pub free_variable_is_compiled : IsCompiled free_variable.hddl Leaf free_variable
free_variable_is_compiled = record {
  hddl = refl;
  methods = (
    plain free_variable.hddl Leaf _ _ refl refl refl (record { schema = refl; up = tt; line = refl; heir = refl; copiers = refl; rising = none_rise; guards = ([], refl, refl) }),
    (with_check free_variable.hddl _ _ (holds_counts _) refl refl (record { schema = refl; up = (omega arith, tt); line = refl; heir = refl; copiers = refl; rising = none_rise; guards = ([], refl, refl) }), tt),
  );
}

-- a method of the late check with other pairs
abbrev with_pairs : List Pair → Compiled
with_pairs pairs = record { hddl = late_hddl; methods = late_top_plan ∷ method_plan (method_schema 7 0 (Holds ready) (child Check ∷ child (Action 0) ∷ []) pairs) true (0 ∷ 1 ∷ []) (Some 1) [] ∷ [] }

-- the check must stand before its sibling
check_beside_its_sibling : IsCompiled late_hddl Leaf (with_pairs []) → ⊥
check_beside_its_sibling c = less 0 1 (omega arith) (sym (ap (λ (s : MethodSchema). length s.pairs) c.methods.1.0.schema))

-- and the pair stands once
pair_twice : IsCompiled late_hddl Leaf (with_pairs (record { first = 0; then = 1 } ∷ record { first = 0; then = 1 } ∷ [])) → ⊥
pair_twice c = less 1 2 (omega arith) (ap (λ (s : MethodSchema). length s.pairs) c.methods.1.0.schema)

-- a method whose precondition counts has a check in this mode
check_left_out : IsCompiled late_hddl Leaf tested_method → ⊥
check_left_out c = leaf_is_not_at_once (c.methods.1.0.tested.0 refl).0
