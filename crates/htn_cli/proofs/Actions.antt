-- How many actions are printed of a compiled problem: one for each method, one for each check, and one for each source action.
use Rattle.std.proofs.Common.{ℕ, suc, ◌≡◌, ◌+◌, Bool, true, false, cond, List, [], ◌∷◌, ◌++◌, length, sum_by, refl, ap, sym, ◌∙◌, length-append, arith}
use Rattle.std.proofs.lemmas.List.Sums.{sum_by-cons}
use Rattle.plan_model.specs.declared.options.Style.{Style}
use Rattle.plan_model.specs.declared.schemas.ActionSchema.{ActionSchema}
use Rattle.plan_model.specs.declared.schemas.MethodPlan.{MethodPlan}
use Rattle.plan_model.specs.declared.values.Compiled.{Compiled}
use Rattle.slot_encoding.specs.EncodedActions.{encoded_check}
use Rattle.slot_encoding.specs.EncodedValue.{encoded_methods, encoded_checks, encoded_source, encoded_actions}
use Rattle.htn_cli.specs.MakeStops.{HasActions}

-- 1 for a method with a check
abbrev pub check_count : MethodPlan → ℕ
check_count plan = cond plan.checked 1 0

module _ (c : Compiled) (names : List (List ℕ)) (slots : ℕ) (style : Style) where
  methods_length : (plans : List MethodPlan) (m : ℕ) → length (encoded_methods c names slots style m plans) ≡ length plans
  methods_length [] m = refl
  methods_length (plan ∷ plans) m = ap suc (methods_length plans (suc m))

  source_length : (ss : List ActionSchema) (a : ℕ) → length (encoded_source c names slots style a ss) ≡ length ss
  source_length [] a = refl
  source_length (s ∷ ss) a = ap suc (source_length ss (suc a))

  checks_length : (plans : List MethodPlan) (m : ℕ) → length (encoded_checks c names slots style m plans) ≡ sum_by check_count plans
  checks_length [] m = refl
  checks_length (plan ∷ plans) m = by plan.checked (checks_length plans (suc m)) ∙ sym (sum_by-cons check_count plan plans)
    where
      by : (t : Bool) → length (encoded_checks c names slots style (suc m) plans) ≡ sum_by check_count plans
          → length (cond t (encoded_check c names slots style m plan ∷ encoded_checks c names slots style (suc m) plans) (encoded_checks c names slots style (suc m) plans))
          ≡ cond t 1 0 + sum_by check_count plans
      by true e = let n = sum_by check_count plans in ap suc e ∙ (let z : suc n ≡ 1 + n = omega arith in z)
      by false e = let n = sum_by check_count plans in e ∙ (let z : n ≡ 0 + n = omega arith in z)

  actions_length : length (encoded_actions c names slots style) ≡ length c.methods + sum_by check_count c.methods + length c.hddl.actions
  actions_length =
      let a = length-append (encoded_methods c names slots style 0 c.methods ++ encoded_checks c names slots style 0 c.methods) (encoded_source c names slots style 0 c.hddl.actions) in
      let e = length-append (encoded_methods c names slots style 0 c.methods) (encoded_checks c names slots style 0 c.methods) in
      omega (arith, a, e, methods_length c.methods 0, checks_length c.methods 0, source_length c.hddl.actions 0)

pub counted_actions : (c : Compiled) (n : ℕ) → n ≡ length c.methods + sum_by check_count c.methods + length c.hddl.actions → HasActions c n
counted_actions c n e names slots style = e ∙ sym (actions_length c names slots style)
