-- What is made for a method is its action.
use Rattle.std.proofs.Common.{ℕ, zero, suc, ◌≡◌, ◌-◌, ◌<◌, ◌++◌, length, codes, refl, ap, sym, ◌∙◌, arith}
use Rattle.htn_base.specs.declared.name.Name.{Name}
use Rattle.plan_model.specs.declared.formulas.Formula.TheVariants.{And}
use Rattle.plan_model.specs.declared.effects.Effect.TheVariants as E
use Rattle.plan_model.specs.declared.schemas.MethodPlan.{MethodPlan}
use Rattle.slot_encoding.specs.SourceParts.{source_word}
use Rattle.slot_encoding.specs.EncodedNames.{check_predicate}
use Rattle.slot_encoding.specs.declared.slot_declarations.frame.Frame.{Frame}
use Rattle.stack_encoding.specs.StackActions as actions
use Rattle.stack_encoder.specs.Made as made

module _ (f : Frame) (m : ℕ) (plan : MethodPlan) where
  abbrev pub method_name : Name
  method_name = (actions.stack_method f.compiled.now f.printed.now f.slots m plan).name

  effects-are : (check count : ℕ) → check ≡ check_predicate f.compiled.now m → 0 < count → count ≡ length plan.schema.children
      → made.climbing_effects f check count plan ≡ actions.method_eff f.compiled.now f.printed.now f.slots m plan count
  effects-are check zero c some n = absurd (omega (arith, some))
  effects-are check (suc k) c some n =
      let up : suc k - 1 ≡ k = omega arith in
      (λ i. made.effects_with f (c i) (suc k) (n i) plan (up i))

  pub falling-is : (name : Name) → name ≡ method_name → length plan.schema.children ≡ 0 → made.falling_method f name plan ≡ actions.stack_method f.compiled.now f.printed.now f.slots m plan
  falling-is name named none = λ i. record {
    name = named i;
    params = actions.method_params f.compiled.now f.printed.now f.slots m plan (sym none i);
    pre = And (actions.method_pre f.compiled.now f.printed.now f.slots m plan (sym none i));
    eff = E.And (actions.method_eff f.compiled.now f.printed.now f.slots m plan (sym none i));
  }

  pub climbing-is : (name : Name) (check count : ℕ) → name ≡ method_name → check ≡ check_predicate f.compiled.now m → 0 < count → count ≡ length plan.schema.children
      → made.climbing_method f name check count plan ≡ actions.stack_method f.compiled.now f.printed.now f.slots m plan
  climbing-is name check count named c some n =
      (λ i. record {
        name = named i;
        params = made.method_params f count plan;
        pre = And (made.method_condition f count plan);
        eff = E.And (effects-are check count c some n i);
      })
      ∙ (λ i. record {
        name = method_name;
        params = actions.method_params f.compiled.now f.printed.now f.slots m plan (n i);
        pre = And (actions.method_pre f.compiled.now f.printed.now f.slots m plan (n i));
        eff = E.And (actions.method_eff f.compiled.now f.printed.now f.slots m plan (n i));
      })

pub word_first : (f : Frame) (i : ℕ) (plan : MethodPlan) (m : ℕ) → m ≡ 0 → actions.method_word f.compiled.now f.printed.now f.slots i plan m ≡ codes "htn_start"
word_first f i plan m e = ap (actions.method_word f.compiled.now f.printed.now f.slots i plan) e

pub word_later : (f : Frame) (i : ℕ) (plan : MethodPlan) (m : ℕ) → 0 < m → actions.method_word f.compiled.now f.printed.now f.slots i plan m ≡ codes "htn_m_" ++ source_word f.compiled.now.hddl.names plan.schema.name
word_later f i plan zero l = absurd (omega arith)
word_later f i plan (suc m) l = refl
