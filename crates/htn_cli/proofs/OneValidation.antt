-- What a validation gives, or is declined for, is one thing: three texts spell one list of steps, and the values that two of them spell have
-- the same plans and the same failing step of a list.
use Rattle.std.proofs.Common.{ℕ, ◌≡◌, ◌<◌, ◌≤◌, List, ◌++◌, length, Some, codes, decimal, refl, sym, ap, ◌∙◌, subst, arith}
use Rattle.htn_base.specs.Limits.{most_steps}
use Rattle.plan_model.specs.declared.steps.GroundAction.{GroundAction}
use Rattle.plan_model.specs.declared.values.Pddl.{Pddl}
use Rattle.plan_model.specs.plan_meaning.ClassicalPlan.{IsPlan}
use Rattle.plan_model.specs.plan_meaning.FailingStep.{Fails}
use Rattle.plan_model.proofs.plan_meaning.FailingLaws.{each_is_plan_or_fails}
use Rattle.plan_model.specs.declared.causes.FailWhy.{FailWhy}
use Rattle.plan_texts.proofs.PlanSteps.{one-plan}
use Rattle.plan_proof.proofs.texts.SameFailures.{spelled-fails}
use Rattle.htn_cli.specs.Answer.{Output, Answer, refuses, gives, told_alone}
use Rattle.htn_cli.specs.Lines.{valid_line}
use Rattle.htn_cli.specs.OneAnswer.{TellTheSame}
use Rattle.htn_cli.specs.Refusal.{cause_word, line_of}
use Rattle.htn_cli.specs.Validation.{Spell, RefusesPlan, GivesPlan}
use Rattle.htn_cli.specs.declared.refusal.Finding.TheVariants as finding
use Rattle.htn_cli.specs.declared.refusal.Limit.TheVariants as limit
use Rattle.htn_cli.specs.declared.refusal.Refusal.{Refusal}
use Rattle.htn_cli.specs.declared.refusal.Refusal.TheVariants as refused
use Rattle.htn_cli.proofs.Validations.{sound_apart}

-- the words of causes

-- what follows from three texts without a fault
abbrev pub PlanComes : List ℕ → List ℕ → List ℕ → Answer → Type 0
PlanComes d p l (refuses refusal) = RefusesPlan d p l refusal
PlanComes d p l (gives output) = GivesPlan d p l output

module _ (d p l : List ℕ) where
  abbrev Meant : Type 0
  Meant = (c : Pddl) × (steps : List GroundAction) × Spell d p l c steps

  data Follows (x : Meant) : Answer → Type 0 where
    many : (n : ℕ) → n ≡ length x.1 → most_steps < n → Follows x (refuses (refused.Limit (limit.Steps n)))
    fails : (step : ℕ) (w : FailWhy) → length x.1 ≤ most_steps → Fails x.0 x.1 step w → Follows x (refuses (refused.Finding (finding.NotAPlan step w)))
    plan : (output : Output) → length x.1 ≤ most_steps → IsPlan x.0 x.1 → output ≡ told_alone valid_line → Follows x (gives output)

  module _ (x y : Meant) where
    steps_same : x.1 ≡ y.1
    steps_same = one-plan l x.1 y.1 x.2.list.spelled y.2.list.spelled

    few_or_many : (n : ℕ) → n ≡ length x.1 → most_steps < n → length y.1 ≤ most_steps → ⊥
    few_or_many n e l few = let same = ap length steps_same in omega (arith, e, l, few, same)

    fails_here : (step : ℕ) (w : FailWhy) → Fails y.0 y.1 step w → Fails x.0 x.1 step w
    fails_here step w f =
        spelled-fails y.0 x.0 d p y.2.value.spelled.spelled x.2.value.spelled.spelled x.1 step w
        (subst (λ s. Fails y.0 s step w) (sym steps_same) f)

    plan_or_fails : (step : ℕ) (w : FailWhy) → IsPlan x.0 x.1 → Fails y.0 y.1 step w → ⊥
    plan_or_fails step w is f = (each_is_plan_or_fails x.0 (sound_apart x.0 x.2.value.sound) x.1).not_both step w is (fails_here step w f)

    one_failure : (step more : ℕ) (w v : FailWhy) → Fails x.0 x.1 step w → Fails y.0 y.1 more v
        → TellTheSame (refuses (refused.Finding (finding.NotAPlan step w))) (refuses (refused.Finding (finding.NotAPlan more v)))
    one_failure step more w v f g =
        let law = each_is_plan_or_fails x.0 (sound_apart x.0 x.2.value.sound) x.1 in
        let here = fails_here more v g in
        let at = law.step step more w v f here in
        let word = ap cause_word (law.cause step more w v f here) in
        record { status = refl; line = λ i. codes "not a plan: step " ++ decimal (at i) ++ codes " " ++ word i ++ codes "\n"; output = refl }

  follows : (x y : Meant) (a b : Answer) → Follows x a → Follows y b → TellTheSame a b
  follows x y a b (many n e l) (many m f k) = record { status = refl; line = ap (λ z. line_of (refused.Limit (limit.Steps z))) (e ∙ ap length (steps_same x y) ∙ sym f); output = refl }
  follows x y a b (many n e l) (fails step w few f) = absurd (few_or_many x y n e l few)
  follows x y a b (many n e l) (plan o few is t) = absurd (few_or_many x y n e l few)
  follows x y a b (fails step w few f) (many n e l) = absurd (few_or_many y x n e l few)
  follows x y a b (fails step w few f) (fails more v less g) = one_failure x y step more w v f g
  follows x y a b (fails step w few f) (plan o less is t) = absurd (plan_or_fails y x step w is f)
  follows x y a b (plan o few is t) (many n e l) = absurd (few_or_many y x n e l few)
  follows x y a b (plan o few is t) (fails step w less f) = absurd (plan_or_fails x y step w is f)
  follows x y a b (plan o few is t) (plan q less also u) = record { status = refl; line = refl; output = ap Some (t ∙ sym u) }

  declines : (refusal : Refusal) → RefusesPlan d p l refusal → (x : Meant) × Follows x (refuses refusal)
  declines (refused.Limit (limit.Steps n)) (c, steps, s, e, past) = ((c, steps, s), many n e past)
  declines (refused.Finding (finding.NotAPlan step w)) (c, steps, s, f) = ((c, steps, s.spelled), fails step w s.few f)
  declines _ x = absurd x

  comes : (a : Answer) → PlanComes d p l a → (x : Meant) × Follows x a
  comes (refuses refusal) is = declines refusal is
  comes (gives output) ((c, steps, s, is), e) = ((c, steps, s.spelled), plan output s.few is e)

  pub one_validated : (a b : Answer) → PlanComes d p l a → PlanComes d p l b → TellTheSame a b
  one_validated a b is also = let x = comes a is in let y = comes b also in follows x.0 y.0 a b x.1 y.1
