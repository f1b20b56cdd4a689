-- A hierarchical plan comes to one text, or to one sentence that says why there is none.
use Rattle.std.proofs.Common.{ℕ, ◌≡◌, ◌≤◌, ◌<◌, ◌-◌, ◌^◌, ◌∙◌, List, length, Option, Some, None, refl, ap, sym, subst, arith}
use Rattle.std.proofs.Math.Nat.{min-le_left}
use Rattle.htn_base.specs.Limits.{most_slots}
use Rattle.text_forms.specs.sheets.Sheets.{capped}
use Rattle.plan_model.specs.declared.options.Checks.{Checks}
use Rattle.plan_model.specs.declared.values.Hddl.{Hddl}
use Rattle.plan_model.specs.declared.values.Compiled.{Compiled}
use Rattle.hplan_text.specs.declared.values.HPlan.{HPlan}
use Rattle.hplan_text.specs.Printable.{IsSoundHPlan}
use Rattle.plan_encoder.specs.Laws.{IsOf}
use Rattle.step_texts.specs.declared.text.StepText.{StepText}
use Rattle.step_texts.specs.declared.text.StepText.TheVariants.{Whole, TooLong, NoMatch, NotExecutable, GoalFalse, NoPlacement, NeedsBound, TooWide}
use Rattle.step_texts.specs.StepTexts.{steps_text, slots_for, HasWidth, IsTextOf, IsStepText}
use Rattle.encode_answers.specs.EncodeLaws.{EachIsEncodedOnce}
use Rattle.encode_answers.proofs.OnceSpelled.{one_width, its_width, one_list}
use Rattle.encode_answers.proofs.OnceFindings.{Stops, stops_once, unmatched_stops, failing_stops, missing_stops, unplaced_stops, placed_stops, one_unmatched, one_failing}

-- what is counted up to a limit is not more than it is
capped_least : (n : ℕ) → capped n ≤ n
capped_least n = min-le_left n (2 ^ 64 - 1)

module _ (h : Hddl) (mode : Checks) (c : Compiled) (of : IsOf h mode c) (plan : HPlan) (sound : IsSoundHPlan plan) where
  module _ (given : Option ℕ) where
    one_text : (text other : List ℕ) → IsTextOf c plan given text → IsTextOf c plan given other → text ≡ other
    one_text text other (w, steps, x, e) (v, others, y, f) =
        let (g, k) = one_list h mode c of plan (slots_for given w) (slots_for given v) w v steps others x y in
        e ∙ (λ i. steps_text (g i) (k i)) ∙ sym f

    -- what has a text is not too wide for its slots
    no_bound_needed : (text : List ℕ) (w : ℕ) → IsTextOf c plan given text → HasWidth c plan w → (n : ℕ) → given ≡ Some n → n < w → ⊥
    no_bound_needed text w (v, steps, x, e) y n g l =
        let same = one_width h mode c of plan v w (its_width h mode c of plan (slots_for given v) v steps x) y in
        let within : v ≤ n = subst (λ z. v ≤ slots_for z v) g x.within in
        omega arith

    not_too_wide : (text : List ℕ) (w : ℕ) → IsTextOf c plan given text → HasWidth c plan w → given ≡ None → most_slots < w → ⊥
    not_too_wide text w (v, steps, x, e) y g l =
        let same = one_width h mode c of plan v w (its_width h mode c of plan (slots_for given v) v steps x) y in
        let few : v ≤ most_slots = subst (λ z. slots_for z v ≤ most_slots) g x.few in
        omega arith

    module _ (most : ℕ) where
      abbrev Is : StepText → Type 0
      Is = IsStepText c plan given most

      stage : StepText → ℕ
      stage (NoMatch id) = 0
      stage (NotExecutable id) = 1
      stage GoalFalse = 2
      stage NoPlacement = 3
      stage (Whole text) = 4
      stage (TooLong n) = 4
      stage (NeedsBound w) = 4
      stage (TooWide w) = 4

      -- whoever has a width is placed
      wide_stops : (w : ℕ) → HasWidth c plan w → Stops h mode c of plan sound 4
      wide_stops w x = placed_stops h mode c of plan sound x.tree x.order x.placed

      text_stops : (text : List ℕ) → IsTextOf c plan given text → Stops h mode c of plan sound 4
      text_stops text (w, steps, x, e) = wide_stops w (its_width h mode c of plan (slots_for given w) w steps x)

      stops : (one : StepText) → Is one → Stops h mode c of plan sound (stage one)
      unfolding stage
      stops (NoMatch id) x = unmatched_stops h mode c of plan sound id x
      stops (NotExecutable id) x = failing_stops h mode c of plan sound id x
      stops GoalFalse x = missing_stops h mode c of plan sound x
      stops NoPlacement x = unplaced_stops h mode c of plan sound x
      stops (Whole text) x = text_stops text x.0
      stops (TooLong n) x = text_stops x.0 x.1
      stops (NeedsBound w) x = wide_stops w x.0
      stops (TooWide w) x = wide_stops w x.0

      not_longer : (text other : List ℕ) (n : ℕ) → IsTextOf c plan given text → length text ≤ most → IsTextOf c plan given other
          → n ≡ capped (length other) → most < n → ⊥
      not_longer text other n x l y e m =
          let same = ap length (one_text text other x y) in
          let least = capped_least (length other) in
          let less : n ≤ length other = subst (λ z. z ≤ length other) (sym e) least in
          omega arith

      not_both_given : (n : ℕ) → given ≡ Some n → given ≡ None → ⊥
      not_both_given n e f = let g : Some n ≡ None = sym e ∙ f in cc

      one_of_stage : (one other : StepText) → stage one ≡ stage other → Is one → Is other → one ≡ other
      unfolding stage
      one_of_stage (NoMatch id) (NoMatch other) e x y = ap NoMatch (one_unmatched h mode c of plan sound id other x y)
      one_of_stage (NotExecutable id) (NotExecutable other) e x y = ap NotExecutable (one_failing h mode c of plan sound id other x y)
      one_of_stage GoalFalse GoalFalse e x y = refl
      one_of_stage NoPlacement NoPlacement e x y = refl
      one_of_stage (Whole text) (Whole other) e x y = ap Whole (one_text text other x.0 y.0)
      one_of_stage (Whole text) (TooLong n) e x y = absurd (not_longer text y.0 n x.0 x.1 y.1 y.2 y.3)
      one_of_stage (Whole text) (NeedsBound w) e x y = absurd (no_bound_needed text w x.0 y.0 y.1.0 y.1.1 y.1.2)
      one_of_stage (Whole text) (TooWide w) e x y = absurd (not_too_wide text w x.0 y.0 y.1 y.2)
      one_of_stage (TooLong n) (Whole text) e x y = absurd (not_longer text x.0 n y.0 y.1 x.1 x.2 x.3)
      one_of_stage (TooLong n) (TooLong m) e x y = ap TooLong (x.2 ∙ ap (λ (z : List ℕ). capped (length z)) (one_text x.0 y.0 x.1 y.1) ∙ sym y.2)
      one_of_stage (TooLong n) (NeedsBound w) e x y = absurd (no_bound_needed x.0 w x.1 y.0 y.1.0 y.1.1 y.1.2)
      one_of_stage (TooLong n) (TooWide w) e x y = absurd (not_too_wide x.0 w x.1 y.0 y.1 y.2)
      one_of_stage (NeedsBound w) (Whole text) e x y = absurd (no_bound_needed text w y.0 x.0 x.1.0 x.1.1 x.1.2)
      one_of_stage (NeedsBound w) (TooLong n) e x y = absurd (no_bound_needed y.0 w y.1 x.0 x.1.0 x.1.1 x.1.2)
      one_of_stage (NeedsBound w) (NeedsBound v) e x y = ap NeedsBound (one_width h mode c of plan w v x.0 y.0)
      one_of_stage (NeedsBound w) (TooWide v) e x y = absurd (not_both_given x.1.0 x.1.1 y.1)
      one_of_stage (TooWide w) (Whole text) e x y = absurd (not_too_wide text w y.0 x.0 x.1 x.2)
      one_of_stage (TooWide w) (TooLong n) e x y = absurd (not_too_wide y.0 w y.1 x.0 x.1 x.2)
      one_of_stage (TooWide w) (NeedsBound v) e x y = absurd (not_both_given y.1.0 y.1.1 x.1)
      one_of_stage (TooWide w) (TooWide v) e x y = ap TooWide (one_width h mode c of plan w v x.0 y.0)
      one_of_stage one other e x y = absurd (omega arith)

      pub encoded_once : (one other : StepText) → Is one → Is other → one ≡ other
      encoded_once one other x y =
          one_of_stage one other (stops_once h mode c of plan sound (stage one) (stage other) (stops one x) (stops other y)) x y

pub each_is_encoded_once : EachIsEncodedOnce
each_is_encoded_once h mode c of plan sound given most one other x y = encoded_once h mode c of plan sound given most one other x y
