-- As a stack a hierarchical plan comes to one text, or to one sentence that says why there is none.
use Rattle.std.proofs.Common.{ℕ, ◌≡◌, ◌≤◌, ◌<◌, ◌⊎◌, ◌-◌, ◌^◌, ◌∙◌, inl, inr, List, length, map, Option, Some, None, refl, ap, sym, subst, arith}
use Rattle.std.proofs.Math.Nat.{min-le_left}
use Rattle.htn_base.specs.Limits.{most_slots}
use Rattle.text_forms.specs.sheets.Sheets.{capped}
use Rattle.plan_model.specs.declared.options.Checks.{Checks}
use Rattle.plan_model.specs.declared.steps.GroundAction.{GroundAction}
use Rattle.plan_model.specs.declared.values.Hddl.{Hddl}
use Rattle.plan_model.specs.declared.values.Compiled.{Compiled}
use Rattle.plan_model.specs.plan_meaning.Network.{network}
use Rattle.plan_model.specs.plan_meaning.Solution.{top_work}
use Rattle.plan_model.specs.plan_meaning.SpelledPlan.{step_of}
use Rattle.hplan_text.specs.declared.values.HPlan.{HPlan}
use Rattle.hplan_text.specs.Printable.{IsSoundHPlan}
use Rattle.schedules.proofs.ruled.FirstFree.{lowest_exactly_where_within}
use Rattle.plan_encoder.specs.Laws.{IsOf}
use Rattle.stack_encoding.specs.TotalOrder.{IsTotallyOrdered}
use Rattle.stack_speller.proofs.Totals.{law}
use Rattle.step_texts.specs.declared.text.StepText.{StepText}
use Rattle.step_texts.specs.declared.text.StepText.TheVariants.{Whole, TooLong, NoMatch, NotExecutable, GoalFalse, NoPlacement, NeedsBound, TooWide}
use Rattle.step_texts.specs.StepTexts.{steps_text, slots_for, IsTextOf, IsStepText}
use Rattle.step_texts.specs.StackTexts.{IsStackTextOf, IsStackText}
use Rattle.encode_answers.proofs.Once.{each_is_encoded_once}
use Rattle.stack_encode_answers.specs.StackEncodeLaws.{EachIsStackedOnce}
use Rattle.stack_encode_answers.proofs.OneStack.{soundly, one_stack}

-- the text is told, or its length
abbrev IsTold : ℕ → List ℕ → StepText → Type 0
IsTold most text (Whole x) = (x ≡ text) × (length text ≤ most)
IsTold most text (TooLong n) = (n ≡ capped (length text)) × (most < n)
IsTold most text (NoMatch id) = ⊥
IsTold most text (NotExecutable id) = ⊥
IsTold most text GoalFalse = ⊥
IsTold most text NoPlacement = ⊥
IsTold most text (NeedsBound w) = ⊥
IsTold most text (TooWide w) = ⊥

-- or it is said why there is none
abbrev HasNoText : StepText → Type 0
HasNoText (Whole x) = ⊥
HasNoText (TooLong n) = ⊥
HasNoText (NoMatch id) = Unit {0}
HasNoText (NotExecutable id) = Unit {0}
HasNoText GoalFalse = Unit {0}
HasNoText NoPlacement = Unit {0}
HasNoText (NeedsBound w) = Unit {0}
HasNoText (TooWide w) = Unit {0}

module _ (most : ℕ) (text : List ℕ) where
  not_both : (n : ℕ) → length text ≤ most → n ≡ capped (length text) → most < n → ⊥
  not_both n l e m =
      let least : capped (length text) ≤ length text = min-le_left (length text) (2 ^ 64 - 1) in
      let less : n ≤ length text = subst (λ z. z ≤ length text) (sym e) least in
      omega arith

  told_once : (one other : StepText) → IsTold most text one → IsTold most text other → one ≡ other
  told_once (Whole x) (Whole y) a b = ap Whole (a.0 ∙ sym b.0)
  told_once (Whole x) (TooLong m) a b = absurd (not_both m a.1 b.0 b.1)
  told_once (TooLong n) (Whole y) a b = absurd (not_both n b.1 a.0 a.1)
  told_once (TooLong n) (TooLong m) a b = ap TooLong (a.0 ∙ sym b.0)
  told_once (Whole x) (NoMatch id) a b = absurd b
  told_once (Whole x) (NotExecutable id) a b = absurd b
  told_once (Whole x) GoalFalse a b = absurd b
  told_once (Whole x) NoPlacement a b = absurd b
  told_once (Whole x) (NeedsBound w) a b = absurd b
  told_once (Whole x) (TooWide w) a b = absurd b
  told_once (TooLong n) (NoMatch id) a b = absurd b
  told_once (TooLong n) (NotExecutable id) a b = absurd b
  told_once (TooLong n) GoalFalse a b = absurd b
  told_once (TooLong n) NoPlacement a b = absurd b
  told_once (TooLong n) (NeedsBound w) a b = absurd b
  told_once (TooLong n) (TooWide w) a b = absurd b
  told_once (NoMatch id) other a b = absurd a
  told_once (NotExecutable id) other a b = absurd a
  told_once GoalFalse other a b = absurd a
  told_once NoPlacement other a b = absurd a
  told_once (NeedsBound w) other a b = absurd a
  told_once (TooWide w) other a b = absurd a

module _ (h : Hddl) (mode : Checks) (c : Compiled) (of : IsOf h mode c) (ordered : IsTotallyOrdered c) (plan : HPlan) (given : Option ℕ) where
  one_text : (text other : List ℕ) → IsStackTextOf c plan given text → IsStackTextOf c plan given other → text ≡ other
  one_text text other (w, steps, x, e) (v, others, y, f) =
      let (g, k) = one_stack h mode c of ordered plan (slots_for given w) (slots_for given v) w v steps others x y in
      e ∙ (λ i. steps_text (g i) (k i)) ∙ sym f

  -- what has a text as a stack has one with slots
  slot_text : (text : List ℕ) → IsStackTextOf c plan given text → (other : List ℕ) × IsTextOf c plan given other
  slot_text text (w, steps, x, e) =
      let front = x.spelling.1.spells.front in
      let (acts, slot, lowest) = (lowest_exactly_where_within (network c) (law c (soundly h mode c of)) (slots_for given w) (top_work c) x.tree x.order front).0
      (λ taken rest nodes parts a. (let l = x.width_is.within taken rest nodes parts a in let b = x.within in omega arith)) in (
        steps_text w (map (step_of c) acts),
        (
          w,
          map (step_of c) acts,
          record {
            tree = x.tree;
            order = x.order;
            placed = x.placed;
            width_is = x.width_is;
            within = x.within;
            few = x.few;
            acts = acts;
            slot = slot;
            lowest = lowest;
            steps_are = refl;
          },
          refl,
        ),
      )

  module _ (sound : IsSoundHPlan plan) where
    -- a text, or why there is none
    abbrev Tells : ℕ → StepText → Type 0
    Tells most t = ((text : List ℕ) × IsStackTextOf c plan given text × IsTold most text t) ⊎ (HasNoText t × ((m : ℕ) → IsStepText c plan given m t))

    tells : (most : ℕ) (t : StepText) → IsStackText c plan given most t → Tells most t
    tells most (Whole text) x = inl (text, x.0, (refl, x.1))
    tells most (TooLong n) x = inl (x.0, x.1, (x.2, x.3))
    tells most (NoMatch id) x = inr (tt, λ m. x)
    tells most (NotExecutable id) x = inr (tt, λ m. x)
    tells most GoalFalse x = inr (tt, λ m. x)
    tells most NoPlacement x = inr (tt, λ m. x)
    tells most (NeedsBound w) x = inr (tt, λ m. x)
    tells most (TooWide w) x = inr (tt, λ m. x)

    apart : (text : List ℕ) (t : StepText) → IsStackTextOf c plan given text → HasNoText t → ((m : ℕ) → IsStepText c plan given m t) → ⊥
    apart text t x none y =
        let (other, is) = slot_text text x in
        let e : Whole other ≡ t = each_is_encoded_once h mode c of plan sound given (length other) (Whole other) t (is, omega arith) (y (length other)) in
        subst HasNoText (sym e) none

    once : (most : ℕ) (one other : StepText) → Tells most one → Tells most other → one ≡ other
    once most one other (inl (text, x, a)) (inl (text', y, b)) =
        told_once most text one other a (subst (λ z. IsTold most z other) (sym (one_text text text' x y)) b)
    once most one other (inl (text, x, a)) (inr (none, y)) = absurd (apart text other x none y)
    once most one other (inr (none, y)) (inl (text, x, a)) = absurd (apart text one x none y)
    once most one other (inr (none, x)) (inr (none', y)) = each_is_encoded_once h mode c of plan sound given most one other (x most) (y most)

pub each_is_stacked_once : EachIsStackedOnce
each_is_stacked_once h mode c of ordered plan sound given most one other x y =
    once h mode c of ordered plan given sound most one other (tells h mode c of ordered plan given sound most one x) (tells h mode c of ordered plan given sound most other y)
