-- The schedule of a gap function is a schedule with the primitives in their order and each node in its gap.
use Rattle.std.proofs.Common.{ℕ, zero, suc, ◌≡◌, ◌+◌, ◌≤◌, ◌⊎◌, inl, inr, List, [], ◌∷◌, ◌++◌, length, take, filter, Some, refl, ap, sym, subst, ◌∙◌, Contains, append_assoc, append-nil, arith}
use Rattle.std.proofs.lemmas.List.Elements.{filter-append}
use Rattle.std.proofs.lemmas.Option.{slice_get_cases}
use Rattle.htn_base.proofs.ReadAt.{next_read}
use Rattle.plan_model.specs.task_networks.Net.{Net}
use Rattle.plan_model.specs.task_networks.Tree.{Tree, Address, ran, IsAddress}
use Rattle.plan_model.specs.task_networks.Schedule.{IsDue}
use Rattle.plan_model.specs.task_networks.Listed.{is_listed}
use Rattle.plan_model.proofs.task_networks.Lists.{cut_at, by_push}
use Rattle.schedules.specs.latest.Gaps.{IsPlanOf, IsGapFunction, IsPlaced, passed, gap_in}
use Rattle.schedules.specs.latest.LatestSchedule.{IsFirstReady, IsTurn, IsScheduleOf}
use Rattle.schedules.proofs.latest.Counts.{found, gap_at, filter_kept, filter_left, passed_append, passed_kept}
use Rattle.schedules.proofs.latest.Induced.{processed}

module _ (N : Net) (tree : Tree N) (plan : List Address) (a_plan : IsPlanOf N tree plan) (Allowed : Address → ℕ → Type 0)
    (gap : Address → ℕ) (is_gap : IsGapFunction N tree plan Allowed gap) where
  abbrev Step : List Address → Address → Type 0
  Step taken p = IsFirstReady N tree plan gap taken p ⊎ IsTurn N tree plan gap taken p

  pub step_due : (taken : List Address) (p : Address) → Step taken p → IsDue N tree taken p
  step_due taken p (inl s) = s.ready.due
  step_due taken p (inr s) = s.due

  pub step_gap : (taken : List Address) (p : Address) → Step taken p → gap p ≡ passed N tree plan taken
  step_gap taken p (inl s) = s.ready.here
  step_gap taken p (inr s) = is_gap.own (passed N tree plan taken) p s.number

  pub step_node : (taken : List Address) (p : Address) → Step taken p → IsAddress N tree p
  step_node taken p (inl s) = s.ready.node
  step_node taken p (inr s) = let x = a_plan.leaves p (found plan (passed N tree plan taken) p s.number) in (ran x.0, x.1)

  step_primitives : (taken : List Address) (p : Address) → Step taken p
      → filter (is_listed plan) taken ≡ take (passed N tree plan taken) plan
      → filter (is_listed plan) (taken ++ p ∷ []) ≡ take (passed N tree plan (taken ++ p ∷ [])) plan
  step_primitives taken p (inl s) e =
      let f : filter (is_listed plan) (taken ++ p ∷ []) ≡ filter (is_listed plan) taken = filter-append (is_listed plan) taken (p ∷ []) ∙ ap (λ z. filter (is_listed plan) taken ++ z) (filter_left N tree plan p [] s.ready.other) ∙ append-nil (filter (is_listed plan) taken) in
      f ∙ e ∙ ap (λ z. take z plan) (sym (ap length f))
  step_primitives taken p (inr s) e =
      let c = found plan (passed N tree plan taken) p s.number in
      let f : filter (is_listed plan) (taken ++ p ∷ []) ≡ filter (is_listed plan) taken ++ p ∷ [] = filter-append (is_listed plan) taken (p ∷ []) ∙ ap (λ z. filter (is_listed plan) taken ++ z) (filter_kept N tree plan p [] c) in
      let g = passed_append N tree plan taken (p ∷ []) in
      let h = passed_kept N tree plan p [] c in
      let k : passed N tree plan taken + 1 ≡ passed N tree plan (taken ++ p ∷ []) = omega arith in
      f ∙ ap (λ z. z ++ p ∷ []) e ∙ sym (next_read plan (passed N tree plan taken) (Some p) (sym s.number) p refl) ∙ ap (λ z. take z plan) k

  module _ (order : List Address) (s : IsScheduleOf N tree plan gap order) where
    -- what is passed is a beginning of the plan
    beginning : (taken rest : List Address) → order ≡ taken ++ rest → filter (is_listed plan) taken ≡ take (passed N tree plan taken) plan
    beginning taken = by_push (λ t. (rest : List Address) → order ≡ t ++ rest → filter (is_listed plan) t ≡ take (passed N tree plan t) plan)
        (λ rest e. refl)
        (λ t p h rest e. (let f = e ∙ append_assoc t (p ∷ []) rest in step_primitives t p (s.each t rest p f) (h (p ∷ rest) f)))
        taken

    at_gap : (p : Address) → IsAddress N tree p
        → (taken : List Address) × (rest : List Address) × (order ≡ taken ++ p ∷ rest) × (gap p ≡ passed N tree plan taken)
        × (Contains taken p → ⊥)
    at_gap p a = let (taken, rest, e) = cut_at order p (s.whole p a) in let x = s.each taken rest p e in (taken, rest, e, step_gap taken p x, (step_due taken p x).fresh)

    pub gaps_agree : (p : Address) → IsAddress N tree p → gap_in N tree plan order p ≡ gap p
    gaps_agree p a = let (taken, rest, e, g, n) = at_gap p a in ap (λ z. gap_in N tree plan z p) e ∙ gap_at N tree plan taken rest p n ∙ sym g

    all_passed : length plan ≤ passed N tree plan order
    all_passed = elim (slice_get_cases plan (passed N tree plan order)).1 [
      | inr h ↦ h.0
      | inl (p, l, e, f) ↦ (
          let c = found plan (passed N tree plan order) p e in
          let x = a_plan.leaves p c in
          let (taken, rest, parts, g, n) = at_gap p (ran x.0, x.1) in
          let k = is_gap.own (passed N tree plan order) p e in
          let q = ap (passed N tree plan) parts ∙ passed_append N tree plan taken (p ∷ rest) in
          let r = passed_kept N tree plan p rest c in
          absurd (omega arith))
    ]

    pub is_placed : IsPlaced N tree plan Allowed order
    is_placed = record {
      schedule = record {
        covers = λ p. (
          λ c. (let (taken, rest, e) = cut_at order p c in processed N tree plan a_plan p (step_node taken p (s.each taken rest p e))),
          λ h. s.whole p (h.0, h.1),
        );
        due = λ taken rest p e. step_due taken p (s.each taken rest p e);
      };
      primitives = primitives;
      allowed = λ p a. subst (Allowed p) (sym (gaps_agree p a)) (is_gap.allowed p a);
    }
      where
        e : filter (is_listed plan) order ≡ take (passed N tree plan order) plan
        e = beginning order [] (sym (append-nil order))

        primitives : filter (is_listed plan) order ≡ plan
        primitives = e ∙ take_whole plan (passed N tree plan order) all_passed
          where
            take_whole : {A : Type 0} (xs : List A) (k : ℕ) → length xs ≤ k → take k xs ≡ xs
            take_whole [] zero l = refl
            take_whole [] (suc k) l = refl
            take_whole (x ∷ xs) zero l = absurd (omega arith)
            take_whole (x ∷ xs) (suc k) l = ap (λ z. x ∷ z) (take_whole xs k (omega arith))
