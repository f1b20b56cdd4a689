-- One latest gap function on the nodes, and one schedule of a gap function.
use Rattle.std.proofs.Common.{ℕ, ◌≡◌, ◌⊎◌, inl, inr, List, [], ◌∷◌, ◌++◌, refl, sym, subst, ◌∙◌, Contains, append_assoc, append-nil, arith}
use Rattle.plan_model.specs.task_networks.Net.{Net}
use Rattle.plan_model.specs.task_networks.Tree.{Tree, Address, IsAddress}
use Rattle.plan_model.proofs.task_networks.Lists.{Contains-later}
use Rattle.schedules.specs.latest.Gaps.{IsPlanOf, IsGapFunction, IsLatest}
use Rattle.schedules.specs.latest.LatestSchedule.{IsReady, IsFirstReady, IsTurn, IsScheduleOf}
use Rattle.schedules.proofs.latest.Placed.{step_due, step_node}

-- two cuts of a list
two_cuts : {A : Type 0} (xs ys zs ws : List A) (x y : A) → xs ++ x ∷ ys ≡ zs ++ y ∷ ws → (x ≡ y) ⊎ (Contains zs x ⊎ Contains xs y)
two_cuts [] ys [] ws x y e = inl cc
two_cuts [] ys (z ∷ zs) ws x y e = inr (inl (let f : z ≡ x = cc in (0, omega arith, f)))
two_cuts (v ∷ xs) ys [] ws x y e = inr (inr (let f : v ≡ y = cc in (0, omega arith, f)))
two_cuts (v ∷ xs) ys (z ∷ zs) ws x y e = elim (two_cuts xs ys zs ws x y cc) [
  | inl f ↦ inl f
  | inr (inl c) ↦ inr (inl (Contains-later z zs x c))
  | inr (inr c) ↦ inr (inr (Contains-later v xs y c))
]

pub latest_is_the_only_one : (N : Net) (tree : Tree N) (plan : List Address) (Allowed : Address → ℕ → Type 0) (g h : Address → ℕ)
    → IsLatest N tree plan Allowed g → IsLatest N tree plan Allowed h → (p : Address) → IsAddress N tree p → g p ≡ h p
latest_is_the_only_one N tree plan Allowed g h a b p n = let x = a.greatest h b.is p n in let y = b.greatest g a.is p n in omega arith

module _ (N : Net) (tree : Tree N) (plan : List Address) (a_plan : IsPlanOf N tree plan) (Allowed : Address → ℕ → Type 0) where
  module _ (gap : Address → ℕ) (is_gap : IsGapFunction N tree plan Allowed gap) where
    abbrev Step : List Address → Address → Type 0
    Step taken p = IsFirstReady N tree plan gap taken p ⊎ IsTurn N tree plan gap taken p

    next_same : (taken : List Address) (p q : Address) → Step taken p → Step taken q → p ≡ q
    next_same taken p q (inl a) (inl b) = elim (two_cuts a.before a.after b.before b.after p q (sym a.parts ∙ b.parts)) [
      | inl e ↦ e
      | inr (inl c) ↦ absurd (b.none p c a.ready)
      | inr (inr c) ↦ absurd (a.none q c b.ready)
    ]
    next_same taken p q (inl a) (inr b) = absurd (b.none p a.ready)
    next_same taken p q (inr a) (inl b) = absurd (a.none q b.ready)
    next_same taken p q (inr a) (inr b) = let x = a.number in let y = b.number in cc

    nothing_left : (taken rest : List Address) (p : Address) → IsScheduleOf N tree plan gap taken
        → IsScheduleOf N tree plan gap (taken ++ p ∷ rest) → ⊥
    nothing_left taken rest p a b = let s = b.each taken rest p refl in (step_due N tree plan a_plan Allowed gap is_gap taken p s).fresh (a.whole p (step_node N tree plan a_plan Allowed gap is_gap taken p s))

    go_on : (taken xs ys : List Address) → IsScheduleOf N tree plan gap (taken ++ xs) → IsScheduleOf N tree plan gap (taken ++ ys) → xs ≡ ys
    go_on taken [] [] a b = refl
    go_on taken [] (y ∷ ys) a b = absurd (nothing_left taken ys y (subst (IsScheduleOf N tree plan gap) (append-nil taken) a) b)
    go_on taken (x ∷ xs) [] a b = absurd (nothing_left taken xs x (subst (IsScheduleOf N tree plan gap) (append-nil taken) b) a)
    go_on taken (x ∷ xs) (y ∷ ys) a b =
        let e : x ≡ y = next_same taken x y (a.each taken xs x refl) (b.each taken ys y refl) in
        let r : xs ≡ ys = go_on (taken ++ x ∷ []) xs ys (subst (IsScheduleOf N tree plan gap) (sym (append_assoc taken (x ∷ []) xs)) a) (subst (IsScheduleOf N tree plan gap) (sym (append_assoc taken (x ∷ []) ys)) (subst (λ z. IsScheduleOf N tree plan gap (taken ++ z ∷ ys)) (sym e) b)) in
        cc

    pub schedule_is_the_only_one : (order other : List Address) → IsScheduleOf N tree plan gap order → IsScheduleOf N tree plan gap other
        → order ≡ other
    schedule_is_the_only_one order other a b = go_on [] order other a b

  -- gap functions that are the same on the nodes have the same schedules
  module _ (g h : Address → ℕ) (is_g : IsGapFunction N tree plan Allowed g) (is_h : IsGapFunction N tree plan Allowed h)
      (same : (p : Address) → IsAddress N tree p → g p ≡ h p) where
    ready_to : (taken : List Address) (p : Address) → IsReady N tree plan g taken p → IsReady N tree plan h taken p
    ready_to taken p r = record { node = r.node; other = r.other; here = sym (same p r.node) ∙ r.here; due = r.due }

    ready_back : (taken : List Address) (p : Address) → IsReady N tree plan h taken p → IsReady N tree plan g taken p
    ready_back taken p r = record { node = r.node; other = r.other; here = same p r.node ∙ r.here; due = r.due }

    pub same_gaps : (order : List Address) → IsScheduleOf N tree plan g order → IsScheduleOf N tree plan h order
    same_gaps order s = record { whole = s.whole; each = λ taken rest p e. step taken p (s.each taken rest p e) }
      where
        step : (taken : List Address) (p : Address) → IsFirstReady N tree plan g taken p ⊎ IsTurn N tree plan g taken p
            → IsFirstReady N tree plan h taken p ⊎ IsTurn N tree plan h taken p
        step taken p (inl x) = inl (record { ready = ready_to taken p x.ready; before = x.before; after = x.after; parts = x.parts; none = λ q c r. x.none q c (ready_back taken q r) })
        step taken p (inr x) = inr (record { number = x.number; due = x.due; none = λ q r. x.none q (ready_back taken q r) })
