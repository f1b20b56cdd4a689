-- The machine of slots: which slot holds which work, which is free, and which must wait for which.
-- Source: the translation of Alford et al., "Bound to Plan", ICAPS 2016, with order pairs between slots. Slots count from 1.
use Rattle.std.specs.Prelude.{ℕ, zero, suc, ◌≡◌, ◌<◌, ◌≤◌, ◌⊎◌, List, [], ◌∷◌, Option, Some, None, length, slice_get, Contains}
use Rattle.plan_model.specs.task_networks.Net.{Net, count}
use Rattle.htn_base.specs.Different.{AreDifferent}
use Rattle.plan_model.specs.task_networks.Spelling.{Act, run, apply, others}

-- a slot put into a list at a place
abbrev pub insert_at : ℕ → ℕ → List ℕ → List ℕ
insert_at zero x xs = x ∷ xs
insert_at (suc k) x [] = x ∷ []
insert_at (suc k) x (y ∷ xs) = y ∷ insert_at k x xs

-- the slots of all children: the heir has its task's slot, the others the new ones
abbrev pub with_heir : Option ℕ → ℕ → List ℕ → List ℕ
with_heir None h new = new
with_heir (Some k) h new = insert_at k h new

module _ (N : Net) where
  pub record SlotState : Type 1 where
    -- slot x holds the work
    pub holds : ℕ → N.Work → Type 0
    pub free : ℕ → Type 0
    -- what slot y holds waits for what slot x holds
    pub before : ℕ → ℕ → Type 0

  -- slot 1 holds the top work, slots 2 to b are free
  abbrev pub start : ℕ → N.Work → SlotState
  start b top = record {
    holds = λ x w. (x ≡ 1) × (w ≡ top);
    free = λ x. (1 < x) × (x ≤ b);
    before = λ x y. ⊥;
  }

  -- what is at slot h waits for none
  abbrev pub IsUnblocked : SlotState → ℕ → Type 0
  IsUnblocked s h = (x : ℕ) → s.before x h → ⊥

  pub record MayRun (s : SlotState) (h : ℕ) (w : N.Work) : Type 0 where
    pub holds : s.holds h w
    pub simple : N.IsSimple w
    pub unblocked : IsUnblocked s h

  pub record MayApply (s : SlotState) (h : ℕ) (new : List ℕ) (m : N.Method) : Type 0 where
    pub holds : s.holds h (N.head m)
    pub ground : N.IsGround m
    pub unblocked : IsUnblocked s h
    pub enough : length new ≡ length (others N m)
    pub free : (x : ℕ) → Contains new x → s.free x
    pub apart : AreDifferent new

  abbrev pub May : SlotState → Act N → Type 0
  May s (run h w) = MayRun s h w
  May s (apply h new m) = MayApply s h new m

  -- the slot of child i is x
  abbrev pub IsSlotOf : ℕ → List ℕ → N.Method → ℕ → ℕ → Type 0
  IsSlotOf h new m i x = slice_get (with_heir (N.heir m) h new) i ≡ Some x

  -- what was at h is gone, and the children are in their slots
  abbrev pub after_act : SlotState → Act N → SlotState
  after_act s (run h w) = record {
    holds = λ x v. s.holds x v × ((x ≡ h) × (v ≡ w) → ⊥);
    free = λ x. s.free x ⊎ (x ≡ h);
    before = λ x y. s.before x y × (x ≡ h → ⊥);
  }
  after_act s (apply h new m) = record {
    holds = λ x v. (s.holds x v × ((x ≡ h) × (v ≡ N.head m) → ⊥)) ⊎ ((i : ℕ) × IsSlotOf h new m i x × (slice_get (N.works m) i ≡ Some v));
    free = λ x. (s.free x × ((i : ℕ) → IsSlotOf h new m i x → ⊥)) ⊎ ((count N m ≡ 0) × (x ≡ h));
    before = λ x y. (s.before x y × ((count N m ≡ 0) × (x ≡ h) → ⊥))
        ⊎ (((i : ℕ) × (j : ℕ) × N.Pair m i j × IsSlotOf h new m i x × IsSlotOf h new m j y)
        ⊎ ((i : ℕ) × N.IsCopier m i × IsSlotOf h new m i x × s.before h y));
  }

  abbrev pub Runs : SlotState → List (Act N) → Type 0
  Runs s [] = Unit {0}
  Runs s (a ∷ acts) = May s a × Runs (after_act s a) acts

  abbrev pub end_of : SlotState → List (Act N) → SlotState
  end_of s [] = s
  end_of s (a ∷ acts) = end_of (after_act s a) acts
