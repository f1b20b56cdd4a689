-- A latest schedule, worked out: t -> u, a without an order, and u -> nothing. The plan is a.
-- u may stand before a or after it; in the latest schedule it stands after.
use Rattle.std.proofs.Common.{ℕ, zero, suc, ◌≡◌, ◌≤◌, ◌⊎◌, inl, inr, List, [], ◌∷◌, ◌++◌, slice_get, Some, None, false, refl, subst, Contains, arith}
use Rattle.plan_model.specs.task_networks.Order.{Precedes, direct, through}
use Rattle.plan_model.specs.task_networks.Net.{Net}
use Rattle.plan_model.specs.task_networks.Tree.{Tree, split, done, none, more, ran, used, waits, Address, IsAddress, IsOpen, IsProcessed, label_at}
use Rattle.plan_model.specs.task_networks.Schedule.{Blocks, IsBegun, IsDue}
use Rattle.plan_model.specs.task_networks.Listed.{is_listed}
use Rattle.plan_model.proofs.task_networks.Lists.{head_or_tail, not-in_empty}
use Rattle.plan_model.proofs.task_networks.Nodes.{lists_address}
use Rattle.plan_model.proofs.task_networks.PendingNodes.{to_among}
use Rattle.schedules.proofs.latest.OnlyOne.{schedule_is_the_only_one, same_gaps, latest_is_the_only_one}
use Rattle.schedules.specs.latest.Gaps.{IsPlanOf, IsGapFunction, IsLatest, IsPlaced, gap_in}
use Rattle.schedules.specs.latest.LatestSchedule.{IsReady, IsFirstReady, IsTurn, IsScheduleOf, IsLatestSchedule}

pub data Work : Type 0 where
  t : Work
  u : Work
  a : Work

pub data Method : Type 0 where
  of_t : Method
  of_u : Method

abbrev pub head_of : Method → Work
head_of of_t = t
head_of of_u = u

abbrev pub works : Method → List Work
works of_t = u ∷ a ∷ []
works of_u = []

abbrev pub IsAction : Work → Type 0
IsAction a = Unit {0}
IsAction w = ⊥

abbrev pub idle : Net
idle = record {
  Work = Work;
  Method = Method;
  head = head_of;
  works = works;
  IsSimple = IsAction;
  IsGround = λ m. Unit {0};
  Pair = λ m i j. ⊥;
  heir = λ m. None;
  IsCopier = λ m i. ⊥;
}

abbrev pub tree : Tree idle
tree = split of_t (more (split of_u none) (more (done a) none))

abbrev plan : List Address
plan = (1 ∷ []) ∷ []

abbrev Allowed : Address → ℕ → Type 0
Allowed p i = Unit {0}

-- the three nodes
three : (P : Address → Type 0) → P [] → P (0 ∷ []) → P (1 ∷ []) → (p : Address) → IsAddress idle tree p → P p
three P x y z p n = elim (head_or_tail [] ((0 ∷ []) ∷ (1 ∷ []) ∷ []) p (lists_address idle tree p n)) [
  | inl e ↦ subst P e x
  | inr c ↦ elim (head_or_tail (0 ∷ []) ((1 ∷ []) ∷ []) p c) [
    | inl e ↦ subst P e y
    | inr d ↦ elim (head_or_tail (1 ∷ []) [] p d) [ inl e ↦ subst P e z | inr f ↦ absurd (not-in_empty p f) ]
  ]
]

nothing_precedes : (m : Method) (i j : ℕ) → Precedes (idle.Pair m) i j → ⊥
nothing_precedes m i j (direct h) = h
nothing_precedes m i j (through c h) = h

nothing_blocks : (v w : Address) → Blocks idle tree v w → ⊥
nothing_blocks v [] b = b
nothing_blocks v (j ∷ q) (m, i, e, h, b) = nothing_precedes m i j h

abbrev gap : Address → ℕ
gap (zero ∷ []) = 1
gap p = 0

is_gap : IsGapFunction idle tree plan Allowed gap
is_gap = record {
  range = λ p n. three (λ p. gap p ≤ 1) (omega arith) (omega arith) (omega arith) p n;
  own = numbered;
  children = λ i p n. three (λ q. (j : ℕ) (r : Address) → q ≡ j ∷ r → gap r ≤ gap q) (λ j r e. absurd cc) (λ j r e. at_root r (let f : [] ≡ r = cc in f) 1) (λ j r e. at_root r (let f : [] ≡ r = cc in f) 0) (i ∷ p) n i p refl;
  before = λ v w m n b. absurd (nothing_blocks v w b);
  primitive_before = λ v w m n b. absurd (nothing_blocks v w b);
  allowed = λ p n. tt;
}
  where
    at_root : (r : Address) → [] ≡ r → (k : ℕ) → gap r ≤ k
    at_root r e k = subst (λ z. gap z ≤ k) e (omega arith)

    numbered : (i : ℕ) (p : Address) → slice_get plan i ≡ Some p → gap p ≡ i
    numbered zero p e = let f : 1 ∷ [] ≡ p = cc in subst (λ p. gap p ≡ 0) f refl
    numbered (suc i) p e = absurd cc

is_latest : IsLatest idle tree plan Allowed gap
is_latest = record {
  is = is_gap;
  greatest = λ g r. three (λ p. g p ≤ gap p)
      (let x = r.own 0 (1 ∷ []) refl in let y = r.children 1 [] (ran a, refl) in omega arith)
      (r.range (0 ∷ []) (used of_u, refl))
      (let x = r.own 0 (1 ∷ []) refl in omega arith);
}

abbrev order : List Address
order = [] ∷ (1 ∷ []) ∷ (0 ∷ []) ∷ []

-- u before a is no latest schedule
abbrev early : List Address
early = [] ∷ (0 ∷ []) ∷ (1 ∷ []) ∷ []

u_stands_at_one : gap_in idle tree plan order (0 ∷ []) ≡ 1
u_stands_at_one = refl

u_stands_at_zero : gap_in idle tree plan early (0 ∷ []) ≡ 0
u_stands_at_zero = refl

a_plan : IsPlanOf idle tree plan
a_plan = record {
  finished = λ p o. three (λ q. IsOpen idle tree q → ⊥) (λ x. (let e = x.1 in cc)) (λ x. (let e = x.1 in cc)) (λ x. (let e = x.1 in cc)) p (waits o.0, o.1) o;
  different = (not-in_empty (1 ∷ []), tt);
  leaves = λ p c. elim (head_or_tail (1 ∷ []) [] p c) [ inl e ↦ subst (λ q. (w : Work) × (label_at idle tree q ≡ Some (ran w))) e (a, refl) | inr d ↦ absurd (not-in_empty p d) ];
}

-- a cut of a list of three
three_cuts : (x y z : Address) (P : List Address → Address → Type 0) → P [] x → P (x ∷ []) y → P (x ∷ y ∷ []) z
    → (taken rest : List Address) (p : Address) → x ∷ y ∷ z ∷ [] ≡ taken ++ p ∷ rest → P taken p
three_cuts x y z P f g h [] rest p e = subst (P []) (let k : x ≡ p = cc in k) f
three_cuts x y z P f g h (b ∷ []) rest p e = subst (λ t. P (t ∷ []) p) (let k : x ≡ b = cc in k) (subst (P (x ∷ [])) (let k : y ≡ p = cc in k) g)
three_cuts x y z P f g h (b ∷ c ∷ []) rest p e = subst (λ t. P (t ∷ c ∷ []) p) (let k : x ≡ b = cc in k) (subst (λ t. P (x ∷ t ∷ []) p) (let k : y ≡ c = cc in k) (subst (P (x ∷ y ∷ [])) (let k : z ≡ p = cc in k) h))
three_cuts x y z P f g h (b ∷ c ∷ d ∷ []) rest p e = absurd cc
three_cuts x y z P f g h (b ∷ c ∷ d ∷ k ∷ taken) rest p e = absurd cc

not_among : (xs : List Address) (p : Address) → is_listed xs p ≡ false → Contains xs p → ⊥
not_among xs p e c = let f = to_among xs p c in cc

due : (taken : List Address) (p : Address) → is_listed taken p ≡ false → IsBegun taken p → IsDue idle tree taken p
due taken p e b = record { fresh = not_among taken p e; begun = b; clear = λ v n c. absurd (nothing_blocks v p c) }

-- t first, then a, as u isn't ready in gap 0, then u
is_schedule : IsScheduleOf idle tree plan gap order
is_schedule = record {
  whole = three (Contains order) (0, omega arith, refl) (2, omega arith, refl) (1, omega arith, refl);
  each = three_cuts [] (1 ∷ []) (0 ∷ []) (λ taken p. IsFirstReady idle tree plan gap taken p ⊎ IsTurn idle tree plan gap taken p)
      (inl (record { ready = record { node = (used of_t, refl); other = not_among plan [] refl; here = refl; due = due [] [] refl tt }; before = []; after = (0 ∷ []) ∷ (1 ∷ []) ∷ []; parts = refl; none = λ q c. absurd (not-in_empty q c) }))
      (inr (record {
        number = refl;
        due = due ([] ∷ []) (1 ∷ []) refl (0, omega arith, refl);
        none = λ q r. three (λ z. IsReady idle tree plan gap ([] ∷ []) z → ⊥) (λ x. x.due.fresh (0, omega arith, refl)) (λ x. (let e = x.here in omega arith)) (λ x. x.other (0, omega arith, refl)) q r.node r;
      }))
      (inl (record {
        ready = record { node = (used of_u, refl); other = not_among plan (0 ∷ []) refl; here = refl; due = due ([] ∷ (1 ∷ []) ∷ []) (0 ∷ []) refl (0, omega arith, refl) };
        before = [] ∷ [];
        after = (1 ∷ []) ∷ [];
        parts = refl;
        none = λ q c r. elim (head_or_tail [] [] q c) [ inl e ↦ (let f = subst (Contains ([] ∷ (1 ∷ []) ∷ [])) e (0, omega arith, refl) in r.due.fresh f) | inr d ↦ not-in_empty q d ];
      }));
}

is_latest_schedule : IsLatestSchedule idle tree plan Allowed order
is_latest_schedule = record { gap = gap; latest = is_latest; schedule = is_schedule }

early_is_placed : IsPlaced idle tree plan Allowed early
early_is_placed = record {
  schedule = record {
    covers = λ p. (
      λ c. elim (head_or_tail [] ((0 ∷ []) ∷ (1 ∷ []) ∷ []) p c) [
        | inl e ↦ subst (IsProcessed idle tree) e (used of_t, refl, tt)
        | inr d ↦ elim (head_or_tail (0 ∷ []) ((1 ∷ []) ∷ []) p d) [
          | inl e ↦ subst (IsProcessed idle tree) e (used of_u, refl, tt)
          | inr f ↦ elim (head_or_tail (1 ∷ []) [] p f) [ inl e ↦ subst (IsProcessed idle tree) e (ran a, refl, tt) | inr g ↦ absurd (not-in_empty p g) ]
        ]
      ],
      λ h. three (Contains early) (0, omega arith, refl) (1, omega arith, refl) (2, omega arith, refl) p (h.0, h.1),
    );
    due = three_cuts [] (0 ∷ []) (1 ∷ []) (IsDue idle tree) (due [] [] refl tt) (due ([] ∷ []) (0 ∷ []) refl (0, omega arith, refl)) (due ([] ∷ (0 ∷ []) ∷ []) (1 ∷ []) refl (0, omega arith, refl));
  };
  primitives = refl;
  allowed = λ p n. tt;
}

early_is_not_latest : IsLatestSchedule idle tree plan Allowed early → ⊥
early_is_not_latest s =
    let e = schedule_is_the_only_one idle tree plan a_plan Allowed s.gap s.latest.is early order s.schedule (same_gaps idle tree plan a_plan Allowed gap s.gap is_gap s.latest.is (latest_is_the_only_one idle tree plan Allowed gap s.gap is_latest s.latest) order is_schedule) in
    cc
