-- Four machines that are wrong, each with a run that spells nothing or a spelled schedule that doesn't run.
use Rattle.std.proofs.Common.{ℕ, zero, suc, ◌≡◌, ◌<◌, ◌≤◌, ◌⊎◌, inl, inr, List, [], ◌∷◌, length, slice_get, Some, refl, sym, subst, Contains, arith}
use Rattle.plan_model.specs.task_networks.Net.{Net, count}
use Rattle.plan_model.specs.task_networks.Lawful.{IsLawful}
use Rattle.plan_model.specs.task_networks.Tree.{Tree, split, more, done, none, Address}
use Rattle.htn_base.specs.Different.{AreDifferent}
use Rattle.plan_model.specs.task_networks.Spelling.{Act, run, apply, Spells}
use Rattle.plan_model.proofs.task_networks.examples.Nets.{tail, chain, ChainPair, of_t, of_x, chain_q, chain_y, chain_t, chain_lawful, chain_p, chain_precedes, chain_decides, no_chain, tail_t, tail_works, TailPair, again, tail_a, tail_lawful}
use Rattle.plan_model.proofs.task_networks.Lists.{head_or_tail, not-in_empty}
use Rattle.plan_model.proofs.task_networks.SpellingTests.{spells_by}
use Rattle.plan_model.proofs.task_networks.Tests.{schedule_iff}
use Rattle.slot_machine.specs.Machine.{SlotState, after_act, IsSlotOf, May, start, MayRun, IsUnblocked}
use Rattle.slot_machine.specs.Laws.{SpellsFront}
use Rattle.slot_machine.proofs.RunSpellings.{runs_iff_spells}

-- another machine over the same states
record Machine (N : Net) : Type 1 where
  may : SlotState N → Act N → Type 0
  step : SlotState N → Act N → SlotState N

abbrev RunsOf : (N : Net) → Machine N → SlotState N → List (Act N) → Type 0
RunsOf N machine s [] = Unit {0}
RunsOf N machine s (a ∷ acts) = machine.may s a × RunsOf N machine (machine.step s a) acts

same_number : (x y : ℕ) → Some x ≡ Some y → x ≡ y
same_number x y e = cc

-- x alone is in the list
only : (x y : ℕ) → Contains (x ∷ []) y → x ≡ y
only x y c = elim (head_or_tail x [] y c) [ inl e ↦ e | inr d ↦ absurd (not-in_empty y d) ]

-- no pairs are copied: p isn't before y once x is split, and y runs too early
module _ where
  abbrev step_without_copies : SlotState chain → Act chain → SlotState chain
  step_without_copies s (run h w) = after_act chain s (run h w)
  step_without_copies s (apply h new m) = record (after_act chain s (apply h new m)) {
    before = λ x y. (s.before x y × ((count chain m ≡ 0) × (x ≡ h) → ⊥)) ⊎ ((i : ℕ) × (j : ℕ) × ChainPair m i j × IsSlotOf chain h new m i x × IsSlotOf chain h new m j y);
  }

  abbrev no_copied_pairs : Machine chain
  no_copied_pairs = record { may = May chain; step = step_without_copies }

  abbrev early_acts : List (Act chain)
  early_acts = apply 1 (2 ∷ []) of_t ∷ apply 2 (3 ∷ []) of_x ∷ run 2 chain_q ∷ run 1 chain_y ∷ []

  abbrev first : SlotState chain
  first = start chain 3 chain_t

  abbrev second : SlotState chain
  second = step_without_copies first (apply 1 (2 ∷ []) of_t)

  abbrev third : SlotState chain
  third = step_without_copies second (apply 2 (3 ∷ []) of_x)

  -- the one pair is from slot 2 to slot 1
  one_pair : (x y : ℕ) → second.before x y → (x ≡ 2) × (y ≡ 1)
  one_pair x y (inl b) = absurd b.0
  one_pair x y (inr (zero, zero, p, e, f)) = absurd p
  one_pair x y (inr (zero, suc zero, p, e, f)) = (sym (same_number 2 x e), sym (same_number 1 y f))
  one_pair x y (inr (zero, suc (suc j), p, e, f)) = absurd p
  one_pair x y (inr (suc i, j, p, e, f)) = absurd p

  same_pair : (x y : ℕ) → third.before x y → (x ≡ 2) × (y ≡ 1)
  same_pair x y (inl b) = one_pair x y b.0
  same_pair x y (inr b) = absurd b.2

  free_three : (i : ℕ) → IsSlotOf chain 1 (2 ∷ []) of_t i 3 → ⊥
  free_three zero e = let f = same_number 2 3 e in omega arith
  free_three (suc zero) e = let f = same_number 1 3 e in omega arith
  free_three (suc (suc i)) e = absurd cc

  early_runs : RunsOf chain no_copied_pairs first early_acts
  early_runs = (
    record { holds = (refl, refl); ground = tt; unblocked = λ x b. b; enough = refl; free = λ x c. (let e = only 2 x c in (omega arith, omega arith)); apart = (not-in_empty 2, tt) },
    (
      record {
        holds = inr (0, refl, refl);
        ground = tt;
        unblocked = λ x b. (let e = (one_pair x 2 b).1 in omega arith);
        enough = refl;
        free = λ x c. inl (subst (λ z. (1 < z) × (z ≤ 3)) (only 3 x c) (omega arith, omega arith), λ i f. free_three i (subst (IsSlotOf chain 1 (2 ∷ []) of_t i) (sym (only 3 x c)) f));
        apart = (not-in_empty 3, tt);
      },
      (
        record { holds = inr (1, refl, refl); simple = tt; unblocked = λ x b. (let e = (same_pair x 2 b).1 in omega arith) },
        (
          record {
            holds = (inl (inr (1, refl, refl), λ e. (let f = e.0 in omega arith)), λ e. (let f = e.0 in omega arith));
            simple = tt;
            unblocked = λ x b. b.1 (same_pair x 1 b.0).0;
          },
          tt,
        ),
      ),
    ),
  )

  -- the right machine refuses y, which p in slot 3 stands before
  early_spells_nothing : SpellsFront chain 3 chain_t early_acts → ⊥
  early_spells_nothing f =
      let r = (runs_iff_spells chain chain_lawful 3 chain_t (omega arith) early_acts).1 f in
      r.1.1.1.0.unblocked 3 (inr (inr (0, refl, refl, inr (inl (0, 1, tt, refl, refl)))), λ e. omega arith)

-- pairs stay when a slot is freed: y waits for ever
module _ where
  abbrev step_without_clearing : SlotState chain → Act chain → SlotState chain
  step_without_clearing s (run h w) = record (after_act chain s (run h w)) { before = s.before }
  step_without_clearing s (apply h new m) = after_act chain s (apply h new m)

  abbrev pairs_stay : Machine chain
  pairs_stay = record { may = May chain; step = step_without_clearing }

  abbrev chain_tree : Tree chain
  chain_tree = split of_t (more (split of_x (more (done chain_p) (more (done chain_q) none))) (more (done chain_y) none))

  abbrev chain_order : List Address
  chain_order = [] ∷ (0 ∷ []) ∷ (0 ∷ 0 ∷ []) ∷ (1 ∷ 0 ∷ []) ∷ (1 ∷ []) ∷ []

  abbrev chain_slot : Address → ℕ
  chain_slot [] = 1
  chain_slot (zero ∷ []) = 2
  chain_slot (zero ∷ i ∷ p) = 3
  chain_slot (suc j ∷ []) = 1
  chain_slot (suc j ∷ i ∷ p) = 2

  abbrev chain_acts : List (Act chain)
  chain_acts = apply 1 (2 ∷ []) of_t ∷ apply 2 (3 ∷ []) of_x ∷ run 3 chain_p ∷ run 2 chain_q ∷ run 1 chain_y ∷ []

  chain_spelled : Spells chain 3 chain_t chain_acts chain_tree chain_order chain_slot
  chain_spelled = spells_by chain 3 chain_t chain_acts chain_tree chain_order chain_slot
      (record { grown = (tt, refl, ((tt, refl, (tt, (tt, tt))), (tt, tt))); root = refl; schedule = (schedule_iff chain chain_precedes chain_decides chain_tree chain_order).0 refl })
      refl refl ((refl, refl, refl), ((refl, refl, refl), ((refl, refl), ((refl, refl), ((refl, refl), tt)))))

  chain_does_not_run : RunsOf chain pairs_stay (start chain 3 chain_t) chain_acts → ⊥
  chain_does_not_run r = r.1.1.1.1.0.unblocked 2 (inl (inr (inl (0, 1, tt, refl, refl)), λ e. (let f = e.0 in omega arith)))

-- three: t -> a, b, c without an order
module _ where
  data ThreeWork : Type 0 where
    three_t : ThreeWork
    three_a : ThreeWork
    three_b : ThreeWork
    three_c : ThreeWork

  abbrev IsThreeAction : ThreeWork → Type 0
  IsThreeAction three_t = ⊥
  IsThreeAction w = Unit {0}

  abbrev three : Net
  three = record {
    Work = ThreeWork;
    Method = Unit {0};
    head = λ m. three_t;
    works = λ m. three_a ∷ three_b ∷ three_c ∷ [];
    IsSimple = IsThreeAction;
    IsGround = λ m. Unit {0};
    Pair = λ m i j. ⊥;
    heir = λ m. Some 2;
    IsCopier = λ m i. i < 2;
  }

  three_lawful : IsLawful three
  three_lawful = record {
    pairs = λ m i j h. absurd h;
    acyclic = λ m i c. no_chain {Pair = λ i j. ⊥} (λ i j k h g. h) i i c;
    has_heir = λ m l. (2, refl);
    heir_is_child = λ m i e. (let f : 2 ≡ i = cc in omega arith);
    copier_is_child = λ m i l. omega arith;
    covered = λ m i l. inl (covered i l);
  }
    where
      covered : (i : ℕ) → i < 3 → (Some 2 ≡ Some i) ⊎ (i < 2)
      covered zero l = inr (omega arith)
      covered (suc zero) l = inr (omega arith)
      covered (suc (suc zero)) l = inl refl
      covered (suc (suc (suc i))) l = absurd (omega arith)

  -- new slots may be named twice
  abbrev MayTwice : SlotState three → Act three → Type 0
  MayTwice s (run h w) = MayRun three s h w
  MayTwice s (apply h new m) = s.holds h three_t × IsUnblocked three s h × (length new ≡ 2) × ((x : ℕ) → Contains new x → s.free x)

  abbrev slots_may_coincide : Machine three
  slots_may_coincide = record { may = MayTwice; step = after_act three }

  abbrev twice_acts : List (Act three)
  twice_acts = apply 1 (2 ∷ 2 ∷ []) tt ∷ []

  twice_runs : RunsOf three slots_may_coincide (start three 3 three_t) twice_acts
  twice_runs = (((refl, refl), λ x b. b, refl, λ x c. elim (head_or_tail 2 (2 ∷ []) x c) [ inl e ↦ (omega arith, omega arith) | inr d ↦ (let e = only 2 x d in (omega arith, omega arith)) ]), tt)

  twice_spells_nothing : SpellsFront three 3 three_t twice_acts → ⊥
  twice_spells_nothing f = ((runs_iff_spells three three_lawful 3 three_t (omega arith) twice_acts).1 f).0.apart.0 (0, omega arith, refl)

-- the heir has a new slot, as all children: what is spelled has one new slot too few, and its own slot is freed
module _ where
  abbrev MayMove : SlotState tail → Act tail → Type 0
  MayMove s (run h w) = MayRun tail s h w
  MayMove s (apply h new m) = s.holds h tail_t × IsUnblocked tail s h × (length new ≡ count tail m) × ((x : ℕ) → Contains new x → s.free x) × AreDifferent new

  abbrev step_moved : SlotState tail → Act tail → SlotState tail
  step_moved s (run h w) = after_act tail s (run h w)
  step_moved s (apply h new m) = record {
    holds = λ x v. (s.holds x v × ((x ≡ h) × (v ≡ tail_t) → ⊥)) ⊎ ((i : ℕ) × (slice_get new i ≡ Some x) × (slice_get (tail_works m) i ≡ Some v));
    free = λ x. (s.free x × (Contains new x → ⊥)) ⊎ (x ≡ h);
    before = λ x y. (s.before x y × (x ≡ h → ⊥)) ⊎ ((i : ℕ) × (j : ℕ) × TailPair m i j × (slice_get new i ≡ Some x) × (slice_get new j ≡ Some y));
  }

  abbrev heir_moves : Machine tail
  heir_moves = record { may = MayMove; step = step_moved }

  abbrev moved_acts : List (Act tail)
  moved_acts = apply 1 (2 ∷ 3 ∷ []) again ∷ run 2 tail_a ∷ []

  moved_runs : RunsOf tail heir_moves (start tail 3 tail_t) moved_acts
  moved_runs = (
    ((refl, refl), λ x b. b, refl, free, (λ c. (let e = only 3 2 c in omega arith), (not-in_empty 3, tt))),
    (record { holds = inr (0, refl, refl); simple = tt; unblocked = unblocked }, tt),
  )
    where
      free : (x : ℕ) → Contains {X = ℕ} (2 ∷ 3 ∷ []) x → (1 < x) × (x ≤ 3)
      free x c = elim (head_or_tail 2 (3 ∷ []) x c) [ inl e ↦ (omega arith, omega arith) | inr d ↦ (let e = only 3 x d in (omega arith, omega arith)) ]

      unblocked : (x : ℕ) → (step_moved (start tail 3 tail_t) (apply 1 (2 ∷ 3 ∷ []) again)).before x 2 → ⊥
      unblocked x (inl b) = b.0
      unblocked x (inr (zero, zero, p, e, f)) = p
      unblocked x (inr (zero, suc zero, p, e, f)) = let g = same_number 3 2 f in omega arith
      unblocked x (inr (zero, suc (suc j), p, e, f)) = p
      unblocked x (inr (suc i, j, p, e, f)) = p

  moved_spells_nothing : SpellsFront tail 3 tail_t moved_acts → ⊥
  moved_spells_nothing f = let e = ((runs_iff_spells tail tail_lawful 3 tail_t (omega arith) moved_acts).1 f).0.enough in omega arith
