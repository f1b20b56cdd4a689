-- Three children without an order, with four slots: the lowest free slots, and a list that the machine of slots takes and the rule doesn't pick.
use Rattle.std.proofs.Common.{ℕ, zero, suc, ◌≡◌, ◌<◌, ◌≤◌, ◌⊎◌, inl, inr, List, [], ◌∷◌, Some, false, refl, subst, arith}
use Rattle.plan_model.specs.task_networks.Order.{Precedes, direct, through}
use Rattle.plan_model.specs.task_networks.Net.{Net}
use Rattle.plan_model.specs.task_networks.Lawful.{IsLawful, TakesOver}
use Rattle.plan_model.specs.task_networks.Tree.{Tree, split, more, done, none, Address}
use Rattle.plan_model.specs.task_networks.Front.{IsFront}
use Rattle.plan_model.specs.task_networks.Spelling.{Act, run, apply, Spells}
use Rattle.plan_model.proofs.task_networks.Lists.{not-in_empty}
use Rattle.plan_model.proofs.task_networks.SpellingTests.{spells_by, within_by}
use Rattle.plan_model.proofs.task_networks.Tests.{Decides, schedule_iff}
use Rattle.slot_machine.specs.OtherMachine.{TakesAll}
use Rattle.schedules.specs.ruled.SlotRule.{PicksBy}
use Rattle.schedules.specs.ruled.LowestSlots.{AreLowestFree, LowestRule, AreLowest}
use Rattle.schedules.specs.ruled.FirstFreeLaws.{SpellsLowest}
use Rattle.schedules.proofs.ruled.TakesPicked.{none_taken}
use Rattle.schedules.proofs.ruled.FirstFree.{lowest_exactly_where_within, one_lowest_list, lowest_picked}

pub data AnyWork : Type 0 where
  any_t : AnyWork
  any_a : AnyWork
  any_b : AnyWork
  any_c : AnyWork

abbrev IsAnyAction : AnyWork → Type 0
IsAnyAction any_t = ⊥
IsAnyAction w = Unit {0}

abbrev Unordered : ℕ → ℕ → Type 0
Unordered i j = ⊥

-- t -> a, b, c, whose heir is c
abbrev any : Net
any = record {
  Work = AnyWork;
  Method = Unit {0};
  head = λ m. any_t;
  works = λ m. any_a ∷ any_b ∷ any_c ∷ [];
  IsSimple = IsAnyAction;
  IsGround = λ m. Unit {0};
  Pair = λ m. Unordered;
  heir = λ m. Some 2;
  IsCopier = λ m i. i < 2;
}

no_order : (i j : ℕ) → Precedes Unordered i j → ⊥
no_order i j (direct h) = h
no_order i j (through c h) = h

any_lawful : IsLawful any
any_lawful = record {
  pairs = λ m i j h. absurd h;
  acyclic = λ m i h. no_order i i h;
  has_heir = λ m h. (2, refl);
  heir_is_child = λ m i e. (let f : 2 ≡ i = cc in omega arith);
  copier_is_child = λ m i h. omega arith;
  covered = λ m i h. covered i h;
}
  where
    covered : (i : ℕ) → i < 3 → TakesOver any tt i ⊎ ((c : ℕ) × Precedes Unordered i c × TakesOver any tt c)
    covered zero h = inl (inr (omega arith))
    covered (suc zero) h = inl (inr (omega arith))
    covered (suc (suc zero)) h = inl (inl refl)
    covered (suc (suc (suc i))) h = absurd (omega arith)

any_decides : Decides any (λ m i j. false)
any_decides = record { within = λ m i j h. absurd h; order = λ m i j. (λ e. absurd cc, λ h. absurd (no_order i j h)) }

abbrev any_tree : Tree any
any_tree = split tt (more (done any_a) (more (done any_b) (more (done any_c) none)))

-- t, c, b, a
abbrev any_order : List Address
any_order = [] ∷ (2 ∷ []) ∷ (1 ∷ []) ∷ (0 ∷ []) ∷ []

any_front : IsFront any any_t any_tree any_order
any_front = record { grown = (tt, refl, (tt, (tt, (tt, tt)))); root = refl; schedule = (schedule_iff any (λ m i j. false) any_decides any_tree any_order).0 refl }

abbrev low_slot : Address → ℕ
low_slot [] = 1
low_slot (zero ∷ p) = 2
low_slot (suc zero ∷ p) = 3
low_slot (suc (suc i) ∷ p) = 1

abbrev high_slot : Address → ℕ
high_slot [] = 1
high_slot (zero ∷ p) = 3
high_slot (suc zero ∷ p) = 2
high_slot (suc (suc i) ∷ p) = 1

abbrev low_acts : List (Act any)
low_acts = apply 1 (2 ∷ 3 ∷ []) tt ∷ run 1 any_c ∷ run 3 any_b ∷ run 2 any_a ∷ []

abbrev high_acts : List (Act any)
high_acts = apply 1 (3 ∷ 2 ∷ []) tt ∷ run 1 any_c ∷ run 2 any_b ∷ run 3 any_a ∷ []

-- both spell the same schedule
low_spells : Spells any 4 any_t low_acts any_tree any_order low_slot
low_spells = spells_by any 4 any_t low_acts any_tree any_order low_slot any_front refl refl ((refl, refl, refl), ((refl, refl), ((refl, refl), ((refl, refl), tt))))

high_spells : Spells any 4 any_t high_acts any_tree any_order high_slot
high_spells = spells_by any 4 any_t high_acts any_tree any_order high_slot any_front refl refl ((refl, refl, refl), ((refl, refl), ((refl, refl), ((refl, refl), tt))))

-- the second isn't picked: slot 2 is free and lower than 3
high_not_picked : TakesAll any (PicksBy any (LowestRule any) 4 any_t) high_acts → ⊥
high_not_picked t = not-in_empty 2 (t [] (run 1 any_c ∷ run 2 any_b ∷ run 3 any_a ∷ []) (apply 1 (3 ∷ 2 ∷ []) tt) refl [] (2 ∷ []) 3 2 refl (omega arith, omega arith) (omega arith))

high_not_lowest : AreLowest any any_tree high_slot any_order → ⊥
high_not_lowest l = high_not_picked ((lowest_picked any any_lawful 4 any_t high_acts any_tree any_order high_slot high_spells).1 l)

-- the first is
all_taken : (N : Net) (P : List (Act N) → Act N → Type 0) (a : Act N) (acts : List (Act N)) → P [] a
    → TakesAll N (λ taken c. P (a ∷ taken) c) acts → TakesAll N P (a ∷ acts)
all_taken N P a acts h t [] rest c e = subst (P []) (let f : a ≡ c = cc in f) h
all_taken N P a acts h t (x ∷ taken) rest c e = subst (λ z. P (z ∷ taken) c) (let f : a ≡ x = cc in f) (t taken rest c cc)

abbrev Low : List (Act any) → Act any → Type 0
Low = PicksBy any (LowestRule any) 4 any_t

two_three_lowest : AreLowestFree (λ x. (1 < x) × (x ≤ 4)) (2 ∷ 3 ∷ [])
two_three_lowest [] rest x y e f l = absurd (let g : 2 ≡ x = cc in let h = f.0 in omega arith)
two_three_lowest (b ∷ []) rest x y e f l =
    let g : 3 ≡ x = cc in
    let k : 2 ≡ b = cc in
    let h = f.0 in
    (0, omega arith, (let z : b ≡ y = omega arith in z))
two_three_lowest (b ∷ d ∷ []) rest x y e f l = absurd cc
two_three_lowest (b ∷ d ∷ g ∷ before) rest x y e f l = absurd cc

low_picked : TakesAll any Low low_acts
low_picked = all_taken any Low (apply 1 (2 ∷ 3 ∷ []) tt) (run 1 any_c ∷ run 3 any_b ∷ run 2 any_a ∷ []) two_three_lowest
    (all_taken any (λ t c. Low (apply 1 (2 ∷ 3 ∷ []) tt ∷ t) c) (run 1 any_c) (run 3 any_b ∷ run 2 any_a ∷ []) tt
    (all_taken any (λ t c. Low (apply 1 (2 ∷ 3 ∷ []) tt ∷ run 1 any_c ∷ t) c) (run 3 any_b) (run 2 any_a ∷ []) tt
    (all_taken any (λ t c. Low (apply 1 (2 ∷ 3 ∷ []) tt ∷ run 1 any_c ∷ run 3 any_b ∷ t) c) (run 2 any_a) [] tt
    (none_taken any (λ t c. Low (apply 1 (2 ∷ 3 ∷ []) tt ∷ run 1 any_c ∷ run 3 any_b ∷ run 2 any_a ∷ t) c)))))

low_lowest : SpellsLowest any 4 any_t low_acts any_tree any_order low_slot
low_lowest = record { spells = low_spells; lowest = (lowest_picked any any_lawful 4 any_t low_acts any_tree any_order low_slot low_spells).0 low_picked }

-- it is the only one of this schedule
low_alone : (acts : List (Act any)) (slot : Address → ℕ) → SpellsLowest any 4 any_t acts any_tree any_order slot → acts ≡ low_acts
low_alone acts slot s = (one_lowest_list any any_lawful 4 any_t any_tree any_order acts low_acts slot low_slot s low_lowest).0

-- and it fits in three slots
three_fit : (acts : List (Act any)) × (slot : Address → ℕ) × SpellsLowest any 3 any_t acts any_tree any_order slot
three_fit = (lowest_exactly_where_within any any_lawful 3 any_t any_tree any_order any_front).0 (within_by any 3 any_tree any_order refl)
