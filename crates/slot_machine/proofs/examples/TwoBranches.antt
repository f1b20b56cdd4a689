-- Runs of the machine, worked out.
use Rattle.std.proofs.Common.{ℕ, zero, suc, ◌≡◌, ◌<◌, ◌⊎◌, inl, inr, List, [], ◌∷◌, Some, Bool, false, true, refl, sym, subst, arith}
use Rattle.plan_model.specs.task_networks.Order.{direct, Precedes}
use Rattle.plan_model.specs.task_networks.Net.{Net, count}
use Rattle.plan_model.specs.task_networks.Lawful.{IsLawful}
use Rattle.plan_model.specs.task_networks.Tree.{Tree, split, more, done, none, Address, used, open_leaf, label_at}
use Rattle.plan_model.specs.task_networks.Schedule.{Blocks}
use Rattle.plan_model.specs.task_networks.Front.{IsFront}
use Rattle.plan_model.specs.task_networks.Spelling.{Act, apply, run, Spells}
use Rattle.plan_model.proofs.task_networks.examples.Nets.{of_t, of_x, no_chain, chain, chain_y, chain_t, chain_x, ChainMethod, ChainPair, first_then_second, first_then_second_iff}
use Rattle.plan_model.proofs.task_networks.SpellingTests.{spells_by}
use Rattle.plan_model.proofs.task_networks.Tests.{Decides, schedule_iff}
use Rattle.slot_machine.specs.Machine.{Runs, start}
use Rattle.slot_machine.specs.Causes.{IsWaiting}
use Rattle.slot_machine.proofs.SpellingRuns.{runs_from_spells}

-- weave: t -> a, x and x -> a, b, both without an order
module _ where
  pub data WeaveWork : Type 0 where
    weave_t : WeaveWork
    weave_x : WeaveWork
    weave_a : WeaveWork
    weave_b : WeaveWork

  pub data WeaveMethod : Type 0 where
    weave_of_t : WeaveMethod
    weave_of_x : WeaveMethod

  abbrev weave_head : WeaveMethod → WeaveWork
  weave_head weave_of_t = weave_t
  weave_head weave_of_x = weave_x

  abbrev weave_works : WeaveMethod → List WeaveWork
  weave_works weave_of_t = weave_a ∷ weave_x ∷ []
  weave_works weave_of_x = weave_a ∷ weave_b ∷ []

  abbrev IsWeaveAction : WeaveWork → Type 0
  IsWeaveAction weave_t = ⊥
  IsWeaveAction weave_x = ⊥
  IsWeaveAction w = Unit {0}

  abbrev Unordered : ℕ → ℕ → Type 0
  Unordered i j = ⊥

  abbrev pub weave : Net
  weave = record {
    Work = WeaveWork;
    Method = WeaveMethod;
    head = weave_head;
    works = weave_works;
    IsSimple = IsWeaveAction;
    IsGround = λ m. Unit {0};
    Pair = λ m. Unordered;
    heir = λ m. Some 1;
    IsCopier = λ m i. i ≡ 0;
  }

  two_children : (m : WeaveMethod) → count weave m ≡ 2
  two_children weave_of_t = refl
  two_children weave_of_x = refl

  weave_lawful : IsLawful weave
  weave_lawful = record {
    pairs = λ m i j h. absurd h;
    acyclic = λ m i c. no_chain {Pair = Unordered} (λ i j k h g. h) i i c;
    has_heir = λ m l. (1, refl);
    heir_is_child = λ m i e. (let n = two_children m in let f : 1 ≡ i = cc in omega arith);
    copier_is_child = λ m i e. (let n = two_children m in omega arith);
    covered = λ m i l. inl (covered i (let n = two_children m in omega arith));
  }
    where
      covered : (i : ℕ) → i < 2 → (Some 1 ≡ Some i) ⊎ (i ≡ 0)
      covered zero l = inr refl
      covered (suc zero) l = inl refl
      covered (suc (suc i)) l = absurd (omega arith)

  -- t's a runs between x's a and x's b
  abbrev weave_acts : List (Act weave)
  weave_acts = apply 1 (2 ∷ []) weave_of_t ∷ apply 1 (3 ∷ []) weave_of_x ∷ run 3 weave_a ∷ run 2 weave_a ∷ run 1 weave_b ∷ []

  abbrev weave_tree : Tree weave
  weave_tree = split weave_of_t (more (done weave_a) (more (split weave_of_x (more (done weave_a) (more (done weave_b) none))) none))

  abbrev weave_order : List Address
  weave_order = [] ∷ (1 ∷ []) ∷ (0 ∷ 1 ∷ []) ∷ (0 ∷ []) ∷ (1 ∷ 1 ∷ []) ∷ []

  abbrev weave_slot : Address → ℕ
  weave_slot [] = 1
  weave_slot (zero ∷ []) = 2
  weave_slot (zero ∷ i ∷ p) = 3
  weave_slot (suc i ∷ p) = 1

  never : WeaveMethod → ℕ → ℕ → Bool
  never m i j = false

  abbrev weave_precedes : WeaveMethod → ℕ → ℕ → Bool
  weave_precedes m i j = false

  weave_decides : Decides weave weave_precedes
  weave_decides = record { within = λ m i j h. absurd h; order = λ m i j. (λ e. absurd cc, λ c. absurd (no_chain {Pair = Unordered} (λ i j k h g. h) i j c)) }

  weave_front : IsFront weave weave_t weave_tree weave_order
  weave_front = record { grown = (tt, refl, (tt, ((tt, refl, (tt, (tt, tt))), tt))); root = refl; schedule = (schedule_iff weave weave_precedes weave_decides weave_tree weave_order).0 refl }

  -- the front of the run
  woven : Spells weave 3 weave_t weave_acts weave_tree weave_order weave_slot
  woven = spells_by weave 3 weave_t weave_acts weave_tree weave_order weave_slot weave_front refl refl ((refl, refl, refl), ((refl, refl, refl), ((refl, refl), ((refl, refl), ((refl, refl), tt)))))

  woven_runs : Runs weave (start weave 3 weave_t) weave_acts
  woven_runs = (runs_from_spells weave weave_lawful 3 weave_t weave_order weave_acts weave_tree weave_slot woven).0

-- t -> x < y: y can't run while x is pending
module _ where
  abbrev refused_acts : List (Act chain)
  refused_acts = apply 1 (2 ∷ []) of_t ∷ run 1 chain_y ∷ []

  y_is_refused : Runs chain (start chain 3 chain_t) refused_acts → ⊥
  y_is_refused r = r.1.0.unblocked 2 (inr (inl (0, 1, tt, refl, refl)))

  -- the front before that step: a pending work stands before y
  abbrev waiting_tree : Tree chain
  waiting_tree = split of_t (more (open_leaf chain_x) (more (open_leaf chain_y) none))

  y_is_waiting : IsWaiting chain waiting_tree (1 ∷ [])
  y_is_waiting = (0 ∷ [], (chain_x, refl), (1 ∷ [], inl refl, (of_t, 0, refl, direct tt, inl refl)))

  x_is_not_waiting : IsWaiting chain waiting_tree (0 ∷ []) → ⊥
  x_is_not_waiting (u, o, (c, inl e, b)) = go c (sym e) b
    where
      go : (c : Address) → 0 ∷ [] ≡ c → Blocks chain waiting_tree u c → ⊥
      go [] e b = b
      go (suc j ∷ q) e b = absurd cc
      go (zero ∷ k ∷ q) e b = absurd cc
      go (zero ∷ []) e (m, i, f, pr, d) = method m f pr
        where
          method : (m : ChainMethod) → label_at chain waiting_tree [] ≡ Some (used m) → Precedes (ChainPair m) i 0 → ⊥
          method of_t f pr = let t = (first_then_second_iff i 0).1 pr in first i t
            where
              first : (i : ℕ) → first_then_second i 0 ≡ true → ⊥
              first zero t = cc
              first (suc i) t = cc
          method of_x f pr = absurd cc
  x_is_not_waiting (u, o, (c, inr e, b)) = subst (Blocks chain waiting_tree u) e b
