-- Three small networks for the worked examples.
use Rattle.std.proofs.Common.{ℕ, zero, suc, ◌≡◌, ◌<◌, ◌⊎◌, ◌↔◌, inl, inr, List, [], ◌∷◌, Option, Some, None, Bool, true, false, refl, arith}
use Rattle.plan_model.specs.task_networks.Order.{Precedes, direct, through, ArePairsOf, IsAcyclic}
use Rattle.plan_model.specs.task_networks.Net.{Net, count}
use Rattle.plan_model.specs.task_networks.Lawful.{IsLawful, TakesOver}
use Rattle.plan_model.proofs.task_networks.Tests.{Decides}

-- where no two pairs meet, the chains are the pairs
pub no_chain : {Pair : ℕ → ℕ → Type 0} → ((i j k : ℕ) → Pair i j → Pair j k → ⊥) → (i j : ℕ) → Precedes Pair i j → Pair i j
no_chain f i j (direct h) = h
no_chain f i k (through {j = j} c h) = absurd (f i j k (no_chain f i j c) h)

-- the first of two children comes before the second
abbrev pub FirstThenSecond : ℕ → ℕ → Type 0
FirstThenSecond zero (suc zero) = Unit {0}
FirstThenSecond i j = ⊥

abbrev pub first_then_second : ℕ → ℕ → Bool
first_then_second zero (suc zero) = true
first_then_second i j = false

never_meet : (i j k : ℕ) → FirstThenSecond i j → FirstThenSecond j k → ⊥
never_meet zero zero k h g = h
never_meet zero (suc zero) k h g = g
never_meet zero (suc (suc j)) k h g = h
never_meet (suc i) j k h g = h

pub first_then_second_iff : (i j : ℕ) → (first_then_second i j ≡ true) ↔ Precedes FirstThenSecond i j
first_then_second_iff i j = (λ e. direct (to i j e), λ c. from i j (no_chain never_meet i j c))
  where
    to : (i j : ℕ) → first_then_second i j ≡ true → FirstThenSecond i j
    to zero zero e = absurd cc
    to zero (suc zero) e = tt
    to zero (suc (suc j)) e = absurd cc
    to (suc i) j e = absurd cc

    from : (i j : ℕ) → FirstThenSecond i j → first_then_second i j ≡ true
    from zero zero h = absurd h
    from zero (suc zero) h = refl
    from zero (suc (suc j)) h = absurd h
    from (suc i) j h = absurd h

pub of_two : ArePairsOf FirstThenSecond 2
of_two zero zero h = absurd h
of_two zero (suc zero) h = (omega arith, omega arith)
of_two zero (suc (suc j)) h = absurd h
of_two (suc i) j h = absurd h

pub two_acyclic : IsAcyclic FirstThenSecond
two_acyclic i c = go i (no_chain never_meet i i c)
  where
    go : (i : ℕ) → FirstThenSecond i i → ⊥
    go zero h = h
    go (suc i) h = h

abbrev Nowhere : ℕ → ℕ → Type 0
Nowhere i j = ⊥

no_order : (i j : ℕ) → (false ≡ true) ↔ Precedes Nowhere i j
no_order i j = (λ e. absurd cc, λ c. absurd (no_chain {Pair = Nowhere} (λ i j k h g. h) i j c))

-- fork: t -> a, b without an order
module _ where
  pub data ForkWork : Type 0 where
    fork_t : ForkWork
    fork_a : ForkWork
    fork_b : ForkWork

  abbrev pub IsForkAction : ForkWork → Type 0
  IsForkAction fork_t = ⊥
  IsForkAction w = Unit {0}

  abbrev pub fork : Net
  fork = record {
    Work = ForkWork;
    Method = Unit {0};
    head = λ m. fork_t;
    works = λ m. fork_a ∷ fork_b ∷ [];
    IsSimple = IsForkAction;
    IsGround = λ m. Unit {0};
    Pair = λ m. Nowhere;
    heir = λ m. Some 1;
    IsCopier = λ m i. i ≡ 0;
  }

  abbrev pub fork_precedes : Unit {0} → ℕ → ℕ → Bool
  fork_precedes m i j = false

  pub fork_decides : Decides fork fork_precedes
  fork_decides = record { within = λ m i j h. absurd h; order = λ m i j. no_order i j }

  pub fork_lawful : IsLawful fork
  fork_lawful = record {
    pairs = λ m i j h. absurd h;
    acyclic = λ m i c. no_chain {Pair = Nowhere} (λ i j k h g. h) i i c;
    has_heir = λ m l. (1, refl);
    heir_is_child = λ m i e. (let f : 1 ≡ i = cc in omega arith);
    copier_is_child = λ m i e. omega arith;
    covered = λ m i l. inl (covered i l);
  }
    where
      covered : (i : ℕ) → i < 2 → (Some 1 ≡ Some i) ⊎ (i ≡ 0)
      covered zero l = inr refl
      covered (suc zero) l = inl refl
      covered (suc (suc i)) l = absurd (omega arith)

-- chain: t -> x < y, and x -> p, q without an order
module _ where
  pub data ChainWork : Type 0 where
    chain_t : ChainWork
    chain_x : ChainWork
    chain_y : ChainWork
    chain_p : ChainWork
    chain_q : ChainWork

  pub data ChainMethod : Type 0 where
    of_t : ChainMethod
    of_x : ChainMethod

  abbrev pub chain_head : ChainMethod → ChainWork
  chain_head of_t = chain_t
  chain_head of_x = chain_x

  abbrev pub chain_works : ChainMethod → List ChainWork
  chain_works of_t = chain_x ∷ chain_y ∷ []
  chain_works of_x = chain_p ∷ chain_q ∷ []

  abbrev pub IsChainAction : ChainWork → Type 0
  IsChainAction chain_t = ⊥
  IsChainAction chain_x = ⊥
  IsChainAction w = Unit {0}

  abbrev pub ChainPair : ChainMethod → ℕ → ℕ → Type 0
  ChainPair of_t = FirstThenSecond
  ChainPair of_x = Nowhere

  abbrev pub IsChainCopier : ChainMethod → ℕ → Type 0
  IsChainCopier of_t i = ⊥
  IsChainCopier of_x i = i ≡ 0

  -- y is the heir of t, and q of x
  abbrev pub chain : Net
  chain = record {
    Work = ChainWork;
    Method = ChainMethod;
    head = chain_head;
    works = chain_works;
    IsSimple = IsChainAction;
    IsGround = λ m. Unit {0};
    Pair = ChainPair;
    heir = λ m. Some 1;
    IsCopier = IsChainCopier;
  }

  abbrev pub chain_precedes : ChainMethod → ℕ → ℕ → Bool
  chain_precedes of_t = first_then_second
  chain_precedes of_x = λ i j. false

  pub chain_decides : Decides chain chain_precedes
  chain_decides = record { within = within; order = order }
    where
      within : (m : ChainMethod) → ArePairsOf (ChainPair m) (count chain m)
      within of_t = of_two
      within of_x = λ i j h. absurd h

      order : (m : ChainMethod) (i j : ℕ) → (chain_precedes m i j ≡ true) ↔ Precedes (ChainPair m) i j
      order of_t = first_then_second_iff
      order of_x = no_order

  pub chain_lawful : IsLawful chain
  chain_lawful = record {
    pairs = chain_decides.within;
    acyclic = acyclic;
    has_heir = λ m l. (1, refl);
    heir_is_child = heir;
    copier_is_child = copier;
    covered = covered;
  }
    where
      acyclic : (m : ChainMethod) → IsAcyclic (ChainPair m)
      acyclic of_t = two_acyclic
      acyclic of_x = λ i c. no_chain {Pair = Nowhere} (λ i j k h g. h) i i c

      heir : (m : ChainMethod) (i : ℕ) → Some 1 ≡ Some i → i < count chain m
      heir of_t i e = let f : 1 ≡ i = cc in omega arith
      heir of_x i e = let f : 1 ≡ i = cc in omega arith

      copier : (m : ChainMethod) (i : ℕ) → IsChainCopier m i → i < count chain m
      copier of_t i h = absurd h
      copier of_x i h = omega arith

      covered : (m : ChainMethod) (i : ℕ) → i < count chain m → TakesOver chain m i ⊎ ((c : ℕ) × Precedes (ChainPair m) i c × TakesOver chain m c)
      covered of_t zero l = inr (1, direct tt, inl refl)
      covered of_t (suc zero) l = inl (inl refl)
      covered of_t (suc (suc i)) l = absurd (omega arith)
      covered of_x zero l = inl (inr refl)
      covered of_x (suc zero) l = inl (inl refl)
      covered of_x (suc (suc i)) l = absurd (omega arith)

-- tail: t -> a < t, and t -> without children
module _ where
  pub data TailWork : Type 0 where
    tail_t : TailWork
    tail_a : TailWork

  pub data TailMethod : Type 0 where
    again : TailMethod
    stop : TailMethod

  abbrev pub tail_works : TailMethod → List TailWork
  tail_works again = tail_a ∷ tail_t ∷ []
  tail_works stop = []

  abbrev pub IsTailAction : TailWork → Type 0
  IsTailAction tail_t = ⊥
  IsTailAction tail_a = Unit {0}

  abbrev pub TailPair : TailMethod → ℕ → ℕ → Type 0
  TailPair again = FirstThenSecond
  TailPair stop = Nowhere

  abbrev pub tail_heir : TailMethod → Option ℕ
  tail_heir again = Some 1
  tail_heir stop = None

  abbrev pub tail : Net
  tail = record {
    Work = TailWork;
    Method = TailMethod;
    head = λ m. tail_t;
    works = tail_works;
    IsSimple = IsTailAction;
    IsGround = λ m. Unit {0};
    Pair = TailPair;
    heir = tail_heir;
    IsCopier = λ m i. ⊥;
  }

  abbrev pub tail_precedes : TailMethod → ℕ → ℕ → Bool
  tail_precedes again = first_then_second
  tail_precedes stop = λ i j. false

  pub tail_decides : Decides tail tail_precedes
  tail_decides = record { within = within; order = order }
    where
      within : (m : TailMethod) → ArePairsOf (TailPair m) (count tail m)
      within again = of_two
      within stop = λ i j h. absurd h

      order : (m : TailMethod) (i j : ℕ) → (tail_precedes m i j ≡ true) ↔ Precedes (TailPair m) i j
      order again = first_then_second_iff
      order stop = no_order

  pub tail_lawful : IsLawful tail
  tail_lawful = record {
    pairs = tail_decides.within;
    acyclic = acyclic;
    has_heir = has_heir;
    heir_is_child = heir;
    copier_is_child = λ m i h. absurd h;
    covered = covered;
  }
    where
      acyclic : (m : TailMethod) → IsAcyclic (TailPair m)
      acyclic again = two_acyclic
      acyclic stop = λ i c. no_chain {Pair = Nowhere} (λ i j k h g. h) i i c

      has_heir : (m : TailMethod) → 0 < count tail m → (i : ℕ) × (tail_heir m ≡ Some i)
      has_heir again l = (1, refl)
      has_heir stop l = absurd (omega arith)

      heir : (m : TailMethod) (i : ℕ) → tail_heir m ≡ Some i → i < count tail m
      heir again i e = let f : 1 ≡ i = cc in omega arith
      heir stop i e = absurd cc

      covered : (m : TailMethod) (i : ℕ) → i < count tail m → TakesOver tail m i ⊎ ((c : ℕ) × Precedes (TailPair m) i c × TakesOver tail m c)
      covered again zero l = inr (1, direct tt, inl refl)
      covered again (suc zero) l = inl (inl refl)
      covered again (suc (suc i)) l = absurd (omega arith)
      covered stop i l = absurd (omega arith)

  -- without an heir it is no lawful network
  headless : IsLawful (record tail { heir = λ m. None }) → ⊥
  headless law = let h = (law.has_heir again (omega arith)).1 in cc
