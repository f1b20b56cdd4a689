-- The order of the children in Transport, decided.
use Rattle.std.proofs.Common.{ℕ, zero, suc, ◌≡◌, ◌<◌, ◌⊎◌, ◌↔◌, ◌&&◌, inl, inr, Bool, true, List, length, Some, None, slice_get, refl, sym, subst, arith, nat_lt}
use Rattle.plan_model.specs.declared.networks.Pair.{Pair}
use Rattle.plan_model.specs.task_networks.Order.{Precedes, direct, through, ArePairsOf}
use Rattle.plan_model.proofs.task_networks.PendingNodes.{both}
use Rattle.plan_model.proofs.task_networks.Tests.{Decides}
use Rattle.plan_model.specs.Pairs.{Pairs}
use Rattle.plan_model.specs.plan_meaning.Network.{GroundMethod, network}
use Rattle.plan_model.proofs.plan_meaning.MethodParts.{IsPairBy, works_by}
use Rattle.plan_model.proofs.plan_meaning.examples.Unequal.{lt_to, to_lt}
use Rattle.plan_model.proofs.task_networks.PendingNodes.{both_true}
use Rattle.plan_model.proofs.plan_meaning.ListedItems.{of_each}
use Rattle.plan_model.proofs.plan_meaning.examples.FlatNetworks.{is_pair_by, Flat, flat_none, flat_some}
use Rattle.plan_model.proofs.plan_meaning.examples.TransportValue.{transport, top, deliver, via, there}

-- the four children of m-deliver stand in their order; in no other method do two pairs meet
abbrev pub chain_of_four : ℕ → ℕ → Bool
chain_of_four i j = nat_lt i j && nat_lt j 4

one_up : (i j : ℕ) → Pairs deliver.schema.pairs i j → (j ≡ suc i) × (j < 4)
one_up i j c = of_each (λ (p : Pair). (p.then ≡ suc p.first) × (p.then < 4)) deliver.schema.pairs ((refl, omega arith), ((refl, omega arith), ((refl, omega arith), tt))) (record { first = i; then = j }) c

pub upward : (i j : ℕ) → Precedes (Pairs deliver.schema.pairs) i j → (i < j) × (j < 4)
upward i j (direct p) = let h = one_up i j p in let a = h.0 in let b = h.1 in (omega arith, omega arith)
upward i k (through {j = j} c p) = let h = upward i j c in let a = h.0 in let g = one_up j k p in let b = g.0 in let d = g.1 in (omega arith, omega arith)

pair_up : (i : ℕ) → suc i < 4 → Pairs deliver.schema.pairs i (suc i)
pair_up zero l = (0, omega arith, refl)
pair_up (suc zero) l = (1, omega arith, refl)
pair_up (suc (suc zero)) l = (2, omega arith, refl)
pair_up (suc (suc (suc i))) l = absurd (omega arith)

cases : (i j : ℕ) → i < suc j → (i ≡ j) ⊎ (i < j)
cases i j l = grind arith

pub to_chain : (i j : ℕ) → i < j → j < 4 → Precedes (Pairs deliver.schema.pairs) i j
to_chain i zero l m = absurd (omega arith)
to_chain i (suc j) l m = elim (cases i j (omega arith)) [
  | inl e ↦ subst (λ z. Precedes (Pairs deliver.schema.pairs) z (suc j)) (sym e) (direct (pair_up j m))
  | inr k ↦ through (to_chain i j k (omega arith)) (pair_up j m)
]

chain_iff : (i j : ℕ) → (chain_of_four i j ≡ true) ↔ Precedes (Pairs deliver.schema.pairs) i j
chain_iff i j = (
  λ e. (let h = both (nat_lt i j) (nat_lt j 4) e in to_chain i j (lt_to i j h.0) (lt_to j 4 h.1)),
  λ c. (let h = upward i j c in both_true (nat_lt i j) (nat_lt j 4) (to_lt i j h.0) (to_lt j 4 h.1)),
)

abbrev pub before_by : ℕ → ℕ → ℕ → Bool
before_by (suc zero) = chain_of_four
before_by zero = is_pair_by (Some top)
before_by (suc (suc n)) = is_pair_by (slice_get transport.methods (suc (suc n)))

abbrev pub before : GroundMethod → ℕ → ℕ → Bool
before g = before_by g.number

pub decides : Decides (network transport) before
decides = record { within = λ g. within g.number g.values; order = λ g. order g.number g.values }
  where
    flat_top : (values : List ℕ) → Flat (record { number = 0; values = values }) (Some top)
    flat_top values = flat_some _ top refl

    flat_via : (values : List ℕ) → Flat (record { number = 2; values = values }) (Some via)
    flat_via values = flat_some _ via refl

    flat_there : (values : List ℕ) → Flat (record { number = 3; values = values }) (Some there)
    flat_there values = flat_some _ there refl

    flat_past : (n : ℕ) (values : List ℕ) → Flat (record { number = n; values = values }) None
    flat_past n values = flat_none _

    within : (n : ℕ) (values : List ℕ) → ArePairsOf (IsPairBy (slice_get transport.methods n)) (length (works_by (record { number = n; values = values }) (slice_get transport.methods n)))
    within zero values = (flat_top values).within
    within (suc zero) values = λ i j c. (let h = one_up i j c in let a = h.0 in let b = h.1 in (omega arith, omega arith))
    within (suc (suc zero)) values = (flat_via values).within
    within (suc (suc (suc zero))) values = (flat_there values).within
    within (suc (suc (suc (suc n)))) values = (flat_past (suc (suc (suc (suc n)))) values).within

    order : (n : ℕ) (values : List ℕ) (i j : ℕ) → (before_by n i j ≡ true) ↔ Precedes (IsPairBy (slice_get transport.methods n)) i j
    order zero values = (flat_top values).order
    order (suc zero) values = chain_iff
    order (suc (suc zero)) values = (flat_via values).order
    order (suc (suc (suc zero))) values = (flat_there values).order
    order (suc (suc (suc (suc n)))) values = (flat_past (suc (suc (suc (suc n)))) values).order
