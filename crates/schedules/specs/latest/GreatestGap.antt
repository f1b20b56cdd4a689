-- How the greatest gap of one node is found: down from a bound, over gaps in which nothing changes for it.
-- Source: this project's.
use Rattle.std.specs.Prelude.{ℕ, suc, ◌≡◌, ◌<◌, ◌≤◌, ◌↔◌, List, ◌∷◌, slice_get, Some, Contains}
use Rattle.plan_model.specs.task_networks.Net.{Net}
use Rattle.plan_model.specs.task_networks.Tree.{Tree, Address, IsAddress}
use Rattle.schedules.specs.latest.OnePass.{IsUnder, Fits, IsGreatestAt}

-- At holds in gap i
module _ (At : ℕ → Type 0) where
  -- from gap s to gap g it holds in all or in none
  abbrev pub IsUnchanged : (s g : ℕ) → Type 0
  IsUnchanged s g = (i : ℕ) → s ≤ i → i < g → At i ↔ At (suc i)

  -- k is the greatest of the gaps up to the bound in which it holds
  pub record IsGreatest (bound k : ℕ) : Type 0 where
    pub within : k ≤ bound
    pub holds : At k
    pub greatest : (i : ℕ) → i ≤ bound → At i → i ≤ k

  abbrev pub HoldsNowhere : ℕ → Type 0
  HoldsNowhere bound = (i : ℕ) → i ≤ bound → At i → ⊥

  -- where it holds at the bound, this is the greatest; else the search goes on before the last change, if there is a gap before it
  pub record IsFoundBelow (s bound : ℕ) : Type 0 where
    pub here : At bound → IsGreatest bound bound
    pub found : (r k : ℕ) → s ≡ suc r → (At bound → ⊥) → IsGreatest r k → IsGreatest bound k
    pub nowhere : (r : ℕ) → s ≡ suc r → (At bound → ⊥) → HoldsNowhere r → HoldsNowhere bound
    pub start : s ≡ 0 → (At bound → ⊥) → HoldsNowhere bound

module _ (N : Net) (tree : Tree N) (plan : List Address) where
  -- the greatest gap that u's children and all that it must precede leave
  abbrev pub IsBound : (Address → ℕ) → Address → ℕ → Type 0
  IsBound gap u bound = (k : ℕ) → (IsUnder N tree plan gap u k × ((i : ℕ) → IsAddress N tree (i ∷ u) → k ≤ gap (i ∷ u))) ↔ (k ≤ bound)

module _ (N : Net) (Allowed : Address → ℕ → Type 0) where
  -- a search over changes alone
  abbrev pub SearchGoesDown : Type 0
  SearchGoesDown = (p : Address) (s bound : ℕ) → s ≤ bound → IsUnchanged (Allowed p) s bound → IsFoundBelow (Allowed p) s bound

  -- what it finds is the number of a node that is no primitive
  abbrev pub FoundIsGreatest : Type 0
  FoundIsGreatest = (tree : Tree N) (plan : List Address) (gap : Address → ℕ) (u : Address) (bound : ℕ) → (Contains plan u → ⊥)
      → IsBound N tree plan gap u bound
      → IsGreatest (Allowed u) bound (gap u) → IsGreatestAt N tree plan Allowed gap u

  -- and where it finds nothing, nothing fits
  abbrev pub NothingFits : Type 0
  NothingFits = (tree : Tree N) (plan : List Address) (gap : Address → ℕ) (u : Address) (bound : ℕ) → IsBound N tree plan gap u bound
      → HoldsNowhere (Allowed u) bound → (k : ℕ) → Fits N tree plan Allowed gap u k → ⊥

  -- a primitive has its own number, where this fits
  abbrev pub OwnIsGreatest : Type 0
  OwnIsGreatest = (tree : Tree N) (plan : List Address) (gap : Address → ℕ) (i : ℕ) (u : Address) → slice_get plan i ≡ Some u
      → Fits N tree plan Allowed gap u (gap u) → (gap u ≡ i) × IsGreatestAt N tree plan Allowed gap u
