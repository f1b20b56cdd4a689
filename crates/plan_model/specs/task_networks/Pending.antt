-- What is pending: the nodes that are begun and not taken yet, and how many they are.
-- Source: the progression bound of Alford et al., "Bound to Plan", ICAPS 2016. Checks count as tasks.
use Rattle.std.specs.Prelude.{ℕ, ◌≡◌, ◌≤◌, List, ◌++◌, length, Contains}
use Rattle.htn_base.specs.Different.{AreDifferent}
use Rattle.plan_model.specs.task_networks.Net.{Net}
use Rattle.plan_model.specs.task_networks.Tree.{Tree, Address, IsAddress}
use Rattle.plan_model.specs.task_networks.Schedule.{IsBegun}

module _ (N : Net) where
  -- the parent of p is taken, or there is none, and p isn't
  pub record IsPending (tree : Tree N) (taken : List Address) (p : Address) : Type 0 where
    pub address : IsAddress N tree p
    pub begun : IsBegun taken p
    pub left : Contains taken p → ⊥

  -- different nodes that are all pending
  pub record ArePending (tree : Tree N) (taken : List Address) (nodes : List Address) : Type 0 where
    pub different : AreDifferent nodes
    pub pending : (p : Address) → Contains nodes p → IsPending tree taken p

  -- after each beginning of the order no more than b nodes are pending
  abbrev pub IsWithin : ℕ → Tree N → List Address → Type 0
  IsWithin b tree order = (taken rest nodes : List Address) → order ≡ taken ++ rest → ArePending tree taken nodes → length nodes ≤ b

  -- the greatest number of nodes pending at a time
  pub record IsWidth (b : ℕ) (tree : Tree N) (order : List Address) : Type 0 where
    pub within : IsWithin b tree order
    pub taken : List Address
    pub rest : List Address
    pub nodes : List Address
    pub parts : order ≡ taken ++ rest
    pub pending : ArePending tree taken nodes
    pub many : length nodes ≡ b
