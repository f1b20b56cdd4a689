-- What states allow: a node may stand in a gap where its label's condition holds in the state after so many primitives.
-- Source: this project's, after the executions of HTN planning as in Höller et al., "HDDL", AAAI 2020.
use Rattle.std.specs.Prelude.{ℕ, ◌≡◌, ◌↔◌, List, take, Some}
use Rattle.plan_model.specs.task_networks.Net.{Net}
use Rattle.plan_model.specs.task_networks.Tree.{Tree, Label, waits, ran, used, Address, label_at}
use Rattle.plan_model.specs.task_networks.Executable.{last_state}

module _ (N : Net) (State : Type 1) (Allows : State → Label N → Type 0) (next : State → Label N → State) where
  -- labels are those of the plan, in order
  abbrev pub AllowedAt : State → Tree N → List (Label N) → Address → ℕ → Type 0
  AllowedAt first tree labels p i = (l : Label N) → label_at N tree p ≡ Some l
      → Allows (last_state N State Allows next first (take i labels)) l

-- labels that demand the same order of their children: the same but for the works, and for what a method's pairs don't depend on
abbrev pub SameKind : (N : Net) → Label N → Label N → Type 0
SameKind N (waits v) (waits w) = Unit {0}
SameKind N (ran v) (ran w) = Unit {0}
SameKind N (used m) (used n) = (i j : ℕ) → N.Pair m i j ↔ N.Pair n i j
SameKind N k l = ⊥

-- trees with the same nodes, whose labels demand the same
pub record IsSameShape (N : Net) (tree other : Tree N) : Type 0 where
  pub to : (p : Address) (k : Label N) → label_at N tree p ≡ Some k → (l : Label N) × (label_at N other p ≡ Some l) × SameKind N k l
  pub back : (p : Address) (l : Label N) → label_at N other p ≡ Some l → (k : Label N) × (label_at N tree p ≡ Some k) × SameKind N k l
