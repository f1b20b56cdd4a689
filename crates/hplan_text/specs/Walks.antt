-- What the root reaches, as it is found: an id is taken, and then those that its node lists. Reached ids are marked.
-- Source: this project's.
use Rattle.std.specs.Prelude.{ℕ, ◌≡◌, ◌==◌, ◌<◌, Bool, true, cond, List, [], ◌++◌, length, Option, Some, None, slice_get, slice_index}
use Rattle.plan_texts.specs.Types.{Has}
use Rattle.hplan_text.specs.declared.values.HNode.{HNode}
use Rattle.hplan_text.specs.declared.values.HPlan.{HPlan}
use Rattle.hplan_text.specs.HPlanFaults.{Reaches}

-- the ids of the nodes are known
abbrev pub AreOwned : (known : ℕ → Bool) → List HNode → Type 0
AreOwned known nodes = (x : HNode) → Has nodes x → known x.line.id ≡ true

abbrev pub IsAt : List HNode → ℕ → ℕ → Type 0
IsAt nodes n j = (x : HNode) × (slice_get nodes j ≡ Some x) × (x.line.id ≡ n)

-- at each id's place the place of a node with this id, where there is one
pub record IsIndex (ids : List ℕ) (nodes : List HNode) (index : List ℕ) : Type 0 where
  pub sized : length index ≡ length ids
  pub found : (p : ℕ) (x : HNode) → p < length ids → slice_get nodes (slice_index index p) ≡ Some x → x.line.id ≡ slice_index ids p
  pub all : (p : ℕ) (x : HNode) → p < length ids → Has nodes x → x.line.id ≡ slice_index ids p → IsAt nodes x.line.id (slice_index index p)

abbrev pub FindsNode : List HNode → ℕ → Option HNode → Type 0
FindsNode nodes n None = (x : HNode) → Has nodes x → x.line.id ≡ n → ⊥
FindsNode nodes n (Some x) = Has nodes x × (x.line.id ≡ n)

-- no two nodes have one id
abbrev pub AreOnce : List HNode → Type 0
AreOnce nodes = (x y : HNode) → Has nodes x → Has nodes y → x.line.id ≡ y.line.id → x ≡ y

-- of the known ids those are marked that the root reaches
abbrev pub HasReached : HPlan → (known marked : ℕ → Bool) → Type 0
HasReached plan known marked = (n : ℕ) → known n ≡ true → (marked n ≡ true → Reaches plan n) × (Reaches plan n → marked n ≡ true)

-- the ids of the node, where there is one
abbrev pub ids_of : Option HNode → List ℕ
ids_of None = []
ids_of (Some x) = x.ids

-- an id is taken: it is marked now, if it is known, and what its node lists is to be taken, if it wasn't marked before
pub record Visits (plan : HPlan) (known : ℕ → Bool) (id : ℕ) (old : ℕ → Bool) (todo : List ℕ) (new : ℕ → Bool) (more : List ℕ) : Type 0 where
  pub node : Option HNode
  pub finds : FindsNode plan.nodes id node
  pub taken : (n : ℕ) → known n ≡ true → new n ≡ cond (id == n) true (old n)
  pub todo_is : more ≡ cond (old id) todo (todo ++ ids_of node)
