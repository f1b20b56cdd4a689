-- How growths are joined, step by step: the children by parent and number, what is wrong with a growth, and the columns of the table.
use Rattle.std.specs.Prelude.{ℕ, suc, ◌≡◌, ◌<◌, ◌≤◌, List, length, min, Option, Some, None, MatchOption, slice_get}
use Rattle.std.specs.Option.{option_and_then}
use Rattle.plan_model.specs.task_networks.Tree.{Tree, Address, used}
use Rattle.plan_model.specs.task_networks.Preorder.{preorder}
use Rattle.tree_core.specs.declared.children.Children.{Children}
use Rattle.tree_core.specs.Rooms.{found}
use Rattle.tree_core.specs.Tables.{Row, table}
use Rattle.tree_core.specs.Growths.{Growth, IsAt, IsAstray, IsDefect, IsTreeOf}
use Rattle.tree_core.specs.Labels.{labels, Decomposition}

module _ (growths : List (Growth labels)) where
  -- growth k has the parent x and the child number i
  abbrev pub IsChild : ℕ → ℕ → ℕ → Type 0
  IsChild x i k = (g : Growth labels) × IsAt labels growths k g × (g.parent ≡ Some x) × (g.child ≡ i)

  -- of the growths before place n, the first with each parent and number is noted
  pub record AreNoted (n : ℕ) (children : Children) : Type 0 where
    pub given : (x i k : ℕ) → found children x i ≡ Some k → (k < n) × IsChild x i k
    pub first : (x i k l : ℕ) → found children x i ≡ Some k → IsChild x i l → k ≤ l
    pub all : (x i k : ℕ) → k < n → IsChild x i k → found children x i ≡ None → ⊥

  abbrev pub AreChildren : Children → Type 0
  AreChildren children = AreNoted (length growths) children

  -- growth l shows nothing that is wrong at a place before b
  pub record IsFine (b : ℕ) (l : ℕ) : Type 0 where
    pub placed : (g : Growth labels) → IsAt labels growths l g → l < b → IsAstray l g.parent → ⊥
    pub decomposed : (g up : Growth labels) (x : ℕ) → IsAt labels growths l g → l < b → g.parent ≡ Some x → IsAt labels growths x up → (m : Decomposition) × (up.label ≡ used m)
    pub once : (x i k : ℕ) → IsChild x i l → l < b → IsChild x i k → k < l → ⊥
    pub before : (x i : ℕ) → IsChild x (suc i) l → x < b → (k : ℕ) × IsChild x i k

  -- the first place at which one of these growths shows that something is wrong, or none
  abbrev pub IsLeast : (ℕ → Type 0) → Option ℕ → Type 0
  IsLeast Of least = MatchOption least ((b l : ℕ) → Of l → IsFine b l) (λ k. IsDefect labels growths k × ((l : ℕ) → Of l → IsFine k l))

  -- it holds of the tree of the growths, if they have one
  abbrev pub OfTree : (Tree labels → List Address → Type 0) → Type 0
  OfTree P = (tree : Tree labels) (order : List Address) → IsTreeOf labels growths tree order → P tree order

-- the node of growth x stands at place k
abbrev pub IsPlaced : Tree labels → List Address → ℕ → ℕ → Type 0
IsPlaced tree order x k = (p : Address) × (slice_get order x ≡ Some p) × (slice_get (preorder labels tree) k ≡ Some p)

-- the rows behind the subtree of growth x begin at place e
abbrev pub EndsAt : Tree labels → List Address → ℕ → ℕ → Type 0
EndsAt tree order x e = (k : ℕ) × (r : Row labels) × IsPlaced tree order x k × (slice_get (table labels tree) k ≡ Some r) × (r.end ≡ e)

-- the node at the place is that of the growth; where there is no growth, there is no such place
abbrev pub IsNodeAt : ℕ → Option ℕ → Tree labels → List Address → Type 0
IsNodeAt k x tree order = slice_get (preorder labels tree) k ≡ option_and_then (slice_get order) x

-- the growths of the first n nodes in preorder
abbrev pub AreNodes : ℕ → List ℕ → Tree labels → List Address → Type 0
AreNodes n nodes tree order = (length nodes ≡ n) × ((k x : ℕ) → slice_get nodes k ≡ Some x → IsPlaced tree order x k)

-- all numbers are less than n
abbrev pub AreBelow : ℕ → List ℕ → Type 0
AreBelow n xs = (k x : ℕ) → slice_get xs k ≡ Some x → x < n

-- the places at which the numbers stand, of those that stand at one place before n
abbrev pub ArePlaces : ℕ → List ℕ → List ℕ → Type 0
ArePlaces n nodes places = (k x : ℕ) → k < n → slice_get nodes k ≡ Some x → ((j : ℕ) → slice_get nodes j ≡ Some x → j ≡ k) → slice_get places x ≡ Some k

-- the parents that the rows of the table have
pub record AreParents (parents : List (Option ℕ)) (tree : Tree labels) : Type 0 where
  pub many : length parents ≡ length (table labels tree)
  pub each : (k : ℕ) (r : Row labels) → slice_get (table labels tree) k ≡ Some r → slice_get parents k ≡ Some r.parent

-- the ends that the rows from a place on have
abbrev pub AreEnds : ℕ → List ℕ → Tree labels → Type 0
AreEnds from ends tree = (k : ℕ) (r : Row labels) → from ≤ k → slice_get (table labels tree) k ≡ Some r → slice_get ends k ≡ Some r.end

-- of what has these parents
abbrev pub OfParents : List (Option ℕ) → (Tree labels → Type 0) → Type 0
OfParents parents P = (tree : Tree labels) → AreParents parents tree → P tree

-- each end from a place on is later than its row, and not behind n
abbrev pub AreLater : ℕ → ℕ → List ℕ → Type 0
AreLater n from ends = (k e : ℕ) → from ≤ k → slice_get ends k ≡ Some e → (k < e) × (e ≤ n)

-- the lesser of two places, of which either may be none
abbrev pub least_of : Option ℕ → Option ℕ → Option ℕ
least_of None l = l
least_of (Some k) None = Some k
least_of (Some k) (Some l) = Some (min k l)
