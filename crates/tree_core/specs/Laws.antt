-- What is proved of tables and growths.
use Rattle.std.specs.Prelude.{ℕ, ◌≡◌, ◌↔◌, List, [], ◌∷◌, ◌++◌, length, map, Some, option_map, Contains, slice_get}
use Rattle.plan_model.specs.task_networks.Net.{Net}
use Rattle.plan_model.specs.task_networks.Tree.{Tree, Address, label_at, IsAddress}
use Rattle.plan_model.specs.task_networks.Schedule.{IsBegun}
use Rattle.htn_base.specs.Different.{AreDifferent}
use Rattle.plan_model.specs.task_networks.Front.{IsFinished}
use Rattle.plan_model.specs.task_networks.Preorder.{preorder}
use Rattle.tree_core.specs.Tables.{Row, table, size, IsRow, AreConsistent}
use Rattle.plan_model.specs.declared.values.Compiled.{Compiled}
use Rattle.plan_model.specs.plan_meaning.Network.{network}
use Rattle.tree_core.specs.declared.growth.Scheduled.{Scheduled}
use Rattle.tree_core.specs.Growths.{Growth, IsUnder, AreGrowths, IsTreeOf, AreJoined, IsUnjoined}
use Rattle.tree_core.specs.Labels.{labels, labelled, labelled_node, labelled_growth}
use Rattle.tree_core.specs.Runs.{IsRun, StandsFor}

module _ (N : Net) where
  -- a list is the table of one tree at most
  abbrev pub TableIsOfOneTree : Type 0
  TableIsOfOneTree = (tree other : Tree N) → table N tree ≡ table N other → tree ≡ other

  -- a table has a row for each node, and each says of its node what stands in the definition of rows
  pub record RowsTell (tree : Tree N) : Type 0 where
    pub rows : length (table N tree) ≡ size N tree
    pub nodes : length (preorder N tree) ≡ size N tree
    -- each node has one place
    pub places : (p : Address) → IsAddress N tree p → (k : ℕ) × (slice_get (preorder N tree) k ≡ Some p)
    pub once : AreDifferent (preorder N tree)
    pub each : (k : ℕ) (r : Row N) → slice_get (table N tree) k ≡ Some r → (p : Address) × (slice_get (preorder N tree) k ≡ Some p) × IsRow N tree k r p

  abbrev pub TablesTellTrees : Type 0
  TablesTellTrees = (tree : Tree N) → RowsTell tree

  -- a list is a table exactly where it hangs together
  abbrev pub ConsistentExactlyWhereTable : Type 0
  ConsistentExactlyWhereTable = (rows : List (Row N)) → AreConsistent N rows ↔ ((tree : Tree N) × (rows ≡ table N tree))

  -- trees with the same labels at the same addresses are one
  abbrev pub LabelsTellTree : Type 0
  LabelsTellTree = (tree other : Tree N) → ((p : Address) → label_at N tree p ≡ label_at N other p) → tree ≡ other

  -- growths have one tree at most, and one order
  abbrev pub GrowthsHaveOneTree : Type 0
  GrowthsHaveOneTree = (growths : List (Growth N)) (tree other : Tree N) (order second : List Address) → IsTreeOf N growths tree order → IsTreeOf N growths other second
      → (other ≡ tree) × (second ≡ order)

  -- and they have one exactly where they are joined
  abbrev pub JoinedExactlyWhereTree : Type 0
  JoinedExactlyWhereTree = (growths : List (Growth N)) → AreJoined N growths ↔ ((tree : Tree N) × (order : List Address) × IsTreeOf N growths tree order)

  -- one more growth, at a node whose parent stands in the order: the former nodes keep their labels
  abbrev pub OneMoreGrowth : Type 0
  OneMoreGrowth = (growths : List (Growth N)) (tree grown : Tree N) (order : List Address) (g : Growth N) (p : Address) → AreGrowths N growths tree order
      → ((q : Address) → Contains order q → label_at N grown q ≡ label_at N tree q) → IsUnder N order (length order) g.parent g.child p → label_at N grown p ≡ Some g.label
      → AreGrowths N (growths ++ g ∷ []) grown (order ++ p ∷ [])

  -- the order begins with the root, and has each node behind its parent
  abbrev pub OrderIsListed : Type 0
  OrderIsListed = (growths : List (Growth N)) (tree : Tree N) (order taken rest : List Address) (p : Address) → IsTreeOf N growths tree order → order ≡ taken ++ p ∷ rest → IsBegun taken p

  -- a schedule of a finished tree is the order of a list of growths: the only one, but for the child number of the root
  abbrev pub SchedulesAreGrowths : Type 0
  SchedulesAreGrowths = (top : N.Work) (tree : Tree N) (order : List Address) → IsFinished N top tree order
      → ((growths : List (Growth N)) × IsTreeOf N growths tree order)

  -- where something is wrong with growths, they have no tree
  abbrev pub UnjoinedHaveNoTree : Type 0
  UnjoinedHaveNoTree = (growths : List (Growth N)) (k : ℕ) (tree : Tree N) (order : List Address) → IsUnjoined N growths k → IsTreeOf N growths tree order → ⊥

-- a tree of a compiled problem and its labelled tree have the same nodes, and labels that say the same
pub record LabelsAreOfNodes (c : Compiled) (tree : Tree (network c)) : Type 0 where
  pub nodes : preorder labels (labelled c tree) ≡ preorder (network c) tree
  pub labels_are : (p : Address) → label_at labels (labelled c tree) p ≡ option_map (labelled_node c) (label_at (network c) tree p)

abbrev pub LabelledIsAlike : Compiled → Type 0
LabelledIsAlike c = (tree : Tree (network c)) → LabelsAreOfNodes c tree

-- the run that grows by the labelled growths of a compiled problem's tree stands for that tree
abbrev pub RunsStandForTrees : Compiled → Type 0
RunsStandForTrees c = (growths : List (Growth (network c))) (tree : Tree (network c)) (order : List Address) (run : Scheduled)
    → IsTreeOf (network c) growths tree order → IsRun (map (labelled_growth c) growths) run → StandsFor c run tree order
