-- What is shown of a tree by its rows: the names of labels, the numbered places, and the lists of ids.
-- Source: this project's.
use Rattle.std.specs.Prelude.{ℕ, zero, suc, ◌≡◌, ◌+◌, ◌<◌, List, [], ◌∷◌, ◌++◌, map, filter, Bool, true, false, slice_get, Option, Some, None}
use Rattle.plan_model.specs.declared.values.Compiled.{Compiled}
use Rattle.plan_model.specs.task_networks.Net.{count}
use Rattle.plan_model.specs.task_networks.Spelling.{numbers}
use Rattle.plan_model.specs.task_networks.Tree.{Tree, Label, waits, ran, used, Address, label_at}
use Rattle.plan_model.specs.task_networks.Front.{IsFinished}
use Rattle.plan_model.specs.task_networks.Preorder.{preorder}
use Rattle.plan_model.specs.plan_meaning.Network.{Work, action, check, task, GroundMethod, network}
use Rattle.plan_model.specs.plan_meaning.Solution.{top_work}
use Rattle.tree_core.specs.Tables.{Row, table}
use Rattle.tree_core.specs.Labels.{labels, labelled}
use Rattle.tree_core.specs.Runs.{label_in}
use Rattle.hplan_text.specs.declared.values.HLine.{HLine}
use Rattle.hplan_text.specs.declared.values.HNode.{HNode}
use Rattle.hplan_text.specs.ShownPlan.{object_name, name_of, method_name_by, is_shown, numbered, AreIds, shown_children}

abbrev pub is_primitive_label : Option (Label labels) → Bool
is_primitive_label (Some (ran (action a args))) = true
is_primitive_label (Some (ran (check m values))) = false
is_primitive_label (Some (ran (task t args))) = false
is_primitive_label (Some (waits w)) = false
is_primitive_label (Some (used d)) = false
is_primitive_label None = false

abbrev pub is_decomposed_label : Option (Label labels) → Bool
is_decomposed_label (Some (used d)) = true
is_decomposed_label (Some (ran w)) = false
is_decomposed_label (Some (waits w)) = false
is_decomposed_label None = false

abbrev pub is_check_label : Option (Label labels) → Bool
is_check_label (Some (ran (check m values))) = true
is_check_label (Some (ran (action a args))) = false
is_check_label (Some (ran (task t args))) = false
is_check_label (Some (waits w)) = false
is_check_label (Some (used d)) = false
is_check_label None = false

-- the place isn't the root's, and a decomposed task stands there
abbrev pub is_lower_place : ℕ → Option (Label labels) → Bool
is_lower_place zero l = false
is_lower_place (suc k) l = is_decomposed_label l

abbrev pub args_of : Work → List ℕ
args_of (action a args) = args
args_of (check m values) = values
args_of (task t args) = args

abbrev pub label_args : Option (Label labels) → List ℕ
label_args (Some (ran w)) = args_of w
label_args (Some (waits w)) = args_of w
label_args (Some (used d)) = args_of d.head
label_args None = []

module _ (c : Compiled) where
  -- the name of the task that a label tells, and its line with this number
  abbrev pub label_name : Option (Label labels) → List ℕ
  label_name (Some (ran w)) = name_of c w
  label_name (Some (waits w)) = name_of c w
  label_name (Some (used d)) = name_of c d.head
  label_name None = []

  abbrev pub label_line : Option (Label labels) → ℕ → HLine
  label_line l n = record { id = n; name = label_name l; args = map (object_name c) (label_args l) }

  abbrev pub label_method : Option (Label labels) → List ℕ
  label_method (Some (used d)) = method_name_by c (slice_get c.methods d.method.number)
  label_method (Some (ran w)) = []
  label_method (Some (waits w)) = []
  label_method None = []

module _ (rows : List (Row labels)) where
  abbrev pub primitives_among : List ℕ → List ℕ
  primitives_among ks = filter (λ k. is_primitive_label (label_in rows k)) ks

  abbrev pub lower_among : List ℕ → List ℕ
  lower_among ks = filter (λ k. is_lower_place k (label_in rows k)) ks

-- of the places, each that stands there once has its number
abbrev pub HaveNumbers : ℕ → ℕ → List ℕ → List ℕ → Type 0
HaveNumbers size count places ids = (n k : ℕ) → n < count → k < size → slice_get places n ≡ Some k → ((m : ℕ) → slice_get places m ≡ Some k → m ≡ n) → slice_get ids k ≡ Some n

-- each numbered node has its number at its place
abbrev pub AreIndexed : (c : Compiled) (tree : Tree (network c)) → List Address → List ℕ → Type 0
AreIndexed c tree order ids = (x n : ℕ) (p : Address) → slice_get (preorder (network c) tree) x ≡ Some p → slice_get (numbered c tree order) n ≡ Some p → slice_get ids x ≡ Some n

-- what holds of a node at this place, with its method
abbrev pub OfNode : List (Row labels) → List ℕ → ℕ → ((c : Compiled) (tree : Tree (network c)) (order : List Address) (q : Address) (g : GroundMethod) → Type 0) → Type 0
OfNode rows ids k P = (c : Compiled) (tree : Tree (network c)) (order : List Address) → IsFinished (network c) (top_work c) tree order → rows ≡ table labels (labelled c tree) → AreIndexed c tree order ids
    → (q : Address) (g : GroundMethod) → slice_get (preorder (network c) tree) k ≡ Some q → label_at (network c) tree q ≡ Some (used g) → P c tree order q g

-- the ids of the children of the node at this place
abbrev pub ListsChildren : List (Row labels) → List ℕ → ℕ → List ℕ → Type 0
ListsChildren rows ids k list = OfNode rows ids k (λ c tree order q g. AreIds c tree order (shown_children c tree order q g) list)

-- child i of the node comes next, at this place, if it has one; and the list has the children before that
pub record Progress (c : Compiled) (tree : Tree (network c)) (order : List Address) (q : Address) (g : GroundMethod) (end at : ℕ) (list : List ℕ) : Type 0 where
  pub next : ℕ
  pub more : ℕ
  pub many : next + more ≡ count (network c) g
  pub here : 0 < more → slice_get (preorder (network c) tree) at ≡ Some (next ∷ q)
  pub last : more ≡ 0 → at ≡ end
  pub listed : (rest : List ℕ) → AreIds c tree order (filter (λ p. is_shown c (label_at (network c) tree p)) (map (λ i. i ∷ q) (numbers next more))) rest → AreIds c tree order (shown_children c tree order q g) (list ++ rest)

abbrev pub HasListed : List (Row labels) → List ℕ → ℕ → ℕ → ℕ → List ℕ → Type 0
HasListed rows ids k end at list = OfNode rows ids k (λ c tree order q g. Progress c tree order q g end at list)

module _ (c : Compiled) (rows : List (Row labels)) where
  -- the lines of these places, numbered from n on
  abbrev pub lines_at : ℕ → List ℕ → List HLine
  lines_at n [] = []
  lines_at n (k ∷ ks) = label_line c (label_in rows k) n ∷ lines_at (suc n) ks

  pub record IsNodeAt (ids : List ℕ) (n k : ℕ) (node : HNode) : Type 0 where
    pub line : node.line ≡ label_line c (label_in rows k) n
    pub name : node.method ≡ label_method c (label_in rows k)
    pub children : ListsChildren rows ids k node.ids

  abbrev pub AreNodesAt : List ℕ → ℕ → List ℕ → List HNode → Type 0
  AreNodesAt ids n [] [] = Unit {0}
  AreNodesAt ids n (k ∷ ks) (x ∷ xs) = IsNodeAt ids n k x × AreNodesAt ids (suc n) ks xs
  AreNodesAt ids n [] (x ∷ xs) = ⊥
  AreNodesAt ids n (k ∷ ks) [] = ⊥
