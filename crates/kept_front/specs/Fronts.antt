-- What the lists of a front stand for: all that a decoder keeps of it, over the network of a compiled problem.
-- Source: this project's.
use Rattle.std.specs.Prelude.{ℕ, suc, ◌≡◌, ◌≢◌, ◌≤◌, [], ◌∷◌, ◌++◌, List, length, map, Option, None, Some, slice_get, Contains}
use Rattle.std.specs.Option.{option_map, option_map_or, option_and_then, unwrap_or}
use Rattle.htn_base.specs.Different.{AreDifferent}
use Rattle.plan_model.specs.declared.schemas.MethodPlan.{MethodPlan}
use Rattle.plan_model.specs.declared.values.Compiled.{Compiled}
use Rattle.plan_model.specs.task_networks.Tree as Trees
use Rattle.plan_model.specs.task_networks.Tree.{ran, used, waits}
use Rattle.plan_model.specs.task_networks.Spelling.{Act, label_of}
use Rattle.plan_model.specs.plan_meaning.Network.{Work, action, check, task, network}
use Rattle.plan_model.specs.plan_meaning.Solution.{top_work}
use Rattle.tree_core.specs.declared.label.Label.{Label}
use Rattle.tree_core.specs.declared.label.Label.TheVariants.{Primitive, Check, Abstract}
use Rattle.tree_core.specs.declared.growth.Growth as Grown
use Rattle.tree_core.specs.Growths.{Growth}
use Rattle.decoding.specs.HeldLeaves as Held
use Rattle.decoding.specs.FailingAct.{slot_in, new_in}
use Rattle.decoding.specs.Keeping.{Kept, Keeps, KeepsWhole, MayTake}
use Rattle.decoding.specs.KeepingLaws.{IsFirst}
use Rattle.kept_front.specs.declared.leaves.Leaf.{Leaf}
use Rattle.kept_front.specs.declared.later.Later.{Later}
use Rattle.kept_front.specs.declared.front.Front.{Front}
use Rattle.kept_front.specs.Leaves.{room, leaf_at, blocked_at, place_at}
use Rattle.kept_front.specs.Nodes.{count, unfinished_at, child_slot, IsPushed}
use Rattle.kept_front.specs.Planted.{AreRegrown}

module _ (c : Compiled) where
  -- what a growth's label says in the problem's network
  abbrev pub label_in : Label → Trees.Label (network c)
  label_in (Primitive a args) = ran (action a args)
  label_in (Check m values) = ran (check m values)
  label_in (Abstract t args m values) = used (record { number = m; values = values })

  abbrev pub growth_in : Grown.Growth → Growth (network c)
  growth_in g = record { parent = g.parent; child = g.child; label = label_in g.label }

  -- child i of a label
  abbrev pub work_below : Trees.Label (network c) → ℕ → Work
  work_below (waits w) i = task 0 []
  work_below (ran w) i = task 0 []
  work_below (used g) i = unwrap_or (slice_get ((network c).works g) i) (task 0 [])

  -- what stands at a child of a growth, or at the root
  abbrev pub work_under : List (Growth (network c)) → Option ℕ → ℕ → Work
  work_under growths None i = top_work c
  work_under growths (Some x) i = option_map_or (λ (g : Growth (network c)). work_below g.label i) (slice_get growths x) (task 0 [])

  abbrev pub leaf_of : List (Growth (network c)) → Leaf → Held.Leaf (network c)
  leaf_of growths leaf = record { parent = leaf.parent; child = leaf.child; work = work_under growths leaf.parent leaf.child }

  abbrev pub growths_in : Front → List (Growth (network c))
  growths_in front = map growth_in front.growths

  -- what stands at an open leaf
  abbrev pub work_at : Front → Leaf → Work
  work_at front leaf = work_under (growths_in front) leaf.parent leaf.child

  abbrev pub kept : Front → Kept (network c)
  kept front = record {
    growths = growths_in front;
    held = λ x. option_map (leaf_of (growths_in front)) (leaf_at front.leaves x);
    blocked = blocked_at front.leaves;
    open_at = unfinished_at front.nodes;
    child_slot = child_slot front.nodes;
  }

  -- the front of the top task alone
  abbrev pub IsFirstOf : Front → Type 0
  IsFirstOf front = IsFirst (network c) (top_work c) (kept front)

  -- the front of these acts, with b slots
  abbrev pub IsFrontOf : ℕ → Front → List (Act (network c)) → Type 0
  IsFrontOf b front acts = Keeps (network c) b (top_work c) (kept front) acts

  -- the same with one more act, but for the numbers: growth k has become whole
  abbrev pub IsWholeAt : ℕ → Front → ℕ → List (Act (network c)) → Act (network c) → Type 0
  IsWholeAt b front k acts a = KeepsWhole (network c) b (top_work c) (kept front) acts a k

  -- the same of some acts and slots
  abbrev pub IsSomeWholeAt : Front → ℕ → Type 0
  IsSomeWholeAt front k = (b : ℕ) × (acts : List (Act (network c))) × (a : Act (network c)) × IsWholeAt b front k acts a

-- the method of a growth that is decomposed
abbrev pub method_of : Label → Option ℕ
method_of (Primitive a args) = None
method_of (Check m values) = None
method_of (Abstract t args m values) = Some m

abbrev pub method_at : Front → ℕ → Option ℕ
method_at front k = option_and_then (λ (g : Grown.Growth). method_of g.label) (slice_get front.growths k)

-- what comes right after each child of a growth
abbrev pub later_at : List Later → Front → ℕ → Option Later
later_at laters front k = option_and_then (slice_get laters) (method_at front k)

-- what comes right after and before each child of a label, and the child that takes its slot
abbrev pub later_of : List Later → Label → Option Later
later_of laters label = option_and_then (slice_get laters) (method_of label)

abbrev pub heir_of : Compiled → Label → Option ℕ
heir_of c label = option_and_then (λ m. option_and_then (λ (plan : MethodPlan). plan.heir) (slice_get c.methods m)) (method_of label)

-- where a growth stands below its parent
abbrev pub parent_at : Front → ℕ → Option ℕ
parent_at front k = option_and_then (λ (g : Grown.Growth). g.parent) (slice_get front.growths k)

abbrev pub child_at : Front → ℕ → ℕ
child_at front k = option_map_or (λ (g : Grown.Growth). g.child) (slice_get front.growths k) 0

-- Those that come right after a child of a growth have become less blocked, and its growth has one child less that isn't whole.
pub record IsLowered (parent : ℕ) (later : List ℕ) (old new : Front) : Type 0 where
  pub growths : new.growths ≡ old.growths
  pub places : (x : ℕ) → place_at new.leaves x ≡ place_at old.leaves x
  pub slots : (k j : ℕ) → child_slot new.nodes k j ≡ child_slot old.nodes k j
  pub falls : (j : ℕ) → Contains later j → blocked_at old.leaves (child_slot old.nodes parent j) ≡ suc (blocked_at new.leaves (child_slot old.nodes parent j))
  pub stays : (y : ℕ) → ((j : ℕ) → Contains later j → y ≢ child_slot old.nodes parent j) → blocked_at new.leaves y ≡ blocked_at old.leaves y
  pub unfinished_falls : unfinished_at old.nodes parent ≡ suc (unfinished_at new.nodes parent)
  pub unfinished_stays : (k : ℕ) → k ≢ parent → unfinished_at new.nodes k ≡ unfinished_at old.nodes k

-- what is asked before: each of those that come later is open, has a slot of its own, and stands once; and the parent isn't whole
pub record MayLower (parent : ℕ) (later : List ℕ) (front : Front) : Type 0 where
  pub blocked : (j : ℕ) → Contains later j → 1 ≤ blocked_at front.leaves (child_slot front.nodes parent j)
  pub apart : (j k : ℕ) → Contains later j → Contains later k → child_slot front.nodes parent j ≡ child_slot front.nodes parent k → j ≡ k
  pub once : AreDifferent later
  pub unfinished : 1 ≤ unfinished_at front.nodes parent

-- The leaf of a slot has grown by one more growth, and its children stand in these slots.
pub record IsGrownAt (leaf : Leaf) (slot : ℕ) (slots : List ℕ) (label : Label) (later : Option Later)
    (old new : Front) : Type 0 where
  pub room : room new.leaves ≡ room old.leaves
  pub growths : new.growths ≡ old.growths ++ record { parent = leaf.parent; child = leaf.child; label = label } ∷ []
  pub leaves : AreRegrown slot (length old.growths) slots later old.leaves new.leaves
  pub nodes : IsPushed slots old.nodes new.nodes

-- the growths are those before and one more, with this label
abbrev pub HasGrown : Label → Front → Front → Type 0
HasGrown label old new = (parent : Option ℕ) × (child : ℕ)
    × (new.growths ≡ old.growths ++ record { parent = parent; child = child; label = label } ∷ [])

-- There is room for b slots, and something is kept of each growth.
pub record IsSized (b : ℕ) (front : Front) : Type 0 where
  pub room : room front.leaves ≡ b
  pub nodes : count front.nodes ≡ length front.growths

abbrev pub StaysSized : Front → Front → Type 0
StaysSized old new = (b : ℕ) → IsSized b old → IsSized b new

-- The front is that of the acts, and the act of a slot, new slots and a label can be taken there.
pub record MayTakeAt (c : Compiled) (b : ℕ) (front : Front) (acts : List (Act (network c))) (a : Act (network c))
    (slot : ℕ) (new : List ℕ) (label : Label) : Type 0 where
  pub keeps : IsFrontOf c b front acts
  pub leaf : Held.Leaf (network c)
  pub may : MayTake (network c) b (top_work c) (kept c front) a leaf
  pub slot_is : slot_in (network c) a ≡ slot
  pub new_is : new_in (network c) a ≡ new
  pub label_is : label_of (network c) a ≡ label_in c label
  pub sized : IsSized b front

-- the same of some acts and slots
abbrev pub MayTakeSome : (c : Compiled) → Front → ℕ → List ℕ → Label → Type 0
MayTakeSome c front slot new label = (b : ℕ) × (acts : List (Act (network c))) × (a : Act (network c))
    × MayTakeAt c b front acts a slot new label
