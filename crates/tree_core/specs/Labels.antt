-- What stands at the nodes of a tree and nothing else: the works of a problem, and its ground methods with the tasks that they decompose.
-- Source: this project's.
use Rattle.std.specs.Prelude.{[], None, map, List}
use Rattle.plan_model.specs.task_networks.Net.{Net}
use Rattle.plan_model.specs.task_networks.Tree.{Tree, Trees, open_leaf, done, split, none, more, waits, ran, used}
use Rattle.plan_model.specs.task_networks.Tree as Trees
use Rattle.plan_model.specs.declared.values.Compiled.{Compiled}
use Rattle.plan_model.specs.plan_meaning.Network.{Work, action, check, task, GroundMethod, IsPrimitive, network}
use Rattle.tree_core.specs.declared.label.Label.{Label}
use Rattle.tree_core.specs.declared.label.Label.TheVariants.{Primitive, Check, Abstract}
use Rattle.tree_core.specs.declared.growth.Growth as Grown
use Rattle.tree_core.specs.Growths.{Growth}

-- a ground method, and the task that it decomposes
pub record Decomposition : Type 0 where
  pub head : Work
  pub method : GroundMethod

-- the network of labels, where nothing is asked of children and of their order
abbrev pub labels : Net
labels = record {
  Work = Work;
  Method = Decomposition;
  head = λ d. d.head;
  works = λ d. [];
  IsSimple = IsPrimitive;
  IsGround = λ d. Unit {0};
  Pair = λ d i j. ⊥;
  heir = λ d. None;
  IsCopier = λ d i. ⊥;
}

-- what a label says
abbrev pub label_of : Label → Trees.Label labels
label_of (Primitive a args) = ran (action a args)
label_of (Check m values) = ran (check m values)
label_of (Abstract t args m values) = used (record { head = task t args; method = record { number = m; values = values } })

abbrev pub growth_of : Grown.Growth → Growth labels
growth_of g = record { parent = g.parent; child = g.child; label = label_of g.label }

abbrev pub growths_of : List Grown.Growth → List (Growth labels)
growths_of growths = map growth_of growths

-- the labels of a tree of a compiled problem's network
module _ (c : Compiled) where
  abbrev pub decomposition : GroundMethod → Decomposition
  decomposition g = record { head = (network c).head g; method = g }

  abbrev pub labelled_node : Trees.Label (network c) → Trees.Label labels
  labelled_node (waits w) = waits w
  labelled_node (ran w) = ran w
  labelled_node (used g) = used (decomposition g)

  abbrev mutual
    pub labelled : Tree (network c) → Tree labels
    labelled (open_leaf w) = open_leaf w
    labelled (done w) = done w
    labelled (split g ts) = split (decomposition g) (all_labelled ts)

    pub all_labelled : Trees (network c) → Trees labels
    all_labelled none = none
    all_labelled (more t ts) = more (labelled t) (all_labelled ts)

  abbrev pub labelled_growth : Growth (network c) → Growth labels
  labelled_growth g = record { parent = g.parent; child = g.child; label = labelled_node g.label }
