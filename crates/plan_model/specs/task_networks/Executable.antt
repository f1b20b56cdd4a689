-- Executable schedules and solutions, over any states: what a label asks of the state before it, and the state after it.
-- Source: Höller et al., "HDDL", AAAI 2020, lifted HTN planning: a solution has an executable order.
-- A check asks for its method's precondition; where it is tested as the method is applied, the decomposed task does.
use Rattle.std.specs.Prelude.{◌≡◌, List, [], ◌∷◌, Some}
use Rattle.plan_model.specs.task_networks.Net.{Net}
use Rattle.plan_model.specs.task_networks.Tree.{Tree, Label, Address, label_at}
use Rattle.plan_model.specs.task_networks.Front.{IsFinished}

-- the labels of a tree's nodes in this order
abbrev pub AreLabels : (N : Net) → Tree N → List Address → List (Label N) → Type 0
AreLabels N tree [] [] = Unit {0}
AreLabels N tree (p ∷ ps) (l ∷ ls) = (label_at N tree p ≡ Some l) × AreLabels N tree ps ls
AreLabels N tree [] (l ∷ ls) = ⊥
AreLabels N tree (p ∷ ps) [] = ⊥

module _ (N : Net) (State : Type 1) (Allows : State → Label N → Type 0) (next : State → Label N → State) where
  -- each label's condition holds in the state before it
  abbrev pub AreAllowed : State → List (Label N) → Type 0
  AreAllowed s [] = Unit {0}
  AreAllowed s (l ∷ ls) = Allows s l × AreAllowed (next s l) ls

  abbrev pub last_state : State → List (Label N) → State
  last_state s [] = s
  last_state s (l ∷ ls) = last_state (next s l) ls

  -- the nodes can be executed in this order, from the first state on
  pub record IsExecutableOrder (first : State) (tree : Tree N) (order : List Address) : Type 0 where
    pub labels : List (Label N)
    pub are_labels : AreLabels N tree order labels
    pub allowed : AreAllowed first labels

  -- an executable front without open leaves, whose last state makes the goal true
  pub record IsSolution (top : N.Work) (first : State) (Goal : State → Type 0) (tree : Tree N) (order : List Address) : Type 0 where
    pub finished : IsFinished N top tree order
    pub executable : IsExecutableOrder first tree order
    pub goal : Goal (last_state first executable.labels)
