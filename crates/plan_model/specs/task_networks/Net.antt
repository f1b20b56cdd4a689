-- A task network, ground: what a hierarchical problem is to trees and schedules.
-- Source: Höller et al., "HDDL", AAAI 2020, lifted HTN planning. A check stands for a method's precondition.
use Rattle.std.specs.Prelude.{ℕ, List, [], length, Option, None}

pub record Net : Type 1 where
  -- what stands at a node: a ground action, the check of a ground method, a ground task
  pub Work : Type 0
  -- a ground method: its number, and a value for each parameter
  pub Method : Type 0
  -- the task that a method decomposes
  pub head : Method → Work
  -- its children, in number order, from number 0 on
  pub works : Method → List Work
  -- an action or a check, which has no children
  pub IsSimple : Work → Type 0
  -- the values are in their types, the constraints hold, the children's arguments are in the declared types
  pub IsGround : Method → Type 0
  -- a pair of children: the first must come before the second
  pub Pair : Method → ℕ → ℕ → Type 0
  -- the child that takes over its task's slot
  pub heir : Method → Option ℕ
  -- a further child that takes over the pairs that leave its task
  pub IsCopier : Method → ℕ → Type 0

-- how many children a method has
abbrev pub count : (N : Net) → N.Method → ℕ
count N m = length (N.works m)

-- the network of one action without methods, where nothing else is asked for
abbrev pub one_action : Net
one_action = record {
  Work = Unit {0};
  Method = ⊥;
  head = λ m. tt;
  works = λ m. [];
  IsSimple = λ w. Unit {0};
  IsGround = λ m. ⊥;
  Pair = λ m i j. ⊥;
  heir = λ m. None;
  IsCopier = λ m i. ⊥;
}
