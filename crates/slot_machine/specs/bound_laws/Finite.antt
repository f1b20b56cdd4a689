-- A network with finitely many ground methods, in which equal works, actions and checks, and what precedes what can be told.
-- Source: this project's.
use Rattle.std.specs.Prelude.{ℕ, ◌≡◌, ◌⊎◌, ◌↔◌, List, Contains}
use Rattle.plan_model.specs.task_networks.Order.{Precedes, IsLine}
use Rattle.plan_model.specs.task_networks.Net.{Net, count}

-- IsBefore: the order of the methods
module _ (N : Net) (IsBefore : N.Method → N.Method → Type 0) where
  pub record IsDecided : Type 0 where
    pub methods : List N.Method
    pub listed : (m : N.Method) → Contains methods m ↔ N.IsGround m
    pub head_is_task : (m : N.Method) → N.IsSimple (N.head m) → ⊥
    pub same : (v w : N.Work) → (v ≡ w) ⊎ (v ≡ w → ⊥)
    pub simple : (w : N.Work) → N.IsSimple w ⊎ (N.IsSimple w → ⊥)
    pub precedes : (m : N.Method) (i j : ℕ) → Precedes (N.Pair m) i j ⊎ (Precedes (N.Pair m) i j → ⊥)
    -- the order is a strict one, and total on the ground methods
    pub either : (m n : N.Method) → N.IsGround m → N.IsGround n → IsBefore m n ⊎ ((m ≡ n) ⊎ IsBefore n m)
    pub before_then : (l m n : N.Method) → IsBefore l m → IsBefore m n → IsBefore l n
    pub not_itself : (m : N.Method) → IsBefore m m → ⊥

  -- and whose methods have lines
  pub record IsFinite : Type 0 where
    pub decided : IsDecided
    pub lines : (m : N.Method) → (line : List ℕ) × IsLine (N.Pair m) (count N m) line
