-- Gap functions where nodes may stand in the same gaps of those that there are.
use Rattle.std.proofs.Common.{ℕ, ◌≤◌, List, length}
use Rattle.plan_model.specs.task_networks.Net.{Net}
use Rattle.plan_model.specs.task_networks.Tree.{Tree, Address, IsAddress}
use Rattle.schedules.specs.latest.Gaps.{IsGapFunction, IsLatest}

module _ (N : Net) (tree : Tree N) (plan : List Address) where
  -- nodes may stand where they may, in the gaps that there are
  abbrev pub Gives : (Address → ℕ → Type 0) → (Address → ℕ → Type 0) → Type 0
  Gives A B = (p : Address) (i : ℕ) → IsAddress N tree p → i ≤ length plan → A p i → B p i

  module _ (A B : Address → ℕ → Type 0) where
    pub gaps_to : Gives A B → (gap : Address → ℕ) → IsGapFunction N tree plan A gap → IsGapFunction N tree plan B gap
    gaps_to to gap g = record {
      range = g.range;
      own = g.own;
      children = g.children;
      before = g.before;
      primitive_before = g.primitive_before;
      allowed = λ p a. to p (gap p) a (g.range p a) (g.allowed p a);
    }

  pub latest_to : (A B : Address → ℕ → Type 0) → Gives A B → Gives B A → (gap : Address → ℕ) → IsLatest N tree plan A gap
      → IsLatest N tree plan B gap
  latest_to A B to from gap l = record {
    is = gaps_to A B to gap l.is;
    greatest = λ other g. l.greatest other (gaps_to B A from other g);
  }
