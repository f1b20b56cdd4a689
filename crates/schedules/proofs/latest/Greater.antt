-- The pointwise greater of two gap functions is one.
use Rattle.std.proofs.Common.{ℕ, ◌≡◌, ◌⊎◌, inl, inr, List, max, sym, subst, arith}
use Rattle.std.proofs.Math.Decide.{ℕ_discrete}
use Rattle.plan_model.specs.task_networks.Net.{Net}
use Rattle.plan_model.specs.task_networks.Tree.{Tree, Address}
use Rattle.schedules.specs.latest.Gaps.{IsGapFunction}

max_cases : (a b : ℕ) → (max a b ≡ a) ⊎ (max a b ≡ b)
max_cases a b = elim (ℕ_discrete (max a b) a) [ yes e ↦ inl e | no n ↦ inr (omega arith) ]

module _ (N : Net) (tree : Tree N) (plan : List Address) (Allowed : Address → ℕ → Type 0) where
  pub greater_is_gap_function : (g h : Address → ℕ) → IsGapFunction N tree plan Allowed g → IsGapFunction N tree plan Allowed h
      → IsGapFunction N tree plan Allowed (λ p. max (g p) (h p))
  greater_is_gap_function g h a b = record {
    range = λ p n. (let x = a.range p n in let y = b.range p n in omega arith);
    own = λ i p e. (let x = a.own i p e in let y = b.own i p e in omega arith);
    children = λ i p n. (let x = a.children i p n in let y = b.children i p n in omega arith);
    before = λ u v m n c. (let x = a.before u v m n c in let y = b.before u v m n c in omega arith);
    primitive_before = λ u v m n c. (let x = a.primitive_before u v m n c in let y = b.primitive_before u v m n c in omega arith);
    allowed = λ p n. elim (max_cases (g p) (h p)) [ inl e ↦ subst (Allowed p) (sym e) (a.allowed p n) | inr e ↦ subst (Allowed p) (sym e) (b.allowed p n) ];
  }
