-- Growths with a defect have no tree.
use Rattle.std.proofs.Common.{ℕ, zero, suc, ◌≡◌, List, slice_get, Some, ap, subst, arith}
use Rattle.plan_model.specs.task_networks.Net.{Net}
use Rattle.tree_core.specs.Growths.{Growth, AreJoined, IsDefect, missing, astray, under_leaf, repeated, left_out, IsAstray}
use Rattle.tree_core.specs.Laws.{UnjoinedHaveNoTree}
use Rattle.tree_core.proofs.Joined.{joined}

module _ (N : Net) (gs : List (Growth N)) (j : AreJoined N gs) where
  not_astray : (k : ℕ) (g : Growth N) → slice_get gs k ≡ Some g → IsAstray k g.parent → ⊥
  not_astray zero g e a = let h = subst (IsAstray 0) (j.first g e) a in omega arith
  not_astray (suc k) g e a = let (x, f, l) = j.later k g e in let h = subst (IsAstray (suc k)) f a in omega arith

  pub without_defect : (k : ℕ) → IsDefect N gs k → ⊥
  without_defect k (missing e f) = let h = j.some.1 in let z = ap (λ gs. slice_get gs 0) e in cc
  without_defect k (astray g e a) = not_astray k g e a
  without_defect k (under_leaf g up x e f h n) = let (m, i) = j.decomposed k x g up e f h in n m i
  without_defect k (repeated g before l x e f below i h same) = let z = j.once k l x g before e f i h same in omega arith
  without_defect k (left_out g l i e f n none) = let (y, h, at, up, is) = j.none_left_out l k i g e f n in none y h at up is

pub unjoined_have_no_tree : (N : Net) → UnjoinedHaveNoTree N
unjoined_have_no_tree N gs k tree order u s = without_defect N gs (joined N gs tree order s) k u.0
