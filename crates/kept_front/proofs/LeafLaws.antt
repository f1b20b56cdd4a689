-- Leaves by slots that count from 1, in a list whose places count from 0.
use Rattle.std.proofs.Common.{ℕ, zero, suc, ◌≡◌, ◌≢◌, ◌-◌, ◌≤◌, List, [], ◌∷◌, length, get_or, set, Option, Some, None, refl, sym, subst, arith, get_or-set_same, get_or-set_other}
use Rattle.kept_front.specs.declared.leaves.Leaf.{Leaf}
use Rattle.kept_front.specs.Leaves.{leaf_in}

pub leaf_in-get : (items : List (Option Leaf)) (x : ℕ) → 1 ≤ x → leaf_in items x ≡ get_or items (x - 1) None
leaf_in-get items zero l = absurd (omega arith)
leaf_in-get items (suc k) l = let e : suc k - 1 ≡ k = omega arith in subst (λ z. get_or items k None ≡ get_or items z None) (sym e) refl

pub leaf_in-set_same : (items : List (Option Leaf)) (x : ℕ) (v : Option Leaf) → 1 ≤ x → x ≤ length items → leaf_in (set items (x - 1) v) x ≡ v
leaf_in-set_same items zero v l m = absurd (omega arith)
leaf_in-set_same items (suc k) v l m =
    let e : suc k - 1 ≡ k = omega arith in
    subst (λ z. get_or (set items z v) k None ≡ v) (sym e) (get_or-set_same items k v None (omega arith))

pub leaf_in-set_other : (items : List (Option Leaf)) (x y : ℕ) (v : Option Leaf) → 1 ≤ x → y ≢ x → leaf_in (set items (x - 1) v) y ≡ leaf_in items y
leaf_in-set_other items x zero v l d = refl
leaf_in-set_other items x (suc j) v l d = get_or-set_other items (x - 1) j v None (λ e. d (omega arith))

pub leaf_in-some : (items : List (Option Leaf)) (x : ℕ) (leaf : Leaf) → leaf_in items x ≡ Some leaf → (1 ≤ x) × (x ≤ length items)
leaf_in-some items zero leaf e = absurd cc
leaf_in-some items (suc k) leaf e = (omega arith, within items k e)
  where
    within : (items : List (Option Leaf)) (k : ℕ) → get_or items k None ≡ Some leaf → suc k ≤ length items
    within [] k e = absurd cc
    within (y ∷ ys) zero e = omega arith
    within (y ∷ ys) (suc k) e = let l = within ys k e in omega arith
