-- The places of unions, kept by the order of the lists of their types' numbers.
-- Source: this project's.
use Rattle.std.specs.Prelude.{ℕ, ◌≡◌, List, Option, position, nat_eq}
use Rattle.std.specs.BTreeMap as tree
use Rattle.std.specs.BTreeMap.{BTreeMap}
use Rattle.std.specs.Cmp.Lexicographic.{slice_cmp, pointwise}
use Rattle.std.specs.Ordering.{nat_cmp}
use Rattle.std.specs.declared.alloc.Global.{Global}
use Rattle.std.specs.declared.vec.Vec.{Vec}

-- the place that is kept for the union of these types
abbrev pub place_kept : BTreeMap (Vec ℕ Global) ℕ → List ℕ → Option ℕ
place_kept places members = tree.get_by (λ key. slice_cmp nat_cmp members key.items) places

-- of each union its place is kept, and of no other list
abbrev pub ArePlacesOf : BTreeMap (Vec ℕ Global) ℕ → List (List ℕ) → Type 0
ArePlacesOf places unions = (members : List ℕ) → place_kept places members ≡ position (pointwise nat_eq members) unions
