-- The facts that were met, and one more.
-- Source: this project's.
use Rattle.std.specs.Prelude.{ℕ, ◌≡◌, ◌^◌, Bool, not, List, [], ◌∷◌, ◌++◌, Some, None}
use Rattle.std.specs.List.{list_any}
use Rattle.std.specs.Cmp.Lexicographic.{slice_cmp}
use Rattle.std.specs.Ordering.{nat_cmp}
use Rattle.std.specs.BTreeSet.{contains}
use Rattle.std.specs.declared.cmp.Ordering.{Ordering}
use Rattle.std.specs.declared.vec.Vec.{Vec}
use Rattle.std.specs.declared.alloc.Global.{Global}
use Rattle.plan_model.specs.declared.terms.GroundAtom.{GroundAtom}
use Rattle.plan_model.specs.Numbers.{number}
use Rattle.slot_encoding.specs.EncodedValue.{same_atom}
use Rattle.slot_encoder.specs.declared.single.Seen.{Seen}

abbrev pub key_of : GroundAtom → List ℕ
key_of g = g.predicate ∷ g.args

-- whether it is one of the facts
abbrev pub is_among : GroundAtom → List GroundAtom → Bool
is_among g facts = list_any (λ u. same_atom u g) facts

-- the order of keys
abbrev pub key_cmp : Vec ℕ Global → Vec ℕ Global → Ordering
key_cmp u v = slice_cmp nat_cmp u.items v.items

-- These are the facts that were met.
pub record HasMet (seen : Seen) (facts : List GroundAtom) : Type 0 where
  pub numbers : (g : GroundAtom) (n : ℕ) → number seen.most (2 ^ 64) (key_of g) ≡ Some n → contains nat_cmp seen.numbers n ≡ is_among g facts
  pub keys : (g : GroundAtom) (v : Vec ℕ Global) → number seen.most (2 ^ 64) (key_of g) ≡ None → v.items ≡ key_of g → contains key_cmp seen.keys v ≡ is_among g facts

-- Whichever were met, this one was met too now, and it is told whether it is new.
abbrev pub Meets : Seen → GroundAtom → Seen → Bool → Type 0
Meets old g new told = (facts : List GroundAtom) → HasMet old facts → (told ≡ not (is_among g facts)) × HasMet new (facts ++ g ∷ [])
