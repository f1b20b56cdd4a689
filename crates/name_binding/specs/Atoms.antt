-- The atom that a written one stands for, and its faults.
use Rattle.std.specs.Prelude.{ℕ, ◌==◌, cond, List, [], ◌∷◌, ◌++◌, length, Option, Some, None}
use Rattle.name_binding.specs.declared.faults.Spot.{Spot}
use Rattle.name_binding.specs.declared.heads.Declared.{Declared}
use Rattle.name_binding.specs.Heads.{declared}
use Rattle.name_binding.specs.Spots.{spot}
use Rattle.name_binding.specs.Terms.{terms_bound, terms_faults}
use Rattle.gd_reader.specs.declared.term.RawAtom.{RawAtom}
use Rattle.plan_model.specs.declared.terms.Atom.{Atom}
use Rattle.name_binding.specs.declared.known.Known.{Known}

-- where none has the name nothing is used of what stands for it
abbrev pub place_of : Option Declared → ℕ
place_of None = 0
place_of (Some d) = d.place

-- 13: no predicate has the name; 17: it is applied to another number of terms than it has parameters
abbrev pub head_faults : ℕ → ℕ → Option Declared → List Spot
head_faults at count None = spot at 13 ∷ []
head_faults at count (Some d) = cond (d.arity == count) [] (spot at 17 ∷ [])

module _ (known : Known) (scope : List ℕ) where
  abbrev pub atom_bound : RawAtom → Atom
  atom_bound a = record { predicate = place_of (declared a.head.name.number known.predicates); args = terms_bound known.objects scope a.args }

  abbrev pub atom_faults : RawAtom → List Spot
  atom_faults a = head_faults a.head.at (length a.args) (declared a.head.name.number known.predicates) ++ terms_faults known.objects scope a.args
