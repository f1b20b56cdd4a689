-- Schemas with names of numbers: the predicate p is 1 with one parameter, x is 5, the object o is 6, the type object is 0.
use Rattle.std.proofs.Common.{ℕ, ◌≡◌, ◌+◌, Bool, false, List, [], ◌∷◌, refl}
use Rattle.gd_reader.specs.declared.term.RawAtom.{RawAtom}
use Rattle.gd_reader.specs.declared.term.RawTerm.{RawTerm}
use Rattle.gd_reader.specs.declared.typed_lists.RawParam.{RawParam}
use Rattle.hddl_reader.specs.declared.sections.RawHead.{RawHead}
use Rattle.name_binding.specs.Spots.{spot}
use Rattle.name_binding.specs.declared.known.Known.{Known}
use Rattle.hddl_bind.specs.Schemas.{heads_faults}
use Rattle.hddl_bind.specs.DeclaredNames.{second_heads, second_objects}
use Rattle.hddl_bind.specs.Facts.{facts_bound, facts_faults}

abbrev known : Known
known = record { objects = 6 ∷ []; predicates = record { name = record { number = 1 }; arity = 1 } ∷ []; types = record { types = 0 ∷ []; unions = [] } }

abbrev term : ℕ → Bool → ℕ → RawTerm
term n variable at = record { name = record { number = n }; variable = variable; at = at }

abbrev p_of : ℕ → Bool → ℕ → RawAtom
p_of n variable at = record { head = term 1 false at; args = term n variable (at + 3) ∷ [] }

abbrev x : List RawTerm → RawParam
x ty = record { name = record { number = 5 }; ty = ty; at = 10 }

abbrev head : ℕ → ℕ → List RawTerm → RawHead
head n at ty = record { name = term n false at; params = x ty ∷ [] }

-- 11: no type has the name 8
no_type : heads_faults known.types (head 1 4 (term 8 false 12 ∷ []) ∷ []) ≡ spot 12 11 ∷ []
no_type = refl

-- 10: p again
p_again : second_heads (head 1 4 [] ∷ head 2 14 [] ∷ head 1 24 [] ∷ []) ≡ spot 24 10 ∷ []
p_again = refl

-- 10: a constant again as an object
o_again : second_objects (6 ∷ []) (record { name = record { number = 6 }; ty = []; at = 40 } ∷ x [] ∷ []) ≡ spot 40 10 ∷ []
o_again = refl

-- (p o), and 15: an object that isn't declared
a_fact : facts_bound known (p_of 6 false 50 ∷ []) ≡ record { predicate = 0; args = 0 ∷ [] } ∷ []
a_fact = refl

no_object : facts_faults known (p_of 6 false 50 ∷ p_of 7 false 60 ∷ []) ≡ spot 63 15 ∷ []
no_object = refl
