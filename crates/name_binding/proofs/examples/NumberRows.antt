-- Names, variables, terms and faults, computed.
use Rattle.std.proofs.Common.{◌≡◌, ℕ, true, false, [], ◌∷◌, Some, None, refl}
use Rattle.gd_reader.specs.declared.term.RawTerm.{RawTerm}
use Rattle.plan_model.specs.declared.terms.Term.TheVariants.{Var, Obj}
use Rattle.name_binding.specs.declared.heads.Head.{Head}
use Rattle.name_binding.specs.Places.{first_place, last_place}
use Rattle.name_binding.specs.Heads.{declared}
use Rattle.name_binding.specs.Spots.{spot, noted}
use Rattle.name_binding.specs.Terms.{term_bound, terms_faults}

-- the name of number 7 is declared at places 1 and 2
first_of_two : first_place 7 (5 ∷ 7 ∷ 7 ∷ []) ≡ Some 1
first_of_two = refl

-- an inner variable hides the outer one of its name
inner_hides : last_place 7 (7 ∷ 5 ∷ 7 ∷ []) ≡ Some 2
inner_hides = refl

outer_is_back : last_place 7 (7 ∷ 5 ∷ []) ≡ Some 0
outer_is_back = refl

abbrev head : ℕ → ℕ → Head
head n arity = record { name = record { number = n }; arity = arity }

-- of two declarations of one name the first counts
first_arity : declared 7 (head 5 1 ∷ head 7 2 ∷ head 7 3 ∷ []) ≡ Some (record { place = 1; arity = 2 })
first_arity = refl

abbrev variable : ℕ → ℕ → RawTerm
variable n at = record { name = record { number = n }; variable = true; at = at }

abbrev object : ℕ → ℕ → RawTerm
object n at = record { name = record { number = n }; variable = false; at = at }

-- a variable and an object may have one name
variable_is_no_object : term_bound (7 ∷ []) (5 ∷ 7 ∷ []) (variable 7 30) ≡ Var 1
variable_is_no_object = refl

object_is_no_variable : term_bound (7 ∷ []) (5 ∷ 7 ∷ []) (object 7 30) ≡ Obj 0
object_is_no_variable = refl

-- 16: a variable that isn't in force, though an object has its name; 15: an object that isn't declared
unknown_terms : terms_faults (7 ∷ []) (5 ∷ []) (variable 7 30 ∷ object 5 40 ∷ []) ≡ spot 30 16 ∷ spot 40 15 ∷ []
unknown_terms = refl

-- the least by offset, and by code at one offset
least_by_offset : noted None (spot 40 13 ∷ spot 30 16 ∷ []) ≡ Some (spot 30 16)
least_by_offset = refl

least_by_code : noted (Some (spot 30 17)) (spot 30 13 ∷ spot 30 16 ∷ []) ≡ Some (spot 30 13)
least_by_code = refl
