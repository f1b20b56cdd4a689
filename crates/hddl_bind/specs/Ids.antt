-- The ids of subtasks, and the subtask for which an id stands.
-- Source: Höller et al., "HDDL", AAAI 2020: ids of subtasks in a task network.
use Rattle.std.specs.Prelude.{ℕ, suc, ◌≡◌, ◌==◌, Bool, false, cond, List, [], ◌∷◌, ◌++◌, slice_get, Option, Some, None, option_map}
use Rattle.std.specs.Option.{option_and_then}
use Rattle.gd_reader.specs.declared.term.RawTerm.{RawTerm}
use Rattle.hddl_reader.specs.declared.networks.RawSub.{RawSub}
use Rattle.name_binding.specs.Places.{first_place}
use Rattle.name_binding.specs.declared.faults.Spot.{Spot}
use Rattle.hddl_bind.specs.Seconds.{seconds}

abbrev pub term_number : RawTerm → ℕ
term_number t = t.name.number

abbrev pub term_at : RawTerm → ℕ
term_at t = t.at

abbrev pub id_at : Option RawTerm → List RawTerm
id_at None = []
id_at (Some t) = t ∷ []

abbrev pub ids : List RawSub → List RawTerm
ids [] = []
ids (s ∷ ss) = id_at s.id ++ ids ss

-- 10: an id that a subtask in front has
abbrev pub second_ids : List RawSub → List Spot
second_ids ss = seconds term_number term_at [] (ids ss)

abbrev pub has_id : ℕ → Option RawTerm → Bool
has_id n None = false
has_id n (Some t) = n == t.name.number

-- the first subtask with the id
abbrev pub subtask_of : ℕ → List RawSub → Option ℕ
subtask_of n [] = None
subtask_of n (s ∷ ss) = cond (has_id n s.id) (Some 0) (option_map suc (subtask_of n ss))

-- the subtask of the first id with this number, where these subtasks have the ids
abbrev pub subtask_at : List ℕ → List ℕ → ℕ → Option ℕ
subtask_at numbers places n = option_and_then (slice_get places) (first_place n numbers)

-- the look-up among the ids gives the subtask of each
abbrev pub AreIds : List RawSub → List ℕ → List ℕ → Type 0
AreIds subs numbers places = (n : ℕ) → subtask_at numbers places n ≡ subtask_of n subs
