-- The variables in force, each with the place of the one of its name that it hides.
use Rattle.std.specs.Prelude.{ℕ, ◌≡◌, ◌<◌, List, map, take, length, Option, slice_index_or}
use Rattle.gd_reader.specs.declared.typed_lists.RawParam.{RawParam}
use Rattle.name_binding.specs.declared.variables.Entered.{Entered}
use Rattle.name_binding.specs.Places.{AreLast, last_place}

abbrev pub numbers_of : List Entered → List ℕ
numbers_of entered = map (λ (e : Entered). e.number) entered

-- each hides the last one of its number in front of it
abbrev pub HideLast : List Entered → Type 0
HideLast entered = (k : ℕ) (d : Entered) → k < length entered → (slice_index_or entered k d).hidden ≡ last_place (slice_index_or entered k d).number (take k (numbers_of entered))

pub record AreInForce (cells : List (Option ℕ)) (entered : List Entered) : Type 0 where
  pub last : AreLast cells (numbers_of entered)
  pub hidden : HideLast entered

-- the variables that a list declares
abbrev pub variables_of : List RawParam → List ℕ
variables_of params = map (λ (p : RawParam). p.name.number) params
