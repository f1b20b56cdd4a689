-- Ids in ascending order, and marks on some of them, as the code has them.
-- Source: this project's.
use Rattle.std.specs.Prelude.{ℕ, ◌≡◌, ◌<◌, Bool, true, false, cond, List, [], ◌∷◌, length, map, Option, Some, None, slice_index, slice_set}
use Rattle.text_forms.specs.Faults.{Fault, fault}
use Rattle.hplan_text.specs.declared.ids.Taken.{Taken}
use Rattle.hplan_text.specs.declared.ids.Taken.TheVariants as outcomes
use Rattle.hplan_text.specs.declared.mention.Mention.{Mention}
use Rattle.hplan_text.specs.Rows.{number}
use Rattle.hplan_text.specs.HPlanFaults.{is_among}

-- these are the ids of the mentions
abbrev pub HaveIds : List ℕ → List Mention → Type 0
HaveIds ids ms = (n : ℕ) → is_among n ids ≡ is_among n (map number ms)

abbrev pub among : List ℕ → ℕ → Bool
among ids n = is_among n ids

-- an id stands at this place, or nowhere
abbrev pub IsPlaceOf : List ℕ → ℕ → Option ℕ → Type 0
IsPlaceOf ids n None = is_among n ids ≡ false
IsPlaceOf ids n (Some p) = (p < length ids) × (slice_index ids p ≡ n)

-- the ids with a mark
abbrev pub chosen : List ℕ → List Bool → List ℕ
chosen [] marks = []
chosen (n ∷ ids) [] = []
chosen (n ∷ ids) (mark ∷ marks) = cond mark (n ∷ chosen ids marks) (chosen ids marks)

abbrev pub has : List ℕ → List Bool → ℕ → Bool
has ids marks n = is_among n (chosen ids marks)

-- an id is none of these, or was marked before, or is marked now, at its place
abbrev pub Takes : List ℕ → ℕ → (old new : List Bool) → Taken → Type 0
Takes ids n old new outcomes.Unknown = (is_among n ids ≡ false) × (new ≡ old)
Takes ids n old new outcomes.Again = (has ids old n ≡ true) × (new ≡ old)
Takes ids n old new (outcomes.New p) = (p < length ids) × (slice_index ids p ≡ n) × (has ids old n ≡ false) × (new ≡ slice_set old p true)

-- whether the id is one of these, and whether it was marked before
abbrev pub Tells : Taken → (known seen : Bool) → Type 0
Tells outcomes.Unknown known seen = known ≡ false
Tells outcomes.Again known seen = (known ≡ true) × (seen ≡ true)
Tells (outcomes.New p) known seen = (known ≡ true) × (seen ≡ false)

-- what is wrong with an id at a place: the first code where it isn't known, the second where it was seen
abbrev pub wrong : (unknown again : ℕ) → (known seen : Bool) → ℕ → List Fault
wrong unknown again false seen at = fault unknown at ∷ []
wrong unknown again true true at = fault again at ∷ []
wrong unknown again true false at = []
