-- What each command reads and writes, and the number of slots that it is given: a line a command.
-- Source: this project's.
use Rattle.std.specs.Prelude.{ℕ, ◌*◌, ◌≤◌, List, [], ◌∷◌, Option, Some, None, IfSome, codes, option_map}
use Rattle.htn_base.specs.Limits.{most_slots}
use Rattle.plan_model.specs.declared.options.Slots.{Slots}
use Rattle.plan_model.specs.declared.options.Slots.TheVariants.{Any, First}
use Rattle.command_words.specs.Names.{Word}
use Rattle.command_words.specs.Words.{Request, to_translate, to_bound, to_decode, to_encode, to_validate, to_make, to_prune, number_of}

-- its inputs, in the order in which they are read
abbrev pub inputs_of : Request → List Word
inputs_of (to_translate r) = r.names.domain ∷ r.names.problem ∷ []
inputs_of (to_bound r) = r.domain ∷ r.problem ∷ []
inputs_of (to_decode r) = r.domain ∷ r.problem ∷ r.plan ∷ []
inputs_of (to_encode r) = r.domain ∷ r.problem ∷ r.hplan ∷ []
inputs_of (to_validate r) = r.domain ∷ r.problem ∷ r.plan ∷ []
inputs_of (to_make r) = []
inputs_of (to_prune r) = r.names.domain ∷ r.names.problem ∷ []

-- its outputs, in the order in which they are put
abbrev pub outputs_of : Request → List Word
outputs_of (to_translate r) = r.names.printed_domain ∷ r.names.printed_problem ∷ []
outputs_of (to_bound r) = []
outputs_of (to_decode r) = []
outputs_of (to_encode r) = []
outputs_of (to_validate r) = []
outputs_of (to_make r) = r.printed_domain ∷ r.printed_problem ∷ []
outputs_of (to_prune r) = r.names.printed_domain ∷ r.names.printed_problem ∷ []

-- the names by which faults are told of its texts: a made problem is two texts that are no files
abbrev pub names_told : Request → List Word
names_told (to_make r) = codes "domain" ∷ codes "problem" ∷ []
names_told request = inputs_of request

-- its number of slots, where one is given: each package of a made problem takes five
abbrev pub slots_given : Request → Option ℕ
slots_given (to_translate r) = option_map number_of r.numeral
slots_given (to_bound r) = None
slots_given (to_decode r) = option_map number_of r.numeral
slots_given (to_encode r) = option_map number_of r.numeral
slots_given (to_validate r) = None
slots_given (to_make r) = Some (5 * number_of r.numeral)
slots_given (to_prune r) = None

-- the most slots of a made problem
abbrev pub most_made_slots : ℕ
most_made_slots = 4096

-- the most of which a method takes the lowest free ones
abbrev pub most_first_slots : ℕ
most_first_slots = 1024

-- the most by which free slots a method takes
abbrev pub most_by : Slots → ℕ
most_by Any = most_slots
most_by First = most_first_slots

-- the most that are printed
abbrev pub most_slots_of : Request → ℕ
most_slots_of (to_translate r) = most_by r.rule
most_slots_of (to_make r) = most_made_slots
most_slots_of request = most_slots

-- which is one that is printed
abbrev pub IsWithin : Request → Type 0
IsWithin request = IfSome (slots_given request) (λ n. n ≤ most_slots_of request)
