-- The limits of the translator, each number once.
-- Source: this project's.
use Rattle.std.specs.Prelude.{ℕ}

-- the bytes of an input text: 16 MiB
abbrev pub longest_input : ℕ
longest_input = 16777216

-- the lists of a text that are open at once
abbrev pub deepest : ℕ
deepest = 200

-- the subtasks of a task network
abbrev pub most_subtasks : ℕ
most_subtasks = 4096

-- the types of an HDDL text beside `object`
abbrev pub most_types : ℕ
most_types = 1000

-- the types of a PDDL text beside `object`: the translation adds two to those of its HDDL text
abbrev pub most_pddl_types : ℕ
most_pddl_types = 1002

-- the slots of a translation
abbrev pub most_slots : ℕ
most_slots = 65536

-- the steps of a plan to be validated
abbrev pub most_steps : ℕ
most_steps = 1000000

-- the lines of a hierarchical plan that have an id
abbrev pub most_lines : ℕ
most_lines = 499999

-- the bytes of a text that is written: 256 MiB
abbrev pub longest_output : ℕ
longest_output = 268435456
