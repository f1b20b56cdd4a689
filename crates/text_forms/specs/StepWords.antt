-- Words of a classical plan: the names in its steps, and the marks in front of steps.
-- Source: this project's; a plan of PDDL 2.1, level 1 (Fox and Long, JAIR 20, 2003), without times. Some planners put a number and a colon before a step.
use Rattle.std.specs.Prelude.{ℕ, Bool, false, not, ◌&&◌, ◌==◌, nat_le, [], ◌∷◌}
use Rattle.text_forms.specs.Words.{Word}

-- In a plan a reserved word is a name like any other.
abbrev pub is_step_name : Word → Bool
is_step_name [] = false
is_step_name (b ∷ w) = not (b == 63) && not (b == 58)

abbrev pub is_digit : ℕ → Bool
is_digit b = nat_le 48 b && nat_le b 57

-- digits, perhaps, and a final colon
abbrev pub ends_mark : Word → Bool
ends_mark [] = false
ends_mark (b ∷ []) = b == 58
ends_mark (b ∷ c ∷ w) = is_digit b && ends_mark (c ∷ w)

-- a word of digits and a final colon, as a planner may number its steps
abbrev pub is_mark : Word → Bool
is_mark [] = false
is_mark (b ∷ w) = is_digit b && ends_mark w
