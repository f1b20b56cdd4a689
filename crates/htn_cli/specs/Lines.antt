-- What standard output is told: the number of slots, or the bound, or that the list is a plan, or what was made, or what is kept.
-- Source: this project's.
use Rattle.std.specs.Prelude.{ℕ, List, ◌++◌, codes, decimal}

abbrev pub slots_line : ℕ → List ℕ
slots_line slots = codes "slots " ++ decimal slots ++ codes "\n"

abbrev pub bound_line : ℕ → List ℕ
bound_line bound = decimal bound ++ codes "\n"

abbrev pub valid_line : List ℕ
valid_line = codes "valid\n"

-- a line with a number
abbrev pub count_line : List ℕ → ℕ → List ℕ
count_line word n = word ++ decimal n ++ codes "\n"

abbrev pub summary : (packages actions bound width steps : ℕ) → List ℕ
summary packages actions bound width steps =
    count_line (codes "packages ") packages ++ count_line (codes "actions ") actions ++ count_line (codes "bound ") bound
    ++ count_line (codes "width ") width ++ count_line (codes "steps ") steps

-- how many tasks, methods and actions are kept
abbrev pub kept_line : (tasks methods actions : ℕ) → List ℕ
kept_line tasks methods actions =
    codes "tasks " ++ decimal tasks ++ codes " methods " ++ decimal methods ++ codes " actions " ++ decimal actions ++ codes "\n"
