-- The nested lists that parentheses make of what a text says.
-- Source: appendix A (grammar) of Fox and Long, "PDDL2.1", JAIR 20, 2003, level 1.
use Rattle.std.specs.Prelude.{ℕ, zero, suc, List, [], ◌∷◌, ◌++◌}
use Rattle.text_forms.specs.Tokens.{Symbol, left, right, said}

mutual
  pub data Part : Type 0 where
    name : List ℕ → Part
    group : Parts → Part

  pub data Parts : Type 0 where
    nothing : Parts
    part : Part → Parts → Parts

-- what a nested list is written as
abbrev mutual
  pub written : Part → List Symbol
  written (name w) = said w ∷ []
  written (group ps) = left ∷ written_all ps ++ right ∷ []

  pub written_all : Parts → List Symbol
  written_all nothing = []
  written_all (part p ps) = written p ++ written_all ps

-- parts and behind them other parts
abbrev pub joined : Parts → Parts → Parts
joined nothing qs = qs
joined (part p ps) qs = part p (joined ps qs)

-- each parenthesis has its partner, where so many lists are open in front of these symbols
abbrev pub AreMatched : ℕ → List Symbol → Type 0
AreMatched zero [] = Unit {0}
AreMatched (suc d) [] = ⊥
AreMatched d (said w ∷ ss) = AreMatched d ss
AreMatched d (left ∷ ss) = AreMatched (suc d) ss
AreMatched zero (right ∷ ss) = ⊥
AreMatched (suc d) (right ∷ ss) = AreMatched d ss
