-- How deep lists stand in one another, and in a text that says them.
-- Source: this project's.
use Rattle.std.specs.Prelude.{ℕ, zero, suc, ◌≡◌, ◌↔◌, List}
use Rattle.htn_base.specs.Limits.{deepest}
use Rattle.text_forms.specs.Faults.{fault, IsFault}
use Rattle.text_forms.specs.Lists.{Part, Parts, name, group, nothing, part, written}
use Rattle.text_forms.specs.Tokens.{symbols}

-- no list of the text stands too deep
abbrev pub IsShallow : List ℕ → Type 0
IsShallow text = (at : ℕ) → IsFault text (fault 4 at) → ⊥

abbrev mutual
  -- at most so many lists stand in one another, itself counted
  pub IsWithinDepth : ℕ → Part → Type 0
  IsWithinDepth n (name w) = Unit {0}
  IsWithinDepth zero (group ps) = ⊥
  IsWithinDepth (suc n) (group ps) = AreWithinDepth n ps

  pub AreWithinDepth : ℕ → Parts → Type 0
  AreWithinDepth n nothing = Unit {0}
  AreWithinDepth n (part p ps) = IsWithinDepth n p × AreWithinDepth n ps

-- in a text no list stands too deep exactly where the list that it says has at most 200 lists in one another
abbrev pub DepthIsThatOfLists : Type 0
DepthIsThatOfLists = (text : List ℕ) (p : Part) → symbols text ≡ written p → IsWithinDepth deepest p ↔ IsShallow text
