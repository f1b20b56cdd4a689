-- The numbers of a list in the order in which they are first seen.
use Rattle.std.specs.Prelude.{ℕ, ◌≡◌, Bool, cond, List, [], ◌∷◌, ◌++◌, nat_eq, if◌then◌else◌}
use Rattle.std.specs.List.{list_any}
use Rattle.std.specs.BTreeSet as sorted
use Rattle.std.specs.BTreeSet.{BTreeSet}
use Rattle.std.specs.Ordering.{nat_cmp}

abbrev pub is_among : ℕ → List ℕ → Bool
is_among n ns = list_any (nat_eq n) ns

-- those that aren't seen yet, each once
abbrev pub first_seen : List ℕ → List ℕ → List ℕ
first_seen seen [] = []
first_seen seen (n ∷ ns) = cond (is_among n seen) (first_seen seen ns) (n ∷ first_seen (n ∷ seen) ns)

-- the numbers and this one: the same where it is there, else with it at the end
abbrev pub with_number : List ℕ → ℕ → List ℕ
with_number ns n = if is_among n ns then ns else ns ++ n ∷ []

-- the set has the numbers of the list
abbrev pub AreSeen : BTreeSet ℕ → List ℕ → Type 0
AreSeen seen numbers = (n : ℕ) → sorted.contains nat_cmp seen n ≡ is_among n numbers
