-- The order pairs of a network, as a relation of the numbers of its children.
-- Source: Höller et al., "HDDL", AAAI 2020, ordering constraints of a task network.
use Rattle.std.specs.Prelude.{ℕ, List, Contains}
use Rattle.plan_model.specs.declared.networks.Pair.{Pair}

abbrev pub pair : ℕ → ℕ → Pair
pair i j = record { first = i; then = j }

abbrev pub Pairs : List Pair → ℕ → ℕ → Type 0
Pairs pairs i j = Contains pairs (pair i j)
