-- The numbers of what is kept, as lists.
-- Source: this project's.
use Rattle.std.specs.List.Sorted.{IsStrictlyIncreasing}
use Rattle.live_parts.specs.Kept.{Kept}
use Rattle.hddl_prune.specs.declared.chosen.Chosen.{Chosen}

abbrev pub chosen : Chosen → Kept
chosen kept = record { tasks = kept.tasks; actions = kept.actions; methods = kept.methods }

-- the lists in which numbers are searched
pub record AreRising (kept : Kept) : Type 0 where
  pub tasks : IsStrictlyIncreasing kept.tasks
  pub actions : IsStrictlyIncreasing kept.actions
