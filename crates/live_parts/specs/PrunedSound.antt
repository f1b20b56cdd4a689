-- What is proved of a pruned problem as a value.
-- Source: this project's.
use Rattle.plan_model.specs.declared.values.Hddl.{Hddl}
use Rattle.plan_model.specs.plan_meaning.Laws.{AreOrdered}
use Rattle.plan_texts.specs.SoundProblem.{IsSoundProblem}
use Rattle.live_parts.specs.Live.{Parts}
use Rattle.live_parts.specs.Kept.{Kept, AreKept}
use Rattle.live_parts.specs.Pruned.{pruned}

module _ (h : Hddl) where
  -- what is kept of a sound problem is a sound problem, whatever is called live
  abbrev pub PrunedIsSound : Type 0
  PrunedIsSound = (live : Parts) (kept : Kept) → AreKept h live kept → IsSoundProblem (pruned kept h)

  -- its orders are those of the problem, so they have no cycle either
  abbrev pub PrunedIsOrdered : Type 0
  PrunedIsOrdered = (live : Parts) (kept : Kept) → AreKept h live kept → AreOrdered (pruned kept h)
