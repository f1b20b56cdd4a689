-- What pruning gives of a problem: the problem with what is kept, or that it has no solution.
-- Source: this project's.
use Rattle.std.specs.Prelude.{◌≡◌}
use Rattle.plan_model.specs.declared.values.Hddl.{Hddl}
use Rattle.live_parts.specs.Live.{Parts, AreLive, MayBeSolved}
use Rattle.live_parts.specs.Kept.{Kept, AreKept}
use Rattle.live_parts.specs.Pruned.{pruned}
use Rattle.hddl_prune.specs.declared.pruning.PruneError.{PruneError}
use Rattle.hddl_prune.specs.declared.pruning.PruneError.TheVariants.{NoSolution, Memory}

module _ (h : Hddl) where
  -- the problem may be solved, and the value has exactly what is kept of it
  pub record IsPruned (value : Hddl) : Type 0 where
    pub live : Parts
    pub live_is : AreLive h live
    pub solved : MayBeSolved h live
    pub kept : Kept
    pub kept_is : AreKept h live kept
    pub is : value ≡ pruned kept h

  -- the top method isn't live, or the goal can't be so
  pub record CannotBeSolved : Type 0 where
    pub live : Parts
    pub live_is : AreLive h live
    pub unsolved : MayBeSolved h live → ⊥

  -- where there is said to be no solution, that is so; memory may be refused at any time
  abbrev pub HasNoSolution : PruneError → Type 0
  HasNoSolution NoSolution = CannotBeSolved
  HasNoSolution Memory = Unit {0}
