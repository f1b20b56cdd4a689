-- That pruning comes to something, and to one thing alone, whichever value of two texts is taken.
-- Source: this project's.
use Rattle.std.specs.Prelude.{◌≡◌, ◌⊎◌, ◌↔◌, length}
use Rattle.plan_model.specs.declared.values.Hddl.{Hddl}
use Rattle.live_parts.specs.Live.{Parts, AreLive, MayBeSolved}
use Rattle.live_parts.specs.Kept.{Kept, AreKept}
use Rattle.live_parts.specs.Pruned.{pruned}
use Rattle.hddl_prune.specs.Pruning.{IsPruned, CannotBeSolved}
use Rattle.hddl_texts.specs.PrintedHddl.{hddl_domain_text, hddl_problem_text}

-- the same parts of two problems are live, and the same are kept, so both may be solved or neither; what is kept has the same two texts
pub record ArePrunedAlike (h i : Hddl) : Type 0 where
  pub live : (live : Parts) → AreLive h live ↔ AreLive i live
  pub solved : (live : Parts) → MayBeSolved h live ↔ MayBeSolved i live
  pub kept : (live : Parts) (kept : Kept) → AreKept h live kept ↔ AreKept i live kept
  pub domain : (kept : Kept) → hddl_domain_text (pruned kept h) ≡ hddl_domain_text (pruned kept i)
  pub problem : (kept : Kept) → hddl_problem_text (pruned kept h) ≡ hddl_problem_text (pruned kept i)

-- what is told and printed of two values is the same
pub record TellTheSame (value other : Hddl) : Type 0 where
  pub tasks : length value.tasks ≡ length other.tasks
  pub methods : length value.methods ≡ length other.methods
  pub actions : length value.actions ≡ length other.actions
  pub domain : hddl_domain_text value ≡ hddl_domain_text other
  pub problem : hddl_problem_text value ≡ hddl_problem_text other

-- either both are pruned, and alike, or neither can be solved
pub record HaveOneOutcome (h i : Hddl) : Type 0 where
  pub pruned : (value other : Hddl) → IsPruned h value → IsPruned i other → TellTheSame value other
  pub refused : CannotBeSolved h ↔ CannotBeSolved i
  pub not_both : (value : Hddl) → IsPruned h value → CannotBeSolved i → ⊥

-- the problem is pruned, or cannot be solved
abbrev pub IsPrunedSomehow : Hddl → Type 0
IsPrunedSomehow h = ((value : Hddl) × IsPruned h value) ⊎ CannotBeSolved h
