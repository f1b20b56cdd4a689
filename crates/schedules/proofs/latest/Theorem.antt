-- The laws, put together.
use Rattle.std.proofs.Common.{ℕ, ◌⊎◌, inl, inr, [], length}
use Rattle.plan_model.specs.task_networks.Order.{Precedes}
use Rattle.plan_model.specs.task_networks.Net.{Net}
use Rattle.plan_model.specs.task_networks.Tree.{Address, ran}
use Rattle.plan_model.specs.task_networks.Preorder.{nodes_at}
use Rattle.schedules.specs.latest.Gaps.{gap_in}
use Rattle.schedules.specs.latest.Laws.{IsOrderDecided, IsDecided, GreaterIsGapFunction, LatestOrNone, LatestIsTheOnlyOne, OnePassIsLatest, PlacedInducesGaps, GapsHaveSchedule, ScheduleIsPlaced, ScheduleIsTheOnlyOne, PlacedExactlyWhereLatest}
use Rattle.schedules.proofs.latest.Counts.{found}
use Rattle.schedules.proofs.latest.Greater.{greater_is_gap_function}
use Rattle.schedules.proofs.latest.Induced.{induced}
use Rattle.schedules.proofs.latest.Lowering.{latest_or_none}
use Rattle.plan_model.proofs.task_networks.Before.{is_blocking}
use Rattle.schedules.proofs.latest.Ranks.{rank, rank_child, rank_blocks, rank_most}
use Rattle.schedules.proofs.latest.Placed.{is_placed, gaps_agree}
use Rattle.schedules.proofs.latest.Building.{schedule_exists}
use Rattle.schedules.proofs.latest.OnlyOne.{latest_is_the_only_one, schedule_is_the_only_one, same_gaps}
use Rattle.schedules.proofs.latest.OnePass.{one_pass_is_latest}

decide : {P : Type 0} → P ⊎ (P → ⊥) → Dec P
decide (inl p) = yes p
decide (inr n) = no n

module _ (N : Net) (Allowed : Address → ℕ → Type 0) where
  pub greater : GreaterIsGapFunction N Allowed
  greater tree plan = greater_is_gap_function N tree plan Allowed

  pub only_latest : LatestIsTheOnlyOne N Allowed
  only_latest tree plan g h a b = latest_is_the_only_one N tree plan Allowed g h a b

  pub induces : PlacedInducesGaps N Allowed
  induces tree plan order a s = induced N tree plan a Allowed order s

  pub placed : ScheduleIsPlaced N Allowed
  placed tree plan gap order a g s = (is_placed N tree plan a Allowed gap g order s, gaps_agree N tree plan a Allowed gap g order s)

  pub only_schedule : ScheduleIsTheOnlyOne N Allowed
  only_schedule tree plan order other a s t = schedule_is_the_only_one N tree plan a Allowed s.gap s.latest.is order other s.schedule
      (same_gaps N tree plan a Allowed t.gap s.gap t.latest.is s.latest.is (latest_is_the_only_one N tree plan Allowed t.gap s.gap t.latest s.latest) other t.schedule)

  module _ (d : IsOrderDecided N) where
    pub preceding : (m : N.Method) (i j : ℕ) → Dec (Precedes (N.Pair m) i j)
    preceding m i j = decide (d.precedes m i j)

    pub one_pass : OnePassIsLatest N Allowed
    one_pass tree plan gap a h = one_pass_is_latest N tree plan Allowed (rank N tree d.acyclic preceding) (length (nodes_at N [] tree)) (rank_most N tree d.acyclic preceding)
        (rank_child N tree d.acyclic preceding) (rank_blocks N tree d.acyclic preceding) gap h
        (λ i p e. (let x = a.leaves p (found plan i p e) in (ran x.0, x.1)))

    pub schedules : GapsHaveSchedule N Allowed
    schedules tree plan gap a g = schedule_exists N tree plan a Allowed gap g (is_blocking N tree preceding) (rank N tree d.acyclic preceding) (rank_child N tree d.acyclic preceding) (rank_blocks N tree d.acyclic preceding)

  module _ (d : IsDecided N Allowed) where
    pub latest : LatestOrNone N Allowed
    latest tree plan a = latest_or_none N tree plan a Allowed (λ p i. decide (d.allowed p i)) (is_blocking N tree (preceding d.order))

    pub exactly : PlacedExactlyWhereLatest N Allowed
    exactly tree plan a = (
      λ s. elim (latest tree plan a) [
        | inl x ↦ (let y = schedules d.order tree plan x.0 a x.1.is in (y.0, record { gap = x.0; latest = x.1; schedule = y.1 }))
        | inr n ↦ absurd (n (gap_in N tree plan s.0) (induces tree plan s.0 a s.1))
      ],
      λ s. (s.0, (placed tree plan s.1.gap s.0 a s.1.latest.is s.1.schedule).0),
    )
