-- The plan that a run of a sound problem shows can be printed and is sound, so its text is read back.
use Rattle.std.proofs.Common.{◌<◌, ◌^◌, length, ap, arith}
use Rattle.plan_model.specs.declared.values.Compiled.{Compiled}
use Rattle.plan_model.specs.task_networks.Preorder.{preorder}
use Rattle.plan_model.specs.plan_meaning.Network.{network}
use Rattle.tree_core.specs.declared.growth.Scheduled.{Scheduled}
use Rattle.tree_core.specs.Labels.{labels, labelled}
use Rattle.tree_core.proofs.Labelled.{preorder-labelled}
use Rattle.tree_core.proofs.Siblings.{as_many}
use Rattle.hplan_text.specs.HPlanText.{hplan_text}
use Rattle.hplan_text.specs.ShownLaws.{IsSoundRun, ShownPlansAreSound, ShownPlansAreReadBack}
use Rattle.hplan_text.proofs.OneHPlan.{one-hplan}
use Rattle.hplan_text.proofs.ReadBack.{read-back}
use Rattle.hplan_text.proofs.ShownSound.{shown_sound}
use Rattle.hplan_text.proofs.ShownWords.{shown_printable}

module _ (c : Compiled) (run : Scheduled) (small : length run.tree < 2 ^ 32) where
  few : (r : IsSoundRun c run) → length (preorder (network c) r.tree) < 2 ^ 64
  few r =
      let rows = ap length r.stands.rows in
      let many = as_many labels (labelled c r.tree) in
      let same = ap length (preorder-labelled c r.tree) in
      omega (arith, small, rows, many, same)

  pub shown_are_sound : ShownPlansAreSound c run
  shown_are_sound plan r is =
      let s = is r.tree r.order r.finished r.stands in
      (shown_printable r.problem r.checks c r.sound r.compiled r.tree r.order r.finished (few r) plan s, shown_sound c r.tree r.order r.finished plan s)

  pub shown_are_read_back : ShownPlansAreReadBack c run
  shown_are_read_back plan r is =
      let (printable, sound) = shown_are_sound plan r is in
      let read = read-back plan printable sound in
      record { read = read; only = λ other s. one-hplan (hplan_text plan) other plan s read.spelled }
