-- The rule that picks everything: the general laws say again what is known of the machine of slots.
use Rattle.std.proofs.Common.{ℕ, List}
use Rattle.plan_model.specs.task_networks.Net.{Net}
use Rattle.plan_model.specs.task_networks.Lawful.{IsLawful}
use Rattle.plan_model.specs.task_networks.Spelling.{Act}
use Rattle.slot_machine.specs.Laws.{FewPendingHaveSpellings}
use Rattle.schedules.specs.ruled.Narrowed.{AlwaysPicks}
use Rattle.schedules.proofs.ruled.PickedPlans.{few_pending_have_picked}

module _ (N : Net) (law : IsLawful N) where
  abbrev Any : ℕ → N.Work → List (Act N) → Act N → Type 0
  Any b top acts a = Unit {0}

  always : (b : ℕ) (top : N.Work) → AlwaysPicks N (Any b top) b top
  always b top = record { runs = λ acts tree order slot h w s m. tt; methods = λ acts tree order slot h some m s a. (some, a, tt) }

  few_pending_again : FewPendingHaveSpellings N
  few_pending_again b top tree order f =
      let x = few_pending_have_picked N law Any b top (always b top) tree order f in (
        λ w. (let (acts, slot, s) = x.0 w in (acts, slot, s.spells)),
        λ h. x.1 (h.0, h.1, record { spells = h.2; picked = λ taken rest a e. tt }),
      )
