use Rattle.std.proofs.Common.{List, ℕ, ◌≡◌, ◌≤◌, sym, subst, ◌∙◌, arith}
use Rattle.state_history.specs.Gaps.{is_true_in, flips_at}
use Rattle.state_history.proofs.FlipLaws.{truth-as}
use Rattle.state_history.proofs.desk.Desk.holds.Goals as goal

pub returns-clause-truth : goal.returns-clause-truth
returns-clause-truth c j since before =
    let m = c.max-self.ensures in
    let l : c.at-look.result.since ≤ j = omega (arith, m, since) in
    let key = c.as_slice.ensures.value ∙ c.in_ok-fill.ensures.key in
    truth-as (sym (subst (λ (k : List ℕ). is_true_in j (flips_at c.args.flips.now.gaps k) ≡ c.at-look.result.truth) key (c.at-look.ensures.same j l before)))
