use Rattle.std.proofs.Common.{map, ◌++◌, subst}
use Rattle.hplan_text.specs.Rows.{number}
use Rattle.hplan_text.specs.HPlanFaults.{faults_at, repeats, others}
use Rattle.hplan_text.specs.LeastOf.{IsLeastOf}
use Rattle.hplan_text.proofs.Numbered.{no-others, same-others}
use Rattle.hplan_text.proofs.ids.least_id.Goals as goal

pub returns : goal.returns
returns c =
    let own = c.args.own.now in
    let listed = c.args.listed.now in
    let first = subst (λ ms. IsLeastOf c.in_ok-repeated.repeated (faults_at 32 ms ++ faults_at 32 (repeats own))) (no-others c.args.ids.now own c.requires.same) c.in_ok-repeated.ensures.least in
    let second = subst (λ ms. IsLeastOf c.in_ok-misused.misused (faults_at 33 ms ++ faults_at 34 (repeats listed))) (same-others c.args.ids.now (map number own) listed c.requires.same) c.in_ok-misused.ensures.least in
    c.least.ensures (faults_at 32 (repeats own)) (faults_at 33 (others (map number own) listed) ++ faults_at 34 (repeats listed)) first second
