use Rattle.std.proofs.Common.{sym, subst, [], ◌∷◌, ◌++◌}
use Rattle.text_forms.specs.Faults.{fault}
use Rattle.hplan_text.specs.LeastOf.{IsLeastOf, faults_unless}
use Rattle.hplan_text.proofs.LeastFound.{least-one, least-only}
use Rattle.std.proofs.Common.{refl}
use Rattle.hplan_text.proofs.least.least_unless.Goals as goal

pub returns-then-well : goal.returns-then-well
returns-then-well c = λ fs h. subst (λ b. IsLeastOf c.args.found (fs ++ faults_unless b c.args.code c.args.at)) (sym c.if-well.true) (least-only fs [] c.args.found h refl)

pub returns-else-well : goal.returns-else-well
returns-else-well c = λ fs h. subst (λ b. IsLeastOf c.least.result (fs ++ faults_unless b c.args.code c.args.at)) (sym c.if-well.false)
    (c.least.ensures fs (fault c.args.code c.args.at ∷ []) h (least-one (record { at = c.args.at; code = c.args.code })))
