use Rattle.std.proofs.Common.{length, ap, ◌∙◌}
use Rattle.htn_base.proofs.PackedLemmas.{length-all}
use Rattle.htn_base.proofs.rows.Rows.len.Goals as goal

pub returns : goal.returns
returns c =
    let rows = c.self.inside in
    let long = length-all rows.heads rows.ends rows.rest c.self.invariant in
    record { length = c.len.ensures.length ∙ long ∙ ap (λ xs. length xs) c.self.view_is }
