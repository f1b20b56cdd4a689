use Rattle.std.proofs.Common.{List, ℕ, ap, ◌∙◌}
use Rattle.htn_base.specs.Table.{with_word}
use Rattle.htn_base.specs.Words.{folded}
use Rattle.problem_index.proofs.printed.intern_printed.Goals as goal

pub returns : goal.returns
returns c =
    record { interned = c.in_ok-intern.ensures.words ∙ ap (λ (w : List ℕ). with_word c.args.table.now (folded w)) (c.as_slice.ensures.bytes ∙ c.in_ok-printed.ensures.escaped) }
