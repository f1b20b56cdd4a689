use Rattle.htn_base.proofs.PackedLemmas.{row_pushed, rows_pushed}
use Rattle.htn_base.proofs.rows.Rows.push.Goals as goal

pub invariant_of-self-2 : goal.invariant_of-self-2
invariant_of-self-2 c =
    let rows = c.self.inside in
    let put = c.in_ok-put_row.ensures in
    rw (put.ends, put.heads, put.numbers) (rows_pushed rows.heads rows.ends rows.rest c.args.head c.args.rest.now c.self.invariant)

pub returns-clause-pushed : goal.returns-clause-pushed
returns-clause-pushed c =
    let rows = c.self.inside in
    let put = c.in_ok-put_row.ensures in
    rw (put.ends, put.heads, put.numbers, ← c.self.view_is)
    (row_pushed rows.heads rows.ends rows.rest c.self.invariant c.args.head c.args.rest.now)
