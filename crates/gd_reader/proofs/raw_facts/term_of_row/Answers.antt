use Rattle.std.proofs.Common.{◌+◌, ◌*◌, sym, ◌∙◌, arith}
use Rattle.htn_base.proofs.ReadAt.{past_read}
use Rattle.gd_reader.proofs.Coding.{no_term, term_read}
use Rattle.gd_reader.proofs.raw_facts.term_of_row.Goals as goal

pub returns-in_err-away : goal.returns-in_err-away
returns-in_err-away c =
    let row = c.row.inside in
    let j = c.args.j in
    let past = past_read row.rest (j * 2 + 1) c.get.result c.get.ensures.number c.in_err-away.was in
    rw (c.from_residual.ensures, ← c.row.view_is) (no_term row.head row.rest j (omega (arith, past)))

pub returns-in_err-code : goal.returns-in_err-code
returns-in_err-code c =
    let row = c.row.inside in
    let j = c.args.j in
    let past = past_read row.rest (j * 2 + 2) c.get-2.result c.get-2.ensures.number c.in_err-code.was in
    rw (c.from_residual-in_err-code.ensures, ← c.row.view_is) (no_term row.head row.rest j past)

pub returns : goal.returns
returns c =
    let row = c.row.inside in
    rw (c.decoded.ensures, ← c.row.view_is)
    (term_read row.head row.rest c.args.j c.in_ok-away.away c.in_ok-code.code (sym c.get.ensures.number ∙ c.in_ok-away.was)
    (sym c.get-2.ensures.number ∙ c.in_ok-code.was))
