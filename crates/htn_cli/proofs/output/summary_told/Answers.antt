use Rattle.std.proofs.Common.{rules, ◌<◌, ◌≤◌, ◌^◌, length, sym, subst}
use Rattle.htn_base.specs.Limits.{longest_output}
use Rattle.htn_cli.proofs.Results.{if_ok_same, if_ok_too}
use Rattle.htn_cli.proofs.Makings.{summary_fits}
use Rattle.htn_cli.proofs.output.summary_told.Goals as goal

pub returns-clause-short : goal.returns-clause-short
returns-clause-short c =
    let n = c.args.counts in
    let p : n.packages < 2 ^ 128 = search rules in
    let a : n.actions < 2 ^ 128 = search rules in
    let b : n.bound < 2 ^ 128 = search rules in
    let w : n.width < 2 ^ 128 = search rules in
    let s : n.steps < 2 ^ 128 = search rules in
    if_ok_same (λ text. length text ≤ longest_output) c.summary_of.result c.made.result c.made.ensures.text
    (if_ok_too c.summary_of.result (λ text e. subst (λ z. length z ≤ longest_output) (sym e) (summary_fits n.packages n.actions n.bound n.width n.steps p a b w s)) c.summary_of.ensures)
