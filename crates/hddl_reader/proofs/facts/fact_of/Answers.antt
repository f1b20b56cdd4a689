use Rattle.std.proofs.Common.{ap, ◌∙◌}
use Rattle.gd_reader.specs.ShownFrom.{behind_at}
use Rattle.gd_reader.proofs.Behind.{behind_list}
use Rattle.gd_reader.proofs.Keeping.{keeps_same}
use Rattle.hddl_reader.proofs.facts.fact_of.Goals as goal

pub returns-in_err-at-clause-keeps : goal.returns-in_err-at-clause-keeps
returns-in_err-at-clause-keeps c = keeps_same c.args.names.now

pub returns-in_ok-end-clause-behind : goal.returns-in_ok-end-clause-behind
returns-in_ok-end-clause-behind c =
    let text = c.args.s.now in
    c.in_ok-end.ensures.behind ∙ c.in_ok-next.ensures.behind ∙ ap (behind_at text) c.position.ensures.position.number
    ∙ behind_list text c.in_ok-at.next.token c.in_ok-inside.inside c.in_ok-inside.behind c.in_ok-inside.ensures.closed
    ∙ c.in_ok-at.ensures.behind
