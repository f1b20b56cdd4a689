use Rattle.std.proofs.Common.{sym, subst}
use Rattle.text_values.specs.Reading.{RefusesNames}
use Rattle.text_values.proofs.DomainTexts.{refused_names}
use Rattle.text_values.proofs.domains.bound_names.Goals as goal

pub returns-in-Err-clause-refused : goal.returns-in-Err-clause-refused
returns-in-Err-clause-refused c =
    subst (RefusesNames c.args.language c.bind_domain-bound.new.names c.args.domain) (sym c.read_error.ensures.same)
    (refused_names c.args.language c.bind_domain-bound.new.names c.args.domain c.in-Err.error c.in-Err.ensures.refused)
