use Rattle.hddl_bind.proofs.WholeTexts.{domain_noted}
use Rattle.hddl_bind.proofs.bound_domain.noted_domain.Goals as goal

pub returns : goal.returns
returns c = record {
  bound =
      domain_noted c.args.language c.args.object.number c.args.d.now c.in_ok-table.table c.in_ok-table.ensures.kinds c.args.faults.now.least c.types_known.new.faults.least c.names_of.new.faults.least
      c.schemas_of.new.faults.least c.in_ok-names.names c.in_ok-types.types c.in_ok-schemas.schemas c.together.result c.in_ok-table.ensures.faults c.in_ok-names.ensures.faults
      c.in_ok-names.ensures.known c.in_ok-names.ensures.callables c.in_ok-types.ensures.types c.in_ok-schemas.ensures.bound c.in_ok-schemas.ensures.faults c.together.ensures.together;
}
