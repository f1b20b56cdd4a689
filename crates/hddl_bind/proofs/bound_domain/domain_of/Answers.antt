use Rattle.std.proofs.Common.{subst, arith}
use Rattle.hddl_bind.specs.WholeDomains.{IsDomainNoted}
use Rattle.hddl_bind.proofs.WholeTexts.{domain_bound_if, domain_refused_if}
use Rattle.gd_reader.proofs.Keeping.{keeps_same, keeps_word}
use Rattle.hddl_bind.proofs.bound_domain.domain_of.Goals as goal

pub returns-in-Ok-clause-bound : goal.returns-in-Ok-clause-bound
returns-in-Ok-clause-bound c =
    let object = c.in_ok-object.object.number in
    let l = c.args.language in
    let d = c.args.d.now in
    let least = c.noted_domain.new.faults.least in
    let from_none = subst (λ old. IsDomainNoted l object d old least c.in-Ok.bound) c.new-faults.ensures.none c.in-Ok.ensures.bound in
    domain_bound_if l c.intern.new.self d object c.in_ok-object.ensures.number c.in-Ok.bound least from_none c.judged.result c.judged.ensures.judged

pub returns-in-Ok-clause-refused : goal.returns-in-Ok-clause-refused
returns-in-Ok-clause-refused c =
    let object = c.in_ok-object.object.number in
    let l = c.args.language in
    let d = c.args.d.now in
    let least = c.noted_domain.new.faults.least in
    let from_none = subst (λ old. IsDomainNoted l object d old least c.in-Ok.bound) c.new-faults.ensures.none c.in-Ok.ensures.bound in
    domain_refused_if l c.intern.new.self d object c.in_ok-object.ensures.number c.in-Ok.bound least from_none c.judged.result c.judged.ensures.judged

pub returns-in_err-object-clause-keeps : goal.returns-in_err-object-clause-keeps
returns-in_err-object-clause-keeps c = grind (arith, keeps_same, keeps_word)

pub returns-in-Ok-clause-keeps : goal.returns-in-Ok-clause-keeps
returns-in-Ok-clause-keeps c = grind (arith, keeps_same, keeps_word)

pub returns-in-Err-clause-keeps : goal.returns-in-Err-clause-keeps
returns-in-Err-clause-keeps c = grind (arith, keeps_same, keeps_word)
