use Rattle.std.proofs.Common.{[], false, sym, arith}
use Rattle.std.proofs.lemmas.List.{map_more}
use Rattle.std.proofs.lemmas.Grind.{common_steps}
use Rattle.gd_reader.specs.declared.term.RawTerm.{RawTerm}
use Rattle.name_binding.specs.Terms.{term_faults}
use Rattle.name_binding.proofs.Noted.{noted_more}
use Rattle.name_binding.specs.Facts.{object_bound}
use Rattle.name_binding.proofs.facts.fact_of.Goals as goal

abbrev none : RawTerm
none = record { name = record { number = 0 }; variable = false; at = 0 }

pub loop-term-preserved : goal.loop-term-preserved
loop-term-preserved c =
    let n = c.loop-term.term-index in
    let terms = c.args.terms.now in
    let within = c.loop-term-test.true in
    record {
      bound =
          rw (c.in_ok-push.ensures.items, c.loop-term.invariant.bound, c.object_of.ensures.bound)
          (sym (map_more (object_bound c.args.known.now.objects) terms n none within));
      faults =
          rw (c.object_of.ensures.faults, c.loop-term.invariant.faults)
          (sym (noted_more (term_faults c.args.known.now.objects []) c.predicate_of-predicate.new.faults.least terms n none within));
    }

pub returns-clause-bound : goal.returns-clause-bound
returns-clause-bound c = grind (arith, common_steps)

pub returns-clause-faults : goal.returns-clause-faults
returns-clause-faults c = grind (arith, common_steps)
