use Rattle.std.proofs.Common.{false, sym}
use Rattle.std.proofs.lemmas.List.{map_more}
use Rattle.gd_reader.specs.declared.term.RawTerm.{RawTerm}
use Rattle.name_binding.specs.Terms.{term_bound, term_faults}
use Rattle.name_binding.proofs.Noted.{noted_more}
use Rattle.name_binding.proofs.terms.terms_of.Goals as goal

abbrev none : RawTerm
none = record { name = record { number = 0 }; variable = false; at = 0 }

pub loop-term-preserved : goal.loop-term-preserved
loop-term-preserved c =
    let n = c.loop-term.term-index in
    let terms = c.args.terms.now in
    let items = c.as_slice-term-items.ensures.items in
    let within = c.loop-term-test.true in
    let within = rw items at within in
    record {
      bound =
          rw (c.in_ok-push.ensures.pushed, c.loop-term.invariant.bound, c.term_of.ensures.bound, items) (sym (map_more (term_bound c.args.objects.now c.args.scope.now) terms n none within));
      faults =
          rw (c.term_of.ensures.faults, c.loop-term.invariant.faults, items) (sym (noted_more (term_faults c.args.objects.now c.args.scope.now) c.args.faults.now.least terms n none within));
    }
