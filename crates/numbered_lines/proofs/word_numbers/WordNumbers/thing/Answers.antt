use Rattle.std.proofs.Common.{Some, None, subst}
use Rattle.numbered_lines.specs.WordNumbers.{AreTheObjects}
use Rattle.numbered_lines.proofs.Worded.{found_by}
use Rattle.numbered_lines.proofs.word_numbers.WordNumbers.thing.Goals as goal

pub returns-in_default : goal.returns-in_default
returns-in_default c = λ p names are at n os h.
    found_by c.args.self.now.words p.hddl.names c.args.places.now.by_name.items c.as_slice.result.now c.args.line.now.name None names
    are.words c.as_slice.ensures.bytes c.in_default.ensures at n h.0

pub returns-in-Some-2 : goal.returns-in-Some-2
returns-in-Some-2 c = λ p names are at. (
  found_by c.args.self.now.words p.hddl.names c.args.places.now.by_name.items c.as_slice.result.now c.args.line.now.name
      (Some c.in-Some.number) names are.words c.as_slice.ensures.bytes c.in-Some.ensures at,
  subst (AreTheObjects p c.args.line.now.args) c.in-Some-2.is (c.in_ok-objects.ensures p are),
)
