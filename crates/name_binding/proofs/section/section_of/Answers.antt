use Rattle.std.proofs.Common.{◌≡◌, ap, ◌∙◌}
use Rattle.name_binding.specs.Mentions.{types_in_order}
use Rattle.name_binding.proofs.SectionNoted.{section-noted}
use Rattle.name_binding.proofs.section.section_of.Goals as goal

pub returns : goal.returns
returns c =
    let most = c.args.most in
    let object = c.args.object.number in
    let xs = c.args.listed.now in
    let words = c.in_ok-words.words.items in
    let order = c.in_ok-words.ensures.words in
    let are : c.in_ok-types.types ≡ types_in_order object words = c.in_ok-types.ensures.types ∙ ap (types_in_order object) c.as_slice.ensures.value in
    record {
      types = (words, order, are);
      faults = section-noted most object xs words order c.requires.section c.in_ok-types.types c.as_slice-2.result.now are c.as_slice-2.ensures.value
          c.first_of_type-limit.result c.first_of_type-limit.ensures.first c.in_ok-cycle.cycle c.in_ok-cycle.ensures.cycle
          c.args.faults.now.least c.note_if.new.faults.least c.note_if-2.new.faults.least c.note_if.ensures.noted c.note_if-2.ensures.noted;
    }
