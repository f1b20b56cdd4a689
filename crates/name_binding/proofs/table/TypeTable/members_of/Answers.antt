use Rattle.std.proofs.Common.{[], ap, ◌∙◌, sym, map, take, refl, arith}
use Rattle.std.proofs.lemmas.Grind.{common_steps}
use Rattle.name_binding.specs.Seen.{first_seen, with_number}
use Rattle.name_binding.specs.Kinds.{type_number, type_faults}
use Rattle.name_binding.proofs.SeenLemmas.{with_number-first_seen}
use Rattle.name_binding.proofs.StepLemmas.{map-read, noted-read}
use Rattle.name_binding.proofs.table.TypeTable.members_of.Goals as goal

pub loop-written-preserved : goal.loop-written-preserved
loop-written-preserved c =
    let numbers = map (type_number c.args.self.now) (take c.loop-written.written-index c.args.types.now) in
    record {
      members =
          c.in_ok-put.ensures.put
          ∙ ap (λ seen. with_number seen c.number_of.result) c.loop-written.invariant.members
          ∙ ap (with_number (first_seen [] numbers)) c.number_of.ensures.number
          ∙ with_number-first_seen numbers _
          ∙ ap (first_seen []) (sym (map-read c.args.types.now c.loop-written.written-index _ _ c.loop-written-test.true refl (type_number c.args.self.now)));
      faults =
          noted-read c.args.types.now c.loop-written.written-index _ _ c.loop-written-test.true refl
          (type_faults c.args.self.now) _ _ _ c.loop-written.invariant.faults c.number_of.ensures.faults;
    }

pub returns-clause-members : goal.returns-clause-members
returns-clause-members c = grind (arith, common_steps)

pub returns-clause-faults : goal.returns-clause-faults
returns-clause-faults c = grind (arith, common_steps)
