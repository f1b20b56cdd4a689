use Rattle.std.proofs.Common.{◌≡◌, ◌<◌, length, get_or, rules, arith}
use Rattle.std.proofs.lemmas.Grind.{common_steps}
use Rattle.name_binding.specs.Typed.{object_bound, typed_faults}
use Rattle.name_binding.proofs.StepLemmas.{map-read, noted-read}
use Rattle.name_binding.proofs.typed.objects_of.Goals as goal

pub loop-object-preserved : goal.loop-object-preserved
loop-object-preserved c =
    let i = c.loop-object.object-index in
    let below : i < length c.args.listed.now = search rules in
    let read : c.object-item.result ≡ get_or c.args.listed.now i c.object-item.result = search rules in
    let one = map-read c.args.listed.now i _ _ below read (object_bound c.args.table.now c.args.constant) in
    let kind = c.in_ok-ty.ensures.bound in
    let spots = c.in_ok-ty.ensures.faults in
    let types = c.as_slice.ensures.types in
    record {
      bound = cc (c.in_ok-push.ensures.pushed, c.loop-object.invariant.bound);
      faults = noted-read c.args.listed.now i _ _ below read (typed_faults c.args.table.now) _ _ _ c.loop-object.invariant.faults (cc);
    }

pub returns-clause-bound : goal.returns-clause-bound
returns-clause-bound c = grind (arith, common_steps)

pub returns-clause-faults : goal.returns-clause-faults
returns-clause-faults c = grind (arith, common_steps)
