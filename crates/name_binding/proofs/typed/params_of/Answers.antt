use Rattle.std.proofs.Common.{◌≡◌, ◌<◌, length, get_or, rules, sym, subst, ◌∙◌, arith}
use Rattle.std.proofs.lemmas.Grind.{common_steps}
use Rattle.gd_reader.proofs.Marking.{types_before-read}
use Rattle.name_binding.specs.Kinds.{kind_faults}
use Rattle.name_binding.specs.Noted.{IsKindNoted}
use Rattle.name_binding.specs.Typed.{param_bound, typed_faults}
use Rattle.name_binding.proofs.NotedLemmas.{noted_again}
use Rattle.name_binding.proofs.StepLemmas.{map-read, noted-read}
use Rattle.name_binding.proofs.typed.params_of.Goals as goal

pub loop-i-preserved : goal.loop-i-preserved
loop-i-preserved c =
    let xs = c.args.params.now in
    let i = c.loop-i.i in
    let x = c.index-words-i.result in
    let table = c.args.table.now in
    let below : i < length xs = search rules in
    let read : x ≡ get_or xs i x = search rules in
    let one = map-read xs i x x below read (param_bound table) in
    let kind = c.in_ok-ty.ensures.bound in
    let spots = c.in_ok-ty.ensures.faults in
    let types = c.as_slice-types.ensures.types in
    let least = c.kind_by.new.faults.least in
    record {
      bound = cc (c.in_ok-push.ensures.pushed, c.loop-i.invariant.bound);
      faults = noted-read xs i x x below read (typed_faults table) _ _ _ c.loop-i.invariant.faults (cc);
      known = subst (λ ts. IsKindNoted table ts c.in_ok-ty.ty least) (types ∙ sym (types_before-read xs i x below read))
          (record { kind_is = kind; noted_are = noted_again c.loop-i.faults.least (kind_faults table c.as_slice-types.result.now) least spots });
    }

pub kind_by-requires : goal.kind_by-requires
kind_by-requires c = grind (arith, common_steps)

pub returns-clause-bound : goal.returns-clause-bound
returns-clause-bound c = grind (arith, common_steps)

pub returns-clause-faults : goal.returns-clause-faults
returns-clause-faults c = grind (arith, common_steps)
