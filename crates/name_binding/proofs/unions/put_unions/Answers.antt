use Rattle.std.proofs.Common.{◌≡◌, ◌<◌, ◌++◌, length, get_or, rules, ap, sym, ◌∙◌, arith}
use Rattle.std.proofs.lemmas.Grind.{common_steps}
use Rattle.gd_reader.proofs.Marking.{types_before-read}
use Rattle.name_binding.specs.Kinds.{members_written}
use Rattle.name_binding.specs.Unions.{unions_said, unions_behind}
use Rattle.name_binding.proofs.StepLemmas.{flat-behind}
use Rattle.name_binding.proofs.UnionsLemmas.{starts-there, starts-at}
use Rattle.name_binding.proofs.unions.put_unions.Goals as goal

pub loop-i-preserved : goal.loop-i-preserved
loop-i-preserved c =
    let xs = c.args.params.now in
    let i = c.loop-i.i in
    let x = c.index-words-i.result in
    let table = c.args.table.now in
    let below : i < length xs = search rules in
    let read : x ≡ get_or xs i x = search rules in
    let types = c.as_slice-types.ensures.types in
    let more = c.in_ok-members.ensures.put ∙ ap (λ ts. c.loop-i.into.items ++ unions_said table ts) types in
    record {
      put = flat-behind xs i x x below read (unions_behind table) _ _ _ c.loop-i.invariant.put more;
      known = c.in_ok-members.ensures.members ∙ ap (members_written table) (types ∙ sym (types_before-read xs i x below read));
    }

pub put_union-requires : goal.put_union-requires
put_union-requires c = grind (arith, common_steps)

pub returns : goal.returns
returns c = grind (arith, common_steps)

pub returns-in_err-members-clause-in_front : goal.returns-in_err-members-clause-in_front
returns-in_err-members-clause-in_front c =
    starts-at c.from_residual.result c.args.into.now.items c.loop-i.into.items c.put_union.new.into.items _ c.loop-i.invariant.put
    (starts-there c.loop-i.into.items c.put_union.new.into.items c.in_err-members.ensures.unchanged)
