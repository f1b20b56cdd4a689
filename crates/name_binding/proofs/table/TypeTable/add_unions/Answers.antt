use Rattle.std.proofs.Common.{◌≡◌, ◌<◌, ◌∙◌, ap, sym, subst, map, length, get_or, rules}
use Rattle.std.specs.List.Sorted.{IsPermutation, IsNonDecreasingBy}
use Rattle.std.specs.List.{fold}
use Rattle.std.proofs.lemmas.List.{take_all}
use Rattle.std.proofs.lemmas.List.Sorted.{IsNonDecreasingBy-from_sort_by_key}
use Rattle.htn_base.specs.Table.{with_word}
use Rattle.name_binding.specs.declared.unions.Either.{Either}
use Rattle.name_binding.specs.Unions.{members_of}
use Rattle.name_binding.proofs.UnionsLemmas.{put_is_there, fold_read}
use Rattle.name_binding.proofs.table.TypeTable.add_unions.Goals as goal

pub loop-either-preserved : goal.loop-either-preserved
loop-either-preserved c =
    let xs = c.as_slice-either-items.result.now in
    let i = c.loop-either.either-index in
    let either = c.either-item.result in
    let below : i < length xs = search rules in
    let read : either ≡ get_or xs i either = search rules in
    let put = c.in_ok-add_behind.ensures.union ∙ ap (with_word c.loop-either.self.unions) c.as_slice.ensures.members in
    record {
      unions = fold_read with_word members_of _ xs i either _ _ below read c.loop-either.invariant.unions put;
      types = c.in_ok-add_behind.ensures.types ∙ c.loop-either.invariant.types;
      there = put_is_there _ _ _ put;
    }

pub returns-clause-unions : goal.returns-clause-unions
returns-clause-unions c = record {
  sorted = c.as_slice-either-items.result.now;
  same = subst (IsPermutation c.args.found.items) (sym c.as_slice-either-items.ensures.value) c.in_ok-sort_by_key.ensures.permutation;
  rise = subst (IsNonDecreasingBy (λ (e : Either). e.at)) (sym c.as_slice-either-items.ensures.value)
      (IsNonDecreasingBy-from_sort_by_key (λ (e : Either). e.at) _ c.in_ok-sort_by_key.ensures.sorted (λ a r q k. search rules));
  unions = c.loop-either.invariant.unions
      ∙ ap (λ es. fold with_word c.args.self.now.unions (map members_of es)) (take_all _ c.as_slice-either-items.result.now c.loop-either-test.false);
}
