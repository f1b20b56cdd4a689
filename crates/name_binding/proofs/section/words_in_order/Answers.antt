use Rattle.std.proofs.Common.{◌≡◌, ◌<◌, ap, ◌∙◌, take, length, get_or, subst, rules, arith}
use Rattle.std.specs.List.Sorted.{IsPermutation}
use Rattle.std.proofs.lemmas.Grind.{common_steps}
use Rattle.std.proofs.lemmas.List.Sorted.{IsNonDecreasingBy-from_sort_by_key}
use Rattle.gd_reader.specs.declared.term.RawTerm.{RawTerm}
use Rattle.name_binding.specs.Mentions.{mentioned}
use Rattle.name_binding.proofs.SectionLemmas.{mentioned-push}
use Rattle.name_binding.proofs.StepLemmas.{take-read}
use Rattle.name_binding.proofs.section.words_in_order.Goals as goal

pub loop-item-preserved : goal.loop-item-preserved
loop-item-preserved c =
    let i = c.loop-item.item-index in
    let below : i < length c.args.listed.now = search rules in
    let read : c.item-item.result ≡ get_or c.args.listed.now i c.item-item.result = search rules in
    let more = ap mentioned (take-read c.args.listed.now i _ _ below read) ∙ mentioned-push (take i c.args.listed.now) c.item-item.result in
    let types = c.as_slice.ensures.types in
    cc (c.in_ok-extend_from_slice.ensures.items, c.in_ok-push.ensures.items, c.loop-item.invariant)

pub returns : goal.returns
returns c =
    let all : c.loop-item.words.items ≡ mentioned c.args.listed.now = grind (arith, common_steps) in
    record {
      words = record {
        same = subst (λ words. IsPermutation words c.sort_by_key.new.self.items) all c.in_ok-sort_by_key.ensures.permutation;
        rise = IsNonDecreasingBy-from_sort_by_key (λ (w : RawTerm). w.at) _ c.in_ok-sort_by_key.ensures.sorted (λ a r q k. search rules);
      };
    }
