use Rattle.std.proofs.lemmas.List.Filters.{dedup_is}
use Rattle.std.proofs.lemmas.Map.Keys.{IsStrictlyIncreasing-dedup}
use Rattle.hplan_text.proofs.Marked.{same-ids}
use Rattle.hplan_text.proofs.ids.in_order.Goals as goal

pub returns : goal.returns
returns c =
    let is = dedup_is _ _ _ c.dedup.ensures.filtered in
    record {
      rises = rw is (IsStrictlyIncreasing-dedup _ c.sort_unstable.ensures.sorted);
      same = same-ids c.dedup.new.self.items c.sort_unstable.new.self.items c.args.mentions.now c.in_ok-ids.ids.items c.in_ok-ids.ensures c.sort_unstable.ensures.permutation is;
    }
