use Rattle.std.proofs.Common.{length, get_or, refl, arith}
use Rattle.std.proofs.lemmas.Option.{slice_get_read, slice_get_within}
use Rattle.value_choices.proofs.Turning.{least_more, least_length}
use Rattle.value_choices.proofs.choice.least.Goals as goal

pub returns-in-None : goal.returns-in-None
returns-in-None c =
    let at = slice_get_read c.args.ranges.now (length c.args.ranges.now) c.loop-range.range-index c.range-item.result refl
    c.loop-range-test.true c.range-item.is in
    record {
      least = λ values a. c.in-None.ensures.least (get_or values c.loop-range.range-index 0)
          (a.each c.loop-range.range-index c.range-item.result at) (omega arith);
    }

pub loop-range-preserved : goal.loop-range-preserved
loop-range-preserved c =
    let at = slice_get_read c.args.ranges.now (length c.args.ranges.now) c.loop-range.range-index c.range-item.result refl
    c.loop-range-test.true c.range-item.is in
    let e = c.in_ok-push-in-Some.ensures.items in
    record {
      as_many = least_length c.args.ranges.now c.loop-range.range-index c.loop-range.values.items c.push.new.self.items c.in-Some.object
          c.range-item.result at c.loop-range.invariant.as_many e;
      each = least_more c.args.ranges.now c.loop-range.range-index c.loop-range.values.items c.push.new.self.items c.in-Some.object
          c.range-item.result at c.loop-range.invariant.as_many e c.in-Some.ensures.least c.loop-range.invariant.each;
    }

pub returns : goal.returns
returns c =
    let all = c.loop-range-test.false in
    let most = c.loop-range.auto.range-index-end in
    record {
      least = record {
        as_many = (let e = c.loop-range.invariant.as_many in omega arith);
        each = λ i r e. c.loop-range.invariant.each i r (let l = slice_get_within c.args.ranges.now i r e in omega arith) e;
      };
    }
