use Rattle.std.proofs.Common.{ap, length, subst, ◌∙◌, arith}
use Rattle.kept_front.specs.declared.front.Front.{Front}
use Rattle.tree_decoder.specs.Decoding.{IsLeft, HasTree}
use Rattle.tree_decoder.proofs.Ends.{finishes, leaves}
use Rattle.tree_decoder.proofs.TipSteps.{tip_finishes, tip_leaves}
use Rattle.tree_decoder.proofs.decoder.Decoder.finish.Goals as goal

pub returns-in-Some : goal.returns-in-Some
returns-in-Some c =
    let left = subst (IsLeft c.args.self) c.in-Some.is c.left.ensures.left in
    record {
      decoded = tt;
      refused = leaves c.args.self _ c.in-Some.why (let g = ap length c.growths.ensures in omega arith) left;
      decoded_stack = tt;
      refused_stack = tip_leaves c.args.self _ c.in-Some.why (let g = ap length c.growths.ensures in omega arith) left;
    }

pub returns : goal.returns
returns c =
    let left = subst (IsLeft c.args.self) c.in_default.is c.left.ensures.left in
    let same = c.into_front.ensures ∙ c.left.ensures.kept in
    let done = finishes c.args.self c.in_ok-decoded.field-0 left (subst (λ (f : Front). HasTree f c.in_ok-decoded.field-0) same c.in_ok-decoded.ensures.decoded) in
    record { decoded = done; refused = tt; decoded_stack = tip_finishes c.args.self c.in_ok-decoded.field-0 done; refused_stack = tt }
