use Rattle.std.proofs.Common.{◌++◌, ap, ◌∙◌}
use Rattle.slot_encoding.specs.slot_declarations.Made as made
use Rattle.slot_encoding.proofs.slot_declarations.Appended.{append_two}
use Rattle.slot_encoding.proofs.slot_declarations.PredicateParts.{predicates-is}
use Rattle.slot_encoding.proofs.slot_declarations.predicates.encoded_predicates.Goals as goal

pub returns : goal.returns
returns c =
    let f = c.args.frame.now in
    let front = made.front_predicates f in
    let works = made.work_predicates f in
    append_two c.new-into.result c.push_front.new.into c.push_works.new.into front works c.in_ok-push_front.ensures c.in_ok-push_works.ensures
    ∙ ap (λ z. z ++ (front ++ works)) c.new-into.ensures.empty ∙ predicates-is f
