use Rattle.std.proofs.Common.{◌≡◌, ◌+◌, ◌++◌, ◌∷◌, [], take, drop, length, ap, ◌∙◌, arith}
use Rattle.std.proofs.lemmas.List.{take_rest}
use Rattle.order_encoder.proofs.NextSlot.{put_is}
use Rattle.stack_encoder.proofs.DeclaredParts.{with-tip}
use Rattle.stack_encoder.proofs.declarations.with_tip.Goals as goal

pub returns : goal.returns
returns c =
    let f = c.args.frame.now in
    let xs = c.args.predicates.now in
    let n = c.len-tip.result + 1 in
    let d = c.index-predicates-tip.result in
    let d' = c.index-predicates-tip-2.result in
    let at : n ≡ length f.compiled.now.hddl.predicates + 1 = omega (arith, c.len-tip.ensures.length) in
    let front = c.in_ok-push_predicates.ensures ∙ ap (λ z. z ++ take n xs) c.new-into.ensures.empty in
    let one = put_is c.push_predicates.new.into c.put.new.self c.copied.result (record { name = c.named.result; params = d.params }) c.copied.ensures c.in_ok-put.ensures.put in
    let two = put_is c.put.new.self c.put-2.new.self c.copied-2.result (record { name = c.named-2.result; params = d'.params }) c.copied-2.ensures c.in_ok-put-2.ensures.put in
    let both = two ∙ (λ i. (one ∙ (λ j. front j ++ record { name = c.named.ensures j; params = d.params } ∷ [])) i ++ record { name = c.named-2.ensures i; params = d'.params } ∷ []) in
    c.in_ok-push_predicates-2.ensures ∙ ap (λ z. c.put-2.new.self ++ z) (take_rest xs (n + 2)) ∙ ap (λ z. z ++ drop (n + 2) xs) both
    ∙ with-tip f xs c.requires.predicates n at d d' c.index-predicates-tip.is c.index-predicates-tip-2.is
