use Rattle.std.proofs.Common.{true, ◌++◌, ◌∷◌, [], take, drop, ap, ◌∙◌}
use Rattle.std.proofs.lemmas.List.{take_rest}
use Rattle.slot_encoding.specs.EncodedNames.{slot_type}
use Rattle.stack_encoder.proofs.DeclaredParts.{with-lowest}
use Rattle.stack_encoder.proofs.declarations.with_lowest.Goals as goal

pub returns : goal.returns
returns c =
    let f = c.args.frame.now in
    let xs = c.args.objects.now in
    let n = c.len-first.result in
    let first = c.in_ok-push_objects.ensures ∙ ap (λ z. z ++ take n xs) c.new-into.ensures.empty in
    let second = c.in_ok-push.ensures.pushed ∙ (λ i. first i ++ record { name = c.named.ensures i; ty = slot_type; constant = true } ∷ []) in
    c.in_ok-push_objects-2.ensures ∙ ap (λ z. c.push.new.self ++ z) (take_rest xs n) ∙ ap (λ z. z ++ drop n xs) second ∙ with-lowest f xs c.requires.objects n c.len-first.ensures.length
