use Rattle.std.proofs.Common.{◌≡◌, ◌∙◌, List, [], ℕ, ◌++◌, ap}
use Rattle.made_transport.proofs.texts.problem.Goals as goal

-- one piece more
behind : (piece old new whole : List ℕ) → new ≡ old ++ piece → old ≡ whole → new ≡ whole ++ piece
behind piece old new whole e f = e ∙ ap (λ t. t ++ piece) f

pub returns : goal.returns
returns c =
    behind _ _ _ _ c.in_ok-push_all-4.ensures.pushed
    (behind _ _ _ _ c.in_ok-put_each-3.ensures.put
    (behind _ _ _ _ c.in_ok-push_all-3.ensures.pushed
    (behind _ _ _ _ c.in_ok-put_each-2.ensures.put
    (behind _ _ _ _ c.in_ok-push_all-2.ensures.pushed
    (behind _ _ _ _ c.in_ok-put_each.ensures.put
    (behind _ _ _ [] c.in_ok-push_all.ensures.pushed (c.reserve.ensures.same ∙ c.new-text.ensures.empty)))))))
