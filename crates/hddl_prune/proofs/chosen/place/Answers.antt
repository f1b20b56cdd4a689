use Rattle.std.proofs.Common.{ℕ, ◌≡◌, ◌<◌, ◌≤◌, ◌∙◌, length, get_or, MatchResult, subst}
use Rattle.std.proofs.lemmas.List.Sorted.{searched}
use Rattle.std.proofs.lemmas.Result.{IfOk-weaker}
use Rattle.live_parts.specs.Pruned.{place}
use Rattle.hddl_prune.proofs.CopySteps.{rises_on, found_place, missing_place}
use Rattle.hddl_prune.proofs.chosen.place.Goals as goal

pub returns-in-Ok : goal.returns-in-Ok
returns-in-Ok c =
    let ns = c.args.numbers.now in
    let n = c.args.n in
    let s = searched ns n c.binary_search.result c.binary_search.ensures.position (rises_on ns c.requires) in
    let t = subst (λ r. MatchResult r (λ i. (i < length ns) × (get_or ns i 0 ≡ n)) (λ i. (i ≤ length ns) × ((k : ℕ) → k < i → get_or ns k 0 < n) × ((k : ℕ) → i ≤ k → k < length ns → n < get_or ns k 0))) c.in-Ok.is s in
    IfOk-weaker c.number.result (λ k. k ≡ c.in-Ok.place) (λ k. k ≡ place ns n) (λ k e. e ∙ found_place ns n c.in-Ok.place c.requires t.0 t.1) c.number.ensures.same

pub returns-in-Err : goal.returns-in-Err
returns-in-Err c =
    let ns = c.args.numbers.now in
    let n = c.args.n in
    let s = searched ns n c.binary_search.result c.binary_search.ensures.position (rises_on ns c.requires) in
    let t = subst (λ r. MatchResult r (λ i. (i < length ns) × (get_or ns i 0 ≡ n)) (λ i. (i ≤ length ns) × ((k : ℕ) → k < i → get_or ns k 0 < n) × ((k : ℕ) → i ≤ k → k < length ns → n < get_or ns k 0))) c.in-Err.is s in
    IfOk-weaker c.number-in-Err.result (λ k. k ≡ length ns) (λ k. k ≡ place ns n) (λ k e. e ∙ missing_place ns n c.in-Err.field-0 t.1 t.2) c.number-in-Err.ensures.same
