use Rattle.std.proofs.Common.{ℕ, ◌≡◌, ◌≤◌, ◌<◌, length, slice_index, MatchResult, subst}
use Rattle.std.proofs.lemmas.List.Sorted.{searched}
use Rattle.hplan_text.proofs.Marked.{found-nowhere, rises-on}
use Rattle.hplan_text.proofs.ids.place_of.Goals as goal

pub returns-in-Err : goal.returns-in-Err
returns-in-Err c =
    let ids = c.args.ids.now in
    let n = c.args.id in
    let s = searched ids n c.binary_search.result c.binary_search.ensures.position (rises-on ids c.requires.rises) in
    let t = subst (λ r. MatchResult r (λ i. (i < length ids) × (slice_index ids i ≡ n)) (λ i. (i ≤ length ids) × ((k : ℕ) → k < i → slice_index ids k < n) × ((k : ℕ) → i ≤ k → k < length ids → n < slice_index ids k))) c.in-Err.is s in
    found-nowhere ids n c.in-Err.field-0 t.1 t.2
