use Rattle.std.proofs.Common.{ℕ, ◌≡◌, ◌+◌, ◌-◌, ◌*◌, min, ap, ◌∙◌}
use Rattle.slot_encoding.specs.encoded_texts.Growth.{further_digits}
use Rattle.problem_texts.proofs.OnLine.{told}
use Rattle.problem_texts.proofs.growth.FewSlots.length_with.Goals as goal

pub returns : goal.returns
returns c =
    let end = c.from-end.ensures in
    let n1 = c.saturating_sub-3.ensures ∙ ap (λ z. z + 1 - 10) end in
    let n2 = c.saturating_sub-4.ensures ∙ ap (λ z. z + 1 - 100) end in
    let n3 = c.saturating_sub-5.ensures ∙ ap (λ z. z + 1 - 1000) end in
    let n4 = c.saturating_sub-6.ensures ∙ ap (λ z. z + 1 - 10000) end in
    let n5 = c.saturating_sub-7.ensures ∙ ap (λ z. z + 1 - 100000) end in
    let n6 = c.saturating_sub-8.ensures ∙ ap (λ z. z + 1 - 1000000) end in
    let n7 = c.saturating_sub-9.ensures ∙ ap (λ z. z + 1 - 10000000) end in
    let n8 = c.saturating_sub-10.ensures ∙ ap (λ z. z + 1 - 100000000) end in
    let n9 = c.saturating_sub-11.ensures ∙ ap (λ z. z + 1 - 1000000000) end in
    let further : (c.saturating_sub-3.result + c.saturating_sub-4.result + c.saturating_sub-5.result) + (c.saturating_sub-6.result + c.saturating_sub-7.result + c.saturating_sub-8.result) + (c.saturating_sub-9.result + c.saturating_sub-10.result + c.saturating_sub-11.result) ≡ further_digits c.args.slots = λ i. (n1 i + n2 i + n3 i) + (n4 i + n5 i + n6 i) + (n7 i + n8 i + n9 i) in
    λ one two ten all line counted many.
    let most : ℕ = 18446744073709551615 in
    let nines = c.saturating_sub-more.ensures ∙ (λ i. c.saturating_sub.ensures i - c.saturating_mul.ensures i) in
    let others = c.from.ensures ∙ c.saturating_sub-2.ensures in
    let steps = c.saturating_mul-steps.ensures ∙ ap (λ z. min (c.saturating_sub-step.result * z) most) others in
    let digits = c.saturating_mul-digits.ensures ∙ ap (λ z. min (c.saturating_sub-more.result * z) most) further in
    let sum = c.saturating_add.ensures ∙ ap (λ z. min (c.args.self.one + z) most) steps in
    c.saturating_add-2.ensures ∙ (λ i. min (sum i + digits i) most)
    ∙ told c.args.slots c.args.self one two ten all line counted many c.if-self-eq18446744073709551615.false c.saturating_sub-step.result c.saturating_sub-more.result c.saturating_sub-step.ensures nines
