use Rattle.std.proofs.Common.{refl, arith}
use Rattle.htn_base.proofs.word_list.WordList.new.Goals as goal

pub invariant_of-result : goal.invariant_of-result
invariant_of-result c =
    rw (c.new.ensures.items, c.new-2.ensures.items)
    (record { rising = refl; table = record { differ = tt; folded = λ k d l. absurd (omega (arith, l)); short = omega arith } })
