-- The word of cell 0.
use Rattle.std.proofs.Common.{◌≡◌, ◌++◌, codes, lit<, ap}
use Rattle.std.proofs.lemmas.Fmt.{decimal_digit}
use Rattle.htn_base.specs.Escapes.{slot_word}

pub slot_0 : slot_word 0 ≡ codes "htn_s0"
slot_0 = ap (λ digits. codes "htn_s" ++ digits) (decimal_digit 0 (lit< tt))
