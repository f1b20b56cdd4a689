use Rattle.std.proofs.Common.{◌≡◌, ◌++◌, codes, take}
use Rattle.std.specs.List.{flat_map}
use Rattle.htn_base.specs.Escapes.{hex}
use Rattle.htn_base.proofs.words.esc.Given as goal

abbrev pub invariant-loop-byte : goal.invariant-loop-byte
invariant-loop-byte l = l.text ≡ codes "htn_u_" ++ flat_map hex (take l.byte-index l.word)
