use Rattle.std.proofs.Common.{length, ap, ◌∙◌}
use Rattle.slot_encoding.specs.slot_declarations.Pieces.{checked_from}
use Rattle.slot_encoding.proofs.slot_declarations.CheckedMethods.{checked_from-length}
use Rattle.slot_encoding.proofs.slot_declarations.basis.basis_of.Goals as goal

pub numbers_of-requires : goal.numbers_of-requires
numbers_of-requires c =
    c.len.ensures.length ∙ ap length (c.in_ok-checks.ensures.methods ∙ ap (checked_from 0) c.as_slice.ensures.items)
    ∙ checked_from-length 0 c.args.c.now.methods
