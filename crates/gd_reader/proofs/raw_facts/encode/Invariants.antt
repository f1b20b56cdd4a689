use Rattle.std.proofs.Common.{◌≡◌, ◌+◌, ◌*◌, length, take}
use Rattle.htn_base.specs.Packed.{row_of}
use Rattle.gd_reader.specs.RawRows.{atom_coded}
use Rattle.gd_reader.proofs.raw_facts.encode.Given as goal

abbrev pub invariant-loop-term : goal.invariant-loop-term
invariant-loop-term l = record {
  odd : length l.into.items ≡ l.term-index * 2 + 1;
  atom : atom_coded (row_of l.head.at l.into.items) ≡ record { head = l.head; args = take l.term-index l.args };
}
