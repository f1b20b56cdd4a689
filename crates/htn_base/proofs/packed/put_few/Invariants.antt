use Rattle.std.proofs.Common.{◌≡◌, length, take}
use Rattle.htn_base.proofs.packed.put_few.Given as goal

abbrev pub invariant-loop-i : goal.invariant-loop-i
invariant-loop-i l = record {
  same : l.bytes ≡ l.initial.bytes;
  long : length l.few ≡ 16;
  few : take l.i l.few ≡ take l.i l.numbers;
}
