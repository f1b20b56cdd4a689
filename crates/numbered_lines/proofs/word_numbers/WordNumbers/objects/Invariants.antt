use Rattle.std.proofs.Common.{take}
use Rattle.plan_model.specs.declared.values.Compiled.{Compiled}
use Rattle.numbered_lines.specs.WordNumbers.{AreNumbersOf, AreObjects}
use Rattle.numbered_lines.proofs.word_numbers.WordNumbers.objects.Given as goal

abbrev pub invariant-loop-word : goal.invariant-loop-word
invariant-loop-word l = (c : Compiled) → AreNumbersOf c l.self → AreObjects c (take l.word-index l.word-items) l.objects
