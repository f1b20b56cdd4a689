use Rattle.std.proofs.Common.{◌≡◌, ◌++◌, map, take}
use Rattle.plan_model.specs.plan_meaning.Truth.{values_of}
use Rattle.bound_calc.specs.NoBound.{spaced}
use Rattle.ground_bound.specs.GroundCycleWords.{object_word}
use Rattle.ground_bound.proofs.ground_words.push_task.Given as goal

abbrev pub invariant-loop-term : goal.invariant-loop-term
invariant-loop-term l = l.text ≡ l.initial.text ++ spaced (map (object_word l.c) (values_of l.values (take l.term-index l.terms)))
