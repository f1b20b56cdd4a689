use Rattle.std.proofs.Common.{◌≡◌, map, take}
use Rattle.hplan_text.specs.ShownPlan.{object_name}
use Rattle.hplan_text.proofs.showing.words.Given as goal

abbrev pub invariant-loop-number : goal.invariant-loop-number
invariant-loop-number l = l.words ≡ map (object_name l.c) (take l.number-index l.objects)
