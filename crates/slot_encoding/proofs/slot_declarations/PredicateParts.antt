-- The predicates of the printed problem as the code puts them behind one another.
use Rattle.std.proofs.Common.{◌≡◌, List, ◌++◌, map, sym, ◌∙◌, append_assoc}
use Rattle.slot_encoding.specs.EncodedNames.{guard_types}
use Rattle.slot_encoding.specs.slot_declarations.Made as made
use Rattle.slot_encoding.specs.declared.slot_declarations.frame.Frame.{Frame}

halves : {A : Type 0} (p t a k g : List A) → (p ++ t) ++ (a ++ (k ++ g)) ≡ (((p ++ t) ++ a) ++ k) ++ g
halves p t a k g = sym (append_assoc ((p ++ t) ++ a) k g ∙ append_assoc (p ++ t) a (k ++ g))

module _ (f : Frame) where
  pub predicates-is : made.front_predicates f ++ made.work_predicates f ≡ made.predicates f
  predicates-is =
      halves (map (made.predicate f) f.compiled.now.hddl.predicates) (made.slot_predicates f ++ map (made.task_held f) f.compiled.now.hddl.tasks) (map (made.action_held f) f.compiled.now.hddl.actions)
      (made.checks_held f f.compiled.now.methods) (map (made.guard_tested f) (guard_types f.compiled.now))
