-- The numbers of the code are those of the definitions.
use Rattle.std.proofs.Common.{◌≡◌, refl}
use Rattle.htn_base.specs.declared.limits.TheConstants as code
use Rattle.htn_base.specs.Limits as limit

-- all at once, so that none is left out
same : (code.LONGEST_INPUT ≡ limit.longest_input) × (code.DEEPEST ≡ limit.deepest) × (code.MOST_SUBTASKS ≡ limit.most_subtasks)
    × (code.MOST_TYPES ≡ limit.most_types) × (code.MOST_PDDL_TYPES ≡ limit.most_pddl_types) × (code.MOST_SLOTS ≡ limit.most_slots)
    × (code.MOST_STEPS ≡ limit.most_steps) × (code.MOST_LINES ≡ limit.most_lines) × (code.LONGEST_OUTPUT ≡ limit.longest_output)
same = (refl, refl, refl, refl, refl, refl, refl, refl, refl)
