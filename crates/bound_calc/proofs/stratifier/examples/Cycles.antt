-- The words of the bad cycles of two problems: of m: t -> t < a they are t m t, and of m1: t -> u < a and m2: u -> b < t they are t m1 u m2 t.
use Rattle.std.proofs.Common.{◌≡◌, [], ◌∷◌, refl}
use Rattle.std.specs.Prelude.{codes}
use Rattle.plan_model.proofs.plan_meaning.examples.EdgeChecks.{edge}
use Rattle.plan_model.proofs.plan_meaning.examples.NamedCyclesRow.{not_tail, around}
use Rattle.bound_calc.specs.stratifier.CycleWords.{cycle_words, cycle_line}

t_m_t : cycle_words not_tail (edge 1 0 ∷ []) ≡ codes "t" ∷ codes "m" ∷ codes "t" ∷ []
t_m_t = refl

t_m1_u_m2_t : cycle_words around (edge 1 0 ∷ edge 2 1 ∷ []) ≡ codes "t" ∷ codes "m1" ∷ codes "u" ∷ codes "m2" ∷ codes "t" ∷ []
t_m1_u_m2_t = refl

line_of_one : cycle_line not_tail (edge 1 0 ∷ []) ≡ codes "not tail-recursive: t m t\n"
line_of_one = refl

line_of_two : cycle_line around (edge 1 0 ∷ edge 2 1 ∷ []) ≡ codes "not tail-recursive: t m1 u m2 t\n"
line_of_two = refl

-- the walk is one cycle wherever it is begun, and the words say where: this is not the line of the cycle that is named
other_begin : cycle_words around (edge 2 1 ∷ edge 1 0 ∷ []) ≡ codes "u" ∷ codes "m2" ∷ codes "t" ∷ codes "m1" ∷ codes "u" ∷ []
other_begin = refl
