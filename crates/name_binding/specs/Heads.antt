-- Declared names with the numbers of their parameters, and what a name stands for.
use Rattle.std.specs.Prelude.{ℕ, suc, ◌==◌, cond, List, [], ◌∷◌, map, Option, Some, None, option_map}
use Rattle.name_binding.specs.declared.heads.Head.{Head}
use Rattle.name_binding.specs.declared.heads.Declared.{Declared}

abbrev pub head_numbers : List Head → List ℕ
head_numbers heads = map (λ (h : Head). h.name.number) heads

abbrev pub next : Declared → Declared
next d = record { place = suc d.place; arity = d.arity }

-- the first of these with the name of this number
abbrev pub declared : ℕ → List Head → Option Declared
declared n [] = None
declared n (h ∷ hs) = cond (n == h.name.number) (Some (record { place = 0; arity = h.arity })) (option_map next (declared n hs))
