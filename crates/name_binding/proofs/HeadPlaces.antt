-- What a name stands for, by the place of its first declaration.
use Rattle.std.proofs.Common.{ℕ, suc, ◌≡◌, ◌<◌, List, [], ◌∷◌, Option, Some, None, Bool, true, false, cond, eqb, length, get_or, refl, sym, subst, ap, ◌∙◌}
use Rattle.std.specs.Prelude.{option_map}
use Rattle.std.proofs.lemmas.List.{length-map}
use Rattle.name_binding.specs.declared.heads.Head.{Head}
use Rattle.name_binding.specs.declared.heads.Declared.{Declared}
use Rattle.name_binding.specs.Places.{first_place}
use Rattle.name_binding.specs.Heads.{head_numbers, next, declared}
use Rattle.name_binding.proofs.Found.{first_within}

abbrev pub at_place : List Head → Head → ℕ → Declared
at_place hs d k = record { place = k; arity = (get_or hs k d).arity }

declared-step : (h : Head) (hs : List Head) (d : Head) (b : Bool) (o : Option ℕ) → cond b (Some (record { place = 0; arity = h.arity })) (option_map next (option_map (at_place hs d) o)) ≡ option_map (at_place (h ∷ hs) d) (cond b (Some 0) (option_map suc o))
declared-step h hs d true o = refl
declared-step h hs d false None = refl
declared-step h hs d false (Some k) = refl

pub declared_is : (n : ℕ) (hs : List Head) (d : Head) → declared n hs ≡ option_map (at_place hs d) (first_place n (head_numbers hs))
declared_is n [] d = refl
declared_is n (h ∷ hs) d = rw (declared_is n hs d) (declared-step h hs d (eqb n h.name.number) (first_place n (head_numbers hs)))

-- by the answer of the table of first places
pub declared_some : (n : ℕ) (hs : List Head) (d : Head) (k : ℕ) → Some k ≡ first_place n (head_numbers hs) → Some (at_place hs d k) ≡ declared n hs
declared_some n hs d k e = sym (declared_is n hs d ∙ ap (option_map (at_place hs d)) (sym e))

pub declared_none : (n : ℕ) (hs : List Head) (d : Head) → None ≡ first_place n (head_numbers hs) → None ≡ declared n hs
declared_none n hs d e = sym (declared_is n hs d ∙ ap (option_map (at_place hs d)) (sym e))

pub declared_within : (n : ℕ) (hs : List Head) (k : ℕ) → Some k ≡ first_place n (head_numbers hs) → k < length hs
declared_within n hs k e = subst (λ m. k < m) (length-map hs (λ (h : Head). h.name.number)) (first_within n (head_numbers hs) k (sym e))
