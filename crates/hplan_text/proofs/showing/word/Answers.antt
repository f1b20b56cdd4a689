use Rattle.std.proofs.Common.{ℕ, zero, suc, ◌≡◌, ◌∙◌, List, [], ◌∷◌, None, slice_get, slice_index_or, refl, sym}
use Rattle.hplan_text.proofs.showing.word.Goals as goal

missing : (words : List (List ℕ)) (n : ℕ) → slice_get words n ≡ None → slice_index_or words n [] ≡ []
missing [] zero e = refl
missing [] (suc n) e = refl
missing (w ∷ words) zero e = absurd cc
missing (w ∷ words) (suc n) e = missing words n e

pub returns-in-None : goal.returns-in-None
returns-in-None c = c.new.ensures.empty ∙ sym (missing c.args.c.now.hddl.names c.args.name.number (sym c.in-None.ensures.word))
