-- Symbols whose parentheses match are the writing of nested lists.
use Rattle.std.proofs.Common.{◌≡◌, ℕ, zero, suc, List, [], ◌∷◌, ◌++◌, refl, ap, sym, subst, ◌∙◌, append_assoc, append-nil}
use Rattle.text_forms.specs.Tokens.{Symbol, left, right, said}
use Rattle.text_forms.specs.Lists.{Part, Parts, name, group, nothing, part, written, written_all, AreMatched}
use Rattle.text_forms.specs.Laws.{MatchedAreLists}

-- what stands behind a place inside d lists: the rest of the innermost one, then that of each list around it
data Around : ℕ → Type 0 where
  outermost : Parts → Around zero
  within : (d : ℕ) → Parts → Around d → Around (suc d)

abbrev around : (d : ℕ) → Around d → List Symbol
around d (outermost ps) = written_all ps
around d (within e ps rest) = written_all ps ++ right ∷ around e rest

abbrev in_front : (d : ℕ) → Part → Around d → Around d
in_front d p (outermost ps) = outermost (part p ps)
in_front d p (within e ps rest) = within e (part p ps) rest

around-in_front : (d : ℕ) (p : Part) (a : Around d) → around d (in_front d p a) ≡ written p ++ around d a
around-in_front d p (outermost ps) = refl
around-in_front d p (within e ps rest) = append_assoc (written p) (written_all ps) (right ∷ around e rest)

abbrev begun : (d : ℕ) → Around (suc d) → Around d
begun d (within e ps rest) = in_front d (group ps) rest

around-begun : (d : ℕ) (a : Around (suc d)) → around d (begun d a) ≡ left ∷ around (suc d) a
around-begun d (within e ps rest) = around-in_front d (group ps) rest ∙ ap (λ t. left ∷ t) (append_assoc (written_all ps) (right ∷ []) (around d rest))

lists_of : (d : ℕ) (ss : List Symbol) → AreMatched d ss → (a : Around d) × (ss ≡ around d a)
lists_of zero [] m = (outermost nothing, refl)
lists_of (suc d) [] m = absurd m
lists_of d (said w ∷ ss) m = let a = lists_of d ss m in (in_front d (name w) a.0, ap (λ t. said w ∷ t) a.1 ∙ sym (around-in_front d (name w) a.0))
lists_of d (left ∷ ss) m = let a = lists_of (suc d) ss m in (begun d a.0, ap (λ t. left ∷ t) a.1 ∙ sym (around-begun d a.0))
lists_of zero (right ∷ ss) m = absurd m
lists_of (suc d) (right ∷ ss) m = let a = lists_of d ss m in (within d nothing a.0, ap (λ t. right ∷ t) a.1)

mutual
  matched-written : (d : ℕ) (p : Part) (ss : List Symbol) → AreMatched d ss → AreMatched d (written p ++ ss)
  matched-written d (name w) ss m = m
  matched-written d (group ps) ss m = subst (AreMatched (suc d)) (sym (append_assoc (written_all ps) (right ∷ []) ss)) (matched-all (suc d) ps (right ∷ ss) m)

  matched-all : (d : ℕ) (ps : Parts) (ss : List Symbol) → AreMatched d ss → AreMatched d (written_all ps ++ ss)
  matched-all d nothing ss m = m
  matched-all d (part p ps) ss m = subst (AreMatched d) (sym (append_assoc (written p) (written_all ps) ss)) (matched-written d p (written_all ps ++ ss) (matched-all d ps ss m))

outer : (a : Around zero) → (ps : Parts) × (around zero a ≡ written_all ps)
outer (outermost ps) = (ps, refl)

pub matched_are_lists : MatchedAreLists
matched_are_lists ss = (
  λ m. let a = lists_of zero ss m in let b = outer a.0 in (b.0, a.1 ∙ b.1),
  λ e. subst (AreMatched zero) (append-nil (written_all e.0) ∙ sym e.1) (matched-all zero e.0 [] tt),
)
