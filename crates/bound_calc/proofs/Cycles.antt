-- The words of a cycle, edge by edge.
use Rattle.std.proofs.Common.{ℕ, zero, suc, ◌≡◌, ◌+◌, ◌-◌, ◌<◌, List, [], ◌∷◌, ◌++◌, length, map, take, get_or, slice_get, Some, None, codes, refl, sym, ap, subst, ◌∙◌, append_assoc, arith}
use Rattle.std.proofs.lemmas.List.{append-nil, take_more}
use Rattle.std.proofs.lemmas.Option.{slice_get-get_or}
use Rattle.plan_model.specs.declared.values.Compiled.{Compiled}
use Rattle.plan_model.specs.plan_meaning.Strata.{source, target}
use Rattle.bound_calc.specs.stratifier.CycleWords.{task_word, method_word, cycle_words}
use Rattle.bound_calc.specs.declared.stratifier.edge.Edge.{Edge}
use Rattle.bound_calc.specs.stratifier.Listed.{edge_of}
use Rattle.bound_calc.specs.NoBound.{spaced}

-- the words of an edge's task and method
abbrev edge_words : Compiled → Edge → List (List ℕ)
edge_words c e = task_word c (source c (edge_of e)) ∷ method_word c e.method ∷ []

-- the words of a cycle before its last one
abbrev pub begun : Compiled → List Edge → List (List ℕ)
begun c [] = []
begun c (e ∷ es) = edge_words c e ++ begun c es

spaced-append : (xs ys : List (List ℕ)) → spaced (xs ++ ys) ≡ spaced xs ++ spaced ys
spaced-append [] ys = refl
spaced-append (x ∷ xs) ys = ap (λ z. (codes " " ++ x) ++ z) (spaced-append xs ys) ∙ sym (append_assoc (codes " " ++ x) (spaced xs) (spaced ys))

-- a task and its method, word by word
pub two_more : (text task method : List ℕ) → ((((text ++ codes " ") ++ task) ++ codes " ") ++ method) ≡ text ++ spaced (task ∷ method ∷ [])
two_more text task method =
    append_assoc ((text ++ codes " ") ++ task) (codes " ") method
    ∙ ap (λ z. z ++ (codes " " ++ method)) (append_assoc text (codes " ") task)
    ∙ append_assoc text (codes " " ++ task) (codes " " ++ method)
    ∙ ap (λ z. text ++ ((codes " " ++ task) ++ z)) (sym (append-nil (codes " " ++ method)))

module _ (c : Compiled) where
  begun-push : (es : List Edge) (e : Edge) → begun c (es ++ e ∷ []) ≡ begun c es ++ edge_words c e
  begun-push [] e = append-nil (edge_words c e)
  begun-push (d ∷ es) e = ap (λ z. edge_words c d ++ z) (begun-push es e)

  -- one more edge
  pub begun-more : (es : List Edge) (k : ℕ) (d : Edge) → k < length es → spaced (begun c (take (k + 1) es)) ≡ spaced (begun c (take k es)) ++ spaced (edge_words c (get_or es k d))
  begun-more es k d l = ap (λ z. spaced (begun c z)) (take_more es k d l) ∙ ap spaced (begun-push (take k es) (get_or es k d)) ∙ spaced-append (begun c (take k es)) (edge_words c (get_or es k d))

  words_all : (es : List Edge) (e : Edge) → slice_get es (length es - 1) ≡ Some e → cycle_words c (map edge_of es) ≡ begun c es ++ task_word c (target c (edge_of e)) ∷ []
  words_all [] e is = absurd (cc)
  words_all (d ∷ []) e is = let same : d ≡ e = cc in ap (λ z. edge_words c d ++ task_word c (target c (edge_of z)) ∷ []) same
  words_all (d ∷ f ∷ es) e is =
      let n : length (d ∷ f ∷ es) - 1 ≡ suc (length es) = omega arith in
      let m : length es ≡ length (f ∷ es) - 1 = omega arith in
      let at : slice_get (f ∷ es) (length es) ≡ Some e = subst (λ z. slice_get (d ∷ f ∷ es) z ≡ Some e) n is in
      ap (λ z. task_word c (source c (edge_of d)) ∷ method_word c d.method ∷ z) (words_all (f ∷ es) e (subst (λ z. slice_get (f ∷ es) z ≡ Some e) m at))

  -- all words, of the edges and of the last task
  ended : (es : List Edge) (e : Edge) → slice_get es (length es - 1) ≡ Some e → spaced (cycle_words c (map edge_of es)) ≡ spaced (begun c es) ++ (codes " " ++ task_word c (target c (edge_of e)))
  ended es e is =
      let last = task_word c (target c (edge_of e)) in
      ap spaced (words_all es e is) ∙ spaced-append (begun c es) (last ∷ []) ∙ ap (λ z. spaced (begun c es) ++ z) (append-nil (codes " " ++ last))

  pub joined : (es : List Edge) (e : Edge) → slice_get es (length es - 1) ≡ Some e → (text more word : List ℕ) → text ≡ spaced (begun c es) → word ≡ task_word c (target c (edge_of e))
      → more ≡ (text ++ codes " ") ++ word → more ≡ spaced (cycle_words c (map edge_of es))
  joined es e is text more word f g h = h ∙ append_assoc text (codes " ") word ∙ (λ i. f i ++ (codes " " ++ g i)) ∙ sym (ended es e is)

  pub nothing : (es : List Edge) → slice_get es (length es - 1) ≡ None → spaced (cycle_words c (map edge_of es)) ≡ spaced (begun c es)
  nothing [] is = refl
  nothing (d ∷ es) is =
      let l : length (d ∷ es) - 1 < length (d ∷ es) = omega arith in
      let at = slice_get-get_or (d ∷ es) (length (d ∷ es) - 1) d l in absurd (cc)

pub none_there : (xs : List (List ℕ)) (k : ℕ) → slice_get xs k ≡ None → get_or xs k [] ≡ []
none_there [] k is = refl
none_there (x ∷ xs) zero is = absurd (cc)
none_there (x ∷ xs) (suc k) is = none_there xs k is
