-- A whole form spells a formula, where all its words are declared.
use Rattle.std.proofs.Common.{ℕ, ◌≡◌, inl, inr, List, [], ◌∷◌, ◌++◌, map, refl, sym, ap, subst}
use Rattle.text_forms.specs.Lists.{Part, Parts, name, group, nothing, part}
use Rattle.text_forms.specs.Placed.{Placed, cut, close, word, list, parts_of, IsWhole}
use Rattle.text_forms.specs.Words.{Word}
use Rattle.plan_texts.specs.Declared.{Declared, variable}
use Rattle.plan_texts.specs.Formulas.{IsTerm, IsParam, formula_step, IsFormula}
use Rattle.plan_texts.specs.TypedLists.{Each, EachTyped}
use Rattle.htn_base.specs.Different.{AreDifferent}
use Rattle.plan_texts.specs.Types.{EachIs}
use Rattle.plan_texts.proofs.Readings.{formula_roll}
use Rattle.plan_model.specs.declared.terms.Term.{Term}
use Rattle.plan_model.specs.declared.terms.Term.TheVariants.{Var, Obj}
use Rattle.plan_model.specs.declared.terms.Param.{Param}
use Rattle.plan_model.specs.declared.formulas.Formula.{Formula, roll-Formula}
use Rattle.plan_model.specs.declared.formulas.Formula.TheOpen.{Formula-F}
use Rattle.gd_reader.specs.declared.typed_lists.ListKind.TheVariants.{Parameters}
use Rattle.gd_reader.specs.declared.words.Head.{Head}
use Rattle.gd_reader.specs.declared.words.Head.TheVariants as head
use Rattle.gd_reader.specs.Grammar.{inside_form, formulas_form, one_form, two_form, bound_form}
use Rattle.gd_reader.specs.TermGrammar.{term_form, terms_form, end_form, last_term_form, two_terms_form}
use Rattle.gd_reader.specs.Words.{head_of}
use Rattle.text_values.specs.form_spellings.Fresh.{fresh_step, AreFresh}
use Rattle.text_values.proofs.form_spellings.FormulaWhole.{headed_form, fresh_roll}
use Rattle.text_values.proofs.form_spellings.Known.{KnowsWord, Knows, KnowsObject, first_of, last_of, knows_more}
use Rattle.text_values.proofs.form_spellings.ListsSpelled.{params_listed}
use Rattle.text_values.proofs.form_spellings.ListValues.{make_parameter}
use Rattle.text_values.proofs.form_spellings.WordTests.{HeadWord, head_word, term_whole}

pub end_closed : (p : Placed) → (end_form p).Whole → IsWhole p × (parts_of p ≡ nothing)
end_closed cut h = absurd h
end_closed (close at) h = (tt, refl)
end_closed (word at w p) h = absurd h
end_closed (list at p q) h = absurd h

module _ (v : Declared) where
  term_written : (scope : List Word) (u : Word) → KnowsWord v scope u → (term_form u).Whole → (t : Term) × IsTerm v scope t (name u)
  term_written scope u k h = elim (term_whole u h) [
    | inl e ↦ (let o = first_of v.objects u k.0.2 in (Obj o.0, (u, refl, e, o.1)))
    | inr m ↦
        subst (λ u. KnowsWord v scope u → (t : Term) × IsTerm v scope t (name u)) (sym m.2)
        (λ k. let n = last_of scope (m.0 ∷ m.1) (k.3 (λ e. cc)) in (Var n.0, (m.0 ∷ m.1, refl, n.1))) k
  ]

  pub terms_written : (p : Placed) (scope : List Word) → Knows v scope p → (terms_form p).Whole → IsWhole p × ((ts : List Term) × Each (IsTerm v scope) ts (parts_of p))
  terms_written cut scope k h = absurd h
  terms_written (close at) scope k h = (tt, ([], tt))
  terms_written (list at p q) scope k h = absurd h
  terms_written (word at u p) scope k h = let t = term_written scope u k.0 h.0 in let ts = terms_written p scope k.1 h.1 in (ts.0, (t.0 ∷ ts.1.0, (t.1, ts.1.1)))

  abbrev OneTerm : List Word → Placed → Type 0
  OneTerm scope p = IsWhole p × ((t : Term) × (q : Part) × (parts_of p ≡ part q nothing) × IsTerm v scope t q)

  last_written : (p : Placed) (scope : List Word) → Knows v scope p → (last_term_form p).Whole → OneTerm scope p
  last_written cut scope k h = absurd h
  last_written (close at) scope k h = absurd h
  last_written (list at p q) scope k h = absurd h
  last_written (word at u p) scope k h = let t = term_written scope u k.0 h.0 in let e = end_closed p h.1 in (e.0, (t.0, name u, ap (part (name u)) e.1, t.1))

  pub two_written : (p : Placed) (scope : List Word) → Knows v scope p → (two_terms_form p).Whole
      → IsWhole p × ((s : Term) × (t : Term) × (q : Part) × (r : Part) × (parts_of p ≡ part q (part r nothing)) × IsTerm v scope s q × IsTerm v scope t r)
  two_written cut scope k h = absurd h
  two_written (close at) scope k h = absurd h
  two_written (list at p q) scope k h = absurd h
  two_written (word at u p) scope k h =
      let s = term_written scope u k.0 h.0 in let t = last_written p scope k.1 h.1 in
      (t.0, (s.0, t.1.0, name u, t.1.1, ap (part (name u)) t.1.2, s.1, t.1.3))

  -- a formula that a part spells
  abbrev pub Written : List Word → Part → Type 0
  Written scope q = (f : Formula) × AreFresh v f × IsFormula v f scope q

  wrote : (x : Formula-F Formula) (scope : List Word) (q : Part) → fresh_step v (AreFresh v) x → formula_step v (IsFormula v) x scope q → Written scope q
  wrote x scope q n e = (roll-Formula x, subst (λ (z : Type 0). z) (sym (fresh_roll v x)) n, subst (λ (z : List Word → Part → Type 0). z scope q) (sym (formula_roll v x)) e)

  abbrev Many : List Word → Placed → Type 0
  Many scope p = IsWhole p × ((fs : List Formula) × EachIs (AreFresh v) fs × Each (λ f. IsFormula v f scope) fs (parts_of p))

  abbrev One : List Word → Placed → Type 0
  One scope p = IsWhole p × ((q : Part) × (parts_of p ≡ part q nothing) × Written scope q)

  abbrev Two : List Word → Placed → Type 0
  Two scope p = IsWhole p × ((q : Part) × (r : Part) × (parts_of p ≡ part q (part r nothing)) × Written scope q × Written scope r)

  abbrev Bound : List Word → Placed → Type 0
  Bound scope p = IsWhole p × ((ps : Parts) × (q : Part) × (xs : List Param) × (parts_of p ≡ part (group ps) (part q nothing)) × AreDifferent (map (variable v) xs) × EachTyped (IsParam v) xs ps × Written (scope ++ map (variable v) xs) q)

  -- behind the word at the front, where what stands there is spelled
  behind_word : (h : Head) (scope : List Word) (at : ℕ) (w : Word) (p : Placed) → KnowsWord v scope w → Knows v scope p → HeadWord h w
      → ((formulas_form p).Whole → Many scope p) → ((one_form p).Whole → One scope p) → ((two_form p).Whole → Two scope p) → ((bound_form p).Whole → Bound scope p)
      → (headed_form h p).Whole → IsWhole p × Written scope (group (part (name w) (parts_of p)))
  behind_word head.And scope at w p k ks e many one two bound h =
      let g = many h in (g.0, wrote (Formula-F.And g.1.0) scope _ g.1.1 (inl (parts_of p, ap (λ w. group (part (name w) (parts_of p))) e, g.1.2)))
  behind_word head.Or scope at w p k ks e many one two bound h =
      let g = many h in (g.0, wrote (Formula-F.Or g.1.0) scope _ g.1.1 (parts_of p, ap (λ w. group (part (name w) (parts_of p))) e, g.1.2))
  behind_word head.Not scope at w p k ks e many one two bound h =
      let g = one h in
      (g.0, wrote (Formula-F.Not g.1.2.0) scope _ g.1.2.1 (g.1.0, (λ i. group (part (name (e i)) (g.1.1 i))), g.1.2.2))
  behind_word head.Imply scope at w p k ks e many one two bound h =
      let g = two h in
      (g.0, wrote (Formula-F.Imply g.1.3.0 g.1.4.0) scope _ (g.1.3.1, g.1.4.1) (g.1.0, g.1.1, (λ i. group (part (name (e i)) (g.1.2 i))), g.1.3.2, g.1.4.2))
  behind_word head.Forall scope at w p k ks e many one two bound h =
      let g = bound h in
      (g.0, wrote (Formula-F.Forall g.1.2 g.1.6.0) scope _ (g.1.4, g.1.6.1) (g.1.0, g.1.1, (λ i. group (part (name (e i)) (g.1.3 i))), g.1.5, g.1.6.2))
  behind_word head.Exists scope at w p k ks e many one two bound h =
      let g = bound h in
      (g.0, wrote (Formula-F.Exists g.1.2 g.1.6.0) scope _ (g.1.4, g.1.6.1) (g.1.0, g.1.1, (λ i. group (part (name (e i)) (g.1.3 i))), g.1.5, g.1.6.2))
  behind_word head.Equal scope at w p k ks e many one two bound h =
      let g = two_written p scope ks h in
      (g.0, wrote (Formula-F.Equal g.1.0 g.1.1) scope _ tt (g.1.2, g.1.3, (λ i. group (part (name (e i)) (g.1.4 i))), g.1.5, g.1.6))
  behind_word head.Plain scope at w p k ks e many one two bound h =
      let g = terms_written p scope ks h in
      let n = first_of v.predicates w k.0.3 in
      (g.0, wrote (Formula-F.Holds (record { predicate = n.0; args = g.1.0 })) scope _ tt (w, parts_of p, refl, e, n.1, g.1.1))
  behind_word head.Wrong scope at w p k ks e many one two bound h = absurd h

  module _ (object : KnowsObject v) where
    mutual
      pub inside_written : (p : Placed) (scope : List Word) → Knows v scope p → (inside_form p).Whole → IsWhole p × Written scope (group (parts_of p))
      inside_written cut scope k h = absurd h
      inside_written (close at) scope k h = (tt, wrote (Formula-F.And []) scope (group nothing) tt (inr (tt, refl)))
      inside_written (list at p q) scope k h = absurd h
      inside_written (word at w p) scope k h =
          behind_word (head_of w) scope at w p k.0 k.1 (head_word w) (λ h. formulas_written p scope k.1 h) (λ h. one_written p scope k.1 h) (λ h. two_formulas_written p scope k.1 h) (λ h. bound_written p scope k.1 h) h

      formulas_written : (p : Placed) (scope : List Word) → Knows v scope p → (formulas_form p).Whole → Many scope p
      formulas_written cut scope k h = absurd h
      formulas_written (close at) scope k h = (tt, ([], tt, tt))
      formulas_written (word at w p) scope k h = absurd h
      formulas_written (list at p q) scope k h =
          let f = inside_written p scope k.1 h.0 in let fs = formulas_written q scope k.2 h.1 in
          ((f.0, fs.0), (f.1.0 ∷ fs.1.0, (f.1.1, fs.1.1), (f.1.2, fs.1.2)))

      one_written : (p : Placed) (scope : List Word) → Knows v scope p → (one_form p).Whole → One scope p
      one_written cut scope k h = absurd h
      one_written (close at) scope k h = absurd h
      one_written (word at w p) scope k h = absurd h
      one_written (list at p q) scope k h =
          let f = inside_written p scope k.1 h.0 in let e = end_closed q h.1 in
          ((f.0, e.0), (group (parts_of p), ap (part (group (parts_of p))) e.1, f.1))

      two_formulas_written : (p : Placed) (scope : List Word) → Knows v scope p → (two_form p).Whole → Two scope p
      two_formulas_written cut scope k h = absurd h
      two_formulas_written (close at) scope k h = absurd h
      two_formulas_written (word at w p) scope k h = absurd h
      two_formulas_written (list at p q) scope k h =
          let f = inside_written p scope k.1 h.0 in let g = one_written q scope k.2 h.1 in
          ((f.0, g.0), (group (parts_of p), g.1.0, ap (part (group (parts_of p))) g.1.1, f.1, g.1.2))

      bound_written : (p : Placed) (scope : List Word) → Knows v scope p → (bound_form p).Whole → Bound scope p
      bound_written cut scope k h = absurd h
      bound_written (close at) scope k h = absurd h
      bound_written (word at w p) scope k h = absurd h
      bound_written (list at p q) scope k h =
          let xs = params_listed v scope (IsParam v) Parameters (variable v) (make_parameter v scope) object p [] k.1 h.0 in
          let g = one_written q (scope ++ map (variable v) xs.1.0) (knows_more v scope (map (variable v) xs.1.0) q k.2) h.1 in
          ((xs.0, g.0), (parts_of p, g.1.0, xs.1.0, ap (part (group (parts_of p))) g.1.1, xs.1.2.1, xs.1.1, g.1.2))
