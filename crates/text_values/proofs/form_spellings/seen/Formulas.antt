-- The unions of a formula that was read are those that its parts write.
use Rattle.std.proofs.Common.{◌≡◌, ◌∙◌, ℕ, Ok, List, [], ◌∷◌, ◌++◌, map, sym, ap, subst}
use Rattle.text_forms.specs.Placed.{Placed, cut, close, word, list}
use Rattle.text_forms.specs.Words.{Word}
use Rattle.gd_reader.specs.declared.formulas.RawFormula.{RawFormula, roll-RawFormula}
use Rattle.gd_reader.specs.declared.formulas.RawFormula.TheFolds.{fold-roll-RawFormula, map-RawFormula}
use Rattle.gd_reader.specs.declared.formulas.RawFormula.TheOpen.{RawFormula-F}
use Rattle.gd_reader.specs.declared.formulas.RawFormula.TheVariants as raw
use Rattle.gd_reader.specs.declared.formulas.RawFormula.TheVariants.{rolls-Holds, rolls-Equal, rolls-Not, rolls-And, rolls-Or, rolls-Imply, rolls-Forall, rolls-Exists}
use Rattle.gd_reader.specs.declared.typed_lists.ListKind.TheVariants.{Parameters}
use Rattle.gd_reader.specs.declared.typed_lists.RawParam.{RawParam}
use Rattle.gd_reader.specs.declared.words.Head.{Head}
use Rattle.gd_reader.specs.declared.words.Head.TheVariants as head
use Rattle.gd_reader.specs.Answers.{◌>>=◌, end_due}
use Rattle.gd_reader.specs.Formulas.{inside, formulas, one, two, bound, headed}
use Rattle.gd_reader.specs.Terms.{Names, two_terms, atom}
use Rattle.gd_reader.specs.TypedLists.{listed}
use Rattle.gd_reader.specs.Words.{head_of}
use Rattle.gd_reader.proofs.Keeping.{keeps_same}
use Rattle.std.proofs.lemmas.List.{append-nil}
use Rattle.text_values.specs.form_spellings.Written.{Union, joined, params_unions, formula_step, formula_unions}
use Rattle.text_values.proofs.form_spellings.FormulasIn.{inside_word}
use Rattle.text_values.proofs.form_spellings.KeptWords.{Reads, reads_then, reads_map, reads_end}
use Rattle.text_values.proofs.form_spellings.TermsIn.{same}
use Rattle.text_values.proofs.form_spellings.WordTests.{HeadWord, head_word}
use Rattle.text_values.proofs.form_spellings.seen.Adding.{Same, same_refl, same_join, same_by}
use Rattle.text_values.proofs.form_spellings.seen.Erased.{unions_at, inside_at, named_inside}
use Rattle.text_values.proofs.form_spellings.seen.Lists.{InsideSeen, parameters_seen}
use Rattle.text_values.proofs.form_spellings.seen.Terms.{NoUnions, none_at_end, atom_none, two_none}

module _ (table : Names) where
  -- one level
  formula_level : (x : RawFormula-F RawFormula) (f : RawFormula) → roll-RawFormula x ≡ f → formula_unions table f ≡ formula_step table (map-RawFormula RawFormula (List Union) (formula_unions table) x)
  formula_level x f e = ap (formula_unions table) (sym e) ∙ fold-roll-RawFormula (List Union) (formula_step table) x

  abbrev pub all_unions : List RawFormula → List Union
  all_unions fs = joined (map (formula_unions table) fs)

  pub true_unions : formula_unions table (raw.And []) ≡ []
  true_unions = formula_level (RawFormula-F.And []) (raw.And []) (rolls-And [])

  -- what is written for one level, where it is written behind the word at the front
  by_level : (x : RawFormula-F RawFormula) (f : RawFormula) → roll-RawFormula x ≡ f → (us vs : List Union) → us ≡ vs → Same (formula_step table (map-RawFormula RawFormula (List Union) (formula_unions table) x)) us → Same (formula_unions table f) vs
  by_level x f e us vs same is = subst (Same (formula_unions table f)) same (subst (λ ws. Same ws us) (sym (formula_level x f e)) is)

abbrev pub FormulaSeen : List Union → RawFormula → Names → Type 0
FormulaSeen us f table = Same (formula_unions table f) us

abbrev FormulasSeen : List Union → List RawFormula → Names → Type 0
FormulasSeen us fs table = Same (all_unions table fs) us

abbrev BothSeen : List Union → RawFormula × RawFormula → Names → Type 0
BothSeen us x table = Same (formula_unions table x.0 ++ formula_unions table x.1) us

abbrev BoundSeen : List Union → List RawParam × RawFormula → Names → Type 0
BoundSeen us x table = Same (params_unions table x.0 ++ formula_unions table x.1) us

-- with nothing behind it
pub alone_at : (p q : Placed) → unions_at q ≡ [] → inside_at p ≡ inside_at p ++ unions_at q
alone_at p q e = sym (append-nil (inside_at p)) ∙ ap (λ us. inside_at p ++ us) (sym e)

-- behind the word at the front
headed_seen : (h : Head) (names : Names) (at : ℕ) (w : Word) (p : Placed) → HeadWord h w → Reads names (formulas names p) (FormulasSeen (unions_at p)) → Reads names (one names p) (FormulaSeen (unions_at p)) → Reads names (two names p) (BothSeen (unions_at p)) → Reads names (bound names p) (BoundSeen (unions_at p))
    → Reads names (headed h names at w p) (FormulaSeen (inside_at (word at w p)))
unfolding headed
headed_seen head.And names at w p k many a b c = reads_map (FormulasSeen (unions_at p)) (FormulaSeen (inside_at (word at w p))) names (formulas names p) raw.And many
    (λ fs table is. by_level table (RawFormula-F.And fs) (raw.And fs) (rolls-And fs) (unions_at p) (inside_at (word at w p)) (ap (λ w. inside_at (word at w p)) (sym k)) is)
headed_seen head.Or names at w p k many a b c = reads_map (FormulasSeen (unions_at p)) (FormulaSeen (inside_at (word at w p))) names (formulas names p) raw.Or many
    (λ fs table is. by_level table (RawFormula-F.Or fs) (raw.Or fs) (rolls-Or fs) (unions_at p) (inside_at (word at w p)) (ap (λ w. inside_at (word at w p)) (sym k)) is)
headed_seen head.Not names at w p k many a b c = reads_map (FormulaSeen (unions_at p)) (FormulaSeen (inside_at (word at w p))) names (one names p) raw.Not a
    (λ f table is. by_level table (RawFormula-F.Not f) (raw.Not f) (rolls-Not f) (unions_at p) (inside_at (word at w p)) (ap (λ w. inside_at (word at w p)) (sym k)) is)
headed_seen head.Imply names at w p k many a b c = reads_map (BothSeen (unions_at p)) (FormulaSeen (inside_at (word at w p))) names (two names p) (λ x. raw.Imply x.0 x.1) b
    (λ x table is. by_level table (RawFormula-F.Imply x.0 x.1) (raw.Imply x.0 x.1) (rolls-Imply x.0 x.1) (unions_at p) (inside_at (word at w p)) (ap (λ w. inside_at (word at w p)) (sym k)) is)
headed_seen head.Forall names at w p k many a b c = reads_map (BoundSeen (unions_at p)) (FormulaSeen (inside_at (word at w p))) names (bound names p) (λ x. raw.Forall x.0 x.1) c
    (λ x table is. by_level table (RawFormula-F.Forall x.0 x.1) (raw.Forall x.0 x.1) (rolls-Forall x.0 x.1) (unions_at p) (inside_at (word at w p)) (ap (λ w. inside_at (word at w p)) (sym k)) is)
headed_seen head.Exists names at w p k many a b c = reads_map (BoundSeen (unions_at p)) (FormulaSeen (inside_at (word at w p))) names (bound names p) (λ x. raw.Exists x.0 x.1) c
    (λ x table is. by_level table (RawFormula-F.Exists x.0 x.1) (raw.Exists x.0 x.1) (rolls-Exists x.0 x.1) (unions_at p) (inside_at (word at w p)) (ap (λ w. inside_at (word at w p)) (sym k)) is)
headed_seen head.Equal names at w p k many a b c = reads_map (NoUnions p) (FormulaSeen (inside_at (word at w p))) names (two_terms names p) (λ x. raw.Equal x.0 x.1) (two_none p names)
    (λ x table is. by_level table (RawFormula-F.Equal x.0 x.1) (raw.Equal x.0 x.1) (rolls-Equal x.0 x.1) [] (inside_at (word at w p)) (ap (λ w. inside_at (word at w p)) (sym k)) (same_refl []))
headed_seen head.Plain names at w p k many a b c = reads_map (NoUnions p) (FormulaSeen (inside_at (word at w p))) names (atom names at w p) raw.Holds (atom_none p names at w)
    (λ x table is. by_level table (RawFormula-F.Holds x) (raw.Holds x) (rolls-Holds x) [] (inside_at (word at w p)) (sym is ∙ sym (named_inside at w p k)) (same_refl []))
headed_seen head.Wrong names at w p k many a b c = tt

mutual
  unfolding inside formulas one two bound

  pub inside_seen : (p : Placed) (names : Names) → Reads names (inside names p) (FormulaSeen (inside_at p))
  inside_seen cut names = tt
  inside_seen (close at) names = (keeps_same names, λ table k. same_by (formula_unions table (raw.And [])) [] (true_unions table))
  inside_seen (list at p q) names = tt
  inside_seen (word at w p) names =
      subst (λ r. Reads names r (FormulaSeen (inside_at (word at w p)))) (sym (inside_word names at w p)) (headed_seen (head_of w) names at w p (head_word w) (formulas_seen p names) (one_seen p names) (two_seen p names) (bound_seen p names))

  formulas_seen : (p : Placed) (names : Names) → Reads names (formulas names p) (FormulasSeen (unions_at p))
  formulas_seen cut names = tt
  formulas_seen (close at) names = (keeps_same names, λ table k. same_refl [])
  formulas_seen (word at w p) names = tt
  formulas_seen (list at p q) names =
      reads_then same (FormulaSeen (inside_at p)) (FormulasSeen (unions_at (list at p q))) names (inside names p) (λ f. formulas f.1 q >>= (λ fs. Ok (f.0 ∷ fs.0, fs.1))) (inside_seen p names)
      (λ f. reads_map (FormulasSeen (unions_at q)) (λ fs table. FormulaSeen (inside_at p) f.0 table → FormulasSeen (unions_at (list at p q)) fs table) f.1 (formulas f.1 q) (λ fs. f.0 ∷ fs) (formulas_seen q f.1)
      (λ fs table is one. same_join (formula_unions table f.0) (inside_at p) (all_unions table fs) (unions_at q) one is))

  one_seen : (p : Placed) (names : Names) → Reads names (one names p) (FormulaSeen (unions_at p))
  one_seen cut names = tt
  one_seen (close at) names = tt
  one_seen (word at w p) names = tt
  one_seen (list at p q) names =
      reads_then same (FormulaSeen (inside_at p)) (FormulaSeen (unions_at (list at p q))) names (inside names p) (λ f. end_due q >>= (λ _. Ok f)) (inside_seen p names)
      (λ f. reads_end (λ g table. FormulaSeen (inside_at p) f.0 table → FormulaSeen (unions_at (list at p q)) g table) q f (λ e table is. subst (Same (formula_unions table f.0)) (alone_at p q (none_at_end q e)) is))

  two_seen : (p : Placed) (names : Names) → Reads names (two names p) (BothSeen (unions_at p))
  two_seen cut names = tt
  two_seen (close at) names = tt
  two_seen (word at w p) names = tt
  two_seen (list at p q) names =
      reads_then same (FormulaSeen (inside_at p)) (BothSeen (unions_at (list at p q))) names (inside names p) (λ f. one f.1 q >>= (λ g. Ok ((f.0, g.0), g.1))) (inside_seen p names)
      (λ f. reads_map (FormulaSeen (unions_at q)) (λ x table. FormulaSeen (inside_at p) f.0 table → BothSeen (unions_at (list at p q)) x table) f.1 (one f.1 q) (λ g. (f.0, g)) (one_seen q f.1)
      (λ g table is one. same_join (formula_unions table f.0) (inside_at p) (formula_unions table g) (unions_at q) one is))

  bound_seen : (p : Placed) (names : Names) → Reads names (bound names p) (BoundSeen (unions_at p))
  bound_seen cut names = tt
  bound_seen (close at) names = tt
  bound_seen (word at w p) names = tt
  bound_seen (list at p q) names =
      reads_then same (InsideSeen p) (BoundSeen (unions_at (list at p q))) names (listed Parameters names p) (λ vs. one vs.1 q >>= (λ f. Ok ((vs.0, f.0), f.1))) (parameters_seen p names)
      (λ vs. reads_map (FormulaSeen (unions_at q)) (λ x table. InsideSeen p vs.0 table → BoundSeen (unions_at (list at p q)) x table) vs.1 (one vs.1 q) (λ f. (vs.0, f)) (one_seen q vs.1)
      (λ f table is one. same_join (params_unions table vs.0) (inside_at p) (formula_unions table f) (unions_at q) one is))
