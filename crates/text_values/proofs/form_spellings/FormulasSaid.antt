-- A formula that the parts spell is one to which what is read of them is bound.
use Rattle.std.proofs.Common.{◌≡◌, ℕ, Ok, List, [], ◌∷◌, ◌++◌, map, sym, subst}
use Rattle.text_forms.specs.Lists.{Part, Parts, name, group, nothing, part}
use Rattle.text_forms.specs.Placed.{Placed, cut, close, word, list, parts_of}
use Rattle.text_forms.specs.Words.{Word}
use Rattle.plan_texts.specs.Declared.{Declared, variable}
use Rattle.plan_texts.specs.Formulas.{IsParam, IsFormula}
use Rattle.plan_texts.specs.TypedLists.{Each, EachTyped}
use Rattle.plan_model.specs.declared.terms.Param.{Param}
use Rattle.plan_model.specs.declared.formulas.Formula.{Formula}
use Rattle.gd_reader.specs.declared.formulas.RawFormula.{RawFormula}
use Rattle.gd_reader.specs.declared.formulas.RawFormula.TheOpen.{RawFormula-F}
use Rattle.gd_reader.specs.declared.formulas.RawFormula.TheVariants as raw
use Rattle.gd_reader.specs.declared.formulas.RawFormula.TheVariants.{rolls-Holds, rolls-Equal, rolls-Not, rolls-And, rolls-Or, rolls-Imply, rolls-Forall, rolls-Exists}
use Rattle.gd_reader.specs.declared.typed_lists.ListKind.TheVariants.{Parameters}
use Rattle.gd_reader.specs.declared.typed_lists.RawParam.{RawParam}
use Rattle.gd_reader.specs.declared.words.Head.{Head}
use Rattle.gd_reader.specs.declared.words.Head.TheVariants as head
use Rattle.gd_reader.specs.Answers.{◌>>=◌, end_due}
use Rattle.gd_reader.specs.Formulas.{inside, formulas, one, two, bound, headed}
use Rattle.gd_reader.specs.Terms.{Names, two_terms, atom}
use Rattle.gd_reader.specs.TypedLists.{listed}
use Rattle.gd_reader.specs.Words.{head_of}
use Rattle.gd_reader.proofs.Keeping.{keeps_same}
use Rattle.plan_texts.specs.Together.{Together}
use Rattle.text_values.specs.form_spellings.Bound.{IsBoundParam, IsBoundFormula}
use Rattle.text_values.proofs.form_spellings.FormulasBound.{bound_roll}
use Rattle.text_values.proofs.form_spellings.FormulasIn.{inside_word}
use Rattle.text_values.proofs.form_spellings.KeptWords.{Reads, reads_then, reads_map, reads_end}
use Rattle.text_values.proofs.form_spellings.ListsSaid.{ListSaid, listed_said, parameter_binds}
use Rattle.text_values.proofs.form_spellings.Opened.{Opened, opened, empty}
use Rattle.text_values.proofs.form_spellings.PartsWhole.{front_is, back_is, within_is}
use Rattle.text_values.proofs.form_spellings.TermsSaid.{AtomSaid, PairSaid, atom_said, two_said}
use Rattle.text_values.proofs.form_spellings.TermsIn.{same}
use Rattle.text_values.proofs.form_spellings.WordTests.{HeadWord, head_word}

-- what stands in the parentheses spells only values to which it is bound
abbrev pub FormulaSaid : Parts → RawFormula → Names → Type 0
FormulaSaid ps r table = (v : Declared) (scope : List Word) (f : Formula) → IsFormula v f scope (group ps) → IsBoundFormula v table r scope f

abbrev ManySaid : Parts → List RawFormula → Names → Type 0
ManySaid ps rs table = (v : Declared) (scope : List Word) (fs : List Formula) → Each (λ f. IsFormula v f scope) fs ps → Together (λ r f. IsBoundFormula v table r scope f) rs fs

abbrev OneSaid : Parts → RawFormula → Names → Type 0
OneSaid ps r table = (v : Declared) (scope : List Word) (f : Formula) (q : Part) → ps ≡ part q nothing → IsFormula v f scope q → IsBoundFormula v table r scope f

abbrev TwoSaid : Parts → RawFormula × RawFormula → Names → Type 0
TwoSaid ps x table = (v : Declared) (scope : List Word) (f g : Formula) (q r : Part) → ps ≡ part q (part r nothing) → IsFormula v f scope q → IsFormula v g scope r → IsBoundFormula v table x.0 scope f × IsBoundFormula v table x.1 scope g

abbrev QuantifiedSaid : Parts → List RawParam × RawFormula → Names → Type 0
QuantifiedSaid ps x table = (v : Declared) (scope : List Word) (xs : List Param) (f : Formula) (rs : Parts) (q : Part) → ps ≡ part (group rs) (part q nothing) → EachTyped (IsParam v) xs rs → IsFormula v f (scope ++ map (variable v) xs) q
    → Together (IsBoundParam v table) x.0 xs × IsBoundFormula v table x.1 (scope ++ map (variable v) xs) f

abbrev whole : Word → Placed → Parts
whole w p = part (name w) (parts_of p)

-- behind the word at the front
headed_said : (h : Head) (names : Names) (at : ℕ) (w : Word) (p : Placed) → HeadWord h w → ((v : Declared) (scope : List Word) (f : Formula) → IsFormula v f scope (group (whole w p)) → Opened v scope h w (parts_of p) f)
    → Reads names (formulas names p) (ManySaid (parts_of p)) → Reads names (one names p) (OneSaid (parts_of p)) → Reads names (two names p) (TwoSaid (parts_of p)) → Reads names (bound names p) (QuantifiedSaid (parts_of p)) → Reads names (headed h names at w p) (FormulaSaid (whole w p))
unfolding headed
headed_said head.And names at w p e view many a b c = reads_map (ManySaid (parts_of p)) (FormulaSaid (whole w p)) names (formulas names p) raw.And many
    (λ rs table is v scope f d. let o = view v scope f d in bound_roll v table (RawFormula-F.And rs) (raw.And rs) (rolls-And rs) scope f (o.0, o.1, is v scope o.0 o.2))
headed_said head.Or names at w p e view many a b c = reads_map (ManySaid (parts_of p)) (FormulaSaid (whole w p)) names (formulas names p) raw.Or many
    (λ rs table is v scope f d. let o = view v scope f d in bound_roll v table (RawFormula-F.Or rs) (raw.Or rs) (rolls-Or rs) scope f (o.0, o.1, is v scope o.0 o.2))
headed_said head.Not names at w p e view many a b c = reads_map (OneSaid (parts_of p)) (FormulaSaid (whole w p)) names (one names p) raw.Not a
    (λ r table is v scope f d. let o = view v scope f d in bound_roll v table (RawFormula-F.Not r) (raw.Not r) (rolls-Not r) scope f (o.0, o.1, is v scope o.0 o.2.0 o.2.1 o.2.2))
headed_said head.Imply names at w p e view many a b c = reads_map (TwoSaid (parts_of p)) (FormulaSaid (whole w p)) names (two names p) (λ x. raw.Imply x.0 x.1) b
    (λ x table is v scope f d.
    let o = view v scope f d in
    let i = is v scope o.0 o.1 o.3.0 o.3.1 o.3.2 o.3.3 o.3.4 in
    bound_roll v table (RawFormula-F.Imply x.0 x.1) (raw.Imply x.0 x.1) (rolls-Imply x.0 x.1) scope f (o.0, o.1, o.2, i.0, i.1))
headed_said head.Forall names at w p e view many a b c = reads_map (QuantifiedSaid (parts_of p)) (FormulaSaid (whole w p)) names (bound names p) (λ x. raw.Forall x.0 x.1) c
    (λ x table is v scope f d.
    let o = view v scope f d in
    let i = is v scope o.0 o.1 o.3.0 o.3.1 o.3.2 o.3.3 o.3.4 in
    bound_roll v table (RawFormula-F.Forall x.0 x.1) (raw.Forall x.0 x.1) (rolls-Forall x.0 x.1) scope f (o.0, o.1, o.2, i.0, i.1))
headed_said head.Exists names at w p e view many a b c = reads_map (QuantifiedSaid (parts_of p)) (FormulaSaid (whole w p)) names (bound names p) (λ x. raw.Exists x.0 x.1) c
    (λ x table is v scope f d.
    let o = view v scope f d in
    let i = is v scope o.0 o.1 o.3.0 o.3.1 o.3.2 o.3.3 o.3.4 in
    bound_roll v table (RawFormula-F.Exists x.0 x.1) (raw.Exists x.0 x.1) (rolls-Exists x.0 x.1) scope f (o.0, o.1, o.2, i.0, i.1))
headed_said head.Equal names at w p e view many a b c = reads_map (PairSaid p) (FormulaSaid (whole w p)) names (two_terms names p) (λ x. raw.Equal x.0 x.1) (two_said p names)
    (λ x table is v scope f d.
    let o = view v scope f d in
    let i = is v scope o.0 o.1 o.3.0 o.3.1 o.3.2 o.3.3 o.3.4 in
    bound_roll v table (RawFormula-F.Equal x.0 x.1) (raw.Equal x.0 x.1) (rolls-Equal x.0 x.1) scope f (o.0, o.1, o.2, i.0, i.1))
headed_said head.Plain names at w p e view many a b c = reads_map (AtomSaid (whole w p)) (FormulaSaid (whole w p)) names (atom names at w p) raw.Holds (atom_said p names at w e)
    (λ x table is v scope f d. let o = view v scope f d in bound_roll v table (RawFormula-F.Holds x) (raw.Holds x) (rolls-Holds x) scope f (o.0, o.1, o.2, is v scope o.0 o.1 o.3))
headed_said head.Wrong names at w p e view many a b c = tt

nothing_said : (table : Names) → FormulaSaid nothing (raw.And []) table
nothing_said table v scope f d = bound_roll v table (RawFormula-F.And []) (raw.And []) (rolls-And []) scope f ([], empty v scope f d, tt)

none : (table : Names) → ManySaid nothing [] table
none table v scope [] d = tt
none table v scope (f ∷ fs) d = absurd d

one_more : (p q : Placed) (r : RawFormula) (rs : List RawFormula) (table : Names) → ManySaid (parts_of q) rs table → FormulaSaid (parts_of p) r table → ManySaid (part (group (parts_of p)) (parts_of q)) (r ∷ rs) table
one_more p q r rs table is one v scope [] d = absurd d
one_more p q r rs table is one v scope (f ∷ fs) d = (one v scope f d.0, is v scope fs d.1)

abbrev ParamsSaid : Placed → List RawParam → Names → Type 0
ParamsSaid p = ListSaid IsParam IsBoundParam Parameters parameter_binds p

mutual
  unfolding inside formulas one two bound

  pub inside_said : (p : Placed) (names : Names) → Reads names (inside names p) (FormulaSaid (parts_of p))
  inside_said cut names = tt
  inside_said (close at) names = (keeps_same names, λ table k. nothing_said table)
  inside_said (list at p q) names = tt
  inside_said (word at w p) names =
      subst (λ r. Reads names r (FormulaSaid (whole w p))) (sym (inside_word names at w p))
      (headed_said (head_of w) names at w p (head_word w) (λ v scope f d. opened v scope f w (parts_of p) d) (formulas_said p names) (one_said p names) (two_formulas_said p names) (quantified_said p names))

  formulas_said : (p : Placed) (names : Names) → Reads names (formulas names p) (ManySaid (parts_of p))
  formulas_said cut names = tt
  formulas_said (close at) names = (keeps_same names, λ table k. none table)
  formulas_said (word at w p) names = tt
  formulas_said (list at p q) names =
      reads_then same (FormulaSaid (parts_of p)) (ManySaid (part (group (parts_of p)) (parts_of q))) names (inside names p) (λ f. formulas f.1 q >>= (λ fs. Ok (f.0 ∷ fs.0, fs.1))) (inside_said p names)
      (λ f. reads_map (ManySaid (parts_of q)) (λ fs table. FormulaSaid (parts_of p) f.0 table → ManySaid (part (group (parts_of p)) (parts_of q)) fs table) f.1 (formulas f.1 q) (λ fs. f.0 ∷ fs) (formulas_said q f.1) (λ fs table is one. one_more p q f.0 fs table is one))

  one_said : (p : Placed) (names : Names) → Reads names (one names p) (OneSaid (parts_of p))
  one_said cut names = tt
  one_said (close at) names = tt
  one_said (word at w p) names = tt
  one_said (list at p q) names =
      reads_then same (FormulaSaid (parts_of p)) (OneSaid (part (group (parts_of p)) (parts_of q))) names (inside names p) (λ f. end_due q >>= (λ _. Ok f)) (inside_said p names)
      (λ f. reads_end (λ g table. FormulaSaid (parts_of p) f.0 table → OneSaid (part (group (parts_of p)) (parts_of q)) g table) q f (λ _ table is v scope g r e d. is v scope g (subst (IsFormula v g scope) (sym (front_is e)) d)))

  two_formulas_said : (p : Placed) (names : Names) → Reads names (two names p) (TwoSaid (parts_of p))
  two_formulas_said cut names = tt
  two_formulas_said (close at) names = tt
  two_formulas_said (word at w p) names = tt
  two_formulas_said (list at p q) names =
      reads_then same (FormulaSaid (parts_of p)) (TwoSaid (part (group (parts_of p)) (parts_of q))) names (inside names p) (λ f. one f.1 q >>= (λ g. Ok ((f.0, g.0), g.1))) (inside_said p names)
      (λ f. reads_map (OneSaid (parts_of q)) (λ x table. FormulaSaid (parts_of p) f.0 table → TwoSaid (part (group (parts_of p)) (parts_of q)) x table) f.1 (one f.1 q) (λ g. (f.0, g)) (one_said q f.1)
      (λ g table is one v scope h i r s e d d'. (one v scope h (subst (IsFormula v h scope) (sym (front_is e)) d), is v scope i s (back_is e) d')))

  quantified_said : (p : Placed) (names : Names) → Reads names (bound names p) (QuantifiedSaid (parts_of p))
  quantified_said cut names = tt
  quantified_said (close at) names = tt
  quantified_said (word at w p) names = tt
  quantified_said (list at p q) names =
      reads_then same (ParamsSaid p) (QuantifiedSaid (part (group (parts_of p)) (parts_of q))) names (listed Parameters names p) (λ vs. one vs.1 q >>= (λ f. Ok ((vs.0, f.0), f.1))) (listed_said IsParam IsBoundParam Parameters parameter_binds p names)
      (λ vs. reads_map (OneSaid (parts_of q)) (λ x table. ParamsSaid p vs.0 table → QuantifiedSaid (part (group (parts_of p)) (parts_of q)) x table) vs.1 (one vs.1 q) (λ f. (vs.0, f)) (one_said q vs.1)
      (λ f table is one v scope xs h rs r e d d'. (one v xs (subst (EachTyped (IsParam v) xs) (sym (within_is (front_is e))) d), is v (scope ++ map (variable v) xs) h r (back_is e) d')))
