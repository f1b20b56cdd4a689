-- The parts from which a formula is read spell it, once bound.
use Rattle.std.proofs.Common.{◌≡◌, ℕ, inl, inr, Ok, List, [], ◌∷◌, ◌++◌, map, refl, ap, sym, subst}
use Rattle.text_forms.specs.Lists.{Part, Parts, name, group, nothing, part}
use Rattle.text_forms.specs.Placed.{Placed, cut, close, word, list, parts_of}
use Rattle.text_forms.specs.Words.{Word}
use Rattle.plan_texts.specs.Declared.{Declared, variable}
use Rattle.plan_texts.specs.Formulas.{IsParam, IsFormula}
use Rattle.plan_texts.specs.TypedLists.{Each, EachTyped, IsEmpty}
use Rattle.plan_texts.proofs.Layers.{formula-Holds, formula-Equal, formula-Not, formula-And, formula-Or, formula-Imply, formula-Forall, formula-Exists}
use Rattle.plan_model.specs.declared.terms.Param.{Param}
use Rattle.plan_model.specs.declared.formulas.Formula.{Formula}
use Rattle.plan_model.specs.declared.formulas.Formula.TheVariants as formula
use Rattle.gd_reader.specs.declared.formulas.RawFormula.{RawFormula, roll-RawFormula}
use Rattle.gd_reader.specs.declared.formulas.RawFormula.TheFolds.{rec-roll-RawFormula, map-RawFormula}
use Rattle.gd_reader.specs.declared.formulas.RawFormula.TheOpen.{RawFormula-F}
use Rattle.gd_reader.specs.declared.formulas.RawFormula.TheVariants as raw
use Rattle.gd_reader.specs.declared.formulas.RawFormula.TheVariants.{rolls-Holds, rolls-Equal, rolls-Not, rolls-And, rolls-Or, rolls-Imply, rolls-Forall, rolls-Exists}
use Rattle.gd_reader.specs.declared.typed_lists.ListKind.TheVariants.{Parameters}
use Rattle.gd_reader.specs.declared.typed_lists.RawParam.{RawParam}
use Rattle.gd_reader.specs.declared.words.Head.{Head}
use Rattle.gd_reader.specs.declared.words.Head.TheVariants as head
use Rattle.gd_reader.specs.Answers.{◌>>=◌, end_due}
use Rattle.gd_reader.specs.Formulas.{inside, formulas, one, two, bound, headed}
use Rattle.gd_reader.specs.Terms.{Names, two_terms, atom}
use Rattle.gd_reader.specs.TypedLists.{listed}
use Rattle.gd_reader.specs.Words.{head_of}
use Rattle.gd_reader.proofs.Keeping.{keeps_same}
use Rattle.plan_texts.specs.Together.{Together}
use Rattle.text_values.specs.form_spellings.Bound.{IsBoundParam, bound_step, IsBoundFormula}
use Rattle.text_values.proofs.form_spellings.FormulasIn.{inside_word}
use Rattle.text_values.proofs.form_spellings.KeptWords.{Reads, reads_then, reads_map, reads_end}
use Rattle.text_values.proofs.form_spellings.ListsBound.{ListBound, listed_bound, parameter_fits}
use Rattle.text_values.proofs.form_spellings.TermsBound.{AtomBound, PairBound, atom_bound, two_bound}
use Rattle.text_values.proofs.form_spellings.TermsIn.{same}
use Rattle.text_values.proofs.form_spellings.WordTests.{HeadWord, head_word}

pub pairs-map : {X Y Z : Type 0} (u : X → Y) (R : Y → Z → Type 0) (xs : List X) (zs : List Z) → Together (λ x z. R (u x) z) xs zs ≡ Together R (map u xs) zs
pairs-map u R [] [] = refl
pairs-map u R [] (z ∷ zs) = refl
pairs-map u R (x ∷ xs) [] = refl
pairs-map u R (x ∷ xs) (z ∷ zs) = ap (λ t. R (u x) z × t) (pairs-map u R xs zs)

pub no_pairs : {X Y : Type 0} (R : X → Y → Type 0) (ys : List Y) → Together R [] ys → IsEmpty ys
no_pairs R [] b = tt
no_pairs R (y ∷ ys) b = b

pub coerce : {A B : Type 0} → A ≡ B → A → B
coerce e a = subst (λ (T : Type 0). T) e a

module _ (v : Declared) (table : Names) where
  natural : (X : Type 0) (u : X → RawFormula) (k : RawFormula → List Word → Formula → Type 0) (x : RawFormula-F X) → bound_step v table (λ p. k (u p)) x ≡ bound_step v table k (map-RawFormula X RawFormula u x)
  natural X u k (RawFormula-F.Holds a) = refl
  natural X u k (RawFormula-F.Equal s t) = refl
  natural X u k (RawFormula-F.Not r) = refl
  natural X u k (RawFormula-F.And rs) = λ i scope f. (gs : List Formula) × (f ≡ formula.And gs) × pairs-map u (λ r g. k r scope g) rs gs i
  natural X u k (RawFormula-F.Or rs) = λ i scope f. (gs : List Formula) × (f ≡ formula.Or gs) × pairs-map u (λ r g. k r scope g) rs gs i
  natural X u k (RawFormula-F.Imply r s) = refl
  natural X u k (RawFormula-F.Forall xs r) = refl
  natural X u k (RawFormula-F.Exists xs r) = refl

  -- one level
  unroll : (x : RawFormula-F RawFormula) (r : RawFormula) → roll-RawFormula x ≡ r → (scope : List Word) (f : Formula) → IsBoundFormula v table r scope f → bound_step v table (IsBoundFormula v table) x scope f
  unroll x r e scope f b =
      subst (λ (z : List Word → Formula → Type 0). z scope f) (rec-roll-RawFormula (List Word → Formula → Type 0) (λ X u k layer. bound_step v table k layer) natural x) (subst (λ r. IsBoundFormula v table r scope f) (sym e) b)

  pub bound_roll : (x : RawFormula-F RawFormula) (r : RawFormula) → roll-RawFormula x ≡ r → (scope : List Word) (f : Formula) → bound_step v table (IsBoundFormula v table) x scope f → IsBoundFormula v table r scope f
  bound_roll x r e scope f b =
      subst (λ r. IsBoundFormula v table r scope f) e
      (subst (λ (z : List Word → Formula → Type 0). z scope f) (sym (rec-roll-RawFormula (List Word → Formula → Type 0) (λ X u k layer. bound_step v table k layer) natural x)) b)

-- once bound, it is spelled by what stands in the parentheses
abbrev pub FormulaBound : Parts → RawFormula → Names → Type 0
FormulaBound ps r table = (v : Declared) (scope : List Word) (f : Formula) → IsBoundFormula v table r scope f → IsFormula v f scope (group ps)

abbrev ManyBound : Parts → List RawFormula → Names → Type 0
ManyBound ps rs table = (v : Declared) (scope : List Word) (fs : List Formula) → Together (λ r f. IsBoundFormula v table r scope f) rs fs → Each (λ f. IsFormula v f scope) fs ps

abbrev OneBound : Parts → RawFormula → Names → Type 0
OneBound ps r table = (v : Declared) (scope : List Word) (f : Formula) → IsBoundFormula v table r scope f → (q : Part) × (ps ≡ part q nothing) × IsFormula v f scope q

abbrev TwoBound : Parts → RawFormula × RawFormula → Names → Type 0
TwoBound ps x table = (v : Declared) (scope : List Word) (f g : Formula) → IsBoundFormula v table x.0 scope f → IsBoundFormula v table x.1 scope g → (q : Part) × (r : Part) × (ps ≡ part q (part r nothing)) × IsFormula v f scope q × IsFormula v g scope r

abbrev QuantifiedBound : Parts → List RawParam × RawFormula → Names → Type 0
QuantifiedBound ps x table = (v : Declared) (scope : List Word) (xs : List Param) (f : Formula) → Together (IsBoundParam v table) x.0 xs → IsBoundFormula v table x.1 (scope ++ map (variable v) xs) f
    → (rs : Parts) × (q : Part) × (ps ≡ part (group rs) (part q nothing)) × EachTyped (IsParam v) xs rs × IsFormula v f (scope ++ map (variable v) xs) q

abbrev whole : Word → Placed → Parts
whole w p = part (name w) (parts_of p)

-- behind the word at the front
headed_bound : (h : Head) (names : Names) (at : ℕ) (w : Word) (p : Placed) → HeadWord h w → Reads names (formulas names p) (ManyBound (parts_of p)) → Reads names (one names p) (OneBound (parts_of p))
    → Reads names (two names p) (TwoBound (parts_of p)) → Reads names (bound names p) (QuantifiedBound (parts_of p)) → Reads names (headed h names at w p) (FormulaBound (whole w p))
unfolding headed
headed_bound head.And names at w p e many a b c = reads_map (ManyBound (parts_of p)) (FormulaBound (whole w p)) names (formulas names p) raw.And many
    (λ rs table is v scope f d.
    let u = unroll v table (RawFormula-F.And rs) (raw.And rs) (rolls-And rs) scope f d in
    subst (λ f. IsFormula v f scope (group (whole w p))) (sym u.1) (coerce (sym (formula-And v scope (group (whole w p)) u.0)) (inl (parts_of p, ap (λ w. group (whole w p)) e, is v scope u.0 u.2))))
headed_bound head.Or names at w p e many a b c = reads_map (ManyBound (parts_of p)) (FormulaBound (whole w p)) names (formulas names p) raw.Or many
    (λ rs table is v scope f d.
    let u = unroll v table (RawFormula-F.Or rs) (raw.Or rs) (rolls-Or rs) scope f d in
    subst (λ f. IsFormula v f scope (group (whole w p))) (sym u.1) (coerce (sym (formula-Or v scope (group (whole w p)) u.0)) (parts_of p, ap (λ w. group (whole w p)) e, is v scope u.0 u.2)))
headed_bound head.Not names at w p e many a b c = reads_map (OneBound (parts_of p)) (FormulaBound (whole w p)) names (one names p) raw.Not a
    (λ r table is v scope f d.
    let u = unroll v table (RawFormula-F.Not r) (raw.Not r) (rolls-Not r) scope f d in
    let g = is v scope u.0 u.2 in
    subst (λ f. IsFormula v f scope (group (whole w p))) (sym u.1) (coerce (sym (formula-Not v scope (group (whole w p)) u.0)) (g.0, (λ i. group (part (name (e i)) (g.1 i))), g.2)))
headed_bound head.Imply names at w p e many a b c = reads_map (TwoBound (parts_of p)) (FormulaBound (whole w p)) names (two names p) (λ x. raw.Imply x.0 x.1) b
    (λ x table is v scope f d.
    let u = unroll v table (RawFormula-F.Imply x.0 x.1) (raw.Imply x.0 x.1) (rolls-Imply x.0 x.1) scope f d in
    let g = is v scope u.0 u.1 u.3 u.4 in
    subst (λ f. IsFormula v f scope (group (whole w p))) (sym u.2) (coerce (sym (formula-Imply v scope (group (whole w p)) u.0 u.1)) (g.0, g.1, (λ i. group (part (name (e i)) (g.2 i))), g.3, g.4)))
headed_bound head.Forall names at w p e many a b c = reads_map (QuantifiedBound (parts_of p)) (FormulaBound (whole w p)) names (bound names p) (λ x. raw.Forall x.0 x.1) c
    (λ x table is v scope f d.
    let u = unroll v table (RawFormula-F.Forall x.0 x.1) (raw.Forall x.0 x.1) (rolls-Forall x.0 x.1) scope f d in
    let g = is v scope u.0 u.1 u.3 u.4 in
    subst (λ f. IsFormula v f scope (group (whole w p))) (sym u.2) (coerce (sym (formula-Forall v scope (group (whole w p)) u.0 u.1)) (g.0, g.1, (λ i. group (part (name (e i)) (g.2 i))), g.3, g.4)))
headed_bound head.Exists names at w p e many a b c = reads_map (QuantifiedBound (parts_of p)) (FormulaBound (whole w p)) names (bound names p) (λ x. raw.Exists x.0 x.1) c
    (λ x table is v scope f d.
    let u = unroll v table (RawFormula-F.Exists x.0 x.1) (raw.Exists x.0 x.1) (rolls-Exists x.0 x.1) scope f d in
    let g = is v scope u.0 u.1 u.3 u.4 in
    subst (λ f. IsFormula v f scope (group (whole w p))) (sym u.2) (coerce (sym (formula-Exists v scope (group (whole w p)) u.0 u.1)) (g.0, g.1, (λ i. group (part (name (e i)) (g.2 i))), g.3, g.4)))
headed_bound head.Equal names at w p e many a b c = reads_map (PairBound p) (FormulaBound (whole w p)) names (two_terms names p) (λ x. raw.Equal x.0 x.1) (two_bound p names)
    (λ x table is v scope f d.
    let u = unroll v table (RawFormula-F.Equal x.0 x.1) (raw.Equal x.0 x.1) (rolls-Equal x.0 x.1) scope f d in
    let g = is v scope u.0 u.1 u.3 u.4 in
    subst (λ f. IsFormula v f scope (group (whole w p))) (sym u.2) (coerce (sym (formula-Equal v scope (group (whole w p)) u.0 u.1)) (g.0, g.1, (λ i. group (part (name (e i)) (g.2 i))), g.3, g.4)))
headed_bound head.Plain names at w p e many a b c = reads_map (AtomBound w p) (FormulaBound (whole w p)) names (atom names at w p) raw.Holds (atom_bound p names at w e)
    (λ x table is v scope f d.
    let u = unroll v table (RawFormula-F.Holds x) (raw.Holds x) (rolls-Holds x) scope f d in
    subst (λ f. IsFormula v f scope (group (whole w p))) (sym u.2) (coerce (sym (formula-Holds v scope (group (whole w p)) (record { predicate = u.0; args = u.1 }))) (is v scope u.0 u.1 u.3)))
headed_bound head.Wrong names at w p e many a b c = tt

nothing_bound : (table : Names) → FormulaBound nothing (raw.And []) table
nothing_bound table v scope f d =
    let u = unroll v table (RawFormula-F.And []) (raw.And []) (rolls-And []) scope f d in
    subst (λ f. IsFormula v f scope (group nothing)) (sym u.1) (coerce (sym (formula-And v scope (group nothing) u.0)) (inr (no_pairs (λ r g. IsBoundFormula v table r scope g) u.0 u.2, refl)))

none : (table : Names) → ManyBound nothing [] table
none table v scope [] d = tt
none table v scope (f ∷ fs) d = absurd d

one_more : (p q : Placed) (r : RawFormula) (rs : List RawFormula) (table : Names) → ManyBound (parts_of q) rs table → FormulaBound (parts_of p) r table → ManyBound (part (group (parts_of p)) (parts_of q)) (r ∷ rs) table
one_more p q r rs table is one v scope [] d = absurd d
one_more p q r rs table is one v scope (f ∷ fs) d = (one v scope f d.0, is v scope fs d.1)

abbrev ParamsBound : Placed → List RawParam → Names → Type 0
ParamsBound p = ListBound IsParam IsBoundParam Parameters parameter_fits p

mutual
  unfolding inside formulas one two bound

  pub inside_bound : (p : Placed) (names : Names) → Reads names (inside names p) (FormulaBound (parts_of p))
  inside_bound cut names = tt
  inside_bound (close at) names = (keeps_same names, λ table k. nothing_bound table)
  inside_bound (list at p q) names = tt
  inside_bound (word at w p) names =
      subst (λ r. Reads names r (FormulaBound (whole w p))) (sym (inside_word names at w p)) (headed_bound (head_of w) names at w p (head_word w) (formulas_bound p names) (one_bound p names) (two_formulas_bound p names) (quantified_bound p names))

  formulas_bound : (p : Placed) (names : Names) → Reads names (formulas names p) (ManyBound (parts_of p))
  formulas_bound cut names = tt
  formulas_bound (close at) names = (keeps_same names, λ table k. none table)
  formulas_bound (word at w p) names = tt
  formulas_bound (list at p q) names =
      reads_then same (FormulaBound (parts_of p)) (ManyBound (part (group (parts_of p)) (parts_of q))) names (inside names p) (λ f. formulas f.1 q >>= (λ fs. Ok (f.0 ∷ fs.0, fs.1))) (inside_bound p names)
      (λ f. reads_map (ManyBound (parts_of q)) (λ fs table. FormulaBound (parts_of p) f.0 table → ManyBound (part (group (parts_of p)) (parts_of q)) fs table) f.1 (formulas f.1 q) (λ fs. f.0 ∷ fs) (formulas_bound q f.1) (λ fs table is one. one_more p q f.0 fs table is one))

  one_bound : (p : Placed) (names : Names) → Reads names (one names p) (OneBound (parts_of p))
  one_bound cut names = tt
  one_bound (close at) names = tt
  one_bound (word at w p) names = tt
  one_bound (list at p q) names =
      reads_then same (FormulaBound (parts_of p)) (OneBound (part (group (parts_of p)) (parts_of q))) names (inside names p) (λ f. end_due q >>= (λ _. Ok f)) (inside_bound p names)
      (λ f. reads_end (λ g table. FormulaBound (parts_of p) f.0 table → OneBound (part (group (parts_of p)) (parts_of q)) g table) q f (λ e table is v scope g d. (group (parts_of p), ap (part (group (parts_of p))) e, is v scope g d)))

  two_formulas_bound : (p : Placed) (names : Names) → Reads names (two names p) (TwoBound (parts_of p))
  two_formulas_bound cut names = tt
  two_formulas_bound (close at) names = tt
  two_formulas_bound (word at w p) names = tt
  two_formulas_bound (list at p q) names =
      reads_then same (FormulaBound (parts_of p)) (TwoBound (part (group (parts_of p)) (parts_of q))) names (inside names p) (λ f. one f.1 q >>= (λ g. Ok ((f.0, g.0), g.1))) (inside_bound p names)
      (λ f. reads_map (OneBound (parts_of q)) (λ x table. FormulaBound (parts_of p) f.0 table → TwoBound (part (group (parts_of p)) (parts_of q)) x table) f.1 (one f.1 q) (λ g. (f.0, g)) (one_bound q f.1)
      (λ g table is one v scope h i d d'. let j = is v scope i d' in (group (parts_of p), j.0, ap (part (group (parts_of p))) j.1, one v scope h d, j.2)))

  quantified_bound : (p : Placed) (names : Names) → Reads names (bound names p) (QuantifiedBound (parts_of p))
  quantified_bound cut names = tt
  quantified_bound (close at) names = tt
  quantified_bound (word at w p) names = tt
  quantified_bound (list at p q) names =
      reads_then same (ParamsBound p) (QuantifiedBound (part (group (parts_of p)) (parts_of q))) names (listed Parameters names p) (λ vs. one vs.1 q >>= (λ f. Ok ((vs.0, f.0), f.1))) (listed_bound IsParam IsBoundParam Parameters parameter_fits p names)
      (λ vs. reads_map (OneBound (parts_of q)) (λ x table. ParamsBound p vs.0 table → QuantifiedBound (part (group (parts_of p)) (parts_of q)) x table) vs.1 (one vs.1 q) (λ f. (vs.0, f)) (one_bound q vs.1)
      (λ f table is one v scope xs h d d'. let j = is v (scope ++ map (variable v) xs) h d' in (parts_of p, j.0, ap (part (group (parts_of p))) j.1, one v xs d, j.2)))
