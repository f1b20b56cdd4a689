-- The lists of variables of formulas, and the terms of their atoms, are read in the order of the text.
use Rattle.std.proofs.Common.{◌≡◌, ℕ, suc, Ok, List, [], ◌∷◌, refl, sym, subst}
use Rattle.text_forms.specs.Placed.{Placed, cut, close, word, list}
use Rattle.text_forms.specs.Words.{Word}
use Rattle.plan_texts.specs.Types.{EachIs}
use Rattle.plan_texts.proofs.Spelled.{each_is-map}
use Rattle.gd_reader.specs.declared.formulas.RawFormula.{RawFormula, roll-RawFormula}
use Rattle.gd_reader.specs.declared.formulas.RawFormula.TheFolds.{rec-roll-RawFormula, map-RawFormula}
use Rattle.gd_reader.specs.declared.formulas.RawFormula.TheOpen.{RawFormula-F}
use Rattle.gd_reader.specs.declared.formulas.RawFormula.TheVariants as raw
use Rattle.gd_reader.specs.declared.formulas.RawFormula.TheVariants.{rolls-Holds, rolls-Equal, rolls-Not, rolls-And, rolls-Or, rolls-Imply, rolls-Forall, rolls-Exists}
use Rattle.gd_reader.specs.declared.term.RawAtom.{RawAtom}
use Rattle.gd_reader.specs.declared.typed_lists.ListKind.TheVariants.{Parameters}
use Rattle.gd_reader.specs.declared.typed_lists.RawParam.{RawParam}
use Rattle.gd_reader.specs.declared.words.Head.{Head}
use Rattle.gd_reader.specs.declared.words.Head.TheVariants as head
use Rattle.gd_reader.specs.Answers.{◌>>=◌, list_due, end_due}
use Rattle.gd_reader.specs.Formulas.{inside, formulas, one, two, bound, headed, formula_read}
use Rattle.gd_reader.specs.Terms.{Names, two_terms, atom}
use Rattle.gd_reader.specs.TypedLists.{listed}
use Rattle.gd_reader.specs.Words.{head_of}
use Rattle.gd_reader.proofs.Keeping.{keeps_same}
use Rattle.text_values.specs.form_spellings.Arguments.{ordered_step, IsFormulaInOrder}
use Rattle.text_values.specs.form_spellings.EachList.{listed_step, OfEachList}
use Rattle.text_values.specs.form_spellings.InOrder.{AreParameters}
use Rattle.text_values.specs.form_spellings.Rising.{IsAtomInOrder}
use Rattle.text_values.proofs.form_spellings.FormulasIn.{inside_word}
use Rattle.text_values.proofs.form_spellings.KeptWords.{Reads, reads_then, reads_map, reads_end}
use Rattle.text_values.proofs.form_spellings.TermsIn.{same}
use Rattle.text_values.proofs.form_spellings.order.Climbs.{climbs_rise}
use Rattle.text_values.proofs.form_spellings.order.Lists.{ListInOrder, parameters_are, listed_in_order}
use Rattle.text_values.proofs.form_spellings.order.Spans.{Rising, behind_word, inside_list, behind_list}
use Rattle.text_values.proofs.form_spellings.order.Terms.{AtomClimbs, PairClimbs, term_place, atom_climbs, two_climb}

natural : (table : Names) (X : Type 0) (u : X → RawFormula) (k : RawFormula → Type 0) (x : RawFormula-F X) → listed_step (AreParameters table) (λ p. k (u p)) x ≡ listed_step (AreParameters table) k (map-RawFormula X RawFormula u x)
natural table X u k (RawFormula-F.Holds a) = refl
natural table X u k (RawFormula-F.Equal s t) = refl
natural table X u k (RawFormula-F.Not f) = refl
natural table X u k (RawFormula-F.And fs) = each_is-map u k fs
natural table X u k (RawFormula-F.Or fs) = each_is-map u k fs
natural table X u k (RawFormula-F.Imply f g) = refl
natural table X u k (RawFormula-F.Forall xs f) = refl
natural table X u k (RawFormula-F.Exists xs f) = refl

natural_order : (X : Type 0) (u : X → RawFormula) (k : RawFormula → Type 0) (x : RawFormula-F X) → ordered_step (λ p. k (u p)) x ≡ ordered_step k (map-RawFormula X RawFormula u x)
natural_order X u k (RawFormula-F.Holds a) = refl
natural_order X u k (RawFormula-F.Equal s t) = refl
natural_order X u k (RawFormula-F.Not f) = refl
natural_order X u k (RawFormula-F.And fs) = each_is-map u k fs
natural_order X u k (RawFormula-F.Or fs) = each_is-map u k fs
natural_order X u k (RawFormula-F.Imply f g) = refl
natural_order X u k (RawFormula-F.Forall xs f) = refl
natural_order X u k (RawFormula-F.Exists xs f) = refl

-- its lists of variables, and the terms of its atoms
pub record FormulaInOrder (f : RawFormula) (table : Names) : Type 0 where
  pub lists : OfEachList (AreParameters table) f
  pub terms : IsFormulaInOrder f

-- one level
in_roll : (table : Names) (x : RawFormula-F RawFormula) (f : RawFormula) → roll-RawFormula x ≡ f → listed_step (AreParameters table) (OfEachList (AreParameters table)) x → ordered_step IsFormulaInOrder x → FormulaInOrder f table
in_roll table x f e h g = record {
  lists = subst (OfEachList (AreParameters table)) e (subst (λ (z : Type 0). z) (sym (rec-roll-RawFormula (Type 0) (λ X u k layer. listed_step (AreParameters table) k layer) (natural table) x)) h);
  terms = subst IsFormulaInOrder e (subst (λ (z : Type 0). z) (sym (rec-roll-RawFormula (Type 0) (λ X u k layer. ordered_step k layer) natural_order x)) g);
}

abbrev FormulasInOrder : List RawFormula → Names → Type 0
FormulasInOrder fs table = EachIs (OfEachList (AreParameters table)) fs × EachIs IsFormulaInOrder fs

abbrev BothInOrder : RawFormula × RawFormula → Names → Type 0
BothInOrder x table = FormulaInOrder x.0 table × FormulaInOrder x.1 table

abbrev BoundInOrder : List RawParam × RawFormula → Names → Type 0
BoundInOrder x table = AreParameters table x.0 × FormulaInOrder x.1 table

pub true_in_order : (table : Names) → FormulaInOrder (raw.And []) table
true_in_order table = in_roll table (RawFormula-F.And []) (raw.And []) (rolls-And []) tt tt

-- an atom, somewhere
abbrev pub AtomInOrder : RawAtom → Names → Type 0
AtomInOrder a table = IsAtomInOrder a

pub atom_rises : (from to : ℕ) (a : RawAtom) (table : Names) → AtomClimbs from to a table → AtomInOrder a table
atom_rises from to a table c = climbs_rise term_place (a.head ∷ a.args) from to c

-- behind the word at the front
headed_in : (h : Head) (names : Names) (at : ℕ) (w : Word) (p : Placed) → Rising (word at w p) → Reads names (formulas names p) FormulasInOrder → Reads names (one names p) FormulaInOrder → Reads names (two names p) BothInOrder → Reads names (bound names p) BoundInOrder → Reads names (headed h names at w p) FormulaInOrder
unfolding headed
headed_in head.And names at w p s many a b c = reads_map FormulasInOrder FormulaInOrder names (formulas names p) raw.And many (λ fs table is. in_roll table (RawFormula-F.And fs) (raw.And fs) (rolls-And fs) is.0 is.1)
headed_in head.Or names at w p s many a b c = reads_map FormulasInOrder FormulaInOrder names (formulas names p) raw.Or many (λ fs table is. in_roll table (RawFormula-F.Or fs) (raw.Or fs) (rolls-Or fs) is.0 is.1)
headed_in head.Not names at w p s many a b c = reads_map FormulaInOrder FormulaInOrder names (one names p) raw.Not a (λ f table is. in_roll table (RawFormula-F.Not f) (raw.Not f) (rolls-Not f) is.lists is.terms)
headed_in head.Imply names at w p s many a b c = reads_map BothInOrder FormulaInOrder names (two names p) (λ x. raw.Imply x.0 x.1) b (λ x table is. in_roll table (RawFormula-F.Imply x.0 x.1) (raw.Imply x.0 x.1) (rolls-Imply x.0 x.1) (is.0.lists, is.1.lists) (is.0.terms, is.1.terms))
headed_in head.Forall names at w p s many a b c = reads_map BoundInOrder FormulaInOrder names (bound names p) (λ x. raw.Forall x.0 x.1) c (λ x table is. in_roll table (RawFormula-F.Forall x.0 x.1) (raw.Forall x.0 x.1) (rolls-Forall x.0 x.1) (is.0, is.1.lists) is.1.terms)
headed_in head.Exists names at w p s many a b c = reads_map BoundInOrder FormulaInOrder names (bound names p) (λ x. raw.Exists x.0 x.1) c (λ x table is. in_roll table (RawFormula-F.Exists x.0 x.1) (raw.Exists x.0 x.1) (rolls-Exists x.0 x.1) (is.0, is.1.lists) is.1.terms)
headed_in head.Equal names at w p s many a b c = reads_map (PairClimbs (suc at) s.1) FormulaInOrder names (two_terms names p) (λ x. raw.Equal x.0 x.1) (two_climb p names (suc at) s.1 s.2.1) (λ x table is. in_roll table (RawFormula-F.Equal x.0 x.1) (raw.Equal x.0 x.1) (rolls-Equal x.0 x.1) tt (climbs_rise term_place (x.0 ∷ x.1 ∷ []) (suc at) s.1 is))
headed_in head.Plain names at w p s many a b c = reads_map (AtomClimbs s.0 s.1) FormulaInOrder names (atom names at w p) raw.Holds (atom_climbs p names at w s.0 s.1 s.2.0 s.2.1) (λ x table is. in_roll table (RawFormula-F.Holds x) (raw.Holds x) (rolls-Holds x) tt (atom_rises s.0 s.1 x table is))
headed_in head.Wrong names at w p s many a b c = tt

mutual
  unfolding inside formulas one two bound

  pub inside_in_order : (p : Placed) (names : Names) → Rising p → Reads names (inside names p) FormulaInOrder
  inside_in_order cut names s = tt
  inside_in_order (close at) names s = (keeps_same names, λ table k. true_in_order table)
  inside_in_order (list at p q) names s = tt
  inside_in_order (word at w p) names s =
      let t = behind_word at w p s in
      subst (λ r. Reads names r FormulaInOrder) (sym (inside_word names at w p)) (headed_in (head_of w) names at w p s (formulas_in p names t) (one_in p names t) (two_formulas_in p names t) (bound_in p names t))

  formulas_in : (p : Placed) (names : Names) → Rising p → Reads names (formulas names p) FormulasInOrder
  formulas_in cut names s = tt
  formulas_in (close at) names s = (keeps_same names, λ table k. (tt, tt))
  formulas_in (word at w p) names s = tt
  formulas_in (list at p q) names s =
      reads_then same FormulaInOrder FormulasInOrder names (inside names p) (λ f. formulas f.1 q >>= (λ fs. Ok (f.0 ∷ fs.0, fs.1))) (inside_in_order p names (inside_list at p q s))
      (λ f. reads_map FormulasInOrder (λ fs table. FormulaInOrder f.0 table → FormulasInOrder fs table) f.1 (formulas f.1 q) (λ fs. f.0 ∷ fs) (formulas_in q f.1 (behind_list at p q s)) (λ fs table is one. ((one.lists, is.0), (one.terms, is.1))))

  one_in : (p : Placed) (names : Names) → Rising p → Reads names (one names p) FormulaInOrder
  one_in cut names s = tt
  one_in (close at) names s = tt
  one_in (word at w p) names s = tt
  one_in (list at p q) names s =
      reads_then same FormulaInOrder FormulaInOrder names (inside names p) (λ f. end_due q >>= (λ _. Ok f)) (inside_in_order p names (inside_list at p q s)) (λ f. reads_end (λ g table. FormulaInOrder f.0 table → FormulaInOrder g table) q f (λ _ table is. is))

  two_formulas_in : (p : Placed) (names : Names) → Rising p → Reads names (two names p) BothInOrder
  two_formulas_in cut names s = tt
  two_formulas_in (close at) names s = tt
  two_formulas_in (word at w p) names s = tt
  two_formulas_in (list at p q) names s =
      reads_then same FormulaInOrder BothInOrder names (inside names p) (λ f. one f.1 q >>= (λ g. Ok ((f.0, g.0), g.1))) (inside_in_order p names (inside_list at p q s))
      (λ f. reads_map FormulaInOrder (λ x table. FormulaInOrder f.0 table → BothInOrder x table) f.1 (one f.1 q) (λ g. (f.0, g)) (one_in q f.1 (behind_list at p q s)) (λ g table is one. (one, is)))

  bound_in : (p : Placed) (names : Names) → Rising p → Reads names (bound names p) BoundInOrder
  bound_in cut names s = tt
  bound_in (close at) names s = tt
  bound_in (word at w p) names s = tt
  bound_in (list at p q) names s =
      reads_then same (ListInOrder Parameters) BoundInOrder names (listed Parameters names p) (λ vs. one vs.1 q >>= (λ f. Ok ((vs.0, f.0), f.1))) (listed_in_order p Parameters names (inside_list at p q s))
      (λ vs. reads_map FormulaInOrder (λ x table. ListInOrder Parameters vs.0 table → BoundInOrder x table) vs.1 (one vs.1 q) (λ f. (vs.0, f)) (one_in q vs.1 (behind_list at p q s)) (λ f table is one. (parameters_are table vs.0 one, is)))

pub formula_in_order : (p : Placed) (names : Names) → Rising p → Reads names (formula_read names p) FormulaInOrder
unfolding formula_read list_due
formula_in_order cut names s = tt
formula_in_order (close at) names s = tt
formula_in_order (word at w p) names s = tt
formula_in_order (list at p q) names s = inside_in_order p names (inside_list at p q s)
