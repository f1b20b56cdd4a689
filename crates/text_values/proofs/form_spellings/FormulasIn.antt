-- What holds of the names of formulas.
use Rattle.std.proofs.Common.{◌≡◌, ℕ, Bool, true, Ok, List, [], ◌∷◌, refl, sym, subst, ◌∙◌}
use Rattle.htn_base.specs.declared.name.Name.{Name as Numbered}
use Rattle.text_forms.specs.Placed.{Placed, cut, close, word, list}
use Rattle.text_forms.specs.Words.{Word}
use Rattle.plan_texts.specs.Types.{EachIs}
use Rattle.plan_texts.proofs.Spelled.{each_is-map}
use Rattle.gd_reader.specs.declared.formulas.RawFormula.{RawFormula, roll-RawFormula}
use Rattle.gd_reader.specs.declared.formulas.RawFormula.TheFolds.{rec-roll-RawFormula, map-RawFormula}
use Rattle.gd_reader.specs.declared.formulas.RawFormula.TheOpen.{RawFormula-F}
use Rattle.gd_reader.specs.declared.formulas.RawFormula.TheVariants as raw
use Rattle.gd_reader.specs.declared.formulas.RawFormula.TheVariants.{rolls-Holds, rolls-Equal, rolls-Not, rolls-And, rolls-Or, rolls-Imply, rolls-Forall, rolls-Exists}
use Rattle.gd_reader.specs.declared.typed_lists.ListKind.TheVariants.{Parameters}
use Rattle.gd_reader.specs.declared.typed_lists.RawParam.{RawParam}
use Rattle.gd_reader.specs.declared.words.Head.{Head}
use Rattle.gd_reader.specs.declared.words.Head.TheVariants as head
use Rattle.gd_reader.specs.Answers.{◌>>=◌, word_or_end, list_due, end_due}
use Rattle.gd_reader.specs.Formulas.{inside, formulas, one, two, bound, headed, formula_read}
use Rattle.gd_reader.specs.Terms.{Names, two_terms, atom}
use Rattle.gd_reader.specs.TypedLists.{listed}
use Rattle.gd_reader.specs.Words.{head_of}
use Rattle.gd_reader.proofs.Keeping.{keeps_same}
use Rattle.gd_reader.proofs.Steps.{inside_is}
use Rattle.text_values.specs.form_spellings.EachName.{of_step, OfFormula}
use Rattle.text_values.proofs.form_spellings.Facts.{Facts, AllSeen}
use Rattle.text_values.proofs.form_spellings.KeptWords.{Reads, reads_then, reads_map, reads_end}
use Rattle.text_values.proofs.form_spellings.TermsIn.{AtomIn, PairIn, same, atom_in, two_in}
use Rattle.text_values.proofs.form_spellings.ListsIn.{ParamsIn, listed_in}

natural : (Is : Bool → ℕ → Numbered → Type 0) (X : Type 0) (u : X → RawFormula) (k : RawFormula → Type 0) (x : RawFormula-F X) → of_step Is (λ p. k (u p)) x ≡ of_step Is k (map-RawFormula X RawFormula u x)
natural Is X u k (RawFormula-F.Holds a) = refl
natural Is X u k (RawFormula-F.Equal s t) = refl
natural Is X u k (RawFormula-F.Not f) = refl
natural Is X u k (RawFormula-F.And fs) = each_is-map u k fs
natural Is X u k (RawFormula-F.Or fs) = each_is-map u k fs
natural Is X u k (RawFormula-F.Imply f g) = refl
natural Is X u k (RawFormula-F.Forall xs f) = refl
natural Is X u k (RawFormula-F.Exists xs f) = refl

-- one level
in_roll : (Is : Bool → ℕ → Numbered → Type 0) (x : RawFormula-F RawFormula) (f : RawFormula) → roll-RawFormula x ≡ f → of_step Is (OfFormula Is) x → OfFormula Is f
in_roll Is x f e h = subst (OfFormula Is) e (subst (λ (z : Type 0). z) (sym (rec-roll-RawFormula (Type 0) (λ X u k layer. of_step Is k layer) (natural Is) x)) h)

pub inside_word : (names : Names) (at : ℕ) (w : Word) (p : Placed) → inside names (word at w p) ≡ headed (head_of w) names at w p
inside_word names at w p = inside_is names (word at w p) ∙ (unfold word_or_end in refl)

module _ (F : Facts) where
  abbrev pub FormulaIn : RawFormula → Names → Type 0
  FormulaIn f table = OfFormula (F.Is table) f

  abbrev FormulasIn : List RawFormula → Names → Type 0
  FormulasIn fs table = EachIs (OfFormula (F.Is table)) fs

  abbrev BothIn : RawFormula × RawFormula → Names → Type 0
  BothIn x table = OfFormula (F.Is table) x.0 × OfFormula (F.Is table) x.1

  abbrev BoundIn : List RawParam × RawFormula → Names → Type 0
  BoundIn x table = ParamsIn F true x.0 table × OfFormula (F.Is table) x.1

  pub true_in : (table : Names) → OfFormula (F.Is table) (raw.And [])
  true_in table = in_roll (F.Is table) (RawFormula-F.And []) (raw.And []) (rolls-And []) tt

  -- behind the word at the front
  headed_in : (h : Head) (names : Names) (at : ℕ) (w : Word) (p : Placed) → F.Seen at w → AllSeen F p → Reads names (formulas names p) FormulasIn → Reads names (one names p) FormulaIn → Reads names (two names p) BothIn → Reads names (bound names p) BoundIn → Reads names (headed h names at w p) FormulaIn
  unfolding headed
  headed_in head.And names at w p seen s many a b c = reads_map FormulasIn FormulaIn names (formulas names p) raw.And many (λ fs table is. in_roll (F.Is table) (RawFormula-F.And fs) (raw.And fs) (rolls-And fs) is)
  headed_in head.Or names at w p seen s many a b c = reads_map FormulasIn FormulaIn names (formulas names p) raw.Or many (λ fs table is. in_roll (F.Is table) (RawFormula-F.Or fs) (raw.Or fs) (rolls-Or fs) is)
  headed_in head.Not names at w p seen s many a b c = reads_map FormulaIn FormulaIn names (one names p) raw.Not a (λ f table is. in_roll (F.Is table) (RawFormula-F.Not f) (raw.Not f) (rolls-Not f) is)
  headed_in head.Imply names at w p seen s many a b c = reads_map BothIn FormulaIn names (two names p) (λ x. raw.Imply x.0 x.1) b (λ x table is. in_roll (F.Is table) (RawFormula-F.Imply x.0 x.1) (raw.Imply x.0 x.1) (rolls-Imply x.0 x.1) is)
  headed_in head.Forall names at w p seen s many a b c = reads_map BoundIn FormulaIn names (bound names p) (λ x. raw.Forall x.0 x.1) c (λ x table is. in_roll (F.Is table) (RawFormula-F.Forall x.0 x.1) (raw.Forall x.0 x.1) (rolls-Forall x.0 x.1) is)
  headed_in head.Exists names at w p seen s many a b c = reads_map BoundIn FormulaIn names (bound names p) (λ x. raw.Exists x.0 x.1) c (λ x table is. in_roll (F.Is table) (RawFormula-F.Exists x.0 x.1) (raw.Exists x.0 x.1) (rolls-Exists x.0 x.1) is)
  headed_in head.Equal names at w p seen s many a b c = reads_map (PairIn F) FormulaIn names (two_terms names p) (λ x. raw.Equal x.0 x.1) (two_in F p names s) (λ x table is. in_roll (F.Is table) (RawFormula-F.Equal x.0 x.1) (raw.Equal x.0 x.1) (rolls-Equal x.0 x.1) is)
  headed_in head.Plain names at w p seen s many a b c = reads_map (AtomIn F) FormulaIn names (atom names at w p) raw.Holds (atom_in F p names at w seen s) (λ x table is. in_roll (F.Is table) (RawFormula-F.Holds x) (raw.Holds x) (rolls-Holds x) is)
  headed_in head.Wrong names at w p seen s many a b c = tt

  mutual
    unfolding inside formulas one two bound

    pub inside_in : (p : Placed) (names : Names) → AllSeen F p → Reads names (inside names p) FormulaIn
    inside_in cut names s = tt
    inside_in (close at) names s = (keeps_same names, λ table k. true_in table)
    inside_in (list at p q) names s = tt
    inside_in (word at w p) names s =
        subst (λ r. Reads names r FormulaIn) (sym (inside_word names at w p)) (headed_in (head_of w) names at w p s.0 s.1 (formulas_in p names s.1) (one_in p names s.1) (two_formulas_in p names s.1) (bound_in p names s.1))

    formulas_in : (p : Placed) (names : Names) → AllSeen F p → Reads names (formulas names p) FormulasIn
    formulas_in cut names s = tt
    formulas_in (close at) names s = (keeps_same names, λ table k. tt)
    formulas_in (word at w p) names s = tt
    formulas_in (list at p q) names s =
        reads_then same FormulaIn FormulasIn names (inside names p) (λ f. formulas f.1 q >>= (λ fs. Ok (f.0 ∷ fs.0, fs.1))) (inside_in p names s.1)
        (λ f. reads_map FormulasIn (λ fs table. FormulaIn f.0 table → FormulasIn fs table) f.1 (formulas f.1 q) (λ fs. f.0 ∷ fs) (formulas_in q f.1 s.2) (λ fs table is one. (one, is)))

    one_in : (p : Placed) (names : Names) → AllSeen F p → Reads names (one names p) FormulaIn
    one_in cut names s = tt
    one_in (close at) names s = tt
    one_in (word at w p) names s = tt
    one_in (list at p q) names s =
        reads_then same FormulaIn FormulaIn names (inside names p) (λ f. end_due q >>= (λ _. Ok f)) (inside_in p names s.1) (λ f. reads_end (λ g table. FormulaIn f.0 table → FormulaIn g table) q f (λ _ table is. is))

    two_formulas_in : (p : Placed) (names : Names) → AllSeen F p → Reads names (two names p) BothIn
    two_formulas_in cut names s = tt
    two_formulas_in (close at) names s = tt
    two_formulas_in (word at w p) names s = tt
    two_formulas_in (list at p q) names s =
        reads_then same FormulaIn BothIn names (inside names p) (λ f. one f.1 q >>= (λ g. Ok ((f.0, g.0), g.1))) (inside_in p names s.1)
        (λ f. reads_map FormulaIn (λ x table. FormulaIn f.0 table → BothIn x table) f.1 (one f.1 q) (λ g. (f.0, g)) (one_in q f.1 s.2) (λ g table is one. (one, is)))

    bound_in : (p : Placed) (names : Names) → AllSeen F p → Reads names (bound names p) BoundIn
    bound_in cut names s = tt
    bound_in (close at) names s = tt
    bound_in (word at w p) names s = tt
    bound_in (list at p q) names s =
        reads_then same (ParamsIn F true) BoundIn names (listed Parameters names p) (λ vs. one vs.1 q >>= (λ f. Ok ((vs.0, f.0), f.1))) (listed_in F p Parameters names s.1)
        (λ vs. reads_map FormulaIn (λ x table. ParamsIn F true vs.0 table → BoundIn x table) vs.1 (one vs.1 q) (λ f. (vs.0, f)) (one_in q vs.1 s.2) (λ f table is one. (one, is)))

  pub formula_in : (p : Placed) (names : Names) → AllSeen F p → Reads names (formula_read names p) FormulaIn
  unfolding formula_read list_due
  formula_in cut names s = tt
  formula_in (close at) names s = tt
  formula_in (word at w p) names s = tt
  formula_in (list at p q) names s = inside_in p names s.1
