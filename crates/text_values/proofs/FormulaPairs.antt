-- Formulas are read alike.
use Rattle.std.proofs.Common.{◌≡◌, ℕ, Ok, List, [], ◌∷◌, refl, sym, subst, ◌∙◌}
use Rattle.text_forms.specs.Placed.{Placed, cut, close, word, list}
use Rattle.text_forms.specs.Words.{Word}
use Rattle.gd_reader.specs.declared.formulas.RawFormula.{RawFormula}
use Rattle.gd_reader.specs.declared.formulas.RawFormula.TheVariants as raw
use Rattle.gd_reader.specs.declared.typed_lists.ListKind.TheVariants.{Parameters}
use Rattle.gd_reader.specs.declared.typed_lists.RawParam.{RawParam}
use Rattle.gd_reader.specs.declared.words.Head.{Head}
use Rattle.gd_reader.specs.declared.words.Head.TheVariants as head
use Rattle.gd_reader.specs.Answers.{◌>>=◌, word_or_end, end_due}
use Rattle.gd_reader.specs.Formulas.{inside, formulas, one, two, bound, headed}
use Rattle.gd_reader.specs.Terms.{Names, two_terms, atom}
use Rattle.gd_reader.specs.TypedLists.{listed}
use Rattle.gd_reader.specs.Words.{head_of}
use Rattle.gd_reader.proofs.Steps.{inside_is}
use Rattle.text_values.proofs.Alike.{AlikeFormula, AlikeFormulas, AlikeParams, holds, equal, no, all, any, imply, every, some, none, more}
use Rattle.text_values.proofs.Pairs.{Tie, Tied, after, built, here}
use Rattle.text_values.proofs.TermPairs.{AtomTie, TwoTie, ended, atom_tied, two_tied}
use Rattle.text_values.proofs.ListPairs.{ParamsTie, listed_tied}

inside_word : (names : Names) (at : ℕ) (w : Word) (p : Placed) → inside names (word at w p) ≡ headed (head_of w) names at w p
inside_word names at w p = inside_is names (word at w p) ∙ (unfold word_or_end in refl)

abbrev pub FormulaTie : Tie RawFormula
FormulaTie f g t u = AlikeFormula t u f g

abbrev FormulasTie : Tie (List RawFormula)
FormulasTie fs gs t u = AlikeFormulas t u fs gs

abbrev PairTie : Tie (RawFormula × RawFormula)
PairTie x y t u = AlikeFormula t u x.0 y.0 × AlikeFormula t u x.1 y.1

abbrev BoundTie : Tie (List RawParam × RawFormula)
BoundTie x y t u = AlikeParams t u x.0 y.0 × AlikeFormula t u x.1 y.1

headed_tied : (h : Head) (n m : Names) (at : ℕ) (w : Word) (p : Placed) → Tied n m (formulas n p) (formulas m p) FormulasTie → Tied n m (one n p) (one m p) FormulaTie → Tied n m (two n p) (two m p) PairTie
    → Tied n m (bound n p) (bound m p) BoundTie → Tied n m (headed h n at w p) (headed h m at w p) FormulaTie
unfolding headed
headed_tied head.And n m at w p many a b c = built FormulasTie FormulaTie n m (formulas n p) (formulas m p) raw.And raw.And many (λ fs gs t u is. all fs gs is)
headed_tied head.Or n m at w p many a b c = built FormulasTie FormulaTie n m (formulas n p) (formulas m p) raw.Or raw.Or many (λ fs gs t u is. any fs gs is)
headed_tied head.Not n m at w p many a b c = built FormulaTie FormulaTie n m (one n p) (one m p) raw.Not raw.Not a (λ f g t u is. no f g is)
headed_tied head.Imply n m at w p many a b c = built PairTie FormulaTie n m (two n p) (two m p) (λ x. raw.Imply x.0 x.1) (λ x. raw.Imply x.0 x.1) b (λ x y t u is. imply x.0 x.1 y.0 y.1 is.0 is.1)
headed_tied head.Forall n m at w p many a b c = built BoundTie FormulaTie n m (bound n p) (bound m p) (λ x. raw.Forall x.0 x.1) (λ x. raw.Forall x.0 x.1) c (λ x y t u is. every x.0 y.0 x.1 y.1 is.0 is.1)
headed_tied head.Exists n m at w p many a b c = built BoundTie FormulaTie n m (bound n p) (bound m p) (λ x. raw.Exists x.0 x.1) (λ x. raw.Exists x.0 x.1) c (λ x y t u is. some x.0 y.0 x.1 y.1 is.0 is.1)
headed_tied head.Equal n m at w p many a b c = built TwoTie FormulaTie n m (two_terms n p) (two_terms m p) (λ x. raw.Equal x.0 x.1) (λ x. raw.Equal x.0 x.1) (two_tied p n m) (λ x y t u is. equal x.0 x.1 y.0 y.1 is.0 is.1)
headed_tied head.Plain n m at w p many a b c = built AtomTie FormulaTie n m (atom n at w p) (atom m at w p) raw.Holds raw.Holds (atom_tied p n m at w) (λ x y t u is. holds x y is)
headed_tied head.Wrong n m at w p many a b c = tt

mutual
  unfolding inside formulas one two bound

  pub inside_tied : (p : Placed) (n m : Names) → Tied n m (inside n p) (inside m p) FormulaTie
  inside_tied cut n m = tt
  inside_tied (close at) n m = here FormulaTie n m (raw.And []) (raw.And []) (λ t u. all [] [] none)
  inside_tied (list at p q) n m = tt
  inside_tied (word at w p) n m =
      subst (λ (z : Type 0). z) (λ i. Tied n m (sym (inside_word n at w p) i) (sym (inside_word m at w p) i) FormulaTie)
      (headed_tied (head_of w) n m at w p (formulas_tied p n m) (one_tied p n m) (pair_tied p n m) (bound_tied p n m))

  formulas_tied : (p : Placed) (n m : Names) → Tied n m (formulas n p) (formulas m p) FormulasTie
  formulas_tied cut n m = tt
  formulas_tied (close at) n m = here FormulasTie n m [] [] (λ t u. none)
  formulas_tied (word at w p) n m = tt
  formulas_tied (list at p q) n m =
      after FormulaTie FormulasTie n m (inside n p) (inside m p) (λ f. formulas f.1 q >>= (λ fs. Ok (f.0 ∷ fs.0, fs.1))) (λ f. formulas f.1 q >>= (λ fs. Ok (f.0 ∷ fs.0, fs.1))) (inside_tied p n m)
      (λ f g. built FormulasTie (λ fs gs t u. FormulaTie f.0 g.0 t u → FormulasTie fs gs t u) f.1 g.1 (formulas f.1 q) (formulas g.1 q) (λ fs. f.0 ∷ fs) (λ gs. g.0 ∷ gs) (formulas_tied q f.1 g.1) (λ fs gs t u is one. more f.0 g.0 fs gs one is))

  one_tied : (p : Placed) (n m : Names) → Tied n m (one n p) (one m p) FormulaTie
  one_tied cut n m = tt
  one_tied (close at) n m = tt
  one_tied (word at w p) n m = tt
  one_tied (list at p q) n m =
      after FormulaTie FormulaTie n m (inside n p) (inside m p) (λ f. end_due q >>= (λ _. Ok f)) (λ f. end_due q >>= (λ _. Ok f)) (inside_tied p n m)
      (λ f g. ended (λ h k t u. FormulaTie f.0 g.0 t u → FormulaTie h k t u) q f g (λ t u is. is))

  pair_tied : (p : Placed) (n m : Names) → Tied n m (two n p) (two m p) PairTie
  pair_tied cut n m = tt
  pair_tied (close at) n m = tt
  pair_tied (word at w p) n m = tt
  pair_tied (list at p q) n m =
      after FormulaTie PairTie n m (inside n p) (inside m p) (λ f. one f.1 q >>= (λ g. Ok ((f.0, g.0), g.1))) (λ f. one f.1 q >>= (λ g. Ok ((f.0, g.0), g.1))) (inside_tied p n m)
      (λ f g. built FormulaTie (λ x y t u. FormulaTie f.0 g.0 t u → PairTie x y t u) f.1 g.1 (one f.1 q) (one g.1 q) (λ h. (f.0, h)) (λ h. (g.0, h)) (one_tied q f.1 g.1) (λ h k t u is one. (one, is)))

  bound_tied : (p : Placed) (n m : Names) → Tied n m (bound n p) (bound m p) BoundTie
  bound_tied cut n m = tt
  bound_tied (close at) n m = tt
  bound_tied (word at w p) n m = tt
  bound_tied (list at p q) n m =
      after ParamsTie BoundTie n m (listed Parameters n p) (listed Parameters m p) (λ vs. one vs.1 q >>= (λ f. Ok ((vs.0, f.0), f.1))) (λ vs. one vs.1 q >>= (λ f. Ok ((vs.0, f.0), f.1))) (listed_tied p Parameters n m)
      (λ v w. built FormulaTie (λ x y t u. ParamsTie v.0 w.0 t u → BoundTie x y t u) v.1 w.1 (one v.1 q) (one w.1 q) (λ f. (v.0, f)) (λ f. (w.0, f)) (one_tied q v.1 w.1) (λ f g t u is one. (one, is)))
