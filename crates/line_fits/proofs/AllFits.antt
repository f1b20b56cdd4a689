-- What is found of the lines of a plan, by their numbers, is so of each plan with these numbers.
use Rattle.std.proofs.Common.{ℕ, zero, suc, ◌≡◌, ◌<◌, List, [], ◌∷◌, ◌++◌, take, length, Some, None, Result, Ok, Err, IfErr, IsErrAnd, slice_get, refl, ap, sym, subst}
use Rattle.plan_texts.specs.Types.{EachIs}
use Rattle.plan_texts.specs.Together.{Together}
use Rattle.plan_texts.specs.SoundlyCompiled.{IsSoundlyCompiled}
use Rattle.plan_model.specs.declared.values.Compiled.{Compiled}
use Rattle.plan_model.specs.plan_meaning.Network.{GroundMethod, top_task}
use Rattle.hplan_text.specs.declared.values.HNode.{HNode}
use Rattle.hplan_text.specs.declared.values.HPlan.{HPlan}
use Rattle.hplan_text.specs.Printable.{IsSoundHPlan, IsPrintableHPlan, IsPrintableNode, task_ids}
use Rattle.placements.specs.Matching.{FitsRoot, FitsNode, IsFitted, IsFirstUnfitted}
use Rattle.numbered_lines.specs.declared.lines.Split.{Split}
use Rattle.numbered_lines.specs.declared.lines.Lines.{Lines}
use Rattle.numbered_lines.specs.Numbered.{IsSplitOf, AreNumbered}
use Rattle.line_fits.specs.declared.fitted.Fits.{Fits}
use Rattle.line_fits.specs.declared.fitted.FitError.{FitError}
use Rattle.line_fits.specs.declared.fitted.FitError.TheVariants.{NoMatch, Memory}
use Rattle.line_fits.specs.declared.fitted.MethodFit.{MethodFit}
use Rattle.line_fits.specs.Fitted.{method_of, AreFitsOf, RefusesFits}
use Rattle.line_fits.specs.ByNumbers.{Splits, AreSplitFits, IsFirstUnfit, RefusesSplits}
use Rattle.line_fits.proofs.SameFits.{root_fits, fits_split, split_fits}

module _ (c : Compiled) (sc : IsSoundlyCompiled c) (plan : HPlan) (s : IsSoundHPlan plan) (lines : Lines)
    (num : AreNumbered c plan lines) where
  abbrev OfLines : HNode → Split → Type 0
  OfLines = IsSplitOf c (task_ids plan)

  abbrev FitNodes : List HNode → List MethodFit → Type 0
  FitNodes = Together (λ node fit. FitsNode c plan node (method_of fit))

  all_fit : (nodes : List HNode) (splits : List Split) (fits : List MethodFit) → Together OfLines nodes splits
      → AreSplitFits lines c splits fits → FitNodes nodes fits
  all_fit [] [] [] t f = tt
  all_fit [] [] (x ∷ fits) t f = absurd f
  all_fit [] (y ∷ splits) fits t f = absurd t
  all_fit (n ∷ nodes) [] fits t f = absurd t
  all_fit (n ∷ nodes) (y ∷ splits) [] t f = absurd f
  all_fit (n ∷ nodes) (y ∷ splits) (x ∷ fits) t f =
      (split_fits c sc plan s lines num n y t.0 (method_of x) f.0, all_fit nodes splits fits t.1 f.1)

  -- a line by its place: those before it are fitted
  record IsCut (nodes : List HNode) (place : ℕ) (split : Split) : Type 0 where
    before : List HNode
    node : HNode
    rest : List HNode
    parts : nodes ≡ before ++ node ∷ rest
    many : length before ≡ place
    fitted : EachIs (IsFitted c plan) before
    is : OfLines node split
    some : 0 < length node.line.name

  cut : (nodes : List HNode) (splits : List Split) (fits : List MethodFit) (place : ℕ) (split : Split) → Together OfLines nodes splits
      → EachIs IsPrintableNode nodes → AreSplitFits lines c (take place splits) fits → slice_get splits place ≡ Some split
      → IsCut nodes place split
  cut nodes [] fits place split t p f e = absurd cc
  cut [] (y ∷ splits) fits place split t p f e = absurd t
  cut (n ∷ nodes) (y ∷ splits) fits zero split t p f e = record {
    before = [];
    node = n;
    rest = nodes;
    parts = refl;
    many = refl;
    fitted = tt;
    is = subst (OfLines n) (let g : y ≡ split = cc in g) t.0;
    some = p.0.line.name.some;
  }
  cut (n ∷ nodes) (y ∷ splits) [] (suc place) split t p f e = absurd f
  cut (n ∷ nodes) (y ∷ splits) (x ∷ fits) (suc place) split t p f e =
      let r = cut nodes splits fits place split t.1 p.1 f.1 e in
      record {
        before = n ∷ r.before;
        node = r.node;
        rest = r.rest;
        parts = ap (λ ns. n ∷ ns) r.parts;
        many = ap suc r.many;
        fitted = ((method_of x, split_fits c sc plan s lines num n y t.0 (method_of x) f.0), r.fitted);
        is = r.is;
        some = r.some;
      }

  first_unfitted : IsPrintableHPlan plan → (place : ℕ) (g : GroundMethod) → FitsRoot c plan g → IsFirstUnfit lines c place
      → (before : List HNode) × (node : HNode) × IsFirstUnfitted c plan before node × (length before ≡ place)
  first_unfitted p place root fits u =
      let r = cut plan.nodes lines.splits u.fits place u.split num.splits_are p.nodes u.before u.here in (
        r.before,
        r.node,
        record {
          root = (root, fits);
          rest = r.rest;
          parts = r.parts;
          fitted = r.fitted;
          unfitted = λ g f. u.unfit g (fits_split c sc plan s lines num r.node u.split r.is g r.some f);
        },
        r.many,
      )

module _ (c : Compiled) (sc : IsSoundlyCompiled c) (lines : Lines) (t : ℕ) (objects children : List ℕ) (top : t ≡ top_task c)
    (none : objects ≡ []) (listed : children ≡ lines.root) where
  -- what is wanted for the root
  abbrev WantsRoot : GroundMethod → Type 0
  WantsRoot = Splits lines c 0 t objects children

  same : (g : GroundMethod) → WantsRoot g ≡ Splits lines c 0 (top_task c) [] lines.root g
  same g = λ i. Splits lines c 0 (top i) (none i) (listed i) g

  pub no_root : ((g : GroundMethod) → WantsRoot g → ⊥) → RefusesFits c lines (NoMatch None)
  no_root n = λ plan s p num g f. n g (subst (λ X. X) (sym (same g)) ((root_fits c sc plan s lines num g).0 f))

  module _ (root : MethodFit) (fits : WantsRoot (method_of root)) where
    root_is : (plan : HPlan) → IsSoundHPlan plan → AreNumbered c plan lines → FitsRoot c plan (method_of root)
    root_is plan s num = (root_fits c sc plan s lines num (method_of root)).1 (subst (λ X. X) (same (method_of root)) fits)

    pub are_fits : (splits : List MethodFit) → AreSplitFits lines c lines.splits splits
        → AreFitsOf c lines (record { root = root; splits = splits })
    are_fits splits f = λ plan s p num. record {
      root = root_is plan s num;
      nodes = all_fit c sc plan s lines num plan.nodes lines.splits splits num.splits_are f;
    }

    refused : (e : FitError) → RefusesSplits lines c e → RefusesFits c lines e
    refused (NoMatch None) u = absurd u
    refused (NoMatch (Some place)) u = λ plan s p num. first_unfitted c sc plan s lines num p place (method_of root) (root_is plan s num) u
    refused Memory u = tt

    pub is_refused : (e : FitError) → RefusesSplits lines c e → (result : Result Fits FitError) → IsErrAnd result (λ f. f ≡ e)
        → IfErr result (RefusesFits c lines)
    is_refused e u (Ok x) same = tt
    is_refused e u (Err f) same = subst (RefusesFits c lines) (sym same) (refused e u)
