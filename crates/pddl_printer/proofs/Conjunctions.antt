-- A conjunction with the quantifiers over a range written out, if there is one: what stands in place of its parts.
use Rattle.std.proofs.Common.{ℕ, zero, suc, ◌≡◌, ◌==◌, List, [], ◌∷◌, ◌++◌, Option, None, Some, Bool, true, false, cond, map, codes, refl, ap, sym, ◌∙◌, append_assoc}
use Rattle.text_forms.specs.Words.{Word}
use Rattle.text_forms.specs.Printing.{headed}
use Rattle.plan_texts.specs.Declared.{Declared}
use Rattle.plan_texts.specs.Printed.{all_parts, formula_part}
use Rattle.plan_texts.proofs.Equations.{part-And}
use Rattle.plan_model.specs.declared.formulas.Formula.{Formula, out-Formula}
use Rattle.plan_model.specs.task_networks.Spelling.{numbers}
use Rattle.plan_model.specs.declared.formulas.Formula.TheVariants.{Equal, And, Or}
use Rattle.plan_model.specs.declared.terms.Term.TheVariants.{Var}
use Rattle.pddl_printer.specs.declared.object_range.Range.{Range}
use Rattle.pddl_printer.specs.declared.lowest.Lowest.{Lowest}
use Rattle.pddl_printer.specs.LowestFree.{below, belows, taken, lowest_body, is_lowest, lowest_of}
use Rattle.pddl_printer.specs.WrittenOut.{joined, condition_parts, quantified, literal, negated_literal}
use Rattle.pddl_printer.specs.InForm.{condition_in, parts_in}
use Rattle.pddl_printer.specs.Literals.{conditions_behind}
use Rattle.pddl_printer.specs.Splits.{unequal, all_differ}
use Rattle.pddl_printer.proofs.Ranges.{behind-append}
use Rattle.pddl_printer.proofs.written_out.Equations.{out-Not, out-And, out-Imply, out-Forall, condition-And}

conjunction-in : (range : Option Range) (depth : ℕ) (fs : List Formula) → condition_in range depth (And fs) ≡ And (parts_in range depth fs)
conjunction-in None depth fs = refl
conjunction-in (Some r) depth fs = condition-And r depth fs

pub conjunction-part : (v : Declared) (s : List Word) (range : Option Range) (depth : ℕ) (fs : List Formula) → headed (codes "and") (all_parts (map (λ f. formula_part v f s) (parts_in range depth fs))) ≡ formula_part v (condition_in range depth (And fs)) s
conjunction-part v s range depth fs = sym (ap (λ f. formula_part v f s) (conjunction-in range depth fs) ∙ part-And v (parts_in range depth fs) s)

module _ (r : Range) (depth : ℕ) where
  stays : (a b : ℕ) → condition_parts r depth (unequal a b) ≡ unequal a b ∷ []
  stays a b = ap (quantified r depth (unequal a b)) (out-Not (Equal (Var a) (Var b)))

  row-stays : (a : ℕ) (bs : List ℕ) (fs : List Formula) → joined (map (condition_parts r depth) (map (unequal a) bs ++ fs)) ≡ map (unequal a) bs ++ joined (map (condition_parts r depth) fs)
  row-stays a [] fs = refl
  row-stays a (b ∷ bs) fs = (λ i. stays a b i ++ row-stays a bs fs i)

  differ-stay : (vs : List ℕ) (fs : List Formula) → joined (map (condition_parts r depth) (all_differ vs ++ fs)) ≡ all_differ vs ++ joined (map (condition_parts r depth) fs)
  differ-stay [] fs = refl
  differ-stay (v ∷ vs) fs =
      ap (λ z. joined (map (condition_parts r depth) z)) (append_assoc (map (unequal v) vs) (all_differ vs) fs) ∙ row-stays v vs (all_differ vs ++ fs)
      ∙ ap (λ z. map (unequal v) vs ++ z) (differ-stay vs fs) ∙ sym (append_assoc (map (unequal v) vs) (all_differ vs) (joined (map (condition_parts r depth) fs)))

  same : {X : Type 0} (t : Bool) (x : X) → cond t x x ≡ x
  same true x = refl
  same false x = refl

  -- what is said of the lowest free object is no literal
  lowest-stays : (l : Lowest) (k : ℕ) → condition_parts r depth (is_lowest l k) ≡ is_lowest l k ∷ []
  lowest-stays l k =
      ap (quantified r depth (is_lowest l k)) (out-Forall (l.other ∷ []) (lowest_body l k))
      ∙ ap (λ z. cond (l.other.ty == r.ty) z (is_lowest l k ∷ [])) (by k) ∙ same (l.other.ty == r.ty) (is_lowest l k ∷ [])
    where
      by : (k : ℕ) → literal r depth (is_lowest l k) (out-Formula (lowest_body l k)) ≡ is_lowest l k ∷ []
      by zero = ap (literal r depth (is_lowest l zero)) (out-And [])
      by (suc zero) = ap (literal r depth (is_lowest l 1)) (out-Not (below l 1)) ∙ ap (negated_literal r depth (is_lowest l 1)) (out-And (belows l 1))
      by (suc (suc k)) = ap (literal r depth (is_lowest l (suc (suc k)))) (out-Imply (below l (suc (suc k))) (Or (map (taken l) (numbers 1 (suc k)))))

  lowest-stay : (l : Lowest) (ks : List ℕ) → joined (map (condition_parts r depth) (map (is_lowest l) ks)) ≡ map (is_lowest l) ks
  lowest-stay l [] = refl
  lowest-stay l (k ∷ ks) = (λ i. lowest-stays l k i ++ lowest-stay l ks i)

  joined-behind : (fs gs : List Formula) → joined (map (condition_parts r depth) (fs ++ gs)) ≡ joined (map (condition_parts r depth) fs) ++ joined (map (condition_parts r depth) gs)
  joined-behind [] gs = refl
  joined-behind (f ∷ fs) gs = ap (λ z. condition_parts r depth f ++ z) (joined-behind fs gs) ∙ sym (append_assoc (condition_parts r depth f) (joined (map (condition_parts r depth) fs)) (joined (map (condition_parts r depth) gs)))

lowest-in : (range : Option Range) (depth : ℕ) (after : List Formula) (lowest : Option Lowest) (spare : ℕ) → parts_in range depth (after ++ lowest_of lowest spare) ≡ parts_in range depth after ++ lowest_of lowest spare
lowest-in None depth after lowest spare = refl
lowest-in (Some r) depth after lowest spare = joined-behind r depth after (lowest_of lowest spare) ∙ ap (λ z. joined (map (condition_parts r depth) after) ++ z) (by lowest)
  where
    by : (lowest : Option Lowest) → joined (map (condition_parts r depth) (lowest_of lowest spare)) ≡ lowest_of lowest spare
    by None = refl
    by (Some l) = lowest-stay r depth l (numbers 1 spare)

split-in : (range : Option Range) (depth : ℕ) (before : List Formula) (vs : List ℕ) (after : List Formula) → parts_in range depth (before ++ (all_differ vs ++ after)) ≡ parts_in range depth before ++ (all_differ vs ++ parts_in range depth after)
split-in None depth before vs after = refl
split-in (Some r) depth before vs after = joined-behind r depth before (all_differ vs ++ after) ∙ ap (λ z. joined (map (condition_parts r depth) before) ++ z) (differ-stay r depth vs after)

-- the bytes of the four together
pub split-bytes : (v : Declared) (s : List Word) (range : Option Range) (depth : ℕ) (before : List Formula) (vs : List ℕ) (after : List Formula) (lowest : Option Lowest) (spare : ℕ)
    → conditions_behind v s (parts_in range depth before) ++ (conditions_behind v s (all_differ vs) ++ (conditions_behind v s (parts_in range depth after) ++ conditions_behind v s (lowest_of lowest spare)))
    ≡ conditions_behind v s (parts_in range depth (before ++ (all_differ vs ++ (after ++ lowest_of lowest spare))))
split-bytes v s range depth before vs after lowest spare =
    let g = λ (f : Formula). formula_part v f s in
    let a = parts_in range depth before in
    let y = parts_in range depth after in
    let z = lowest_of lowest spare in
    sym (ap (conditions_behind v s) (split-in range depth before vs (after ++ z) ∙ ap (λ w. a ++ (all_differ vs ++ w)) (lowest-in range depth after lowest spare))
    ∙ behind-append g a (all_differ vs ++ (y ++ z)) ∙ ap (λ w. conditions_behind v s a ++ w) (behind-append g (all_differ vs) (y ++ z) ∙ ap (λ w. conditions_behind v s (all_differ vs) ++ w) (behind-append g y z)))
