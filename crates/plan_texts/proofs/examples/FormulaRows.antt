-- For each line of the grammar of terms and formulas one text that spells and one that is refused.
use Rattle.std.proofs.Common.{ℕ, ◌≡◌, inl, inr, List, [], ◌∷◌, codes, refl, ap, sym, subst, ◌∙◌}
use Rattle.text_forms.specs.Lists.{nothing}
use Rattle.text_forms.specs.Words.{Word, is_name, last_place, first_place}
use Rattle.plan_texts.specs.Formulas.{IsTerm, IsFormula}
use Rattle.plan_model.specs.declared.terms.Term.{Term}
use Rattle.plan_model.specs.declared.terms.Term.TheVariants.{Var, Obj}
use Rattle.plan_model.specs.declared.terms.Param.{Param}
use Rattle.plan_model.specs.declared.formulas.Formula.{Formula}
use Rattle.plan_model.specs.declared.formulas.Formula.TheVariants.{Holds, Equal, Not, And, Or, Imply, Forall, Exists}
use Rattle.plan_texts.proofs.Layers.{formula-Holds, formula-Equal, formula-Not, formula-And, formula-Or, formula-Imply, formula-Forall, formula-Exists}
use Rattle.plan_texts.proofs.examples.RowWords.{said, head_word, word_of, behind_mark, v, x_a, y_union, y_object}

abbrev x : List Word
x = codes "x" ∷ []

-- the innermost variable of a word is meant
pub innermost : IsTerm v (codes "x" ∷ codes "y" ∷ codes "x" ∷ []) (Var 2) (said (codes "?x"))
innermost = (codes "x", refl, refl)

pub hidden : IsTerm v (codes "x" ∷ codes "y" ∷ codes "x" ∷ []) (Var 0) (said (codes "?x")) → ⊥
hidden e = let w : codes "x" ≡ e.0 = ap (λ p. behind_mark (word_of p)) e.1 in let g = ap (λ u. last_place u (codes "x" ∷ codes "y" ∷ codes "x" ∷ [])) w ∙ e.2 in cc

pub not_in_force : (k : ℕ) → IsTerm v x (Var k) (said (codes "?z")) → ⊥
not_in_force k e = let w : codes "z" ≡ e.0 = ap (λ p. behind_mark (word_of p)) e.1 in let g = ap (λ u. last_place u x) w ∙ e.2 in cc

pub object : IsTerm v [] (Obj 1) (said (codes "O"))
object = (codes "o", refl, refl, refl)

pub reserved_term : (k : ℕ) → IsTerm v [] (Obj k) (said (codes "and")) → ⊥
reserved_term k e = let w : codes "and" ≡ e.0 = ap word_of e.1 in let g = ap is_name w ∙ e.2 in cc

-- a predicate with its terms
pub holds : IsFormula v (Holds (record { predicate = 0; args = Var 0 ∷ Obj 0 ∷ [] })) x (said (codes "(p ?x k)"))
holds = subst (λ (T : Type 0). T) (sym (formula-Holds v x _ (record { predicate = 0; args = Var 0 ∷ Obj 0 ∷ [] }))) (codes "p", _, refl, refl, refl, ((codes "x", refl, refl), ((codes "k", refl, refl, refl), tt)))

pub no_predicate : (k : ℕ) (ts : List Term) → IsFormula v (Holds (record { predicate = k; args = ts })) x (said (codes "(r ?x)")) → ⊥
no_predicate k ts e =
    let f = subst (λ (T : Type 0). T) (formula-Holds v x _ (record { predicate = k; args = ts })) e in
    let w : codes "r" ≡ f.0 = ap head_word f.2 in let h = ap (λ u. first_place u v.predicates) w ∙ f.4 in cc

abbrev q : Formula
q = Holds (record { predicate = 1; args = [] })

holds-q : (scope : List Word) → IsFormula v q scope (said (codes "(q)"))
holds-q scope = subst (λ (T : Type 0). T) (sym (formula-Holds v scope _ (record { predicate = 1; args = [] }))) (codes "q", nothing, refl, refl, refl, tt)

abbrev p_at : ℕ → Formula
p_at k = Holds (record { predicate = 0; args = Var k ∷ [] })

-- an equality of two terms
pub equal : IsFormula v (Equal (Var 0) (Obj 0)) x (said (codes "(= ?x k)"))
equal = subst (λ (T : Type 0). T) (sym (formula-Equal v x _ (Var 0) (Obj 0))) (_, _, refl, (codes "x", refl, refl), (codes "k", refl, refl, refl))

pub equal_of_one : (s t : Term) → IsFormula v (Equal s t) x (said (codes "(= ?x)")) → ⊥
equal_of_one s t e = let f = subst (λ (T : Type 0). T) (formula-Equal v x _ s t) e in let g = f.2 in cc

-- the empty conjunction is ( ) or ( and )
pub empty : IsFormula v (And []) [] (said (codes "()"))
empty = subst (λ (T : Type 0). T) (sym (formula-And v [] _ [])) (inr (tt, refl))

pub empty_and : IsFormula v (And []) [] (said (codes "(AND)"))
empty_and = subst (λ (T : Type 0). T) (sym (formula-And v [] _ [])) (inl (nothing, refl, tt))

pub conjunction : IsFormula v (And (q ∷ q ∷ [])) [] (said (codes "(and (q) (q))"))
conjunction = subst (λ (T : Type 0). T) (sym (formula-And v [] _ (q ∷ q ∷ []))) (inl (_, refl, (holds-q [], (holds-q [], tt))))

pub no_conjunction : (fs : List Formula) → IsFormula v (And fs) [] (said (codes "(or (q))")) → ⊥
no_conjunction fs e = elim (subst (λ (T : Type 0). T) (formula-And v [] _ fs) e) [ inl f ↦ let g = f.1 in cc | inr f ↦ let g = f.1 in cc ]

pub disjunction : IsFormula v (Or (q ∷ [])) [] (said (codes "(or (q))"))
disjunction = subst (λ (T : Type 0). T) (sym (formula-Or v [] _ (q ∷ []))) (_, refl, (holds-q [], tt))

pub no_disjunction : (fs : List Formula) → IsFormula v (Or fs) [] (said (codes "()")) → ⊥
no_disjunction fs e = let f = subst (λ (T : Type 0). T) (formula-Or v [] _ fs) e in let g = f.1 in cc

pub negation : IsFormula v (Not q) [] (said (codes "(not (q))"))
negation = subst (λ (T : Type 0). T) (sym (formula-Not v [] _ q)) (_, refl, holds-q [])

pub negation_of_nothing : (f : Formula) → IsFormula v (Not f) [] (said (codes "(not)")) → ⊥
negation_of_nothing f e = let g = subst (λ (T : Type 0). T) (formula-Not v [] _ f) e in let h = g.1 in cc

pub implication : IsFormula v (Imply q (p_at 0)) x (said (codes "(imply (q) (p ?x))"))
implication = subst (λ (T : Type 0). T) (sym (formula-Imply v x _ q (p_at 0))) (_, _, refl, holds-q x, subst (λ (T : Type 0). T) (sym (formula-Holds v x _ _)) (codes "p", _, refl, refl, refl, ((codes "x", refl, refl), tt)))

pub implication_of_one : (f g : Formula) → IsFormula v (Imply f g) x (said (codes "(imply (q))")) → ⊥
implication_of_one f g e = let h = subst (λ (T : Type 0). T) (formula-Imply v x _ f g) e in let i = h.2 in cc

-- a quantifier's variables come behind those in force, and one may be of a union
pub for_all : IsFormula v (Forall (x_a ∷ y_union ∷ []) (p_at 2)) x (said (codes "(forall (?x - a ?y - (either a b a)) (p ?y))"))
for_all = subst (λ (T : Type 0). T) (sym (formula-Forall v x _ (x_a ∷ y_union ∷ []) (p_at 2))) (
  _,
  _,
  refl,
  ((refl, refl, (refl, refl)), ((refl, refl, (refl, refl)), tt)),
  subst (λ (T : Type 0). T) (sym (formula-Holds v (codes "x" ∷ codes "x" ∷ codes "y" ∷ []) _ _)) (codes "p", _, refl, refl, refl, ((codes "y", refl, refl), tt)),
)

pub for_all_of_a_word : (xs : List Param) (f : Formula) → IsFormula v (Forall xs f) [] (said (codes "(forall ?x (q))")) → ⊥
for_all_of_a_word xs f e = let g = subst (λ (T : Type 0). T) (formula-Forall v [] _ xs f) e in let h = g.2 in cc

-- without a type a variable is an object
pub there_is : IsFormula v (Exists (y_object ∷ []) q) [] (said (codes "(exists (?y) (q))"))
there_is = subst (λ (T : Type 0). T) (sym (formula-Exists v [] _ (y_object ∷ []) q)) (_, _, refl, ((refl, refl, (refl, refl)), tt), holds-q (codes "y" ∷ []))

pub there_is_of_two : (xs : List Param) (f : Formula) → IsFormula v (Exists xs f) [] (said (codes "(exists (?y) (q) (q))")) → ⊥
there_is_of_two xs f e = let g = subst (λ (T : Type 0). T) (formula-Exists v [] _ xs f) e in let h = g.2 in cc
