-- For each line of the grammar of effects one text that spells and one that is refused.
use Rattle.std.proofs.Common.{ℕ, ◌≡◌, inl, inr, true, false, List, [], ◌∷◌, codes, refl, ap, sym, subst, ◌∙◌}
use Rattle.text_forms.specs.Lists.{nothing}
use Rattle.text_forms.specs.Words.{Word, is_name}
use Rattle.plan_texts.specs.Formulas.{IsEffect}
use Rattle.plan_model.specs.declared.terms.Term.{Term}
use Rattle.plan_model.specs.declared.terms.Term.TheVariants.{Var}
use Rattle.plan_model.specs.declared.terms.Param.{Param}
use Rattle.plan_model.specs.declared.formulas.Formula.{Formula}
use Rattle.plan_model.specs.declared.formulas.Formula.TheVariants.{And}
use Rattle.plan_model.specs.declared.effects.Effect.{Effect}
use Rattle.plan_model.specs.declared.effects.Effect.TheVariants.{Add, Delete, When, And as Both, Forall as Each_one}
use Rattle.plan_texts.proofs.Layers.{effect-Add, effect-Delete, effect-Both, effect-Each_one, effect-When}
use Rattle.plan_texts.proofs.examples.RowWords.{said, head_word, next_part, v, x_a}
use Rattle.plan_texts.proofs.examples.FormulaRows.{empty}

abbrev x : List Word
x = codes "x" ∷ []

adds-q : (scope : List Word) → IsEffect v (Add (record { predicate = 1; args = [] })) scope (said (codes "(q)"))
adds-q scope = subst (λ (T : Type 0). T) (sym (effect-Add v scope _ (record { predicate = 1; args = [] }))) (codes "q", nothing, refl, refl, refl, tt)

abbrev q : Effect
q = Add (record { predicate = 1; args = [] })

pub adds : IsEffect v (Add (record { predicate = 0; args = Var 0 ∷ [] })) x (said (codes "(p ?x)"))
adds = subst (λ (T : Type 0). T) (sym (effect-Add v x _ (record { predicate = 0; args = Var 0 ∷ [] }))) (codes "p", _, refl, refl, refl, ((codes "x", refl, refl), tt))

-- a keyword is no predicate
pub adds_keyword : (k : ℕ) (ts : List Term) → IsEffect v (Add (record { predicate = k; args = ts })) x (said (codes "(or (q))")) → ⊥
adds_keyword k ts e = let f = subst (λ (T : Type 0). T) (effect-Add v x _ (record { predicate = k; args = ts })) e in let w : codes "or" ≡ f.0 = ap head_word f.2 in let h : false ≡ true = ap is_name w ∙ f.3 in cc

pub deletes : IsEffect v (Delete (record { predicate = 1; args = [] })) x (said (codes "(not (q))"))
deletes = subst (λ (T : Type 0). T) (sym (effect-Delete v x _ (record { predicate = 1; args = [] }))) (_, refl, (codes "q", nothing, refl, refl, refl, tt))

-- an increase is dropped alone, not under not
pub deletes_increase : (k : ℕ) (ts : List Term) → IsEffect v (Delete (record { predicate = k; args = ts })) x (said (codes "(not (increase))")) → ⊥
deletes_increase k ts e =
    let f = subst (λ (T : Type 0). T) (effect-Delete v x _ (record { predicate = k; args = ts })) e in
    let w : codes "increase" ≡ f.2.0 = ap head_word (ap next_part f.1 ∙ f.2.2) in let i : false ≡ true = ap is_name w ∙ f.2.3 in cc

pub nothing_happens : IsEffect v (Both []) x (said (codes "()"))
nothing_happens = subst (λ (T : Type 0). T) (sym (effect-Both v x _ [])) (inr (tt, inl refl))

-- an increase is the empty effect, whatever it has in it
pub increase : IsEffect v (Both []) x (said (codes "(increase (total-cost) (either (or)) 12)"))
increase = subst (λ (T : Type 0). T) (sym (effect-Both v x _ [])) (inr (tt, inr (_, refl)))

pub both : IsEffect v (Both (q ∷ Both [] ∷ [])) x (said (codes "(and (q) (increase (total-cost) 1))"))
both = subst (λ (T : Type 0). T) (sym (effect-Both v x _ (q ∷ Both [] ∷ []))) (inl (_, refl, (adds-q x, (subst (λ (T : Type 0). T) (sym (effect-Both v x _ [])) (inr (tt, inr (_, refl))), tt))))

pub both_of_or : (es : List Effect) → IsEffect v (Both es) x (said (codes "(or (q))")) → ⊥
both_of_or es e = elim (subst (λ (T : Type 0). T) (effect-Both v x _ es) e) [ inl f ↦ let g = f.1 in cc | inr f ↦ elim f.1 [ inl g ↦ cc | inr g ↦ let h = g.1 in cc ] ]

pub for_each : IsEffect v (Each_one (x_a ∷ []) q) [] (said (codes "(forall (?x - a) (q))"))
for_each = subst (λ (T : Type 0). T) (sym (effect-Each_one v [] _ (x_a ∷ []) q)) (_, _, refl, ((refl, refl, (refl, refl)), tt), adds-q x)

pub for_each_of_two : (xs : List Param) (e : Effect) → IsEffect v (Each_one xs e) [] (said (codes "(forall (?x - a) (q) (q))")) → ⊥
for_each_of_two xs e h = let f = subst (λ (T : Type 0). T) (effect-Each_one v [] _ xs e) h in let g = f.2 in cc

pub when_true : IsEffect v (When (And []) q) [] (said (codes "(when () (q))"))
when_true = subst (λ (T : Type 0). T) (sym (effect-When v [] _ (And []) q)) (_, _, refl, empty, adds-q [])

pub when_of_one : (f : Formula) (e : Effect) → IsEffect v (When f e) [] (said (codes "(when (q))")) → ⊥
when_of_one f e h = let g = subst (λ (T : Type 0). T) (effect-When v [] _ f e) h in let i = g.2 in cc
