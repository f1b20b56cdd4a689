-- Truth, by the kinds of formulas, as it is computed.
use Rattle.std.proofs.Common.{ℕ, zero, suc, ◌≡◌, ◌<◌, ◌↔◌, inl, inr, Bool, true, false, not, IsTrue, List, [], ◌∷◌, ◌++◌, length, get_or, Contains, nat_eq, Option, Some, None, IfSome, refl, ap, sym, subst, ◌∙◌, true≢false, arith}
use Rattle.std.specs.Bool.{beq}
use Rattle.std.proofs.lemmas.Bool.{eqb-true, eq-eqb}
use Rattle.plan_model.specs.declared.terms.Term.{Term}
use Rattle.plan_model.specs.declared.terms.Atom.{Atom}
use Rattle.plan_model.specs.declared.terms.Param.{Param}
use Rattle.plan_model.specs.declared.formulas.Formula.{Formula}
use Rattle.plan_model.specs.declared.formulas.Formula.TheVariants as F
use Rattle.plan_model.specs.plan_meaning.Truth.{State, ground, value_of, EachTrue, OneTrue, AreTyped, IsTrueIn}
use Rattle.plan_model.proofs.plan_meaning.TruthEquations.{truth-Holds, truth-Equal, truth-Not, truth-And, truth-Or, truth-Imply, truth-Forall, truth-Exists}
use Rattle.plan_model.proofs.task_networks.Lists.{Contains-here, Contains-later}
use Rattle.problem_index.specs.declared.domain.Domain.{Domain}
use Rattle.ground_state.specs.declared.state.State as computed
use Rattle.problem_index.specs.Domains.{IsIn, IsWithSome}
use Rattle.ground_state.specs.States.{atoms, has_ground}
use Rattle.ground_state.specs.Search.{Is, literal, IsAmongParts, IsFound, IsLiteralFound}

true-is-not-false : IsTrue false → ⊥
true-is-not-false e = true≢false (sym e)

module _ (InType : ℕ → ℕ → Type 0) (S : State) (v : List ℕ) where
  abbrev T : Formula → Type 0
  T f = IsTrueIn InType S f v

  -- the statement that a formula of this kind makes
  says : (f g : Formula) (P : List ℕ → Type 0) → f ≡ g → IsTrueIn InType S g ≡ P → T f ≡ P v
  says f g P e d = ap T e ∙ ap (λ (Q : List ℕ → Type 0). Q v) d

  by_same : (b : Bool) (P Q : Type 0) → P ≡ Q → IsTrue b ↔ Q → IsTrue b ↔ P
  by_same b P Q e h = subst (λ X. IsTrue b ↔ X) (sym e) h

  pub is-Holds : (f : Formula) (a : Atom) (b : Bool) → f ≡ F.Holds a → IsTrue b ↔ S (ground v a) → IsTrue b ↔ T f
  is-Holds f a b e h = by_same b (T f) _ (says f (F.Holds a) _ e (truth-Holds InType S a)) h

  pub is-Equal : (f : Formula) (s t : Term) (x y : ℕ) → f ≡ F.Equal s t → x ≡ value_of v s → y ≡ value_of v t → IsTrue (nat_eq x y) ↔ T f
  is-Equal f s t x y e g h = by_same (nat_eq x y) (T f) _ (says f (F.Equal s t) _ e (truth-Equal InType S s t)) (λ i. sym g ∙ eqb-true x y i ∙ h, λ i. eq-eqb x y (g ∙ i ∙ sym h))

  pub is-Not : (f p x : Formula) (b : Bool) → f ≡ F.Not p → x ≡ p → IsTrue b ↔ T x → IsTrue (not b) ↔ T f
  is-Not f p x b e g h = by_same (not b) (T f) _ (says f (F.Not p) _ e (truth-Not InType S p)) (by b (subst (λ y. IsTrue b ↔ T y) g h))
    where
      by : (b : Bool) → IsTrue b ↔ T p → IsTrue (not b) ↔ (T p → ⊥)
      by true h = (λ i. absurd (true-is-not-false i), λ n. absurd (n (h.0 refl)))
      by false h = (λ i t. true-is-not-false (h.1 t), λ n. refl)

  pub is-Imply : (f p q x y : Formula) (b : Bool) → f ≡ F.Imply p q → x ≡ p → y ≡ q → T x → IsTrue b ↔ T y → IsTrue b ↔ T f
  is-Imply f p q x y b e g d t h = by_same b (T f) _ (says f (F.Imply p q) _ e (truth-Imply InType S p q)) (λ i u. subst T d (h.0 i), λ k. h.1 (subst T (sym d) (k (subst T g t))))

  pub is-Imply-empty : (f p q x : Formula) → f ≡ F.Imply p q → x ≡ p → (T x → ⊥) → IsTrue true ↔ T f
  is-Imply-empty f p q x e g n = by_same true (T f) _ (says f (F.Imply p q) _ e (truth-Imply InType S p q)) (λ i u. absurd (n (subst T (sym g) u)), λ k. refl)

  each-of : (fs : List Formula) → ((f : Formula) → Contains fs f → T f) → EachTrue (IsTrueIn InType S) fs v
  each-of [] h = tt
  each-of (f ∷ fs) h = (h f (Contains-here f fs), each-of fs (λ g c. h g (Contains-later f fs g c)))

  of-each : (fs : List Formula) (k : ℕ) (d : Formula) → k < length fs → EachTrue (IsTrueIn InType S) fs v → T (get_or fs k d)
  of-each [] k d l e = absurd (omega arith)
  of-each (f ∷ fs) zero d l e = e.0
  of-each (f ∷ fs) (suc k) d l e = of-each fs k d (omega arith) e.1

  one-of : (fs : List Formula) (k : ℕ) (d : Formula) → k < length fs → T (get_or fs k d) → OneTrue (IsTrueIn InType S) fs v
  one-of [] k d l t = absurd (omega arith)
  one-of (f ∷ fs) zero d l t = inl t
  one-of (f ∷ fs) (suc k) d l t = inr (one-of fs k d (omega arith) t)

  of-one : (fs : List Formula) → OneTrue (IsTrueIn InType S) fs v → (f : Formula) × Contains fs f × T f
  of-one [] o = absurd o
  of-one (f ∷ fs) (inl t) = (f, Contains-here f fs, t)
  of-one (f ∷ fs) (inr o) = let r = of-one fs o in (r.0, Contains-later f fs r.0 r.1, r.2)

  pub is-And : (f : Formula) (ps xs : List Formula) (found : Bool) → f ≡ F.And ps → xs ≡ ps → IsAmongParts InType S false found xs v → IsTrue (not found) ↔ T f
  is-And f ps xs found e g h = by_same (not found) (T f) _ (says f (F.And ps) _ e (truth-And InType S ps)) (by found (subst (λ ys. IsAmongParts InType S false found ys v) g h))
    where
      by : (found : Bool) → IsAmongParts InType S false found ps v → IsTrue (not found) ↔ EachTrue (IsTrueIn InType S) ps v
      by true (p, (k, l, e), n) = (λ i. absurd (true-is-not-false i), λ t. absurd (n (subst T e (of-each ps k p l t))))
      by false h = (λ i. each-of ps h, λ t. refl)

  pub is-Or : (f : Formula) (ps xs : List Formula) (found : Bool) → f ≡ F.Or ps → xs ≡ ps → IsAmongParts InType S true found xs v → IsTrue found ↔ T f
  is-Or f ps xs found e g h = by_same found (T f) _ (says f (F.Or ps) _ e (truth-Or InType S ps)) (by found (subst (λ ys. IsAmongParts InType S true found ys v) g h))
    where
      by : (found : Bool) → IsAmongParts InType S true found ps v → IsTrue found ↔ OneTrue (IsTrueIn InType S) ps v
      by true (p, (k, l, e), t) = (λ i. one-of ps k p l (subst T (sym e) t), λ o. refl)
      by false h = (λ i. absurd (true-is-not-false i), λ o. let r = of-one ps o in absurd (h r.0 r.1 r.2))

  pub is-Forall : (f : Formula) (ps xs : List Param) (p x : Formula) (found : Bool) → f ≡ F.Forall ps p → xs ≡ ps → x ≡ p → IsFound InType S false found xs x v → IsTrue (not found) ↔ T f
  is-Forall f ps xs p x found e g d h = by_same (not found) (T f) _ (says f (F.Forall ps p) _ e (truth-Forall InType S ps p)) (by found (subst (λ y. IsFound InType S false found ps y v) d (subst (λ ys. IsFound InType S false found ys x v) g h)))
    where
      by : (found : Bool) → IsFound InType S false found ps p v → IsTrue (not found) ↔ ((os : List ℕ) → AreTyped InType ps os → IsTrueIn InType S p (v ++ os))
      by true (os, a, n) = (λ i. absurd (true-is-not-false i), λ t. absurd (n (t os a)))
      by false h = (λ i. h, λ t. refl)

  pub is-Exists : (f : Formula) (ps xs : List Param) (p x : Formula) (found : Bool) → f ≡ F.Exists ps p → xs ≡ ps → x ≡ p → IsFound InType S true found xs x v → IsTrue found ↔ T f
  is-Exists f ps xs p x found e g d h = by_same found (T f) _ (says f (F.Exists ps p) _ e (truth-Exists InType S ps p)) (by found (subst (λ y. IsFound InType S true found ps y v) d (subst (λ ys. IsFound InType S true found ys x v) g h)))
    where
      by : (found : Bool) → IsFound InType S true found ps p v → IsTrue found ↔ ((os : List ℕ) × AreTyped InType ps os × IsTrueIn InType S p (v ++ os))
      by true h = (λ i. h, λ o. refl)
      by false h = (λ i. absurd (true-is-not-false i), λ o. absurd (h o.0 o.1 o.2))

pub as-has : {b c : Bool} → b ≡ c → IsTrue b ↔ IsTrue c
as-has e = (λ x. sym e ∙ x, λ x. e ∙ x)

-- truth of a literal, as the state has its atom
module _ (InType : ℕ → ℕ → Type 0) (s : computed.State) (a : Atom) (v : List ℕ) where
  holds-as : IsTrue (has_ground s (ground v a)) ↔ IsTrueIn InType (atoms s) (F.Holds a) v
  holds-as = is-Holds InType (atoms s) v (F.Holds a) a (has_ground s (ground v a)) refl (λ x. x, λ x. x)

  not-as : IsTrue (not (has_ground s (ground v a))) ↔ IsTrueIn InType (atoms s) (F.Not (F.Holds a)) v
  not-as = is-Not InType (atoms s) v (F.Not (F.Holds a)) (F.Holds a) (F.Holds a) (has_ground s (ground v a)) refl refl holds-as

  pub is-literal : (sign wanted : Bool) → has_ground s (ground v a) ≡ beq wanted sign → Is wanted (IsTrueIn InType (atoms s) (literal sign a) v)
  is-literal true true e = holds-as.0 e
  is-literal true false e = λ t. true≢false (sym (holds-as.1 t) ∙ e)
  is-literal false true e = not-as.0 (ap not e)
  is-literal false false e = λ t. true≢false (sym (not-as.1 t) ∙ ap not e)

not-wanted : (wanted sign : Bool) → not (beq wanted sign) ≡ beq (not wanted) sign
not-wanted true true = refl
not-wanted true false = refl
not-wanted false true = refl
not-wanted false false = refl

-- what is found of the atom is found of the literal
pub literal-is-found : (k : Domain) (s : computed.State) (wanted w : Bool) (f : Formula) (sign : Bool) (a : Atom) (v : List ℕ) (found : Option Bool) → f ≡ literal sign a → w ≡ beq wanted sign
    → IfSome found (IsWithSome k (λ x. has_ground s (ground (v ++ x ∷ []) a)) w) → IfSome found (IsLiteralFound k s wanted f v)
literal-is-found k s wanted w f sign a v (Some b) e d h = (sign, a, e, subst (λ u. IsWithSome k (λ x. has_ground s (ground (v ++ x ∷ []) a)) u b) d h)
literal-is-found k s wanted w f sign a v None e d h = h

pub same-as-true : (b : Bool) → b ≡ beq b true
same-as-true true = refl
same-as-true false = refl

pub not-as-false : (b : Bool) → not b ≡ beq b false
not-as-false true = refl
not-as-false false = refl

empty : {X : Type 0} (xs : List X) → length xs ≡ 0 → xs ≡ []
empty [] e = refl
empty (x ∷ xs) e = absurd (omega (arith, e))

pub only-one : {X : Type 0} (ps : List X) (p : X) (rest : List X) → ps ≡ p ∷ rest → length rest ≡ 0 → ps ≡ p ∷ []
only-one ps p rest e n = e ∙ ap (λ xs. p ∷ xs) (empty rest n)

-- what is found of a literal is found with objects of the one type
pub is-found-literal : (InType : ℕ → ℕ → Type 0) (k : Domain) (s : computed.State) (wanted : Bool) (f : Formula) (v : List ℕ) (found : Bool) (p : Param) (ps : List Param)
    → ps ≡ p ∷ [] → ((x : ℕ) → IsIn k x ↔ InType x p.ty) → IsLiteralFound k s wanted f v found → IsFound InType (atoms s) wanted found ps f v
is-found-literal InType k s wanted f v found p ps one typed (sign, a, e, h) = subst (λ qs. IsFound InType (atoms s) wanted found qs f v) (sym one) (by found h)
  where
    at : (w : Bool) (x : ℕ) → has_ground s (ground (v ++ x ∷ []) a) ≡ beq w sign → Is w (IsTrueIn InType (atoms s) f (v ++ x ∷ []))
    at w x d = subst (λ g. Is w (IsTrueIn InType (atoms s) g (v ++ x ∷ []))) (sym e) (is-literal InType s a (v ++ x ∷ []) sign w d)

    by : (found : Bool) → IsWithSome k (λ x. has_ground s (ground (v ++ x ∷ []) a)) (beq wanted sign) found → IsFound InType (atoms s) wanted found (p ∷ []) f v
    by true (x, i, d) = (x ∷ [], ((typed x).0 i, tt), at wanted x d)
    by false n = each
      where
        each : (os : List ℕ) → AreTyped InType (p ∷ []) os → Is (not wanted) (IsTrueIn InType (atoms s) f (v ++ os))
        each [] t = absurd t
        each (x ∷ []) t = at (not wanted) x (n x ((typed x).1 t.0) ∙ not-wanted wanted sign)
        each (x ∷ (y ∷ os)) t = absurd t.1
