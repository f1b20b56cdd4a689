-- What stands in what was read stands, in the same words, in what was read alike.
use Rattle.std.proofs.Common.{◌≡◌, ◌⊎◌, ◌++◌, List, [], ◌∷◌, refl, sym, ap, ◌∙◌, subst, inl, inr}
use Rattle.plan_texts.specs.Together.{Together}
use Rattle.plan_texts.proofs.Together.{together-maps}
use Rattle.gd_reader.specs.declared.term.RawTerm.{RawTerm}
use Rattle.gd_reader.specs.declared.term.RawAtom.{RawAtom}
use Rattle.gd_reader.specs.declared.typed_lists.RawParam.{RawParam}
use Rattle.gd_reader.specs.declared.formulas.RawFormula.{RawFormula}
use Rattle.gd_reader.specs.declared.formulas.RawFormula.TheOpen.{RawFormula-F}
use Rattle.gd_reader.specs.declared.formulas.RawFormula.TheVariants.{rolls-Holds, rolls-Equal, rolls-Not, rolls-And, rolls-Or, rolls-Imply, rolls-Forall, rolls-Exists}
use Rattle.gd_reader.specs.declared.effects.RawEffect.{RawEffect}
use Rattle.gd_reader.specs.declared.effects.RawEffect.TheOpen.{RawEffect-F}
use Rattle.gd_reader.specs.declared.effects.RawEffect.TheVariants as raw_effect
use Rattle.gd_reader.specs.Terms.{Names}
use Rattle.hddl_reader.specs.declared.networks.RawNet.{RawNet}
use Rattle.hddl_reader.specs.declared.networks.RawSub.{RawSub}
use Rattle.hddl_reader.specs.declared.networks.RawCon.{RawCon}
use Rattle.hddl_reader.specs.declared.sections.RawAction.{RawAction}
use Rattle.hddl_reader.specs.declared.sections.RawDomain.{RawDomain}
use Rattle.hddl_reader.specs.declared.sections.RawHead.{RawHead}
use Rattle.hddl_reader.specs.declared.sections.RawMethod.{RawMethod}
use Rattle.hddl_reader.specs.declared.sections.RawProblem.{RawProblem}
use Rattle.htn_base.specs.Lists.{One}
use Rattle.hddl_reader.specs.names.Words.{param_word}
use Rattle.hddl_reader.specs.names.Uses.{Scope, Use, declares, applies, refers, Kind, predicate, subtask, task, IsDeclared, IsOfAtom, IsOneOf, variables, InFormula, InEffect}
use Rattle.hddl_reader.specs.names.Standing.{IsOfNetwork, InMethod, InAction, InDomain, InProblem}
use Rattle.hddl_reader.proofs.names.Rolls.{formula_roll, formula_unroll, effect_roll, effect_unroll}
use Rattle.text_values.proofs.Alike.{AlikeTerm, AlikeTerms, AlikeAtom, AlikeParam, AlikeParams, AlikeFormula, AlikeFormulas, AlikeEffect, AlikeEffects, AlikeSub, AlikeCon, AlikeNet, AlikeHead, AlikeMethod, AlikeAction, AlikeDomain, AlikeProblem, holds, equal, no, all, any, imply, every, some, none, more, adds, deletes, all_of, for_every, when, no_more, and_more}

module _ (t u : Names) where
  abbrev pub AlikeUse : Use → Use → Type 0
  AlikeUse (declares x) (declares y) = AlikeParam t u x y
  AlikeUse (declares x) (applies k b) = ⊥
  AlikeUse (declares x) (refers b) = ⊥
  AlikeUse (applies k a) (declares y) = ⊥
  AlikeUse (applies k a) (applies j b) = (k ≡ j) × AlikeAtom t u a b
  AlikeUse (applies k a) (refers b) = ⊥
  AlikeUse (refers x) (declares y) = ⊥
  AlikeUse (refers x) (applies k b) = ⊥
  AlikeUse (refers x) (refers y) = AlikeTerm t u x y

  -- a use that is alike stands there
  abbrev pub Goes : (Use → Type 0) → Use → Type 0
  Goes Stands v = (w : Use) × Stands w × AlikeUse v w

  by_either : {P Q : Use → Type 0} (A B : Type 0) (v : Use) → (A → Goes P v) → (B → Goes Q v) → A ⊎ B → Goes (λ w. P w ⊎ Q w) v
  by_either A B v f g (inl a) = let r = f a in (r.0, inl r.1, r.2)
  by_either A B v f g (inr b) = let r = g b in (r.0, inr r.1, r.2)

  one_goes : {X Y : Type 0} (R : X → Y → Type 0) (P : X → Type 0) (Q : Y → Use → Type 0) (v : Use) → ((x : X) (y : Y) → R x y → P x → Goes (Q y) v) → (xs : List X) (ys : List Y) → Together R xs ys → One P xs → Goes (λ w. One (λ y. Q y w) ys) v
  one_goes R P Q v f [] ys e h = absurd h
  one_goes R P Q v f (x ∷ xs) [] e h = absurd e
  one_goes R P Q v f (x ∷ xs) (y ∷ ys) e (inl h) = let r = f x y e.0 h in (r.0, inl r.1, r.2)
  one_goes R P Q v f (x ∷ xs) (y ∷ ys) e (inr h) = let r = one_goes R P Q v f xs ys e.1 h in (r.0, inr r.1, r.2)

  at_use : (v w : Use) (Stands : Use → Type 0) (x : Use) → v ≡ x → AlikeUse x w → Stands w → Goes Stands v
  at_use v w Stands x e r s = (w, s, subst (λ z. AlikeUse z w) (sym e) r)

  pub declared_goes : (xs ys : List RawParam) → AlikeParams t u xs ys → (v : Use) → IsDeclared xs v → Goes (IsDeclared ys) v
  declared_goes xs ys e v h = one_goes (AlikeParam t u) (λ x. v ≡ declares x) (λ y w. w ≡ declares y) v (λ x y r is. at_use v (declares y) (λ w. w ≡ declares y) (declares x) is r refl) xs ys e h

  terms_go : (xs ys : List RawTerm) → AlikeTerms t u xs ys → (v : Use) → One (λ x. v ≡ refers x) xs → Goes (λ w. One (λ y. w ≡ refers y) ys) v
  terms_go xs ys e v h = one_goes (AlikeTerm t u) (λ x. v ≡ refers x) (λ y w. w ≡ refers y) v (λ x y r is. at_use v (refers y) (λ w. w ≡ refers y) (refers x) is r refl) xs ys e h

  pub atom_goes : (kind : Kind) (a b : RawAtom) → AlikeAtom t u a b → (v : Use) → IsOfAtom kind a v → Goes (IsOfAtom kind b) v
  atom_goes kind a b r v = by_either (v ≡ applies kind a) (One (λ x. v ≡ refers x) a.args) v (λ e. at_use v (applies kind b) (λ w. w ≡ applies kind b) (applies kind a) e (refl, r) refl) (terms_go a.args b.args r.args v)

  pub one_of_goes : (x y z w : RawTerm) → AlikeTerm t u x z → AlikeTerm t u y w → (v : Use) → IsOneOf x y v → Goes (IsOneOf z w) v
  one_of_goes x y z w r s v =
      by_either (v ≡ refers x) (v ≡ refers y) v (λ e. at_use v (refers z) (λ k. k ≡ refers z) (refers x) e r refl) (λ e. at_use v (refers w) (λ k. k ≡ refers w) (refers y) e s refl)

  pub variables_same : (xs ys : List RawParam) → AlikeParams t u xs ys → variables t xs ≡ variables u ys
  variables_same xs ys e = together-maps (param_word t) (param_word u) (AlikeParam t u) (λ x y r. r.word) xs ys e

  -- in front of what a quantifier declares
  inner : (xs ys : List RawParam) → AlikeParams t u xs ys → (outer : Scope) → outer ++ variables t xs ≡ outer ++ variables u ys
  inner xs ys e outer = ap (λ l. outer ++ l) (variables_same xs ys e)

  -- at a scope
  scoped : {P : Use → Type 0} (A S : Type 0) (v : Use) → (A → Goes P v) → S × A → Goes (λ w. S × P w) v
  scoped A S v f (s, a) = let r = f a in (r.0, (s, r.1), r.2)

  through : {P Q : Use → Type 0} (v : Use) → ((w : Use) → P w → Q w) → Goes P v → Goes Q v
  through v f r = (r.0, f r.0 r.1, r.2)

  mutual
    pub in_formula : (f g : RawFormula) → AlikeFormula t u f g → (outer here : Scope) (v : Use) → InFormula t f outer here v → Goes (InFormula u g outer here) v
    in_formula f g (holds a b r) outer here v h =
        through v (λ w k. formula_roll u (RawFormula-F.Holds b) g (rolls-Holds b) outer here w k)
        (scoped (IsOfAtom predicate a v) (here ≡ outer) v (atom_goes predicate a b r v) (formula_unroll t (RawFormula-F.Holds a) f (rolls-Holds a) outer here v h))
    in_formula f g (equal x y z w r s) outer here v h =
        through v (λ k. formula_roll u (RawFormula-F.Equal z w) g (rolls-Equal z w) outer here k)
        (scoped (IsOneOf x y v) (here ≡ outer) v (one_of_goes x y z w r s v) (formula_unroll t (RawFormula-F.Equal x y) f (rolls-Equal x y) outer here v h))
    in_formula f g (no e k r) outer here v h = through v (λ w. formula_roll u (RawFormula-F.Not k) g (rolls-Not k) outer here w) (in_formula e k r outer here v (formula_unroll t (RawFormula-F.Not e) f (rolls-Not e) outer here v h))
    in_formula f g (all fs gs r) outer here v h = through v (λ w. formula_roll u (RawFormula-F.And gs) g (rolls-And gs) outer here w) (in_formulas fs gs r outer here v (formula_unroll t (RawFormula-F.And fs) f (rolls-And fs) outer here v h))
    in_formula f g (any fs gs r) outer here v h = through v (λ w. formula_roll u (RawFormula-F.Or gs) g (rolls-Or gs) outer here w) (in_formulas fs gs r outer here v (formula_unroll t (RawFormula-F.Or fs) f (rolls-Or fs) outer here v h))
    in_formula f g (imply e k j l r s) outer here v h =
        through v (λ w. formula_roll u (RawFormula-F.Imply j l) g (rolls-Imply j l) outer here w)
        (by_either (InFormula t e outer here v) (InFormula t k outer here v) v (in_formula e j r outer here v) (in_formula k l s outer here v) (formula_unroll t (RawFormula-F.Imply e k) f (rolls-Imply e k) outer here v h))
    in_formula f g (every xs ys e k r s) outer here v h =
        through v (λ w. formula_roll u (RawFormula-F.Forall ys k) g (rolls-Forall ys k) outer here w)
        (by_either (IsDeclared xs v) (InFormula t e (outer ++ variables t xs) here v) v (declared_goes xs ys r v)
        (λ i. in_formula e k s (outer ++ variables u ys) here v (subst (λ o. InFormula t e o here v) (inner xs ys r outer) i)) (formula_unroll t (RawFormula-F.Forall xs e) f (rolls-Forall xs e) outer here v h))
    in_formula f g (some xs ys e k r s) outer here v h =
        through v (λ w. formula_roll u (RawFormula-F.Exists ys k) g (rolls-Exists ys k) outer here w)
        (by_either (IsDeclared xs v) (InFormula t e (outer ++ variables t xs) here v) v (declared_goes xs ys r v)
        (λ i. in_formula e k s (outer ++ variables u ys) here v (subst (λ o. InFormula t e o here v) (inner xs ys r outer) i)) (formula_unroll t (RawFormula-F.Exists xs e) f (rolls-Exists xs e) outer here v h))

    in_formulas : (fs gs : List RawFormula) → AlikeFormulas t u fs gs → (outer here : Scope) (v : Use) → One (λ f. InFormula t f outer here v) fs → Goes (λ w. One (λ g. InFormula u g outer here w) gs) v
    in_formulas fs gs none outer here v h = absurd h
    in_formulas fs gs (more f g fs' gs' r rs) outer here v h = by_either (InFormula t f outer here v) (One (λ f. InFormula t f outer here v) fs') v (in_formula f g r outer here v) (in_formulas fs' gs' rs outer here v) h

  mutual
    pub in_effect : (e f : RawEffect) → AlikeEffect t u e f → (outer here : Scope) (v : Use) → InEffect t e outer here v → Goes (InEffect u f outer here) v
    in_effect e f (adds a b r) outer here v h =
        through v (λ w. effect_roll u (RawEffect-F.Add b) f (raw_effect.rolls-Add b) outer here w) (scoped (IsOfAtom predicate a v) (here ≡ outer) v (atom_goes predicate a b r v) (effect_unroll t (RawEffect-F.Add a) e (raw_effect.rolls-Add a) outer here v h))
    in_effect e f (deletes a b r) outer here v h =
        through v (λ w. effect_roll u (RawEffect-F.Delete b) f (raw_effect.rolls-Delete b) outer here w)
        (scoped (IsOfAtom predicate a v) (here ≡ outer) v (atom_goes predicate a b r v) (effect_unroll t (RawEffect-F.Delete a) e (raw_effect.rolls-Delete a) outer here v h))
    in_effect e f (all_of es fs r) outer here v h =
        through v (λ w. effect_roll u (RawEffect-F.And fs) f (raw_effect.rolls-And fs) outer here w) (in_effects es fs r outer here v (effect_unroll t (RawEffect-F.And es) e (raw_effect.rolls-And es) outer here v h))
    in_effect e f (for_every xs ys i k r s) outer here v h =
        through v (λ w. effect_roll u (RawEffect-F.Forall ys k) f (raw_effect.rolls-Forall ys k) outer here w)
        (by_either (IsDeclared xs v) (InEffect t i (outer ++ variables t xs) here v) v (declared_goes xs ys r v)
        (λ j. in_effect i k s (outer ++ variables u ys) here v (subst (λ o. InEffect t i o here v) (inner xs ys r outer) j)) (effect_unroll t (RawEffect-F.Forall xs i) e (raw_effect.rolls-Forall xs i) outer here v h))
    in_effect e f (when g j i k r s) outer here v h =
        through v (λ w. effect_roll u (RawEffect-F.When j k) f (raw_effect.rolls-When j k) outer here w)
        (by_either (InFormula t g outer here v) (InEffect t i outer here v) v (in_formula g j r outer here v) (in_effect i k s outer here v) (effect_unroll t (RawEffect-F.When g i) e (raw_effect.rolls-When g i) outer here v h))

    in_effects : (es fs : List RawEffect) → AlikeEffects t u es fs → (outer here : Scope) (v : Use) → One (λ e. InEffect t e outer here v) es → Goes (λ w. One (λ f. InEffect u f outer here w) fs) v
    in_effects es fs no_more outer here v h = absurd h
    in_effects es fs (and_more e f es' fs' r rs) outer here v h = by_either (InEffect t e outer here v) (One (λ e. InEffect t e outer here v) es') v (in_effect e f r outer here v) (in_effects es' fs' rs outer here v) h

  pub in_network : (n m : RawNet) → AlikeNet t u n m → (v : Use) → IsOfNetwork n v → Goes (IsOfNetwork m) v
  in_network n m r v =
      by_either (One (λ (s : RawSub). IsOfAtom subtask s.atom v) n.subs) (One (λ (c : RawCon). IsOneOf c.left c.right v) n.constraints) v
      (one_goes (AlikeSub t u) (λ s. IsOfAtom subtask s.atom v) (λ s w. IsOfAtom subtask s.atom w) v (λ s k e. atom_goes subtask s.atom k.atom e.atom v) n.subs m.subs r.subs)
      (one_goes (AlikeCon t u) (λ c. IsOneOf c.left c.right v) (λ c w. IsOneOf c.left c.right w) v (λ c d e. one_of_goes c.left c.right d.left d.right e.left e.right v) n.constraints m.constraints r.constraints)

  module _ (here : Scope) (v : Use) where
    in_method : (m n : RawMethod) → AlikeMethod t u m n → InMethod t m here v → Goes (InMethod u n here) v
    in_method m n r (InMethod.parameter h) = through v (λ w k. InMethod.parameter k) (declared_goes m.head.params n.head.params r.head.params v h)
    in_method m n r (InMethod.of_task e h) = through v (λ w k. InMethod.of_task (e ∙ variables_same m.head.params n.head.params r.head.params) k) (atom_goes task m.task n.task r.task v h)
    in_method m n r (InMethod.precondition h) =
        through v (λ w k. InMethod.precondition k)
        (in_formula m.pre n.pre r.pre (variables u n.head.params) here v (subst (λ o. InFormula t m.pre o here v) (variables_same m.head.params n.head.params r.head.params) h))
    in_method m n r (InMethod.network e h) = through v (λ w k. InMethod.network (e ∙ variables_same m.head.params n.head.params r.head.params) k) (in_network m.net n.net r.net v h)

    in_action : (a b : RawAction) → AlikeAction t u a b → InAction t a here v → Goes (InAction u b here) v
    in_action a b r (InAction.parameter h) = through v (λ w k. InAction.parameter k) (declared_goes a.head.params b.head.params r.head.params v h)
    in_action a b r (InAction.precondition h) =
        through v (λ w k. InAction.precondition k)
        (in_formula a.pre b.pre r.pre (variables u b.head.params) here v (subst (λ o. InFormula t a.pre o here v) (variables_same a.head.params b.head.params r.head.params) h))
    in_action a b r (InAction.effect h) =
        through v (λ w k. InAction.effect k)
        (in_effect a.eff b.eff r.eff (variables u b.head.params) here v (subst (λ o. InEffect t a.eff o here v) (variables_same a.head.params b.head.params r.head.params) h))

    heads_go : (hs gs : List RawHead) → Together (AlikeHead t u) hs gs → One (λ (h : RawHead). IsDeclared h.params v) hs → Goes (λ w. One (λ (g : RawHead). IsDeclared g.params w) gs) v
    heads_go hs gs e h = one_goes (AlikeHead t u) (λ (h : RawHead). IsDeclared h.params v) (λ (g : RawHead) w. IsDeclared g.params w) v (λ h g r. declared_goes h.params g.params r.params v) hs gs e h

    pub in_domain : (d e : RawDomain) → AlikeDomain t u d e → InDomain t d here v → Goes (InDomain u e here) v
    in_domain d e r (InDomain.constant h) = through v (λ w k. InDomain.constant k) (declared_goes d.constants e.constants r.constants v h)
    in_domain d e r (InDomain.of_predicate h) = through v (λ w k. InDomain.of_predicate k) (heads_go d.predicates e.predicates r.predicates h)
    in_domain d e r (InDomain.of_task h) = through v (λ w k. InDomain.of_task k) (heads_go d.tasks e.tasks r.tasks h)
    in_domain d e r (InDomain.method h) = through v (λ w k. InDomain.method k) (one_goes (AlikeMethod t u) (λ m. InMethod t m here v) (λ m w. InMethod u m here w) v in_method d.methods e.methods r.methods h)
    in_domain d e r (InDomain.action h) = through v (λ w k. InDomain.action k) (one_goes (AlikeAction t u) (λ a. InAction t a here v) (λ a w. InAction u a here w) v in_action d.actions e.actions r.actions h)

    pub in_problem : (p q : RawProblem) → AlikeProblem t u p q → InProblem t p here v → Goes (InProblem u q here) v
    in_problem p q r (InProblem.object h) = through v (λ w k. InProblem.object k) (declared_goes p.objects q.objects r.objects v h)
    in_problem p q r (InProblem.parameter h) = through v (λ w k. InProblem.parameter k) (declared_goes p.params q.params r.params v h)
    in_problem p q r (InProblem.network e h) = through v (λ w k. InProblem.network (e ∙ variables_same p.params q.params r.params) k) (in_network p.net q.net r.net v h)
    in_problem p q r (InProblem.fact e h) = through v (λ w k. InProblem.fact e k) (one_goes (AlikeAtom t u) (λ a. IsOfAtom predicate a v) (λ a w. IsOfAtom predicate a w) v (λ a b s. atom_goes predicate a b s v) p.init q.init r.init h)
    in_problem p q r (InProblem.goal h) = through v (λ w k. InProblem.goal k) (in_formula p.goal q.goal r.goal [] here v h)
