-- When two formulas, or two effects, over two tables of names say the same, by their constructor, and lists of them.
use Rattle.std.proofs.Common.{◌≡◌, Bool, true, false, cond, inl, inr, List, [], ◌∷◌, ◌++◌, map, refl, ap, ap₂, sym, ◌∙◌}
use Rattle.plan_texts.specs.Declared.{Declared}
use Rattle.plan_texts.specs.Types.{Has}
use Rattle.plan_texts.specs.Said.{typed, holds, equal, no, all, any, imply, every, saids, said, adds, deletes, both, for_every, when, dones, done}
use Rattle.plan_texts.specs.Together.{Together}
use Rattle.plan_texts.proofs.Together.{together-maps}
use Rattle.plan_texts.proofs.Readings.{said_roll}
use Rattle.plan_texts.proofs.Effects.{done_roll}
use Rattle.plan_model.specs.declared.terms.Atom.{Atom}
use Rattle.plan_model.specs.declared.terms.Term.{Term}
use Rattle.plan_model.specs.declared.terms.Param.{Param}
use Rattle.plan_model.specs.declared.formulas.Formula.{Formula}
use Rattle.plan_model.specs.declared.formulas.Formula.TheOpen.{Formula-F}
use Rattle.plan_model.specs.declared.formulas.Formula.TheVariants.{Holds, Equal, Not, And, Or, Imply, Forall, rolls-Holds, rolls-Equal, rolls-Not, rolls-And, rolls-Or, rolls-Imply, rolls-Forall}
use Rattle.plan_model.specs.declared.effects.Effect.{Effect}
use Rattle.plan_model.specs.declared.effects.Effect.TheOpen.{Effect-F}
use Rattle.plan_model.specs.declared.effects.Effect.TheVariants as E
use Rattle.plan_model.specs.declared.effects.Effect.TheVariants.{rolls-Add, rolls-Delete, rolls-When, rolls-And as rolls-Both, rolls-Forall as rolls-Each_one}

-- lists that are made item by item, joined, and chosen
pub together-made : {X A B : Type 0} (R : A → B → Type 0) (f : X → A) (g : X → B) (xs : List X) → ((x : X) → Has xs x → R (f x) (g x)) → Together R (map f xs) (map g xs)
together-made R f g [] h = tt
together-made R f g (x ∷ xs) h = (h x (inl refl), together-made R f g xs (λ y m. h y (inr m)))

pub together-join : {A B : Type 0} (R : A → B → Type 0) (xs us : List A) (ys vs : List B) → Together R xs ys → Together R us vs → Together R (xs ++ us) (ys ++ vs)
together-join R [] us [] vs e f = f
together-join R [] us (y ∷ ys) vs e f = absurd e
together-join R (x ∷ xs) us [] vs e f = absurd e
together-join R (x ∷ xs) us (y ∷ ys) vs e f = (e.0, together-join R xs us ys vs e.1 f)

pub together-cond : {A B : Type 0} (R : A → B → Type 0) (t : Bool) (xs us : List A) (ys vs : List B) → Together R xs ys → Together R us vs → Together R (cond t xs us) (cond t ys vs)
together-cond R true xs us ys vs e f = e
together-cond R false xs us ys vs e f = f

module _ (v : Declared) where
  said-Holds : (a : Atom) → said v (Holds a) ≡ holds a.predicate a.args
  said-Holds a = ap (said v) (sym (rolls-Holds a)) ∙ said_roll v (Formula-F.Holds a)

  said-Equal : (s t : Term) → said v (Equal s t) ≡ equal s t
  said-Equal s t = ap (said v) (sym (rolls-Equal s t)) ∙ said_roll v (Formula-F.Equal s t)

  said-Not : (f : Formula) → said v (Not f) ≡ no (said v f)
  said-Not f = ap (said v) (sym (rolls-Not f)) ∙ said_roll v (Formula-F.Not f)

  said-And : (fs : List Formula) → said v (And fs) ≡ all (saids (map (said v) fs))
  said-And fs = ap (said v) (sym (rolls-And fs)) ∙ said_roll v (Formula-F.And fs)

  said-Or : (fs : List Formula) → said v (Or fs) ≡ any (saids (map (said v) fs))
  said-Or fs = ap (said v) (sym (rolls-Or fs)) ∙ said_roll v (Formula-F.Or fs)

  said-Imply : (f g : Formula) → said v (Imply f g) ≡ imply (said v f) (said v g)
  said-Imply f g = ap (said v) (sym (rolls-Imply f g)) ∙ said_roll v (Formula-F.Imply f g)

  said-Forall : (xs : List Param) (f : Formula) → said v (Forall xs f) ≡ every (map (typed v) xs) (said v f)
  said-Forall xs f = ap (said v) (sym (rolls-Forall xs f)) ∙ said_roll v (Formula-F.Forall xs f)

  done-Add : (a : Atom) → done v (E.Add a) ≡ adds a.predicate a.args
  done-Add a = ap (done v) (sym (rolls-Add a)) ∙ done_roll v (Effect-F.Add a)

  done-Delete : (a : Atom) → done v (E.Delete a) ≡ deletes a.predicate a.args
  done-Delete a = ap (done v) (sym (rolls-Delete a)) ∙ done_roll v (Effect-F.Delete a)

  done-And : (es : List Effect) → done v (E.And es) ≡ both (dones (map (done v) es))
  done-And es = ap (done v) (sym (rolls-Both es)) ∙ done_roll v (Effect-F.And es)

  done-Forall : (xs : List Param) (e : Effect) → done v (E.Forall xs e) ≡ for_every (map (typed v) xs) (done v e)
  done-Forall xs e = ap (done v) (sym (rolls-Each_one xs e)) ∙ done_roll v (Effect-F.Forall xs e)

  done-When : (f : Formula) (e : Effect) → done v (E.When f e) ≡ when (said v f) (done v e)
  done-When f e = ap (done v) (sym (rolls-When f e)) ∙ done_roll v (Effect-F.When f e)

module _ (v w : Declared) where
  abbrev pub SameParam : Param → Param → Type 0
  SameParam x y = typed v x ≡ typed w y

  abbrev pub SameFormula : Formula → Formula → Type 0
  SameFormula f g = said v f ≡ said w g

  abbrev pub SameEffect : Effect → Effect → Type 0
  SameEffect e f = done v e ≡ done w f

  pub params-same : (xs ys : List Param) → Together SameParam xs ys → map (typed v) xs ≡ map (typed w) ys
  params-same = together-maps (typed v) (typed w) SameParam (λ x y e. e)

  pub same-Holds : (a : Atom) → said v (Holds a) ≡ said w (Holds a)
  same-Holds a = said-Holds v a ∙ sym (said-Holds w a)

  pub same-Equal : (s t : Term) → said v (Equal s t) ≡ said w (Equal s t)
  same-Equal s t = said-Equal v s t ∙ sym (said-Equal w s t)

  pub same-Not : (f g : Formula) → said v f ≡ said w g → said v (Not f) ≡ said w (Not g)
  same-Not f g e = said-Not v f ∙ ap no e ∙ sym (said-Not w g)

  pub same-And : (fs gs : List Formula) → Together SameFormula fs gs → said v (And fs) ≡ said w (And gs)
  same-And fs gs e = said-And v fs ∙ ap (λ z. all (saids z)) (together-maps (said v) (said w) SameFormula (λ x y h. h) fs gs e) ∙ sym (said-And w gs)

  pub same-Or : (fs gs : List Formula) → Together SameFormula fs gs → said v (Or fs) ≡ said w (Or gs)
  same-Or fs gs e = said-Or v fs ∙ ap (λ z. any (saids z)) (together-maps (said v) (said w) SameFormula (λ x y h. h) fs gs e) ∙ sym (said-Or w gs)

  pub same-Imply : (f g h k : Formula) → said v f ≡ said w h → said v g ≡ said w k → said v (Imply f g) ≡ said w (Imply h k)
  same-Imply f g h k d e = said-Imply v f g ∙ ap₂ imply d e ∙ sym (said-Imply w h k)

  pub same-Forall : (xs ys : List Param) (f g : Formula) → Together SameParam xs ys → said v f ≡ said w g → said v (Forall xs f) ≡ said w (Forall ys g)
  same-Forall xs ys f g p e = said-Forall v xs f ∙ ap₂ every (params-same xs ys p) e ∙ sym (said-Forall w ys g)

  pub same-Add : (a : Atom) → done v (E.Add a) ≡ done w (E.Add a)
  same-Add a = done-Add v a ∙ sym (done-Add w a)

  pub same-Delete : (a : Atom) → done v (E.Delete a) ≡ done w (E.Delete a)
  same-Delete a = done-Delete v a ∙ sym (done-Delete w a)

  pub same-Both : (es fs : List Effect) → Together SameEffect es fs → done v (E.And es) ≡ done w (E.And fs)
  same-Both es fs e = done-And v es ∙ ap (λ z. both (dones z)) (together-maps (done v) (done w) SameEffect (λ x y h. h) es fs e) ∙ sym (done-And w fs)

  pub same-Each_one : (xs ys : List Param) (e f : Effect) → Together SameParam xs ys → done v e ≡ done w f → done v (E.Forall xs e) ≡ done w (E.Forall ys f)
  same-Each_one xs ys e f p h = done-Forall v xs e ∙ ap₂ for_every (params-same xs ys p) h ∙ sym (done-Forall w ys f)

  pub same-When : (f g : Formula) (e d : Effect) → said v f ≡ said w g → done v e ≡ done w d → done v (E.When f e) ≡ done w (E.When g d)
  same-When f g e d h k = done-When v f e ∙ ap₂ when h k ∙ sym (done-When w g d)
