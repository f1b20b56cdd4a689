-- What was read into two tables of words and is the same but for the numbers of words.
use Rattle.std.proofs.Common.{◌≡◌, List, [], ◌∷◌, Option, Some, None}
use Rattle.htn_base.specs.declared.name.Name.{Name as Numbered}
use Rattle.text_forms.specs.Words.{word_at}
use Rattle.plan_texts.specs.Together.{Together}
use Rattle.gd_reader.specs.declared.term.RawTerm.{RawTerm}
use Rattle.gd_reader.specs.declared.term.RawAtom.{RawAtom}
use Rattle.gd_reader.specs.declared.typed_lists.RawParam.{RawParam}
use Rattle.gd_reader.specs.declared.formulas.RawFormula.{RawFormula}
use Rattle.gd_reader.specs.declared.formulas.RawFormula.TheVariants as raw
use Rattle.gd_reader.specs.declared.effects.RawEffect.{RawEffect}
use Rattle.gd_reader.specs.declared.effects.RawEffect.TheVariants as raw_effect
use Rattle.gd_reader.specs.Terms.{Names}
use Rattle.hddl_reader.specs.declared.networks.RawSub.{RawSub}
use Rattle.hddl_reader.specs.declared.networks.RawPair.{RawPair}
use Rattle.hddl_reader.specs.declared.networks.RawCon.{RawCon}
use Rattle.hddl_reader.specs.declared.networks.RawNet.{RawNet}
use Rattle.hddl_reader.specs.declared.sections.RawAction.{RawAction}
use Rattle.hddl_reader.specs.declared.sections.RawDomain.{RawDomain}
use Rattle.hddl_reader.specs.declared.sections.RawHead.{RawHead}
use Rattle.hddl_reader.specs.declared.sections.RawMethod.{RawMethod}
use Rattle.hddl_reader.specs.declared.sections.RawProblem.{RawProblem}

abbrev pub Both : {X : Type 0} → (X → X → Type 0) → Option X → Option X → Type 0
Both R None None = Unit {0}
Both R None (Some y) = ⊥
Both R (Some x) None = ⊥
Both R (Some x) (Some y) = R x y

module _ (t u : Names) where
  abbrev pub AlikeName : Numbered → Numbered → Type 0
  AlikeName n m = word_at t n.number ≡ word_at u m.number

  pub record AlikeTerm (x y : RawTerm) : Type 0 where
    pub word : AlikeName x.name y.name
    pub variable : x.variable ≡ y.variable
    pub at : x.at ≡ y.at

  abbrev pub AlikeTerms : List RawTerm → List RawTerm → Type 0
  AlikeTerms = Together AlikeTerm

  pub record AlikeAtom (a b : RawAtom) : Type 0 where
    pub head : AlikeTerm a.head b.head
    pub args : AlikeTerms a.args b.args

  pub record AlikeParam (x y : RawParam) : Type 0 where
    pub word : AlikeName x.name y.name
    pub at : x.at ≡ y.at
    pub types : AlikeTerms x.ty y.ty

  abbrev pub AlikeParams : List RawParam → List RawParam → Type 0
  AlikeParams = Together AlikeParam

  mutual
    pub data AlikeFormula : RawFormula → RawFormula → Type 0 where
      holds : (a b : RawAtom) → AlikeAtom a b → AlikeFormula (raw.Holds a) (raw.Holds b)
      equal : (x y z w : RawTerm) → AlikeTerm x z → AlikeTerm y w → AlikeFormula (raw.Equal x y) (raw.Equal z w)
      no : (f g : RawFormula) → AlikeFormula f g → AlikeFormula (raw.Not f) (raw.Not g)
      all : (fs gs : List RawFormula) → AlikeFormulas fs gs → AlikeFormula (raw.And fs) (raw.And gs)
      any : (fs gs : List RawFormula) → AlikeFormulas fs gs → AlikeFormula (raw.Or fs) (raw.Or gs)
      imply : (e f g h : RawFormula) → AlikeFormula e g → AlikeFormula f h → AlikeFormula (raw.Imply e f) (raw.Imply g h)
      every : (xs ys : List RawParam) (f g : RawFormula) → AlikeParams xs ys → AlikeFormula f g → AlikeFormula (raw.Forall xs f) (raw.Forall ys g)
      some : (xs ys : List RawParam) (f g : RawFormula) → AlikeParams xs ys → AlikeFormula f g → AlikeFormula (raw.Exists xs f) (raw.Exists ys g)

    pub data AlikeFormulas : List RawFormula → List RawFormula → Type 0 where
      none : AlikeFormulas [] []
      more : (f g : RawFormula) (fs gs : List RawFormula) → AlikeFormula f g → AlikeFormulas fs gs → AlikeFormulas (f ∷ fs) (g ∷ gs)

  mutual
    pub data AlikeEffect : RawEffect → RawEffect → Type 0 where
      adds : (a b : RawAtom) → AlikeAtom a b → AlikeEffect (raw_effect.Add a) (raw_effect.Add b)
      deletes : (a b : RawAtom) → AlikeAtom a b → AlikeEffect (raw_effect.Delete a) (raw_effect.Delete b)
      all_of : (es fs : List RawEffect) → AlikeEffects es fs → AlikeEffect (raw_effect.And es) (raw_effect.And fs)
      for_every : (xs ys : List RawParam) (e f : RawEffect) → AlikeParams xs ys → AlikeEffect e f → AlikeEffect (raw_effect.Forall xs e) (raw_effect.Forall ys f)
      when : (f g : RawFormula) (e h : RawEffect) → AlikeFormula f g → AlikeEffect e h → AlikeEffect (raw_effect.When f e) (raw_effect.When g h)

    pub data AlikeEffects : List RawEffect → List RawEffect → Type 0 where
      no_more : AlikeEffects [] []
      and_more : (e f : RawEffect) (es fs : List RawEffect) → AlikeEffect e f → AlikeEffects es fs → AlikeEffects (e ∷ es) (f ∷ fs)

  pub record AlikeSub (s r : RawSub) : Type 0 where
    pub id : Both AlikeTerm s.id r.id
    pub atom : AlikeAtom s.atom r.atom
    pub at : s.at ≡ r.at

  pub record AlikePair (x y : RawPair) : Type 0 where
    pub first : AlikeTerm x.first y.first
    pub then : AlikeTerm x.then y.then
    pub at : x.at ≡ y.at

  pub record AlikeCon (x y : RawCon) : Type 0 where
    pub left : AlikeTerm x.left y.left
    pub right : AlikeTerm x.right y.right

  pub record AlikeNet (n m : RawNet) : Type 0 where
    pub subs : Together AlikeSub n.subs m.subs
    pub ordered : n.ordered ≡ m.ordered
    pub pairs : Together AlikePair n.pairs m.pairs
    pub constraints : Together AlikeCon n.constraints m.constraints

  pub record AlikeHead (h g : RawHead) : Type 0 where
    pub name : AlikeTerm h.name g.name
    pub params : AlikeParams h.params g.params

  pub record AlikeMethod (m n : RawMethod) : Type 0 where
    pub head : AlikeHead m.head n.head
    pub task : AlikeAtom m.task n.task
    pub pre : AlikeFormula m.pre n.pre
    pub net : AlikeNet m.net n.net

  pub record AlikeAction (a b : RawAction) : Type 0 where
    pub head : AlikeHead a.head b.head
    pub pre : AlikeFormula a.pre b.pre
    pub eff : AlikeEffect a.eff b.eff

  pub record AlikeDomain (d e : RawDomain) : Type 0 where
    pub types : AlikeParams d.types e.types
    pub constants : AlikeParams d.constants e.constants
    pub predicates : Together AlikeHead d.predicates e.predicates
    pub tasks : Together AlikeHead d.tasks e.tasks
    pub methods : Together AlikeMethod d.methods e.methods
    pub actions : Together AlikeAction d.actions e.actions

  pub record AlikeProblem (p q : RawProblem) : Type 0 where
    pub objects : AlikeParams p.objects q.objects
    pub params : AlikeParams p.params q.params
    pub net : AlikeNet p.net q.net
    pub init : Together AlikeAtom p.init q.init
    pub goal : AlikeFormula p.goal q.goal
