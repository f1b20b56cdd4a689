-- What holds of each name of a domain and a problem, and of the parenthesis in front of each subtask and each ordering.
-- Source: this project's.
use Rattle.std.specs.Prelude.{ℕ, ◌≡◌, ◌⊎◌, Bool, true, false, codes, IfSome}
use Rattle.std.specs.Option.{unwrap_or}
use Rattle.htn_base.specs.declared.name.Name.{Name as Numbered}
use Rattle.text_forms.specs.Words.{Word}
use Rattle.plan_texts.specs.Types.{EachIs}
use Rattle.gd_reader.specs.declared.term.RawTerm.{RawTerm}
use Rattle.hddl_reader.specs.declared.networks.RawSub.{RawSub}
use Rattle.hddl_reader.specs.declared.networks.RawPair.{RawPair}
use Rattle.hddl_reader.specs.declared.networks.RawCon.{RawCon}
use Rattle.hddl_reader.specs.declared.networks.RawNet.{RawNet}
use Rattle.hddl_reader.specs.declared.sections.RawAction.{RawAction}
use Rattle.hddl_reader.specs.declared.sections.RawDomain.{RawDomain}
use Rattle.hddl_reader.specs.declared.sections.RawHead.{RawHead}
use Rattle.hddl_reader.specs.declared.sections.RawMethod.{RawMethod}
use Rattle.hddl_reader.specs.declared.sections.RawProblem.{RawProblem}
use Rattle.text_values.specs.form_spellings.EachName.{OfTerm, OfAtom, OfParams, OfFormula, OfEffect}

-- Opens says that a parenthesis opens at the first offset, and that the word comes behind it at the second.
module _ (Is : Bool → ℕ → Numbered → Type 0) (Opens : ℕ → ℕ → Word → Type 0) where
  -- a parenthesis at this offset, and the word of the term behind it
  abbrev pub OpensTerm : ℕ → RawTerm → Type 0
  OpensTerm place t = (w : Word) × Opens place t.at w

  -- the first name of a subtask is its id, or its task where it has none
  pub record OfSub (s : RawSub) : Type 0 where
    pub id : IfSome s.id (OfTerm Is)
    pub atom : OfAtom Is s.atom
    pub place : OpensTerm s.at (unwrap_or s.id s.atom.head)

  -- what comes first is the first id, or the sign
  pub record OfPair (x : RawPair) : Type 0 where
    pub first : OfTerm Is x.first
    pub then : OfTerm Is x.then
    pub place : OpensTerm x.at x.first ⊎ ((at : ℕ) × Opens x.at at (codes "<"))
    -- neither is a variable
    pub ids : (x.first.variable ≡ false) × (x.then.variable ≡ false)

  abbrev pub OfCon : RawCon → Type 0
  OfCon c = OfTerm Is c.left × OfTerm Is c.right

  abbrev pub OfNet : RawNet → Type 0
  OfNet net = EachIs OfSub net.subs × EachIs OfPair net.pairs × EachIs OfCon net.constraints

  abbrev pub OfHead : RawHead → Type 0
  OfHead h = OfTerm Is h.name × OfParams Is true h.params

  abbrev pub OfMethod : RawMethod → Type 0
  OfMethod m = OfHead m.head × OfAtom Is m.task × OfFormula Is m.pre × OfNet m.net

  abbrev pub OfAction : RawAction → Type 0
  OfAction a = OfHead a.head × OfFormula Is a.pre × OfEffect Is a.eff

  -- its own name is written somewhere
  pub record OfDomain (d : RawDomain) : Type 0 where
    pub name : (at : ℕ) × Is false at d.name
    pub types : OfParams Is false d.types
    pub constants : OfParams Is false d.constants
    pub predicates : EachIs OfHead d.predicates
    pub tasks : EachIs OfHead d.tasks
    pub methods : EachIs OfMethod d.methods
    pub actions : EachIs OfAction d.actions

  pub record OfProblem (p : RawProblem) : Type 0 where
    pub name : (at : ℕ) × Is false at p.name
    pub objects : OfParams Is false p.objects
    pub params : OfParams Is true p.params
    pub net : OfNet p.net
    pub init : EachIs (OfAtom Is) p.init
    pub goal : OfFormula Is p.goal
