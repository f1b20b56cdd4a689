-- Subtasks and constraints of a network that is bound to a sound one have no fault.
use Rattle.std.proofs.Common.{ℕ, ◌≡◌, inl, inr, List, length, Some, sym, subst}
use Rattle.text_forms.specs.Words.{Word, first_place}
use Rattle.gd_reader.specs.Terms.{Names}
use Rattle.gd_reader.specs.declared.term.RawAtom.{RawAtom}
use Rattle.hddl_reader.specs.declared.networks.RawNet.{RawNet}
use Rattle.hddl_reader.specs.declared.networks.RawSub.{RawSub}
use Rattle.hddl_reader.specs.declared.networks.RawCon.{RawCon}
use Rattle.hddl_reader.specs.declared.sections.RawDomain.{RawDomain}
use Rattle.plan_model.specs.declared.networks.Child.{Child}
use Rattle.plan_model.specs.declared.networks.Constraint.{Constraint}
use Rattle.plan_model.specs.declared.networks.Head.{Head}
use Rattle.plan_model.specs.declared.networks.Head.TheVariants.{Task}
use Rattle.plan_model.specs.declared.networks.Pair.{Pair}
use Rattle.plan_model.specs.declared.terms.Term.{Term}
use Rattle.plan_model.specs.declared.values.Hddl.{Hddl}
use Rattle.plan_texts.specs.Declared.{Declared}
use Rattle.plan_texts.specs.Networks.{head_of}
use Rattle.plan_texts.specs.SoundValue.{IsSoundHead, IsSoundChild}
use Rattle.plan_texts.specs.Together.{Together}
use Rattle.plan_texts.specs.Types.{EachIs}
use Rattle.plan_texts.proofs.Members.{each-has}
use Rattle.plan_texts.proofs.Together.{together-length}
use Rattle.text_values.specs.form_spellings.Bound.{IsBoundTerm}
use Rattle.text_values.specs.form_spellings.BoundNetworks.{IsBoundConstraint, IsBoundSubtask, IsBoundNetwork}
use Rattle.text_values.specs.form_spellings.BoundSchemas.{IsBoundHead}
use Rattle.hddl_reader.specs.names.Standing.{IsOfNetwork}
use Rattle.hddl_reader.specs.names.Uses.{Scope, Use, subtask, task, IsOfAtom, IsOneOf}
use Rattle.hddl_reader.specs.names.Words.{term_word}
use Rattle.text_values.proofs.form_spellings.faultless.Lists.{beside}
use Rattle.text_values.proofs.form_spellings.faultless.Uses.{IsApplicable, IsGood}
use Rattle.text_values.proofs.form_spellings.faultless.Parts.{HasWordsOf, two_good, terms_good}

-- what is called is declared, with as many parameters
pub record HasCallsOf (names : Names) (d : RawDomain) (h : Hddl) (tasks actions : List Word) : Type 0 where
  pub subtasks : (a : RawAtom) (x : Head) → head_of (first_place (term_word names a.head) tasks) (first_place (term_word names a.head) actions) ≡ Some x → IsSoundHead h x (length a.args) → IsApplicable names d subtask a
  pub tasks_of : (a : RawAtom) (n : ℕ) → first_place (term_word names a.head) tasks ≡ Some n → IsSoundHead h (Task n) (length a.args) → IsApplicable names d task a

module _ (names : Names) (d : RawDomain) (objects : List Word) (v : Declared) (arities : List ℕ) (k : HasWordsOf names d objects v arities) (h : Hddl) (tasks actions : List Word) (calls : HasCallsOf names d h tasks actions) where
  abbrev Good : Scope → Use → Type 0
  Good = IsGood names d objects

  pub head_good : (scope : Scope) (a : RawAtom) (n : ℕ) (ts : List Term) (u : Use) → IsBoundHead v names tasks scope a n ts → IsSoundHead h (Task n) (length ts) → IsOfAtom task a u → Good scope u
  head_good scope a n ts u b s (inl e) = subst (Good scope) (sym e) (calls.tasks_of a n b.0 (subst (IsSoundHead h (Task n)) (sym (together-length (IsBoundTerm v names scope) a.args ts b.1)) s))
  head_good scope a n ts u b s (inr o) = terms_good names d objects v arities k scope a.args ts u b.1 o

  subtask_good : (scope inner : Scope) (r : RawSub) (c : Child) (u : Use) → IsBoundSubtask v names tasks actions scope r c → IsSoundChild h inner c → IsOfAtom subtask r.atom u → Good scope u
  subtask_good scope inner r c u b s o = go r.atom c.head c.args b.1 s.0 o
    where
      go : (a : RawAtom) (x : Head) (ts : List Term) → (head_of (first_place (term_word names a.head) tasks) (first_place (term_word names a.head) actions) ≡ Some x) × Together (IsBoundTerm v names scope) a.args ts
          → IsSoundHead h x (length ts) → IsOfAtom subtask a u → Good scope u
      go a x ts b s (inl e) = subst (Good scope) (sym e) (calls.subtasks a x b.0 (subst (IsSoundHead h x) (sym (together-length (IsBoundTerm v names scope) a.args ts b.1)) s))
      go a x ts b s (inr o) = terms_good names d objects v arities k scope a.args ts u b.1 o

  pub network_good : (scope inner : Scope) (n : RawNet) (cs : List Child) (ps : List Pair) (xs : List Constraint) (u : Use) → IsBoundNetwork v names tasks actions scope n cs ps xs → EachIs (IsSoundChild h inner) cs → IsOfNetwork n u → Good scope u
  network_good scope inner n cs ps xs u b s (inl o) =
      let g = beside (IsBoundSubtask v names tasks actions scope) (λ (r : RawSub). IsOfAtom subtask r.atom u) n.subs cs b.subtasks o in
      subtask_good scope inner g.0 g.1 u g.4 (each-has (IsSoundChild h inner) cs g.1 s g.3) g.5
  network_good scope inner n cs ps xs u b s (inr o) =
      let g = beside (IsBoundConstraint v names scope) (λ (c : RawCon). IsOneOf c.left c.right u) n.constraints xs b.limits o in
      let r = g.0 in
      let x = g.1 in
      two_good names d objects v arities k scope r.left r.right x.left x.right u g.4.1 g.4.2 g.5
