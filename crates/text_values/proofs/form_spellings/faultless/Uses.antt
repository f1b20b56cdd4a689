-- Declarations and uses without a fault.
use Rattle.std.proofs.Common.{ℕ, ◌≡◌, ◌≢◌, ◌≤◌, true, false, List, length, map, sym, ap, ◌∙◌, arith}
use Rattle.htn_base.specs.Different.{AreDifferent}
use Rattle.text_forms.specs.Words.{Word}
use Rattle.gd_reader.specs.Terms.{Names}
use Rattle.gd_reader.specs.declared.term.RawAtom.{RawAtom}
use Rattle.gd_reader.specs.declared.term.RawTerm.{RawTerm}
use Rattle.hddl_reader.specs.declared.sections.RawDomain.{RawDomain}
use Rattle.hddl_reader.specs.declared.sections.RawHead.{RawHead}
use Rattle.plan_texts.specs.Types.{EachIs}
use Rattle.plan_texts.specs.Types as value
use Rattle.plan_texts.proofs.Members.{each-has}
use Rattle.htn_base.specs.Lists.{Has}
use Rattle.hddl_reader.specs.names.Named.{declared, meant, StandsFor, IsUnknown, HasWrongArity, UnknownType, UnknownName, UnknownObject, UnknownVariable, WrongArity}
use Rattle.hddl_reader.specs.names.Types.{IsType}
use Rattle.hddl_reader.specs.names.Uses.{Scope, Use, declares, applies, refers, Kind}
use Rattle.hddl_reader.specs.names.Words.{term_word}
use Rattle.text_values.proofs.form_spellings.faultless.Lists.{one_has, has_one, has_each, same_item}

module _ (names : Names) (d : RawDomain) where
  abbrev pub head_word : RawHead → Word
  head_word h = term_word names h.name

  -- the name is declared, with as many parameters
  pub record IsApplicable (kind : Kind) (a : RawAtom) : Type 0 where
    pub known : IsUnknown names d kind a → ⊥
    pub arity : HasWrongArity names d kind a → ⊥

  -- a declaration of the word, where no two declare one word
  pub applicable : (kind : Kind) (a : RawAtom) (g : RawHead) → AreDifferent (map head_word (declared d kind)) → ((h : RawHead) → value.Has (meant d kind) h → value.Has (declared d kind) h)
      → value.Has (meant d kind) g → head_word g ≡ term_word names a.head → length g.params ≡ length a.args → IsApplicable kind a
  applicable kind a g differ within member is count =
      let same : (h : RawHead) → value.Has (declared d kind) h → head_word h ≡ term_word names a.head → g ≡ h = λ h k e. same_item head_word (declared d kind) g h differ (within g member) k (is ∙ sym e) in
      let first : (h : RawHead) → value.Has (declared d kind) h → head_word h ≡ term_word names a.head → g.name.at ≤ h.name.at = λ h k e. (let f = ap (λ (h : RawHead). h.name.at) (same h k e) in omega arith) in
      record {
        known = λ u. u (has_one (StandsFor names d kind a) (meant d kind) g member (is, has_each (λ (h : RawHead). head_word h ≡ term_word names a.head → g.name.at ≤ h.name.at) (declared d kind) first));
        arity = λ w.
            let o = one_has (λ h. StandsFor names d kind a h × (length h.params ≢ length a.args)) (meant d kind) w in
            o.2.1 (sym (ap (λ (h : RawHead). length h.params) (same o.0 (within o.0 o.1) o.2.0.0)) ∙ count);
      }

  module _ (objects : List Word) where
    -- a variable in force, or an object
    pub record IsReferred (here : Scope) (t : RawTerm) : Type 0 where
      pub variable : t.variable ≡ true → Has here (term_word names t)
      pub object : t.variable ≡ false → Has objects (term_word names t)

    abbrev pub IsGood : Scope → Use → Type 0
    IsGood here (declares x) = EachIs (λ (t : RawTerm). IsType names d (term_word names t)) x.ty
    IsGood here (applies kind a) = IsApplicable kind a
    IsGood here (refers t) = IsReferred here t

    module _ (Stands : Scope → Use → Type 0) (good : (here : Scope) (u : Use) → Stands here u → IsGood here u) (at : ℕ) where
      pub no_type : UnknownType names d Stands objects at → ⊥
      no_type (here, x, s, o) =
          let g = one_has (λ (t : RawTerm). (t.at ≡ at) × (IsType names d (term_word names t) → ⊥)) x.ty o in
          g.2.1 (each-has (λ (t : RawTerm). IsType names d (term_word names t)) x.ty g.0 (good here (declares x) s) g.1)

      pub no_name : (kind : Kind) → UnknownName names d Stands objects kind at → ⊥
      no_name kind (here, a, e, s, u) = (good here (applies kind a) s).known u

      pub no_object : UnknownObject names d Stands objects at → ⊥
      no_object (here, t, e, v, s, n) = n ((good here (refers t) s).object v)

      pub no_variable : UnknownVariable names d Stands objects at → ⊥
      no_variable (here, t, e, v, s, n) = n ((good here (refers t) s).variable v)

      pub no_arity : WrongArity names d Stands objects at → ⊥
      no_arity (kind, here, a, e, s, w) = (good here (applies kind a) s).arity w
