-- A cycle of types by numbers and in words.
use Rattle.std.proofs.Common.{ℕ, ◌≡◌, ◌<◌, false, inl, inr, List, [], ◌∷◌, length, refl, sym, ap, subst, ◌∙◌}
use Rattle.std.specs.Prelude.{◌⊎◌, codes}
use Rattle.htn_base.specs.Different.{AreDifferent}
use Rattle.text_forms.specs.Words.{Word, word_at}
use Rattle.plan_model.specs.task_networks.Order.{Precedes, direct, through}
use Rattle.gd_reader.specs.Terms.{Names}
use Rattle.gd_reader.specs.declared.term.RawTerm.{RawTerm}
use Rattle.gd_reader.specs.declared.typed_lists.RawParam.{RawParam}
use Rattle.plan_texts.specs.Types.{EachIs}
use Rattle.text_values.specs.form_spellings.EachName.{OfParam}
use Rattle.text_values.specs.form_spellings.InTable.{IsNameIn, AreParamsIn}
use Rattle.htn_base.specs.Lists.{One}
use Rattle.hddl_reader.specs.names.Types as words
use Rattle.hddl_reader.specs.names.Types.{Leads}
use Rattle.hddl_reader.specs.names.Words.{term_word, param_word}
use Rattle.name_binding.specs.Cycle as numbers
use Rattle.text_values.specs.form_spellings.binding_laws.TypeCycles.{HasTypeCycle, HasSectionFaults}
use Rattle.text_values.specs.form_spellings.binding_laws.TypeWords.{OfAllTypes}
use Rattle.text_values.proofs.form_spellings.binding_laws.Heads.{one_map}
use Rattle.text_values.proofs.form_spellings.binding_laws.OrderWords.{first_by}
use Rattle.text_values.proofs.form_spellings.binding_laws.Places.{same_number}
use Rattle.text_values.proofs.form_spellings.binding_laws.TooManyWords.{has_too_many_types}

module _ (names : Names) (differ : AreDifferent names) where
  abbrev Known : ℕ → Type 0
  Known n = n < length names

  abbrev AreTerms : List RawTerm → Type 0
  AreTerms ts = EachIs (λ (t : RawTerm). Known t.name.number) ts

  -- one of these terms, of this number and of its word
  term_there : (ts : List RawTerm) (p : ℕ) → One (λ (t : RawTerm). t.name.number ≡ p) ts → One (λ (t : RawTerm). term_word names t ≡ word_at names p) ts
  term_there ts p o = one_map (λ (t : RawTerm). t.name.number ≡ p) (λ (t : RawTerm). term_word names t ≡ word_at names p) ts (λ t e. ap (word_at names) e) o

  term_back : (ts : List RawTerm) (w : Word) → AreTerms ts → One (λ (t : RawTerm). term_word names t ≡ w) ts → (p : ℕ) × Known p × (word_at names p ≡ w) × One (λ (t : RawTerm). t.name.number ≡ p) ts
  term_back [] w k o = absurd o
  term_back (t ∷ ts) w k (inl e) = (t.name.number, k.0, e, inl refl)
  term_back (t ∷ ts) w k (inr o) = let r = term_back ts w k.1 o in (r.0, r.1, r.2, inr r.3)

  parent_there : (xs : List RawParam) (c p : ℕ) → numbers.IsParent xs c p → words.IsParent names xs (word_at names c) (word_at names p)
  parent_there [] c p o = absurd o
  parent_there (x ∷ xs) c p (inl o) = inl (ap (word_at names) o.0, term_there x.ty p o.1)
  parent_there (x ∷ xs) c p (inr o) = inr (parent_there xs c p o)

  parent_back : (xs : List RawParam) (c : ℕ) (w : Word) → AreParamsIn names xs → Known c → words.IsParent names xs (word_at names c) w → (p : ℕ) × Known p × (word_at names p ≡ w) × numbers.IsParent xs c p
  parent_back [] c w k l o = absurd o
  parent_back (x ∷ xs) c w k l (inl o) =
      let r = term_back x.ty w k.0.1 o.1 in
      (r.0, r.1, r.2, inl (same_number names x.name.number c differ k.0.0 l o.0, r.3))
  parent_back (x ∷ xs) c w k l (inr o) = let r = parent_back xs c w k.1 l o in (r.0, r.1, r.2, inr r.3)

  module _ (xs : List RawParam) (k : AreParamsIn names xs) where
    leads_there : (a b : ℕ) → Precedes (numbers.IsParent xs) a b → Leads (words.IsParent names xs) (word_at names a) (word_at names b)
    leads_there a b (direct p) = Leads.direct (parent_there xs a b p)
    leads_there a b (through {j = c} l p) = Leads.through (leads_there a c l) (parent_there xs c b p)

    leads_back : (a : ℕ) (w : Word) → Known a → Leads (words.IsParent names xs) (word_at names a) w → (b : ℕ) × Known b × (word_at names b ≡ w) × Precedes (numbers.IsParent xs) a b
    leads_back a w l (Leads.direct p) = let r = parent_back xs a w k l p in (r.0, r.1, r.2, direct r.3)
    leads_back a w l (Leads.through {w = u} q p) =
        let s = leads_back a u l q in
        let r = parent_back xs s.0 w k s.1 (subst (λ v. words.IsParent names xs v w) (sym s.2) p) in
        (r.0, r.1, r.2, through s.3 r.3)

    to_number : (a b : ℕ) → Known a → Known b → Leads (words.IsParent names xs) (word_at names a) (word_at names b) → Precedes (numbers.IsParent xs) a b
    to_number a b l m q =
        let r = leads_back a (word_at names b) l q in
        subst (λ c. Precedes (numbers.IsParent xs) a c) (same_number names r.0 b differ r.1 m r.2) r.3

  module _ (object : ℕ) (known : Known object) (is_object : word_at names object ≡ codes "object") where
    closes_there : (xs : List RawParam) (x : RawParam) → AreParamsIn names xs → OfParam (IsNameIn names) false x → numbers.ClosesCycle object xs x → words.ClosesCycle names xs x
    closes_there xs x k i o = go x.ty i.1 o
      where
        go : (ts : List RawTerm) → AreTerms ts → One (λ (t : RawTerm). (x.name.number ≡ object) ⊎ ((t.name.number ≡ x.name.number) ⊎ Precedes (numbers.IsParent xs) t.name.number x.name.number)) ts
            → One (λ (t : RawTerm). (param_word names x ≡ codes "object") ⊎ ((term_word names t ≡ param_word names x) ⊎ Leads (words.IsParent names xs) (term_word names t) (param_word names x))) ts
        go [] l o = absurd o
        go (t ∷ ts) l (inl (inl e)) = inl (inl (ap (word_at names) e ∙ is_object))
        go (t ∷ ts) l (inl (inr (inl e))) = inl (inr (inl (ap (word_at names) e)))
        go (t ∷ ts) l (inl (inr (inr q))) = inl (inr (inr (leads_there xs k t.name.number x.name.number q)))
        go (t ∷ ts) l (inr o) = inr (go ts l.1 o)

    closes_back : (xs : List RawParam) (x : RawParam) → AreParamsIn names xs → OfParam (IsNameIn names) false x → words.ClosesCycle names xs x → numbers.ClosesCycle object xs x
    closes_back xs x k i o = go x.ty i.1 o
      where
        go : (ts : List RawTerm) → AreTerms ts → One (λ (t : RawTerm). (param_word names x ≡ codes "object") ⊎ ((term_word names t ≡ param_word names x) ⊎ Leads (words.IsParent names xs) (term_word names t) (param_word names x))) ts
            → One (λ (t : RawTerm). (x.name.number ≡ object) ⊎ ((t.name.number ≡ x.name.number) ⊎ Precedes (numbers.IsParent xs) t.name.number x.name.number)) ts
        go [] l o = absurd o
        go (t ∷ ts) l (inl (inl e)) = inl (inl (same_number names x.name.number object differ i.0 known (e ∙ sym is_object)))
        go (t ∷ ts) l (inl (inr (inl e))) = inl (inr (inl (same_number names t.name.number x.name.number differ l.0 i.0 e)))
        go (t ∷ ts) l (inl (inr (inr q))) = inl (inr (inr (to_number xs k t.name.number x.name.number l.0 i.0 q)))
        go (t ∷ ts) l (inr o) = inr (go ts l.1 o)

pub has_type_cycle : OfAllTypes HasTypeCycle
has_type_cycle names object d code at is = (
  λ c. (c.0, (c.1.0, c.1.1, first_by (OfParam (IsNameIn names) false) (numbers.ClosesCycle object) (words.ClosesCycle names) d.types c.1.0 is.words_in (closes_there names is.differ object is.known is.is_object) (closes_back names is.differ object is.known is.is_object) c.1.2)),
  λ c. (c.0, (c.1.0, c.1.1, first_by (OfParam (IsNameIn names) false) (words.ClosesCycle names) (numbers.ClosesCycle object) d.types c.1.0 is.words_in (closes_back names is.differ object is.known is.is_object) (closes_there names is.differ object is.known is.is_object) c.1.2)),
)

pub has_section_faults : OfAllTypes HasSectionFaults
has_section_faults names object d l code at is = (
  λ f. elim f [ inl m ↦ inl (m.0, (has_too_many_types names object d l at is).0 m.1) | inr c ↦ inr ((has_type_cycle names object d code at is).0 c) ],
  λ f. elim f [ inl m ↦ inl (m.0, (has_too_many_types names object d l at is).1 m.1) | inr c ↦ inr ((has_type_cycle names object d code at is).1 c) ],
)
