-- The types of the printed problem: their words, their unions and their pairs.
use Rattle.std.proofs.Common.{ℕ, zero, suc, ◌≡◌, ◌+◌, ◌<◌, inl, inr, true, List, [], ◌∷◌, map, length, codes, refl, ap, sym, subst, ◌∙◌, arith, true≢false}
use Rattle.htn_base.specs.Escapes.{escaped}
use Rattle.htn_base.specs.declared.name.Name.{Name}
use Rattle.text_forms.specs.Words.{Word, word_at}
use Rattle.plan_model.specs.declared.types.Parent.{Parent}
use Rattle.plan_model.specs.declared.types.Types.{Types}
use Rattle.plan_model.specs.declared.values.Compiled.{Compiled}
use Rattle.plan_model.specs.Typing.{Leads}
use Rattle.plan_texts.specs.Declared.{Declared, named, kinds, one_word}
use Rattle.plan_texts.specs.Declared as Declared
use Rattle.htn_base.specs.Different.{AreDifferent}
use Rattle.plan_texts.specs.Types.{Has, EachIs}
use Rattle.plan_texts.specs.Printable.{IsPlain, IsUnion}
use Rattle.plan_texts.specs.SoundValue.{IsSoundHddl, arities}
use Rattle.plan_texts.specs.SpellsHddl.{hddl_types, hddl_words}
use Rattle.plan_texts.proofs.Basics.{apart}
use Rattle.plan_texts.proofs.DifferentWords.{different_by}
use Rattle.plan_texts.proofs.Members.{each-has, each-lacks, lacks-each, has-of_map, has-to_map, has-at, length-map}
use Rattle.slot_encoding.proofs.places.Places.{same_place}
use Rattle.slot_encoding.specs.SourceParts.{name, retyped}
use Rattle.slot_encoding.specs.EncodedNames.{encoded_types}
use Rattle.slot_encoding.proofs.places.PrintedTypes.{retyped_once, retyped_pair, slot_pair, object_pair, printed_parents, from_printed_object, from_retyped, length-names}
use Rattle.slot_encoding.proofs.places.SoundTypes.{some_type}
use Rattle.slot_encoding.proofs.places.ListPlaces.{length-joined}
use Rattle.slot_encoding.specs.EncodedWords.{own_word, own_types, type_words}
use Rattle.slot_encoding.proofs.words.Lists.{each-map, each-of_map, different-by}
use Rattle.slot_encoding.proofs.words.PlainWords.{is_generated, escape_is_none, plain-escaped, escaped-once}
use Rattle.slot_encoding.proofs.words.TableWords.{named-name, words-named, words-made}
use Rattle.slot_encoding.proofs.words.PrintedWords.{printed_words, printed_arities}

-- the words
module _ (c : Compiled) (names : List Word) (b : ℕ) (known : EachIs (Has names) (type_words c)) where
  abbrev with_names : List Name → Compiled
  with_names ns = record c { hddl = record c.hddl { types = record c.hddl.types { names = ns } } }

  pub types-named : Declared.type_words names (encoded_types c names b) ≡ type_words c
  types-named = go c.hddl.types.names known
    where
      go : (ns : List Name) → EachIs (Has names) (codes "object" ∷ codes "htn_slot" ∷ codes "htn_object" ∷ own_types c ns)
          → Declared.type_words names (encoded_types (with_names ns) names b) ≡ codes "object" ∷ codes "htn_slot" ∷ codes "htn_object" ∷ own_types c ns
      go [] k =
          let e = words-named names (λ (w : Word). w) (codes "object" ∷ codes "htn_slot" ∷ codes "htn_object" ∷ []) (λ w h. each-has (Has names) (codes "object" ∷ codes "htn_slot" ∷ codes "htn_object" ∷ []) w k h) in
          e
      go (n ∷ others) (o, (s, (t, k))) =
          let e = words-named names (λ (w : Word). w) (codes "object" ∷ codes "htn_slot" ∷ codes "htn_object" ∷ []) (λ w h. each-has (Has names) (codes "object" ∷ codes "htn_slot" ∷ codes "htn_object" ∷ []) w (o, (s, (t, tt))) h) in
          let r = words-made (λ (x : Name). name names (own_word c x)) (named names) (own_word c) others (λ x h. named-name (own_word c x) names (each-has (Has names) (map (own_word c) others) (own_word c x) k (has-to_map (own_word c) others x h))) in
          (λ i. word_at (e i) 0 ∷ word_at (e i) 1 ∷ word_at (e i) 2 ∷ r i)

module _ (c : Compiled) (names : List Word) (b : ℕ) (sound : IsSoundHddl c.hddl) (known : EachIs (Has names) (type_words c)) where
  abbrev source : Types
  source = c.hddl.types

  abbrev printed : Types
  printed = encoded_types c names b

  abbrev words : List Word
  words = Declared.type_words names printed

  some : 0 < length source.names
  some = some_type c.hddl sound

  pub count-types : length (encoded_types c names b).names ≡ length c.hddl.types.names + 2
  count-types = length-names c names b some

  pub retyped_within : (t : ℕ) → t < length c.hddl.types.names → retyped t < length (encoded_types c names b).names
  retyped_within zero l = let h = count-types in omega arith
  retyped_within (suc t) l = let h = count-types in omega arith

  plain : EachIs IsPlain (type_words c)
  plain = ((refl, refl), ((refl, refl), ((refl, refl), go source.names sound.words.types)))
    where
      go : (ns : List Name) → EachIs IsPlain (map (named c.hddl.names) ns) → EachIs IsPlain (own_types c ns)
      go [] p = tt
      go (n ∷ others) p = each-map IsPlain (own_word c) others (λ x h. plain-escaped (named c.hddl.names x) (each-has (λ (x : Name). IsPlain (named c.hddl.names x)) others x (each-of_map IsPlain (named c.hddl.names) others p.1) h))

  pub types_plain : EachIs IsPlain (Declared.type_words names (encoded_types c names b))
  types_plain = subst (EachIs IsPlain) (sym (types-named c names b known)) plain

  no_escape : (w u : Word) → is_generated w ≡ true → w ≡ escaped u → ⊥
  no_escape w u g e = true≢false (sym g ∙ ap is_generated e ∙ escape_is_none u)

  differ : AreDifferent (type_words c)
  differ = go source.names sound.first sound.words.types_differ
    where
      go : (ns : List Name) → word_at (map (named c.hddl.names) ns) 0 ≡ codes "object" → AreDifferent (map (named c.hddl.names) ns) → AreDifferent (codes "object" ∷ codes "htn_slot" ∷ codes "htn_object" ∷ own_types c ns)
      go [] f d = different_by (codes "object" ∷ codes "htn_slot" ∷ codes "htn_object" ∷ []) refl
      go (n ∷ others) f d = (
        each-lacks (codes "htn_slot" ∷ codes "htn_object" ∷ map (own_word c) others) (codes "object") (apart _ _ refl, (apart _ _ refl, each-map (λ u. codes "object" ≡ u → ⊥) (own_word c) others (λ x h e. each-has (λ (x : Name). named c.hddl.names n ≡ named c.hddl.names x → ⊥) others x (each-of_map (λ u. named c.hddl.names n ≡ u → ⊥) (named c.hddl.names) others (lacks-each (map (named c.hddl.names) others) (named c.hddl.names n) d.0)) h (f ∙ escaped-once (codes "object") (named c.hddl.names x) e)))),
        (
          each-lacks (codes "htn_object" ∷ map (own_word c) others) (codes "htn_slot") (apart _ _ refl, each-map (λ u. codes "htn_slot" ≡ u → ⊥) (own_word c) others (λ x h e. no_escape (codes "htn_slot") (named c.hddl.names x) refl e)),
          (
            each-lacks (map (own_word c) others) (codes "htn_object") (each-map (λ u. codes "htn_object" ≡ u → ⊥) (own_word c) others (λ x h e. no_escape (codes "htn_object") (named c.hddl.names x) refl e)),
            different-by (named c.hddl.names) (own_word c) others (λ x y h k e. escaped-once (named c.hddl.names x) (named c.hddl.names y) e) d.1,
          ),
        ),
      )

  pub types_differ : AreDifferent (Declared.type_words names (encoded_types c names b))
  types_differ = subst AreDifferent (sym (types-named c names b known)) differ

  pub first_type : word_at (Declared.type_words names (encoded_types c names b)) 0 ≡ codes "object"
  first_type = ap (λ ws. word_at ws 0) (types-named c names b known)

  -- unions
  abbrev v : Declared
  v = hddl_words c.hddl

  abbrev v' : Declared
  v' = printed_words c names b

  abbrev ar' : List ℕ
  ar' = printed_arities c names b

  abbrev put : ℕ → Word
  put t = word_at words (retyped t)

  abbrev old : ℕ → Word
  old t = word_at (hddl_types c.hddl) t

  within : (t : ℕ) → t < length source.names → retyped t < length words
  within t l = let h = retyped_within t l in let e = length-map (named names) printed.names in omega arith

  union : (us : List ℕ) → EachIs (λ t. t < length source.names) us → IsUnion v (arities c.hddl) (map old us) → IsUnion v' ar' (map (word_at words) (map retyped us))
  union us l u = (
    (let a = u.0 in let e = length-map old us in let f = length-map retyped us in let g = length-map (word_at words) (map retyped us) in omega arith),
    members us l,
    twice us (different-by old put us (λ x y h k e. ap old (retyped_once x y (same_place words (retyped x) (retyped y) types_differ (within x (each-has (λ t. t < length source.names) us x l h)) (within y (each-has (λ t. t < length source.names) us y l k)) e))) u.2),
  )
    where
      members : (us : List ℕ) → EachIs (λ t. t < length source.names) us → EachIs (Has words) (map (word_at words) (map retyped us))
      members [] l = tt
      members (t ∷ us) l = (has-at words (retyped t) (within t l.0), members us l.1)

      twice : (us : List ℕ) → AreDifferent (map put us) → AreDifferent (map (word_at words) (map retyped us))
      twice us d = subst AreDifferent (sym (same us)) d
        where
          same : (us : List ℕ) → map (word_at words) (map retyped us) ≡ map put us
          same [] = refl
          same (t ∷ us) = ap (λ z. put t ∷ z) (same us)

  pub unions_printed : EachIs (IsUnion (printed_words c names b) (printed_arities c names b)) (printed_words c names b).unions
  unions_printed = go source.unions sound.unions sound.words.unions
    where
      go : (uss : List (List ℕ)) → EachIs (EachIs (λ t. t < length source.names)) uss → EachIs (IsUnion v (arities c.hddl)) (map (map old) uss) → EachIs (IsUnion v' ar') (map (map (word_at words)) (map (map retyped) uss))
      go [] l u = tt
      go (us ∷ uss) l u = (union us l.0 u.0, go uss l.1 u.1)

  -- the numbers of types and unions
  kinds-long : (d : Declared) → length (kinds d) ≡ length d.types + length d.unions
  kinds-long d = length-joined (map one_word d.types) d.unions ∙ ap (λ n. n + length d.unions) (length-map one_word d.types)

  pub kinds_on : (t : ℕ) → t < length (kinds (hddl_words c.hddl)) → retyped t < length (kinds (printed_words c names b))
  kinds_on t l = go t l
    where
      same : length (kinds v') ≡ length (kinds v) + 2
      same =
          let a = kinds-long v in let d = kinds-long v' in let e = count-types in
          let f = length-map (named c.hddl.names) source.names in let g = length-map (named names) printed.names in
          let i : length v.unions ≡ length source.unions = length-map (map old) source.unions in
          let j : length v'.unions ≡ length (map (map retyped) source.unions) = length-map (map (word_at words)) (map (map retyped) source.unions) in
          let k = length-map (map retyped) source.unions in
          omega arith

      go : (t : ℕ) → t < length (kinds v) → retyped t < length (kinds v')
      go zero l = let h = same in omega arith
      go (suc t) l = let h = same in omega arith

  pub generated_kinds : (t : ℕ) → t < 3 → t < length (kinds (printed_words c names b))
  generated_kinds t l = let h = kinds-long v' in let e = count-types in let g = length-map (named names) printed.names in let s = some in omega arith

  -- pairs
  abbrev InRange : Parent → Type 0
  InRange x = (x.child < length printed.names) × (x.parent < length printed.names) × (0 < x.child)

  pub parents_printed : EachIs (λ (x : Parent). (x.child < length (encoded_types c names b).names) × (x.parent < length (encoded_types c names b).names) × (0 < x.child)) (encoded_types c names b).parents
  parents_printed = (small 1 (omega arith) (omega arith), (small 2 (omega arith) (omega arith), go source.parents sound.parents))
    where
      small : (k : ℕ) → k < 3 → 0 < k → InRange (record { child = k; parent = 0 })
      small k l z = let e = count-types in let s = some in (omega arith, omega arith, z)

      positive : (t : ℕ) → 0 < retyped t
      positive zero = omega arith
      positive (suc t) = omega arith

      go : (xs : List Parent) → EachIs (λ (x : Parent). (x.child < length source.names) × (x.parent < length source.names) × (0 < x.child)) xs → EachIs InRange (map retyped_pair xs)
      go [] e = tt
      go (x ∷ xs) e = ((retyped_within x.child e.0.0, retyped_within x.parent e.0.1, positive x.child), go xs e.1)

  pub has_parent_printed : (k : ℕ) → 0 < k → k < length (encoded_types c names b).names → (x : Parent) × Has (encoded_types c names b).parents x × (x.child ≡ k)
  has_parent_printed zero z l = absurd (omega arith)
  has_parent_printed (suc zero) z l = (slot_pair, inl refl, refl)
  has_parent_printed (suc (suc zero)) z l = (object_pair, inr (inl refl), refl)
  has_parent_printed (suc (suc (suc t))) z l =
      let e = count-types in
      let (x, h, f) = sound.has_parent (suc t) (omega arith) (omega arith) in
      let g : retyped (suc t) ≡ suc (suc (suc t)) = omega arith in
      (retyped_pair x, inr (inr (has-to_map retyped_pair source.parents x h)), ap retyped f ∙ g)

  pub no_cycle_printed : (x : Parent) → Has (encoded_types c names b).parents x → Leads (encoded_types c names b).parents x.parent x.child → ⊥
  no_cycle_printed x (inl e) l = let h = from_printed_object source.parents 1 (subst (λ (z : Parent). Leads (printed_parents source.parents) z.parent z.child) (sym e) l) in omega arith
  no_cycle_printed x (inr (inl e)) l = let h = from_printed_object source.parents 2 (subst (λ (z : Parent). Leads (printed_parents source.parents) z.parent z.child) (sym e) l) in omega arith
  no_cycle_printed x (inr (inr m)) l =
      let (y, h, e) = has-of_map retyped_pair source.parents x m in
      let k = subst (λ (z : Parent). Leads (printed_parents source.parents) z.parent z.child) (sym e) l in
      elim (from_retyped source.parents (retyped y.parent) (retyped y.child) y.parent k refl) [
        | inl f ↦ zero_not y.child f
        | inr (u, f, g) ↦ sound.no_cycle y h (subst (Leads source.parents y.parent) (sym (retyped_once y.child u f)) g)
      ]
    where
      zero_not : (t : ℕ) → retyped t ≡ 0 → ⊥
      zero_not zero e = omega arith
      zero_not (suc t) e = omega arith
