-- Declarations by numbers and in words: the first of a word is the one of the least offset.
use Rattle.std.proofs.Common.{ℕ, suc, ◌≡◌, ◌<◌, ◌≤◌, Bool, true, false, cond, eqb, inl, inr, List, [], ◌∷◌, map, length, get_or, Option, Some, None, refl, sym, ap, ◌∙◌, arith}
use Rattle.std.specs.Prelude.{◌⊎◌, ◌≢◌, option_map}
use Rattle.std.proofs.lemmas.Bool.{eqb-true, eqb-false}
use Rattle.htn_base.specs.Different.{AreDifferent}
use Rattle.text_forms.specs.Words.{word_at}
use Rattle.gd_reader.specs.Terms.{Names}
use Rattle.hddl_reader.specs.declared.sections.RawHead.{RawHead}
use Rattle.plan_texts.specs.Types.{EachIs}
use Rattle.text_values.specs.form_spellings.InTable.{IsIn}
use Rattle.htn_base.specs.Lists.{One, Each, Has}
use Rattle.hddl_reader.specs.names.Words.{term_word}
use Rattle.name_binding.specs.declared.faults.Spot.{Spot}
use Rattle.name_binding.specs.declared.heads.Declared.{Declared}
use Rattle.name_binding.specs.declared.heads.Head.{Head}
use Rattle.name_binding.specs.Heads.{head_numbers, declared, next}
use Rattle.name_binding.specs.Places as numbers
use Rattle.name_binding.specs.Spots.{spot, IsInTextOrder}
use Rattle.name_binding.specs.Atoms.{place_of, head_faults}
use Rattle.text_values.specs.form_spellings.binding_laws.Known.{head_of}
use Rattle.text_values.proofs.form_spellings.binding_laws.Places.{same_number}

-- each later offset is greater
abbrev pub AreRising : List RawHead → Type 0
AreRising [] = Unit {0}
AreRising (h ∷ hs) = Each (λ (g : RawHead). h.name.at < g.name.at) hs × AreRising hs

abbrev ats : List RawHead → List ℕ
ats hs = map (λ (h : RawHead). h.name.at) hs

behind_first : (a : ℕ) (hs : List RawHead) → ((j : ℕ) (d : ℕ) → j < length (ats hs) → a < get_or (ats hs) j d) → Each (λ (g : RawHead). a < g.name.at) hs
behind_first a [] p = tt
behind_first a (h ∷ hs) p = (p 0 0 (omega arith), behind_first a hs (λ j d l. p (suc j) d (omega arith)))

pub rising : (hs : List RawHead) → IsInTextOrder (ats hs) → AreRising hs
rising [] p = tt
rising (h ∷ hs) p = (behind_first h.name.at hs (λ j d l. p 0 (suc j) d (omega arith) (omega arith)), rising hs (λ i j d l m. p (suc i) (suc j) d (omega arith) (omega arith)))

pub one_map : {X : Type 0} (P Q : X → Type 0) (xs : List X) → ((x : X) → P x → Q x) → One P xs → One Q xs
one_map P Q [] f h = absurd h
one_map P Q (x ∷ xs) f (inl h) = inl (f x h)
one_map P Q (x ∷ xs) f (inr h) = inr (one_map P Q xs f h)

each_map : {X : Type 0} (P Q : X → Type 0) (xs : List X) → ((x : X) → P x → Q x) → Each P xs → Each Q xs
each_map P Q [] f h = tt
each_map P Q (x ∷ xs) f h = (f x h.0, each_map P Q xs f h.1)

module _ (names : Names) (differ : AreDifferent names) (n : ℕ) (known : n < length names) where
  abbrev pub IsOf : RawHead → Type 0
  IsOf h = term_word names h.name ≡ word_at names n

  -- none with the word stands at a lesser offset
  abbrev pub IsFirstAmong : List RawHead → RawHead → Type 0
  IsFirstAmong hs h = IsOf h × Each (λ (g : RawHead). IsOf g → h.name.at ≤ g.name.at) hs

  abbrev answer : RawHead → List RawHead → Bool → Option Declared
  answer h hs b = cond b (Some (record { place = 0; arity = length h.params })) (option_map next (declared n (map head_of hs)))

  pub of_number : (h : RawHead) → eqb n h.name.name.number ≡ true → IsOf h
  of_number h e = ap (word_at names) (sym (eqb-true n h.name.name.number e))

  pub to_number : (h : RawHead) → IsIn names h.name.name → eqb n h.name.name.number ≡ false → IsOf h → ⊥
  to_number h i e w = eqb-false n h.name.name.number e (same_number names n h.name.name.number differ known i (sym w))

  none_front : (o : Option Declared) → option_map next o ≡ None → o ≡ None
  none_front None e = refl
  none_front (Some r) e = absurd (cc)

  -- no declaration has the word
  pub none_is : (hs : List RawHead) → EachIs (λ (h : RawHead). IsIn names h.name.name) hs → declared n (map head_of hs) ≡ None → One IsOf hs → ⊥
  none_is [] is e o = absurd o
  none_is (h ∷ hs) is e o = go (eqb n h.name.name.number) refl e o (none_is hs is.1)
    where
      go : (b : Bool) → eqb n h.name.name.number ≡ b → answer h hs b ≡ None → One IsOf (h ∷ hs) → (declared n (map head_of hs) ≡ None → One IsOf hs → ⊥) → ⊥
      go true i e o more = absurd (cc)
      go false i e (inl w) more = to_number h is.0 i w
      go false i e (inr o) more = more (none_front (declared n (map head_of hs)) e) o

  -- the declaration that is found is the first
  pub some_is : (hs : List RawHead) (r : Declared) → EachIs (λ (h : RawHead). IsIn names h.name.name) hs → AreRising hs → declared n (map head_of hs) ≡ Some r → One (λ h. IsFirstAmong hs h × (length h.params ≡ r.arity)) hs
  some_is [] r is up e = absurd (cc)
  some_is (h ∷ hs) r is up e = go (eqb n h.name.name.number) refl e (λ s f. some_is hs s is.1 up.1 f)
    where
      wider : (k : RawHead) → (IsOf h → ⊥) → IsFirstAmong hs k → IsFirstAmong (h ∷ hs) k
      wider k x f = (f.0, ((λ w. absurd (x w)), f.1))

      later : (o : Option Declared) → declared n (map head_of hs) ≡ o → (IsOf h → ⊥) → option_map next o ≡ Some r
          → ((s : Declared) → declared n (map head_of hs) ≡ Some s → One (λ k. IsFirstAmong hs k × (length k.params ≡ s.arity)) hs) → One (λ k. IsFirstAmong (h ∷ hs) k × (length k.params ≡ r.arity)) hs
      later None d x f more = absurd (cc)
      later (Some s) d x f more =
          let same : s.arity ≡ r.arity = cc in
          one_map (λ k. IsFirstAmong hs k × (length k.params ≡ s.arity)) (λ k. IsFirstAmong (h ∷ hs) k × (length k.params ≡ r.arity)) hs (λ k p. (wider k x p.0, p.1 ∙ same)) (more s d)

      go : (b : Bool) → eqb n h.name.name.number ≡ b → answer h hs b ≡ Some r → ((s : Declared) → declared n (map head_of hs) ≡ Some s → One (λ k. IsFirstAmong hs k × (length k.params ≡ s.arity)) hs)
          → One (λ k. IsFirstAmong (h ∷ hs) k × (length k.params ≡ r.arity)) (h ∷ hs)
      go true i e more = inl ((of_number h i, ((λ w. omega arith), each_map (λ (g : RawHead). h.name.at < g.name.at) (λ (g : RawHead). IsOf g → h.name.at ≤ g.name.at) hs (λ g l w. omega arith) up.0)), let same : length h.params ≡ r.arity = cc in same)
      go false i e more = inr (later (declared n (map head_of hs)) refl (to_number h is.0 i) e more)

  -- and no other is
  pub only_is : (hs : List RawHead) (r : Declared) (Q : RawHead → Type 0) → EachIs (λ (h : RawHead). IsIn names h.name.name) hs → AreRising hs → declared n (map head_of hs) ≡ Some r → One (λ h. IsFirstAmong hs h × Q h) hs → (h : RawHead) × Q h × (length h.params ≡ r.arity)
  only_is [] r Q is up e o = absurd o
  only_is (h ∷ hs) r Q is up e o = go (eqb n h.name.name.number) refl e o (λ s f. only_is hs s Q is.1 up.1 f)
    where
      beyond : (gs : List RawHead) → IsOf h → Each (λ (g : RawHead). h.name.at < g.name.at) gs → One (λ k. IsFirstAmong (h ∷ hs) k × Q k) gs → ⊥
      beyond [] w u o = absurd o
      beyond (g ∷ gs) w u (inl p) = let l = u.0 in let m = p.0.1.0 w in absurd (omega arith)
      beyond (g ∷ gs) w u (inr p) = beyond gs w u.1 p

      later : (o : Option Declared) → declared n (map head_of hs) ≡ o → option_map next o ≡ Some r → One (λ k. IsFirstAmong (h ∷ hs) k × Q k) hs
          → ((s : Declared) → declared n (map head_of hs) ≡ Some s → One (λ k. IsFirstAmong hs k × Q k) hs → (k : RawHead) × Q k × (length k.params ≡ s.arity)) → (k : RawHead) × Q k × (length k.params ≡ r.arity)
      later None d f o more = absurd (cc)
      later (Some s) d f o more =
          let same : s.arity ≡ r.arity = cc in
          let g = more s d (one_map (λ k. IsFirstAmong (h ∷ hs) k × Q k) (λ k. IsFirstAmong hs k × Q k) hs (λ k p. ((p.0.0, p.0.1.1), p.1)) o) in
          (g.0, g.1, g.2 ∙ same)

      go : (b : Bool) → eqb n h.name.name.number ≡ b → answer h hs b ≡ Some r → One (λ k. IsFirstAmong (h ∷ hs) k × Q k) (h ∷ hs)
          → ((s : Declared) → declared n (map head_of hs) ≡ Some s → One (λ k. IsFirstAmong hs k × Q k) hs → (k : RawHead) × Q k × (length k.params ≡ s.arity)) → (k : RawHead) × Q k × (length k.params ≡ r.arity)
      go true i e (inl p) more = (h, p.1, let same : length h.params ≡ r.arity = cc in same)
      go true i e (inr p) more = absurd (beyond hs (of_number h i) up.0 p)
      go false i e (inl p) more = absurd (to_number h is.0 i p.0.0)
      go false i e (inr p) more = later (declared n (map head_of hs)) refl e p more

  -- an unknown word or a wrong number of terms
  module _ (hs : List RawHead) (is : EachIs (λ (h : RawHead). IsIn names h.name.name) hs) (up : AreRising hs) (at' count code at : ℕ) where
    abbrev IsWrong : Type 0
    IsWrong = (at' ≡ at) × (((code ≡ 13) × (One (IsFirstAmong hs) hs → ⊥)) ⊎ ((code ≡ 17) × One (λ h. IsFirstAmong hs h × (length h.params ≢ count)) hs))

    by_arity : (r : Declared) → declared n (map head_of hs) ≡ Some r → (b : Bool) → eqb r.arity count ≡ b → Has (cond b [] (spot at' 17 ∷ [])) (spot at code) → IsWrong
    by_arity r f true e h = absurd h
    by_arity r f false e (inr h) = absurd h
    by_arity r f false e (inl h) = (
      ap (λ (s : Spot). s.at) h,
      inr (
        sym (ap (λ (s : Spot). s.code) h),
        one_map (λ h. IsFirstAmong hs h × (length h.params ≡ r.arity)) (λ h. IsFirstAmong hs h × (length h.params ≢ count)) hs
            (λ h p. (p.0, λ g. eqb-false r.arity count e (sym p.1 ∙ g))) (some_is hs r is up f),
      ),
    )

    pub wrong_there : (o : Option Declared) → declared n (map head_of hs) ≡ o → Has (head_faults at' count o) (spot at code) → IsWrong
    wrong_there None f (inl h) = (
      ap (λ (s : Spot). s.at) h,
      inl (
        sym (ap (λ (s : Spot). s.code) h),
        λ o. none_is hs is f (one_map (IsFirstAmong hs) IsOf hs (λ h p. p.0) o),
      ),
    )
    wrong_there None f (inr h) = absurd h
    wrong_there (Some r) f h = by_arity r f (eqb r.arity count) refl h

    pub wrong_back : (o : Option Declared) → declared n (map head_of hs) ≡ o → IsWrong → Has (head_faults at' count o) (spot at code)
    wrong_back None f (a, inl c) = inl (ap (λ x. spot x 13) a ∙ ap (spot at) (sym c.0))
    wrong_back None f (a, inr c) = absurd (none_is hs is f (one_map (λ h. IsFirstAmong hs h × (length h.params ≢ count)) IsOf hs (λ h p. p.0.0) c.1))
    wrong_back (Some r) f (a, inl c) = absurd (c.1 (one_map (λ h. IsFirstAmong hs h × (length h.params ≡ r.arity)) (IsFirstAmong hs) hs (λ h p. p.0) (some_is hs r is up f)))
    wrong_back (Some r) f (a, inr c) =
        let g = only_is hs r (λ h. length h.params ≢ count) is up f c.1 in
        by (eqb r.arity count) refl (λ e. g.1 (g.2 ∙ e))
      where
        by : (b : Bool) → eqb r.arity count ≡ b → (r.arity ≡ count → ⊥) → Has (cond b [] (spot at' 17 ∷ [])) (spot at code)
        by true e x = absurd (x (eqb-true r.arity count e))
        by false e x = inl (ap (λ y. spot y 17) a ∙ ap (spot at) (sym c.0))

  -- the place of what is found
  pub found_is : (at' count : ℕ) (heads : List Head) → head_faults at' count (declared n heads) ≡ [] → numbers.first_place n (head_numbers heads) ≡ Some (place_of (declared n heads))
  found_is at' count [] e = absurd (cc)
  found_is at' count (h ∷ hs) e = go (eqb n h.name.number) e (found_is at' count hs)
    where
      behind : (o : Option Declared) → declared n hs ≡ o → head_faults at' count (option_map next o) ≡ [] → (head_faults at' count (declared n hs) ≡ [] → numbers.first_place n (head_numbers hs) ≡ Some (place_of (declared n hs)))
          → option_map suc (numbers.first_place n (head_numbers hs)) ≡ Some (place_of (option_map next o))
      behind None d e more = absurd (cc)
      behind (Some s) d e more = ap (option_map suc) (more (ap (head_faults at' count) d ∙ e)) ∙ ap (λ o. Some (suc (place_of o))) d

      go : (b : Bool) → head_faults at' count (cond b (Some (record { place = 0; arity = h.arity })) (option_map next (declared n hs))) ≡ []
          → (head_faults at' count (declared n hs) ≡ [] → numbers.first_place n (head_numbers hs) ≡ Some (place_of (declared n hs)))
          → cond b (Some 0) (option_map suc (numbers.first_place n (head_numbers hs))) ≡ Some (place_of (cond b (Some (record { place = 0; arity = h.arity })) (option_map next (declared n hs))))
      go true e more = refl
      go false e more = behind (declared n hs) refl e more
