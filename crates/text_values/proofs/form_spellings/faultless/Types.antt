-- The types of a domain that is bound to a sound value have no cycle, and are not too many.
use Rattle.std.proofs.Common.{ℕ, ◌≡◌, ◌<◌, ◌≤◌, ◌+◌, inl, inr, List, [], ◌∷◌, ◌++◌, map, length, codes, Option, Some, refl, sym, ap, subst, ◌∙◌, arith}
use Rattle.std.specs.Prelude.{◌⊎◌, Contains}
use Rattle.text_forms.specs.Words.{Word, word_at}
use Rattle.plan_model.proofs.task_networks.Different.{no_more}
use Rattle.gd_reader.specs.Terms.{Names}
use Rattle.gd_reader.specs.declared.term.RawTerm.{RawTerm}
use Rattle.gd_reader.specs.declared.typed_lists.RawParam.{RawParam}
use Rattle.hddl_reader.specs.declared.sections.RawDomain.{RawDomain}
use Rattle.plan_model.specs.declared.types.Parent.{Parent}
use Rattle.plan_model.specs.Typing.{Leads, stay, climb}
use Rattle.plan_texts.specs.Declared.{Declared}
use Rattle.plan_texts.specs.Types.{EachIs, Mentions, IsPairOf}
use Rattle.plan_texts.specs.Types as value
use Rattle.plan_texts.proofs.Members.{each-has, has-contains, contains-has}
use Rattle.plan_texts.proofs.Places.{first-different}
use Rattle.text_values.specs.form_spellings.Bound.{parent_of, IsBoundType}
use Rattle.text_values.specs.form_spellings.BoundTexts.{AreBoundTypes}
use Rattle.htn_base.specs.Lists.{One, Has}
use Rattle.hddl_reader.specs.names.Types.{mentioned, IsType, IsParent, TypeCycle, IsOneTooMany}
use Rattle.hddl_reader.specs.names.Types.{direct, through}
use Rattle.hddl_reader.specs.names.Types as words
use Rattle.hddl_reader.specs.names.Words.{WordAt, term_word, param_word, term_at}
use Rattle.text_values.proofs.form_spellings.faultless.Lists.{one_has, has_one, has_front, has_back, beside, beside_back}

-- one parent is written at most
abbrev pub HasOneType : RawParam → Type 0
HasOneType x = length x.ty ≤ 1

one_front : {X : Type 0} (P : X → Type 0) (xs ys : List X) → One P xs → One P (xs ++ ys)
one_front P [] ys o = absurd o
one_front P (x ∷ xs) ys (inl p) = inl p
one_front P (x ∷ xs) ys (inr o) = inr (one_front P xs ys o)

one_back : {X : Type 0} (P : X → Type 0) (xs ys : List X) → One P ys → One P (xs ++ ys)
one_back P [] ys o = o
one_back P (x ∷ xs) ys o = inr (one_back P xs ys o)

one_either : {X : Type 0} (P : X → Type 0) (xs ys : List X) → One P (xs ++ ys) → One P xs ⊎ One P ys
one_either P [] ys o = inr o
one_either P (x ∷ xs) ys (inl o) = inl (inl o)
one_either P (x ∷ xs) ys (inr o) = elim (one_either P xs ys o) [ inl i ↦ inl (inr i) | inr i ↦ inr i ]

module _ (names : Names) where
  -- a type that is written, and the parent behind it
  own_mentioned : (w : Word) (xs : List RawParam) (x : RawParam) → value.Has xs x → param_word names x ≡ w → One (λ (m : WordAt). m.word ≡ w) (mentioned names xs)
  own_mentioned w [] x h e = absurd h
  own_mentioned w (y ∷ xs) x (inl f) e = inl (ap (param_word names) f ∙ e)
  own_mentioned w (y ∷ xs) x (inr h) e = inr (one_back (λ (m : WordAt). m.word ≡ w) (map (term_at names) y.ty) (mentioned names xs) (own_mentioned w xs x h e))

  parent_mentioned : (w : Word) (xs : List RawParam) (x : RawParam) → value.Has xs x → One (λ (m : WordAt). m.word ≡ w) (map (term_at names) x.ty) → One (λ (m : WordAt). m.word ≡ w) (mentioned names xs)
  parent_mentioned w [] x h e = absurd h
  parent_mentioned w (y ∷ xs) x (inl f) e = inr (one_front (λ (m : WordAt). m.word ≡ w) (map (term_at names) y.ty) (mentioned names xs) (subst (λ (x : RawParam). One (λ (m : WordAt). m.word ≡ w) (map (term_at names) x.ty)) (sym f) e))
  parent_mentioned w (y ∷ xs) x (inr h) e = inr (one_back (λ (m : WordAt). m.word ≡ w) (map (term_at names) y.ty) (mentioned names xs) (parent_mentioned w xs x h e))

  -- a parent that is written alone
  said_parent : (w : Word) (ts : List RawTerm) → length ts ≤ 1 → One (λ (t : RawTerm). term_word names t ≡ w) ts → (v : Declared) → parent_of v names ts ≡ Some w
  said_parent w [] l o v = absurd o
  said_parent w (t ∷ []) l (inl e) v = ap Some e
  said_parent w (t ∷ []) l (inr o) v = absurd o
  said_parent w (t ∷ s ∷ ts) l o v = absurd (omega arith)

  parent_said : (w : Word) (ts : List RawTerm) (v : Declared) → Some w ≡ parent_of v names ts → One (λ (m : WordAt). m.word ≡ w) (map (term_at names) ts)
  parent_said w [] v e = absurd (cc)
  parent_said w (t ∷ ts) v e = inl (cc)

  unmapped : (w : Word) (ts : List RawTerm) → One (λ (m : WordAt). m.word ≡ w) (map (term_at names) ts) → One (λ (t : RawTerm). term_word names t ≡ w) ts
  unmapped w [] o = absurd o
  unmapped w (t ∷ ts) (inl e) = inl e
  unmapped w (t ∷ ts) (inr o) = inr (unmapped w ts o)

  module _ (v : Declared) (types : List Word) (parents : List Parent) (d : RawDomain) (b : AreBoundTypes v names types parents d.types) where
    item_mentioned : (w : Word) → Mentions b.items w → One (λ (m : WordAt). m.word ≡ w) (mentioned names d.types)
    item_mentioned w (inl (o, h)) = let g = beside_back (IsBoundType v names) d.types b.items (w, o) b.bound h in own_mentioned w d.types g.0 g.1 (sym g.2.0)
    item_mentioned w (inr (c, h)) = let g = beside_back (IsBoundType v names) d.types b.items (c, Some w) b.bound h in let x = g.0 in parent_mentioned w d.types g.0 g.1 (parent_said w x.ty v g.2.1)

    -- a type of the value is a type of the domain
    pub is_type : (w : Word) → value.Has types w → IsType names d w
    is_type w h = elim ((b.same_words w).0 h) [ inl e ↦ inl e | inr m ↦ inr (item_mentioned w m) ]

    module _ (one : EachIs HasOneType d.types) where
      -- each written type is an item
      item_of : (x : RawParam) → value.Has d.types x → (o : Option Word) × value.Has b.items (param_word names x, o) × (o ≡ parent_of v names x.ty)
      item_of x h =
          let g = beside (IsBoundType v names) (λ y. y ≡ x) d.types b.items b.bound (has_one (λ y. y ≡ x) d.types x h refl) in
          let i = g.1 in
          let r = subst (λ y. IsBoundType v names y i) g.5 g.4 in
          (i.1, subst (λ (w : Word). value.Has b.items (w, i.1)) r.0 g.3, r.1)

      mention_of : (w : Word) (x : RawParam) → value.Has d.types x → (param_word names x ≡ w) ⊎ One (λ (m : WordAt). m.word ≡ w) (map (term_at names) x.ty) → Mentions b.items w
      mention_of w x h (inl e) = let i = item_of x h in inl (i.0, subst (λ (w : Word). value.Has b.items (w, i.0)) e i.1)
      mention_of w x h (inr o) =
          let i = item_of x h in
          let p = said_parent w x.ty (each-has HasOneType d.types x one h) (unmapped w x.ty o) v in
          inr (param_word names x, subst (λ (o : Option Word). value.Has b.items (param_word names x, o)) (i.2 ∙ p) i.1)

      mentions : (w : Word) (xs : List RawParam) → ((x : RawParam) → value.Has xs x → value.Has d.types x) → One (λ (m : WordAt). m.word ≡ w) (mentioned names xs) → Mentions b.items w
      mentions w [] within o = absurd o
      mentions w (x ∷ xs) within (inl e) = mention_of w x (within x (inl refl)) (inl e)
      mentions w (x ∷ xs) within (inr o) = go (one_either (λ (m : WordAt). m.word ≡ w) (map (term_at names) x.ty) (mentioned names xs) o) (mentions w xs (λ y h. within y (inr h)))
        where
          go : One (λ (m : WordAt). m.word ≡ w) (map (term_at names) x.ty) ⊎ One (λ (m : WordAt). m.word ≡ w) (mentioned names xs) → (One (λ (m : WordAt). m.word ≡ w) (mentioned names xs) → Mentions b.items w) → Mentions b.items w
          go (inl p) more = mention_of w x (within x (inl refl)) (inr p)
          go (inr p) more = more p

      -- a type of the domain is a type of the value
      pub type_has : (w : Word) → One (λ (m : WordAt). m.word ≡ w) (mentioned names d.types) → value.Has types w
      type_has w o = (b.same_words w).1 (inr (mentions w d.types (λ x h. h) o))

      abbrev SameWord : WordAt → Word → Type 0
      SameWord m w = m.word ≡ w

      pub not_too_many : (most at : ℕ) → length types ≤ most + 1 → IsOneTooMany most (mentioned names d.types) at → ⊥
      not_too_many most at l t = omega (arith, l, t.most_stand, no_more (codes "object" ∷ t.word ∷ t.earlier) types (fresh, (new, t.different)) within)
        where
          earlier_is : (w : Word) → Contains t.earlier w → Has t.earlier w
          earlier_is w c = has_one (λ y. y ≡ w) t.earlier w (contains-has t.earlier w c) refl

          plain : (w : Word) (n : ℕ) → One (λ (m : WordAt). (m.word ≡ w) × (m.at < n)) (mentioned names d.types) → value.Has types w
          plain w n o = let g = one_has (λ (m : WordAt). (m.word ≡ w) × (m.at < n)) (mentioned names d.types) o in type_has w (has_one (λ (m : WordAt). m.word ≡ w) (mentioned names d.types) g.0 g.1 g.2.0)

          here : value.Has types t.word
          here = let g = one_has (λ (m : WordAt). (m.word ≡ t.word) × (m.at ≡ at)) (mentioned names d.types) t.said in type_has t.word (has_one (λ (m : WordAt). m.word ≡ t.word) (mentioned names d.types) g.0 g.1 g.2.0)

          new : Contains t.earlier t.word → ⊥
          new c = t.new (earlier_is t.word c)

          fresh : Contains (t.word ∷ t.earlier) (codes "object") → ⊥
          fresh c = elim (contains-has (t.word ∷ t.earlier) (codes "object") c) [
            | inl e ↦ t.not_object e
            | inr h ↦ ((t.are_before (codes "object")).0 (has_one (λ y. y ≡ codes "object") t.earlier (codes "object") h refl)).0 refl
          ]

          of : (w : Word) → value.Has (codes "object" ∷ t.word ∷ t.earlier) w → value.Has types w
          of w (inl e) = (b.same_words w).1 (inl (sym e))
          of w (inr (inl e)) = subst (value.Has types) e here
          of w (inr (inr h)) = plain w at ((t.are_before w).0 (has_one (λ y. y ≡ w) t.earlier w h refl)).1

          within : (w : Word) → Contains (codes "object" ∷ t.word ∷ t.earlier) w → Contains types w
          within w c = has-contains types w (of w (contains-has (codes "object" ∷ t.word ∷ t.earlier) w c))

      module _ (inside : EachIs (λ (x : Parent). (x.child < length types) × (x.parent < length types) × (0 < x.child)) parents) (acyclic : (x : Parent) → value.Has parents x → Leads parents x.parent x.child → ⊥) where
        same_number : (i j : ℕ) → i < length types → j < length types → word_at types i ≡ word_at types j → i ≡ j
        same_number i j l m e =
            let p = first-different types i b.different l in
            let q = first-different types j b.different m in
            cc

        -- the pair of a written type and its parent
        pair_of : (x : RawParam) (q : Word) → value.Has d.types x → One (λ (t : RawTerm). term_word names t ≡ q) x.ty → IsPairOf types parents (param_word names x) q
        pair_of x q h o =
            let i = item_of x h in
            let p = said_parent q x.ty (each-has HasOneType d.types x one h) o v in
            (b.same_pairs (param_word names x) q).1 (inl (subst (λ (o : Option Word). value.Has b.items (param_word names x, o)) (i.2 ∙ p) i.1))

        chain_then : (i j k : ℕ) → Leads parents i j → Contains parents (record { child = j; parent = k }) → Leads parents i k
        chain_then i j k stay c = climb c stay
        chain_then i j k (climb {parent = m} a l) c = climb a (chain_then m j k l c)

        abbrev Chain : Word → Word → Type 0
        Chain u w = (i : ℕ) × (j : ℕ) × (i < length types) × (j < length types) × (word_at types i ≡ u) × (word_at types j ≡ w) × Leads parents i j

        -- a chain of words is one of numbers
        chain_of : (front : List RawParam) → ((x : RawParam) → value.Has front x → value.Has d.types x) → (u w : Word) → words.Leads (IsParent names front) u w → Chain u w
        chain_of front within u w (direct p) =
            let g = one_has (λ (x : RawParam). (param_word names x ≡ u) × One (λ (t : RawTerm). term_word names t ≡ w) x.ty) front p in
            let q = pair_of g.0 w (within g.0 g.1) g.2.1 in
            let z = q.0 in
            let l = each-has (λ (x : Parent). (x.child < length types) × (x.parent < length types) × (0 < x.child)) parents z inside q.1 in
            (z.child, z.parent, l.0, l.1, q.2 ∙ g.2.0, q.3, climb (has-contains parents z q.1) stay)
        chain_of front within u w (through {w = m} c p) =
            let r = chain_of front within u m c in
            let g = one_has (λ (x : RawParam). (param_word names x ≡ m) × One (λ (t : RawTerm). term_word names t ≡ w) x.ty) front p in
            let q = pair_of g.0 w (within g.0 g.1) g.2.1 in
            let z = q.0 in
            let l = each-has (λ (x : Parent). (x.child < length types) × (x.parent < length types) × (0 < x.child)) parents z inside q.1 in
            let same = same_number r.1 z.child r.3 l.0 (r.5 ∙ sym g.2.0 ∙ sym q.2) in
            (r.0, z.parent, r.2, l.1, r.4, q.3, chain_then r.0 z.child z.parent (subst (Leads parents r.0) same r.6) (has-contains parents z q.1))

        pub no_cycle : (at : ℕ) → TypeCycle names d at → ⊥
        no_cycle at (x, e, first) =
            let here : value.Has d.types x = subst (λ xs. value.Has xs x) (sym first.parts) (has_back first.front (x ∷ first.rest) x (inl refl)) in
            let within : (y : RawParam) → value.Has first.front y → value.Has d.types y = λ y h. subst (λ xs. value.Has xs y) (sym first.parts) (has_front first.front (x ∷ first.rest) y h) in
            let g = one_has (λ (t : RawTerm). (param_word names x ≡ codes "object") ⊎ ((term_word names t ≡ param_word names x) ⊎ words.Leads (IsParent names first.front) (term_word names t) (param_word names x))) x.ty first.is in
            let q = pair_of x (term_word names g.0) here (has_one (λ (t : RawTerm). term_word names t ≡ term_word names g.0) x.ty g.0 g.1 refl) in
            let z = q.0 in
            let l = each-has (λ (x : Parent). (x.child < length types) × (x.parent < length types) × (0 < x.child)) parents z inside q.1 in
            let m = l.0 in
            let some = l.2 in
            elim g.2 [
              | inl f ↦ (let n = same_number z.child 0 l.0 (omega arith) (q.2 ∙ f ∙ sym b.first) in omega arith)
              | inr (inl f) ↦ acyclic z q.1 (subst (Leads parents z.parent) (same_number z.parent z.child l.1 l.0 (q.3 ∙ f ∙ sym q.2)) stay)
              | inr (inr c) ↦ (
                  let r = chain_of first.front within (term_word names g.0) (param_word names x) c in
                  acyclic z q.1 (subst (λ i. Leads parents i z.child) (same_number r.0 z.parent r.2 l.1 (r.4 ∙ sym q.3)) (subst (Leads parents r.0) (same_number r.1 z.child r.3 l.0 (r.5 ∙ sym q.2)) r.6)))
            ]
