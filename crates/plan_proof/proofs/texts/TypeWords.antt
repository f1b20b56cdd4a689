-- Being in a type goes by the words of the type.
use Rattle.std.proofs.Common.{ℕ, zero, suc, ◌≡◌, ◌↔◌, inl, inr, ◌<◌, ◌≤◌, ◌+◌, ◌-◌, Bool, true, false, nat_lt, if◌then◌else◌, List, [], ◌∷◌, map, length, slice_get, get_or, Option, Some, None, refl, ap, sym, subst, ⊎_elim, ◌∙◌, arith}
use Rattle.std.proofs.str.Laws.{order}
use Rattle.std.proofs.lemmas.List.{get_or-append-add, get_or_append_left}
use Rattle.std.specs.Prelude.{Contains}
use Rattle.text_forms.specs.Words.{Word, is_name, word_at}
use Rattle.plan_texts.specs.Declared.{named, one_word, union_words, kind_at}
use Rattle.htn_base.specs.Different.{AreDifferent}
use Rattle.plan_texts.specs.Types.{Has, EachIs, IsPairOf}
use Rattle.plan_texts.specs.SpellsPddl.{pddl_types, pddl_words}
use Rattle.plan_texts.specs.Alike.{object_said, AreAlikePddl}
use Rattle.plan_model.specs.declared.types.Parent.{Parent}
use Rattle.plan_model.specs.declared.types.Object.{Object}
use Rattle.plan_model.specs.declared.values.Pddl.{Pddl}
use Rattle.plan_model.specs.Typing.{Leads, stay, climb, union_at, IsBelow, InType}
use borrow.Author.Tests.{ltb-true, ltb-false}
use Rattle.plan_texts.proofs.Members.{each-has, has-to_map, has-of_map, length-map}
use Rattle.plan_texts.proofs.Places.{each-at}
use Rattle.plan_proof.specs.SoundWords.{HasSoundWords}
use Rattle.plan_texts.proofs.Members.{contains-has, has-contains}
use Rattle.slot_encoding.proofs.places.Places.{any-has, has-any, in_range, same_place, get-map, get-map-none, each-at-some, same-at}

data WordChain (P : Word → Word → Type 0) : Word → Word → Type 0 where
  here : (w : Word) → WordChain P w w
  then_on : (w u t : Word) → P w u → WordChain P u t → WordChain P w t

map-chain : (P Q : Word → Word → Type 0) → ((w u : Word) → P w u → Q w u) → (a b : Word) → WordChain P a b → WordChain Q a b
map-chain P Q h a b (here w) = here w
map-chain P Q h a b (then_on w u t e f) = then_on w u t (h w u e) (map-chain P Q h u t f)

to-words : (types : List Word) (parents : List Parent) (s t : ℕ) → Leads parents s t → WordChain (IsPairOf types parents) (word_at types s) (word_at types t)
to-words types parents s t (stay {ty}) = here (word_at types ty)
to-words types parents s t (climb {ty} {parent} {of} h f) = then_on _ (word_at types parent) _ (record { child = ty; parent = parent }, contains-has parents (record { child = ty; parent = parent }) h, refl, refl) (to-words types parents parent of f)

leads-range : (n : ℕ) (parents : List Parent) → EachIs (λ (x : Parent). (x.child < n) × (x.parent < n)) parents → (s t : ℕ) → s < n → Leads parents s t → t < n
leads-range n parents e s t l (stay {ty}) = l
leads-range n parents e s t l (climb {ty} {parent} {of} h f) = leads-range n parents e parent of (each-has _ parents (record { child = ty; parent = parent }) e (contains-has parents (record { child = ty; parent = parent }) h)).1 f

from-words : (types : List Word) (parents : List Parent) → AreDifferent types → EachIs (λ (x : Parent). (x.child < length types) × (x.parent < length types)) parents
    → (w u : Word) → WordChain (IsPairOf types parents) w u → (s : ℕ) → s < length types → word_at types s ≡ w → (t : ℕ) × (t < length types) × (word_at types t ≡ u) × Leads parents s t
from-words types parents d e w u (here w') s l f = (s, l, f, stay)
from-words types parents d e w u (then_on w' u' t' p c) s l f =
    let b = each-has _ parents p.0 e p.1 in
    let g : p.0.child ≡ s = same_place types p.0.child s d b.0 l (p.2 ∙ sym f) in
    let r = from-words types parents d e u' t' c p.0.parent b.1 p.3 in
    (r.0, r.1, r.2, climb (subst (λ z. Contains parents (record { child = z; parent = p.0.parent })) g (has-contains parents p.0 p.1)) r.3)

-- the object is in the type of this word, or in one of the types of these words
abbrev pub InWord : Pddl → ℕ → Word → Type 0
InWord c o w = (x : Object) × (t : ℕ) × (slice_get c.objects o ≡ Some x) × (t < length (pddl_types c)) × (word_at (pddl_types c) t ≡ w) × IsBelow c.types x.ty t

abbrev pub InWords : Pddl → ℕ → List Word → Type 0
InWords c o ws = (w : Word) × Has ws w × InWord c o w

module _ (c : Pddl) (h : HasSoundWords c) where
  abbrev types : List Word
  types = pddl_types c

  abbrev kind : ℕ → List Word
  kind t = kind_at (pddl_words c) t

  types-length : length types ≡ length c.types.names
  types-length = length-map (named c.names) c.types.names

  part-range : (o t : ℕ) (x : Object) → slice_get c.objects o ≡ Some x → IsBelow c.types x.ty t → t < length types
  part-range o t x s (inl z) = let l = in_range types 0 (ap is_name h.first) in omega arith
  part-range o t x s (inr z) = leads-range (length types) c.types.parents h.parents x.ty t (each-at-some _ c.objects o x h.objects_typed s) z

  -- a type's own word, or the words of a union's types
  kind-one : (t : ℕ) → t < length types → kind t ≡ word_at types t ∷ []
  kind-one t l = get_or_append_left (map one_word types) (union_words c.names c.types) [] t (let e = length-map one_word types in omega arith) ∙ at types t l
    where
      at : (ws : List Word) (k : ℕ) → k < length ws → get_or (map one_word ws) k [] ≡ word_at ws k ∷ []
      at [] k l = absurd (omega arith)
      at (w ∷ ws) zero l = refl
      at (w ∷ ws) (suc k) l = at ws k (omega arith)

  kind-behind : (k : ℕ) → kind (length c.types.names + k) ≡ get_or (union_words c.names c.types) k []
  kind-behind k =
      let e : length c.types.names + k ≡ length (map one_word types) + k = omega (arith, types-length, length-map one_word types) in
      ap kind e ∙ get_or-append-add (map one_word types) (union_words c.names c.types) k []

  kind-union : (k : ℕ) (us : List ℕ) → slice_get c.types.unions k ≡ Some us → kind (length c.types.names + k) ≡ map (word_at types) us
  kind-union k us e = kind-behind k ∙ get-map (map (word_at types)) c.types.unions k [] us e

  kind-none : (k : ℕ) → slice_get c.types.unions k ≡ None → kind (length c.types.names + k) ≡ []
  kind-none k e = kind-behind k ∙ get-map-none (map (word_at types)) c.types.unions k [] e

  named-at : (k : ℕ) → k < length types → is_name (word_at types k) ≡ true
  named-at k l = each-at (λ u. is_name u ≡ true) types k h.types_named l

  -- a union's number stands behind those of the names
  union-behind : (t : ℕ) (us : List ℕ) → union_at c.types t ≡ Some us → (length c.types.names ≤ t) × (slice_get c.types.unions (t - length c.types.names) ≡ Some us)
  union-behind t us e = go (nat_lt t (length c.types.names)) refl e
    where
      go : (b : Bool) → nat_lt t (length c.types.names) ≡ b → (if b then None else slice_get c.types.unions (t - length c.types.names)) ≡ Some us → (length c.types.names ≤ t) × (slice_get c.types.unions (t - length c.types.names) ≡ Some us)
      go true f g = cc
      go false f g = (ltb-false t (length c.types.names) f, g)

  behind-union : (t : ℕ) (us : List ℕ) → length c.types.names ≤ t → slice_get c.types.unions (t - length c.types.names) ≡ Some us → union_at c.types t ≡ Some us
  behind-union t us l e = go (nat_lt t (length c.types.names)) refl
    where
      go : (b : Bool) → nat_lt t (length c.types.names) ≡ b → (if b then None else slice_get c.types.unions (t - length c.types.names)) ≡ Some us
      go true f = absurd (let g = ltb-true t (length c.types.names) f in omega arith)
      go false f = e

  to : (o t : ℕ) → InType c.types c.objects o t → InWords c o (kind t)
  to o t (x, s, inl p) =
      let l = part-range o t x s p in
      (word_at types t, subst (λ ws. Has ws (word_at types t)) (sym (kind-one t l)) (inl refl), (x, t, s, l, refl, p))
  to o t (x, s, inr u) =
      let b = union-behind t u.0 u.1 in
      let a = any-has (IsBelow c.types x.ty) u.0 u.2 in
      let l = part-range o a.0 x s a.2 in
      let g = b.0 in
      let n : t ≡ length c.types.names + (t - length c.types.names) = omega arith in
      let e : kind t ≡ map (word_at types) u.0 = ap kind n ∙ kind-union (t - length c.types.names) u.0 b.1 in
      (word_at types a.0, subst (λ ws. Has ws (word_at types a.0)) (sym e) (has-to_map (word_at types) u.0 a.0 a.1), (x, a.0, s, l, refl, a.2))

  from : (o t : ℕ) → InWords c o (kind t) → InType c.types c.objects o t
  from o t e = ⊎_elim (λ l. named l) (λ g. behind (let n = types-length in omega arith)) (order t (length types))
    where
      named : t < length types → InType c.types c.objects o t
      named l = elim (subst (λ ws. Has ws e.0) (kind-one t l) e.1) [
        | inl f ↦ (e.2.0, e.2.2, inl (subst (IsBelow c.types e.2.0.ty) (same_place types e.2.1 t h.different e.2.3 l (e.2.4 ∙ sym f)) e.2.5))
        | inr f ↦ absurd f
      ]

      behind : length c.types.names ≤ t → InType c.types c.objects o t
      behind l = go (slice_get c.types.unions (t - length c.types.names)) refl
        where
          n : t ≡ length c.types.names + (t - length c.types.names)
          n = omega arith

          go : (m : Option (List ℕ)) → slice_get c.types.unions (t - length c.types.names) ≡ m → InType c.types c.objects o t
          go None f = absurd (subst (λ ws. Has ws e.0) (ap kind n ∙ kind-none (t - length c.types.names) f) e.1)
          go (Some us) f =
              let g = has-of_map (word_at types) us e.0 (subst (λ ws. Has ws e.0) (ap kind n ∙ kind-union (t - length c.types.names) us f) e.1) in
              let named : is_name (word_at types g.0) ≡ true = ap is_name (g.2 ∙ sym e.2.4) ∙ named-at e.2.1 e.2.3 in
              let same : e.2.1 ≡ g.0 = same_place types e.2.1 g.0 h.different e.2.3 (in_range types g.0 named) (e.2.4 ∙ sym g.2) in
              (e.2.0, e.2.2, inr (us, behind-union t us l f, has-any (IsBelow c.types e.2.0.ty) us g.0 g.1 (subst (IsBelow c.types e.2.0.ty) same e.2.5)))

  pub by_words : (o t : ℕ) → InType c.types c.objects o t ↔ InWords c o (kind t)
  by_words o t = (to o t, from o t)

-- alike values have the same objects in the types of one word
module _ (c d : Pddl) (hc : HasSoundWords c) (hd : HasSoundWords d) (alike : AreAlikePddl c d) where
  word-alike : (o : ℕ) (w : Word) → InWord c o w → InWord d o w
  word-alike o w e =
      let s = same-at (object_said (pddl_words c)) (object_said (pddl_words d)) c.objects d.objects o e.0 alike.objects e.2 in
      let t : word_at (pddl_types c) e.0.ty ≡ word_at (pddl_types d) s.0.ty = ap (λ z. z.1) s.2 in
      let r = parts s.0 t (each-at-some _ d.objects o s.0 hd.objects_typed s.1) e.5 in
      (s.0, r.0, s.1, r.1, r.2, r.3)
    where
      parts : (y : Object) → word_at (pddl_types c) e.0.ty ≡ word_at (pddl_types d) y.ty → y.ty < length (pddl_types d) → IsBelow c.types e.0.ty e.1 → (k : ℕ) × (k < length (pddl_types d)) × (word_at (pddl_types d) k ≡ w) × IsBelow d.types y.ty k
      parts y t l (inl z) = (0, in_range (pddl_types d) 0 (ap is_name hd.first), hd.first ∙ sym hc.first ∙ ap (word_at (pddl_types c)) (sym z) ∙ e.4, inl refl)
      parts y t l (inr z) =
          let a = map-chain (IsPairOf (pddl_types c) c.types.parents) (IsPairOf (pddl_types d) d.types.parents) (λ u v p. (alike.pairs u v).0 p) _ _ (to-words (pddl_types c) c.types.parents e.0.ty e.1 z) in
          let r = from-words (pddl_types d) d.types.parents hd.different hd.parents _ _ a y.ty l (sym t) in
          (r.0, r.1, r.2 ∙ e.4, inr r.3)

  pub words-alike : (o : ℕ) (ws : List Word) → InWords c o ws → InWords d o ws
  words-alike o ws e = (e.0, e.1, word-alike o e.0 e.2)
