-- The words of the predicates of guards.
use Rattle.std.proofs.Common.{ℕ, zero, suc, ◌≡◌, ◌+◌, ◌-◌, ◌<◌, ◌≤◌, ◌^◌, ◌⊎◌, inl, inr, cond, List, [], ◌∷◌, ◌++◌, map, length, get_or, drop, slice_index_or, codes, decimal, refl, ap, sym, subst, ◌∙◌, arith}
use Rattle.std.proofs.lemmas.Fmt.{decimal_injective}
use Rattle.std.proofs.str.Laws.{order}
use Rattle.htn_base.specs.Escapes.{escaped}
use Rattle.htn_base.specs.declared.name.Name.{Name}
use Rattle.text_forms.specs.Words.{Word, word_at}
use Rattle.plan_model.specs.declared.options.Checks.{Checks}
use Rattle.plan_model.specs.declared.networks.Guard.{Guard}
use Rattle.plan_model.specs.declared.schemas.MethodPlan.{MethodPlan}
use Rattle.plan_model.specs.declared.values.Compiled.{Compiled}
use Rattle.plan_texts.specs.Declared.{named, kinds, one_word}
use Rattle.htn_base.specs.Different.{AreDifferent}
use Rattle.plan_texts.specs.SpellsHddl.{hddl_words, hddl_types}
use Rattle.plan_texts.specs.Printable.{IsPlain}
use Rattle.plan_texts.specs.SoundValue.{IsSoundHddl}
use Rattle.plan_texts.proofs.Members.{length-map}
use Rattle.plan_texts.proofs.Places.{each-at}
use Rattle.slot_encoding.proofs.places.Places.{same_place}
use Rattle.plan_model.specs.plan_meaning.Compilation.{IsCompiled}
use Rattle.slot_encoding.specs.SourceParts.{source_word}
use Rattle.slot_encoding.specs.EncodedNames.{joined, guard_types, guard_word}
use Rattle.plan_model.proofs.plan_meaning.examples.Unequal.{to_lt}
use Rattle.slot_encoding.proofs.places.PrintedTypes.{to_not_lt}
use Rattle.slot_encoding.proofs.places.ListPlaces.{length-joined}
use Rattle.slot_encoding.proofs.words.Lists.{different-once}
use Rattle.slot_encoding.proofs.words.PlainWords.{rank, plain-escaped, escaped-once, plain-behind, folded-decimal}
use Rattle.slot_encoding.proofs.words.CheckNames.{guard_type_within}

get-name : (names : List Word) (ns : List Name) (k : ℕ) (d : Name) → k < length ns → named names (get_or ns k d) ≡ word_at (map (named names) ns) k
get-name names [] k d l = absurd (omega arith)
get-name names (n ∷ ns) zero d l = refl
get-name names (n ∷ ns) (suc k) d l = get-name names ns k d (omega arith)

module _ (c : Compiled) where
  abbrev count : ℕ
  count = length c.hddl.types.names

  abbrev unions : ℕ
  unions = length c.hddl.types.unions

  abbrev word : ℕ → Word
  word = guard_word c [] 0

  abbrev of_type : ℕ → Word
  of_type ty = codes "htn_is_" ++ source_word c.hddl.names (slice_index_or c.hddl.types.names ty (record { number = 0 }))

  abbrev of_union : ℕ → Word
  of_union ty = codes "htn_in_" ++ decimal (ty - count + 1)

  type_word : (ty : ℕ) → ty < count → word ty ≡ codes "htn_is_" ++ escaped (word_at (hddl_types c.hddl) ty)
  type_word ty l = ap (λ t. cond t (of_type ty) (of_union ty)) (to_lt ty count l) ∙ ap (λ w. codes "htn_is_" ++ escaped w) (get-name c.hddl.names c.hddl.types.names ty (record { number = 0 }) l)

  union_word : (ty : ℕ) → count ≤ ty → word ty ≡ of_union ty
  union_word ty l = ap (λ t. cond t (of_type ty) (of_union ty)) (to_not_lt ty count l)

  kinds-source : length (kinds (hddl_words c.hddl)) ≡ count + unions
  kinds-source =
      let a = length-joined (map one_word (hddl_words c.hddl).types) (hddl_words c.hddl).unions in
      let d = length-map one_word (hddl_words c.hddl).types in
      let e = length-map (named c.hddl.names) c.hddl.types.names in
      let f : length (hddl_words c.hddl).unions ≡ unions = length-map (map (word_at (hddl_types c.hddl))) c.hddl.types.unions in
      omega arith

  abbrev IsOne : ℕ → Type 0
  IsOne ty = ((ty < count) × (word ty ≡ codes "htn_is_" ++ escaped (word_at (hddl_types c.hddl) ty))) ⊎ ((count ≤ ty) × (word ty ≡ of_union ty))

  one_of : (ty : ℕ) → IsOne ty
  one_of ty = elim (order ty count) [ inl l ↦ inl (l, type_word ty l) | inr l ↦ inr (l, union_word ty l) ]

  pub guard_rank : (ty : ℕ) → rank (guard_word c [] 0 ty) ≡ 5
  guard_rank ty = go (one_of ty)
    where
      go : IsOne ty → rank (word ty) ≡ 5
      go (inl h) = ap rank h.1
      go (inr h) = ap rank h.1

  module _ (sound : IsSoundHddl c.hddl) where
    pub guard_plain : (ty : ℕ) → IsPlain (guard_word c [] 0 ty)
    guard_plain ty = go (one_of ty)
      where
        go : IsOne ty → IsPlain (word ty)
        go (inl h) =
            let l : ty < length (hddl_types c.hddl) = (let k = h.0 in let e = length-map (named c.hddl.names) c.hddl.types.names in omega arith) in
            let p = plain-escaped (word_at (hddl_types c.hddl) ty) (each-at IsPlain (hddl_types c.hddl) ty sound.words.types l) in
            subst IsPlain (sym h.1) (plain-behind (codes "htn_is_") (escaped (word_at (hddl_types c.hddl) ty)) refl refl p.0)
        go (inr h) = subst IsPlain (sym h.1) (plain-behind (codes "htn_in_") (decimal (ty - count + 1)) refl refl (folded-decimal (ty - count + 1)))

    module _ (short : length c.hddl.types.unions < 2 ^ 64) where
      once_is : (s t : ℕ) → s < count + unions → t < count + unions → IsOne s → IsOne t → word s ≡ word t → s ≡ t
      once_is s t l m (inl h) (inl k) e =
          let f = escaped-once (word_at (hddl_types c.hddl) s) (word_at (hddl_types c.hddl) t) (ap (drop 7) (sym h.1 ∙ e ∙ k.1)) in
          let i = length-map (named c.hddl.names) c.hddl.types.names in let a = h.0 in let d = k.0 in
          same_place (hddl_types c.hddl) s t sound.words.types_differ (omega arith) (omega arith) f
      once_is s t l m (inl h) (inr k) e = absurd (let f : 115 ≡ 110 = ap (λ w. get_or w 5 0) (sym h.1 ∙ e ∙ k.1) in omega arith)
      once_is s t l m (inr h) (inl k) e = absurd (let f : 110 ≡ 115 = ap (λ w. get_or w 5 0) (sym h.1 ∙ e ∙ k.1) in omega arith)
      once_is s t l m (inr h) (inr k) e =
          let a = h.0 in let d = k.0 in
          let f = decimal_injective (s - count + 1) (t - count + 1) (omega arith) (omega arith) (ap (drop 7) (sym h.1 ∙ e ∙ k.1)) in
          omega arith

      pub guards_differ : (mode : Checks) → IsCompiled c.hddl mode c → AreDifferent (map (guard_word c [] 0) (guard_types c))
      guards_differ mode compiled = different-once word (joined (map (λ (plan : MethodPlan). map (λ (g : Guard). g.ty) plan.guards) c.methods))
          (λ s t h k e. (let a = guard_type_within c mode compiled sound s h in let d = guard_type_within c mode compiled sound t k in let n = kinds-source in once_is s t (omega arith) (omega arith) (one_of s) (one_of t) e))
