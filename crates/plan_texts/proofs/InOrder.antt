-- Types and pairs in first-seen order are spelled by their list.
use Rattle.std.proofs.Common.{ℕ, suc, ◌+◌, ◌≡◌, ◌⊎◌, ◌↔◌, ◌||◌, inl, inr, Bool, true, false, cond, List, [], ◌∷◌, ◌++◌, codes, Option, Some, None, option_map, refl, ap, sym, subst, ◌∙◌, arith}
use Rattle.std.proofs.lemmas.Bool.{cond-true, cond-false, or_parts}
use Rattle.std.specs.Str.{bytes_eq}
use Rattle.text_forms.specs.Lists.{Part, Parts, name, group, nothing, part}
use Rattle.text_forms.specs.Words.{Word, is_among, is_name, word_at, first_place}
use Rattle.plan_texts.specs.TypedLists.{EachTyped, is_dash, ahead, ahead_by, first_part, skipped, skipped_by, first_seen}
use Rattle.htn_base.specs.Different.{AreDifferent}
use Rattle.plan_texts.specs.Types.{Has, EachIs, TypeItem, parent_said, IsSomeName, IsTypeItem, Mentions, IsPairSaid, IsPairOf, AreTypes}
use Rattle.plan_texts.specs.FirstSeen.{type_words_in, types_in_order, type_items, parents_for, place_or_zero, pairs_for, pairs_from, pairs_in_order}
use Rattle.plan_model.specs.declared.types.Parent.{Parent}
use Rattle.plan_texts.proofs.Basics.{bytes_eq-true, bytes_eq-refl, bytes_eq-other, no_keyword'}
use Rattle.plan_texts.proofs.Members.{each-has, each-lacks, has-to_map, has-of_map}

-- what is kept of some words is new, and different
new-different : (seen ws : List Word) → EachIs (λ u. is_among u seen ≡ false) (first_seen seen ws) × AreDifferent (first_seen seen ws)
new-different seen [] = (tt, tt)
new-different seen (w ∷ ws) = go (is_among w seen) refl (new-different seen ws) (new-different (w ∷ seen) ws)
  where
    apart : (us : List Word) → EachIs (λ u. is_among u (w ∷ seen) ≡ false) us → EachIs (λ u. w ≡ u → ⊥) us × EachIs (λ u. is_among u seen ≡ false) us
    apart [] e = (tt, tt)
    apart (u ∷ us) e =
        let h = or_parts (bytes_eq u w) (is_among u seen) e.0 in
        let g = apart us e.1 in
        ((λ f. let k = bytes_eq-refl w in let l = ap (λ t. bytes_eq t w) f in let m = h.0 in cc, g.0), (h.1, g.1))

    go : (x : Bool) → is_among w seen ≡ x → EachIs (λ u. is_among u seen ≡ false) (first_seen seen ws) × AreDifferent (first_seen seen ws)
        → EachIs (λ u. is_among u (w ∷ seen) ≡ false) (first_seen (w ∷ seen) ws) × AreDifferent (first_seen (w ∷ seen) ws)
        → EachIs (λ u. is_among u seen ≡ false) (cond (is_among w seen) (first_seen seen ws) (w ∷ first_seen (w ∷ seen) ws)) × AreDifferent (cond (is_among w seen) (first_seen seen ws) (w ∷ first_seen (w ∷ seen) ws))
    go true e a b = subst (λ us. EachIs (λ u. is_among u seen ≡ false) us × AreDifferent us) (sym (cond-true _ _ _ e)) a
    go false e a b = let g = apart (first_seen (w ∷ seen) ws) b.0 in subst (λ us. EachIs (λ u. is_among u seen ≡ false) us × AreDifferent us) (sym (cond-false _ _ _ e)) ((e, g.1), (each-lacks (first_seen (w ∷ seen) ws) w g.0, b.1))

-- it has all words but those that were seen before
has-first : (seen ws : List Word) (w : Word) → Has ws w → is_among w seen ≡ false → Has (first_seen seen ws) w
has-first seen [] w h e = h
has-first seen (u ∷ ws) w h e = go (is_among u seen) refl h (λ k. has-first seen ws w k e) (λ k l. has-first (u ∷ seen) ws w k l)
  where
    go : (x : Bool) → is_among u seen ≡ x → (u ≡ w) ⊎ Has ws w → (Has ws w → Has (first_seen seen ws) w) → (Has ws w → is_among w (u ∷ seen) ≡ false → Has (first_seen (u ∷ seen) ws) w) → Has (cond (is_among u seen) (first_seen seen ws) (u ∷ first_seen (u ∷ seen) ws)) w
    go true f (inl h) a b = absurd (let g = ap (λ t. is_among t seen) h in cc)
    go true f (inr h) a b = subst (λ us. Has us w) (sym (cond-true _ _ _ f)) (a h)
    go false f (inl h) a b = subst (λ us. Has us w) (sym (cond-false _ _ _ f)) (inl h)
    go false f (inr h) a b = subst (λ us. Has us w) (sym (cond-false _ _ _ f)) (known (bytes_eq w u) refl)
      where
        known : (y : Bool) → bytes_eq w u ≡ y → Has (u ∷ first_seen (u ∷ seen) ws) w
        known true g = inl (sym (bytes_eq-true w u g))
        known false g = inr (b h (λ i. (g i) || (e i)))

first-has : (seen ws : List Word) (w : Word) → Has (first_seen seen ws) w → Has ws w
first-has seen [] w h = h
first-has seen (u ∷ ws) w h = go (is_among u seen) refl h (first-has seen ws w) (first-has (u ∷ seen) ws w)
  where
    go : (x : Bool) → is_among u seen ≡ x → Has (cond (is_among u seen) (first_seen seen ws) (u ∷ first_seen (u ∷ seen) ws)) w → (Has (first_seen seen ws) w → Has ws w) → (Has (first_seen (u ∷ seen) ws) w → Has ws w) → (u ≡ w) ⊎ Has ws w
    go true f k a b = inr (a (subst (λ us. Has us w) (cond-true _ _ _ f) k))
    go false f k a b = last (subst (λ us. Has us w) (cond-false _ _ _ f) k)
      where
        last : (u ≡ w) ⊎ Has (first_seen (u ∷ seen) ws) w → (u ≡ w) ⊎ Has ws w
        last (inl g) = inl g
        last (inr g) = inr (b g)

mention-more : (x : TypeItem) (xs : List TypeItem) (w : Word) → Mentions xs w → Mentions (x ∷ xs) w
mention-more x xs w (inl h) = inl (h.0, inr h.1)
mention-more x xs w (inr h) = inr (h.0, inr h.1)

own-word : (w : Word) (ps : Parts) → is_name w ≡ true → type_words_in (part (name w) ps) ≡ w ∷ type_words_in ps
own-word w ps e = cond-false _ _ _ (no_keyword' w (codes "-") e refl)

dash-word : (q : Part) (ps : Parts) → is_dash q ≡ true → type_words_in (part q ps) ≡ type_words_in ps
dash-word (name w) ps e = cond-true _ _ _ e
dash-word (group qs) ps e = refl

alone : (x : Bool) (r : Word) → parent_said (ahead_by x None None) ≡ Some r → ⊥
alone true r g = cc
alone false r g = cc

-- the type behind a dash is a word of the list
first-in : (rs : Parts) (r : Word) → parent_said (first_part rs) ≡ Some r → is_name r ≡ true → Has (type_words_in rs) r
first-in nothing r g n = absurd (cc)
first-in (part (group qs) rs) r g n = absurd (let h : [] ≡ r = cc in let k = ap is_name h in cc)
first-in (part (name w) rs) r g n = let h : w ≡ r = cc in subst (λ ws. Has ws r) (sym (own-word w rs (ap is_name h ∙ n))) (inl h)

-- the parent that is written ahead is a word of what stands behind
parent-in : (xs : List TypeItem) (ps : Parts) (r : Word) → EachTyped IsTypeItem xs (skipped ps) → parent_said (ahead ps) ≡ Some r → is_name r ≡ true → Has (type_words_in ps) r
parent-in xs nothing r e f n = absurd (cc)
parent-in xs (part q nothing) r e f n = absurd (alone (is_dash q) r f)
parent-in [] (part q (part p ps)) r e f n = go (is_dash q) refl e
  where
    go : (d : Bool) → is_dash q ≡ d → EachTyped IsTypeItem [] (skipped_by (is_dash q) ps (part q (part p ps))) → Has (type_words_in (part q (part p ps))) r
    go true d e = subst (λ ws. Has ws r) (sym (dash-word q (part p ps) d)) (first-in (part p ps) r ((λ i. parent_said (ahead_by (sym d i) (Some p) (ahead (part p ps)))) ∙ f) n)
    go false d e = absurd (subst (λ b. EachTyped IsTypeItem [] (skipped_by b ps (part q (part p ps)))) d e)
parent-in (x ∷ xs) (part q (part p ps)) r e f n = go (is_dash q) refl e (λ g l. parent-in xs (part p ps) r g l n)
  where
    go : (d : Bool) → is_dash q ≡ d → EachTyped IsTypeItem (x ∷ xs) (skipped_by (is_dash q) ps (part q (part p ps)))
        → (EachTyped IsTypeItem xs (skipped (part p ps)) → parent_said (ahead (part p ps)) ≡ Some r → Has (type_words_in (part p ps)) r) → Has (type_words_in (part q (part p ps))) r
    go true d e more = subst (λ ws. Has ws r) (sym (dash-word q (part p ps) d)) (first-in (part p ps) r ((λ i. parent_said (ahead_by (sym d i) (Some p) (ahead (part p ps)))) ∙ f) n)
    go false d e more =
        let g : EachTyped IsTypeItem (x ∷ xs) (part q (part p ps)) = subst (λ b. EachTyped IsTypeItem (x ∷ xs) (skipped_by b ps (part q (part p ps)))) d e in
        let later : parent_said (ahead (part p ps)) ≡ Some r = (λ i. parent_said (ahead_by (sym d i) (Some p) (ahead (part p ps)))) ∙ f in
        subst (λ z. Has (type_words_in (part z (part p ps))) r) (sym g.0.0) (subst (λ ws. Has ws r) (sym (own-word x.0 (part p ps) g.0.1)) (inr (more g.1 later)))

-- what stands behind a word: perhaps its parent, and the words of the other items
abbrev Splits : Parts → Option Word → Word → Type 0
Splits rest o w = (Has (type_words_in rest) w → (o ≡ Some w) ⊎ Has (type_words_in (skipped rest)) w) × (Has (type_words_in (skipped rest)) w → Has (type_words_in rest) w)

splits : (rest : Parts) (o : Option Word) (w : Word) → o ≡ parent_said (ahead rest) → IsSomeName o → Splits rest o w
splits nothing o w e n = (λ h. inr h, λ h. h)
splits (part q nothing) o w e n = (λ h. inr h, λ h. h)
splits (part q (part r rs)) o w e n = go (is_dash q) refl
  where
    parent : (r : Part) → o ≡ parent_said (Some r) → (Has (type_words_in (part r rs)) w → (o ≡ Some w) ⊎ Has (type_words_in rs) w) × (Has (type_words_in rs) w → Has (type_words_in (part r rs)) w)
    parent (group qs) f = absurd (let h = subst IsSomeName f n in cc)
    parent (name u) f =
        let same = own-word u rs (subst IsSomeName f n) in
        (λ h. elim (subst (λ ws. Has ws w) same h) [ inl g ↦ inl (f ∙ ap Some g) | inr g ↦ inr g ], λ h. subst (λ ws. Has ws w) (sym same) (inr h))

    go : (d : Bool) → is_dash q ≡ d → Splits (part q (part r rs)) o w
    go true d =
        let g = parent r (e ∙ (λ i. parent_said (ahead_by (d i) (Some r) (ahead (part r rs))))) in
        let same = dash-word q (part r rs) d in (
          λ h. subst (λ b. (o ≡ Some w) ⊎ Has (type_words_in (skipped_by b rs (part q (part r rs)))) w) (sym d) (g.0 (subst (λ ws. Has ws w) same h)),
          λ h. subst (λ ws. Has ws w) (sym same) (g.1 (subst (λ b. Has (type_words_in (skipped_by b rs (part q (part r rs)))) w) d h)),
        )
    go false d = (
      λ h. inr (subst (λ b. Has (type_words_in (skipped_by b rs (part q (part r rs)))) w) (sym d) h),
      λ h. subst (λ b. Has (type_words_in (skipped_by b rs (part q (part r rs)))) w) d h,
    )

-- the words of a list of types are those that its items mention
mentioned : (xs : List TypeItem) (ps : Parts) (w : Word) → EachTyped IsTypeItem xs ps → Has (type_words_in ps) w ↔ Mentions xs w
mentioned [] nothing w e = (λ h. absurd h, λ h. elim h [ inl g ↦ absurd g.1 | inr g ↦ absurd g.1 ])
mentioned [] (part p ps) w e = absurd e
mentioned (x ∷ xs) nothing w e = absurd e
mentioned (x ∷ xs) (part p ps) w e =
    let same : type_words_in (part p ps) ≡ x.0 ∷ type_words_in ps = ap (λ q. type_words_in (part q ps)) e.0.0 ∙ own-word x.0 ps e.0.1 in
    let s : Splits ps x.1 w = splits ps x.1 w e.0.2 e.0.3 in
    let rest : Has (type_words_in (skipped ps)) w ↔ Mentions xs w = mentioned xs (skipped ps) w e.1 in (
      λ h. elim (subst (λ ws. Has ws w) same h) [
        | inl g ↦ inl (x.1, inl (λ i. (g i, x.1)))
        | inr g ↦ elim (s.0 g) [ inl k ↦ inr (x.0, inl (λ i. (x.0, k i))) | inr k ↦ mention-more x xs w (rest.0 k) ]
      ],
      λ m. subst (λ ws. Has ws w) (sym same) (elim m [
        | inl g ↦ elim g.1 [ inl k ↦ inl (ap (λ t. t.0) k) | inr k ↦ inr (s.1 (rest.1 (inl (g.0, k)))) ]
        | inr g ↦ elim g.1 [ inl k ↦ inr (parent-in xs ps w e.1 (sym e.0.2 ∙ ap (λ t. t.1) k) (subst IsSomeName (ap (λ t. t.1) k) e.0.3)) | inr k ↦ inr (s.1 (rest.1 (inr (g.0, k)))) ]
      ]),
    )

-- the parents that are written for a word
parents-has : (c q : Word) (xs : List TypeItem) → Has (parents_for c xs) q ↔ Has xs (c, Some q)
parents-has c q [] = (λ h. h, λ h. h)
parents-has c q ((u, None) ∷ xs) =
    let rest = parents-has c q xs in
    (λ h. inr (rest.0 h), λ h. elim h [ inl k ↦ absurd (let f = ap (λ (t : TypeItem). t.1) k in cc) | inr k ↦ rest.1 k ])
parents-has c q ((u, Some p) ∷ xs) = go (bytes_eq c u) refl (parents-has c q xs)
  where
    go : (x : Bool) → bytes_eq c u ≡ x → Has (parents_for c xs) q ↔ Has xs (c, Some q) → Has (cond (bytes_eq c u) (p ∷ parents_for c xs) (parents_for c xs)) q ↔ Has ((u, Some p) ∷ xs) (c, Some q)
    go true e rest =
        let same : c ≡ u = bytes_eq-true c u e in (
          λ h. elim (subst (λ ws. Has ws q) (cond-true _ _ _ e) h) [ inl k ↦ inl (λ i. (sym same i, Some (k i))) | inr k ↦ inr (rest.0 k) ],
          λ h. subst (λ ws. Has ws q) (sym (cond-true _ _ _ e)) (elim h [ inl k ↦ inl (let f = ap (λ (t : TypeItem). t.1) k in cc) | inr k ↦ inr (rest.1 k) ]),
        )
    go false e rest = (
      λ h. inr (rest.0 (subst (λ ws. Has ws q) (cond-false _ _ _ e) h)),
      λ h. subst (λ ws. Has ws q) (sym (cond-false _ _ _ e)) (elim h [
        | inl k ↦ absurd (let f = bytes_eq-refl c in let g = ap (λ (t : TypeItem). bytes_eq c t.0) k in cc)
        | inr k ↦ rest.1 k
      ]),
    )

has-split : {X : Type 0} (xs ys : List X) (x : X) → Has (xs ++ ys) x → Has xs x ⊎ Has ys x
has-split [] ys x h = inr h
has-split (y ∷ xs) ys x (inl h) = inl (inl h)
has-split (y ∷ xs) ys x (inr h) = elim (has-split xs ys x h) [ inl k ↦ inl (inr k) | inr k ↦ inr k ]

has-left : {X : Type 0} (xs ys : List X) (x : X) → Has xs x → Has (xs ++ ys) x
has-left [] ys x h = absurd h
has-left (y ∷ xs) ys x (inl h) = inl h
has-left (y ∷ xs) ys x (inr h) = inr (has-left xs ys x h)

has-right : {X : Type 0} (xs ys : List X) (x : X) → Has ys x → Has (xs ++ ys) x
has-right [] ys x h = h
has-right (y ∷ xs) ys x h = inr (has-right xs ys x h)

-- a word of the list stands at its first place
first-found : (ws : List Word) (u : Word) → Has ws u → (k : ℕ) × (first_place u ws ≡ Some k) × (word_at ws k ≡ u)
first-found [] u h = absurd h
first-found (w ∷ ws) u h = go (bytes_eq u w) refl h (first-found ws u)
  where
    go : (x : Bool) → bytes_eq u w ≡ x → (w ≡ u) ⊎ Has ws u → (Has ws u → (k : ℕ) × (first_place u ws ≡ Some k) × (word_at ws k ≡ u)) → (k : ℕ) × (first_place u (w ∷ ws) ≡ Some k) × (word_at (w ∷ ws) k ≡ u)
    go true e h more = (0, cond-true _ _ _ e, sym (bytes_eq-true u w e))
    go false e (inl h) more = absurd (let f = bytes_eq-refl u in let g = ap (bytes_eq u) h in cc)
    go false e (inr h) more = let m = more h in (suc m.0, cond-false _ _ _ e ∙ ap (option_map suc) m.1, m.2)

place-word : (ws : List Word) (u : Word) → Has ws u → word_at ws (place_or_zero (first_place u ws)) ≡ u
place-word ws u h = let g = first-found ws u h in ap (λ o. word_at ws (place_or_zero o)) g.1 ∙ g.2

module _ (types : List Word) (xs : List TypeItem) (zeroth : word_at types 0 ≡ codes "object") (known : (c u : Word) → Has (parents_for c xs) u → Has types u) where
  -- a written parent of c, or object where none is written
  abbrev IsParentOf : Word → Word → Type 0
  IsParentOf c q = Has (parents_for c xs) q ⊎ ((parents_for c xs ≡ []) × (q ≡ codes "object"))

  one-to : (k : ℕ) (c : Word) (us : List Word) (x : Parent) → parents_for c xs ≡ us → Has (pairs_for k types us) x → (x.child ≡ k) × IsParentOf c (word_at types x.parent)
  one-to k c [] x e (inl h) = (sym (ap (λ (p : Parent). p.child) h), inr (e, ap (word_at types) (sym (ap (λ (p : Parent). p.parent) h)) ∙ zeroth))
  one-to k c [] x e (inr h) = absurd h
  one-to k c (u ∷ us) x e h =
      let g = has-of_map (λ w. record { child = k; parent = place_or_zero (first_place w types) }) (first_seen [] (u ∷ us)) x h in
      let m : Has (parents_for c xs) g.0 = subst (λ ws. Has ws g.0) (sym e) (first-has [] (u ∷ us) g.0 g.1) in
      let at : word_at types x.parent ≡ g.0 = ap (word_at types) (sym (ap (λ (p : Parent). p.parent) g.2)) ∙ place-word types g.0 (known c g.0 m) in
      (sym (ap (λ (p : Parent). p.child) g.2), inl (subst (Has (parents_for c xs)) (sym at) m))

  one-from : (k : ℕ) (c q : Word) (us : List Word) → parents_for c xs ≡ us → IsParentOf c q → (x : Parent) × Has (pairs_for k types us) x × (x.child ≡ k) × (word_at types x.parent ≡ q)
  one-from k c q [] e (inl h) = absurd (subst (λ ws. Has ws q) e h)
  one-from k c q [] e (inr h) = (record { child = k; parent = 0 }, inl refl, refl, zeroth ∙ sym h.1)
  one-from k c q (u ∷ us) e (inl h) =
      let m = has-first [] (u ∷ us) q (subst (λ ws. Has ws q) e h) refl in
      (record { child = k; parent = place_or_zero (first_place q types) }, has-to_map (λ w. record { child = k; parent = place_or_zero (first_place w types) }) (first_seen [] (u ∷ us)) q m, refl, place-word types q (known c q h))
  one-from k c q (u ∷ us) e (inr h) = absurd (let f = h.0 in cc)

  -- the words of these types stand among all types from place k on
  abbrev Stand : ℕ → List Word → Type 0
  Stand k ws = (i : ℕ) → word_at types (k + i) ≡ word_at ws i

  stand-next : (k : ℕ) (w : Word) (ws : List Word) → Stand k (w ∷ ws) → Stand (suc k) ws
  stand-next k w ws s i = let n : suc k + i ≡ k + suc i = omega arith in ap (word_at types) n ∙ s (suc i)

  stand-here : (k : ℕ) (w : Word) (ws : List Word) → Stand k (w ∷ ws) → word_at types k ≡ w
  stand-here k w ws s = let n : k ≡ k + 0 = omega arith in ap (word_at types) n ∙ s 0

  all-to : (k : ℕ) (ws : List Word) (x : Parent) → Stand k ws → Has (pairs_from k types ws xs) x → Has ws (word_at types x.child) × IsParentOf (word_at types x.child) (word_at types x.parent)
  all-to k [] x s h = absurd h
  all-to k (w ∷ ws) x s h = elim (has-split (pairs_for k types (parents_for w xs)) (pairs_from (suc k) types ws xs) x h) [
    | inl g ↦ let m = one-to k w (parents_for w xs) x refl g in
        let c : w ≡ word_at types x.child = sym (stand-here k w ws s) ∙ ap (word_at types) (sym m.0) in
        (inl c, subst (λ z. IsParentOf z (word_at types x.parent)) c m.1)
    | inr g ↦ let m = all-to (suc k) ws x (stand-next k w ws s) g in (inr m.0, m.1)
  ]

  all-from : (k : ℕ) (ws : List Word) (c q : Word) → Stand k ws → Has ws c → IsParentOf c q → (x : Parent) × Has (pairs_from k types ws xs) x × (word_at types x.child ≡ c) × (word_at types x.parent ≡ q)
  all-from k [] c q s h p = absurd h
  all-from k (w ∷ ws) c q s (inl h) p =
      let m = one-from k w q (parents_for w xs) refl (subst (λ z. IsParentOf z q) (sym h) p) in
      (m.0, has-left (pairs_for k types (parents_for w xs)) (pairs_from (suc k) types ws xs) m.0 m.1, ap (word_at types) m.2 ∙ stand-here k w ws s ∙ h, m.3)
  all-from k (w ∷ ws) c q s (inr h) p =
      let m = all-from (suc k) ws c q (stand-next k w ws s) h p in
      (m.0, has-right (pairs_for k types (parents_for w xs)) (pairs_from (suc k) types ws xs) m.0 m.1, m.2, m.3)

-- Types and pairs in order are spelled by their list, if no parent is written for object.
module _ (ps : Parts) (spelled : EachTyped IsTypeItem (type_items ps) ps) (free : (r : Word) → Has (type_items ps) (codes "object", Some r) → ⊥) where
  abbrev tail : List Word
  tail = first_seen (codes "object" ∷ []) (type_words_in ps)

  abbrev types : List Word
  types = types_in_order ps

  new : EachIs (λ u. is_among u (codes "object" ∷ []) ≡ false) tail × AreDifferent tail
  new = new-different (codes "object" ∷ []) (type_words_in ps)

  not-object : (us : List Word) → EachIs (λ u. is_among u (codes "object" ∷ []) ≡ false) us → EachIs (λ u. codes "object" ≡ u → ⊥) us
  not-object [] n = tt
  not-object (u ∷ us) n = ((λ f. let g = ap (λ t. is_among t (codes "object" ∷ [])) f in let h = n.0 in cc), not-object us n.1)

  tail-other : (w : Word) → Has tail w → w ≡ codes "object" → ⊥
  tail-other w h f = each-has (λ u. codes "object" ≡ u → ⊥) tail w (not-object tail new.0) h (sym f)

  in-tail : (w : Word) → (w ≡ codes "object" → ⊥) → Mentions (type_items ps) w → Has tail w
  in-tail w n m = has-first (codes "object" ∷ []) (type_words_in ps) w ((mentioned (type_items ps) ps w spelled).1 m) (λ i. bytes_eq-other w (codes "object") n i || false)

  of-tail : (w : Word) → Has tail w → Mentions (type_items ps) w
  of-tail w h = (mentioned (type_items ps) ps w spelled).0 (first-has (codes "object" ∷ []) (type_words_in ps) w h)

  words-to : (w : Word) → Has types w → (w ≡ codes "object") ⊎ Mentions (type_items ps) w
  words-to w (inl h) = inl (sym h)
  words-to w (inr h) = inr (of-tail w h)

  words-from : (w : Word) → (w ≡ codes "object") ⊎ Mentions (type_items ps) w → Has types w
  words-from w (inl h) = inl (sym h)
  words-from w (inr m) = go (bytes_eq w (codes "object")) refl
    where
      go : (x : Bool) → bytes_eq w (codes "object") ≡ x → Has types w
      go true f = inl (sym (bytes_eq-true w (codes "object") f))
      go false f = inr (in-tail w (λ g. let h = bytes_eq-refl (codes "object") in let k = ap (λ t. bytes_eq t (codes "object")) g in cc) m)

  known : (c u : Word) → Has (parents_for c (type_items ps)) u → Has types u
  known c u h = words-from u (inr (inr (c, (parents-has c u (type_items ps)).0 h)))

  no-parent : (c : Word) → ((r : Word) → Has (type_items ps) (c, Some r) → ⊥) → parents_for c (type_items ps) ≡ []
  no-parent c n = go (parents_for c (type_items ps)) (λ r h. n r ((parents-has c r (type_items ps)).0 h))
    where
      go : (us : List Word) → ((r : Word) → Has us r → ⊥) → us ≡ []
      go [] m = refl
      go (u ∷ us) m = absurd (m u (inl refl))

  stand : Stand types (type_items ps) refl known 1 tail
  stand i = let n : 1 + i ≡ suc i = omega arith in ap (word_at types) n

  pairs-to : (c q : Word) → IsPairOf types (pairs_in_order ps) c q → IsPairSaid (type_items ps) c q
  pairs-to c q e =
      let m = all-to types (type_items ps) refl known 1 tail e.0 stand e.1 in
      let h : Has tail c = subst (Has tail) e.2 m.0 in
      elim m.1 [
        | inl g ↦ inl (moved (word_at types e.0.child) (word_at types e.0.parent) e.2 e.3 ((parents-has (word_at types e.0.child) (word_at types e.0.parent) (type_items ps)).0 g))
        | inr g ↦ inr (
          sym e.3 ∙ g.1,
          tail-other c h,
          of-tail c h,
          λ r k. let f : parents_for c (type_items ps) ≡ [] = ap (λ z. parents_for z (type_items ps)) (sym e.2) ∙ g.0 in subst (λ ws. Has ws r) f ((parents-has c r (type_items ps)).1 k),
        )
      ]
    where
      moved : (a b : Word) {x y : Word} → a ≡ x → b ≡ y → Has (type_items ps) (a, Some b) → Has (type_items ps) (x, Some y)
      moved a b e f h = subst (Has (type_items ps)) (λ i. (e i, Some (f i))) h

  pairs-from' : (c q : Word) → IsPairSaid (type_items ps) c q → IsPairOf types (pairs_in_order ps) c q
  pairs-from' c q (inl h) =
      all-from types (type_items ps) refl known 1 tail c q stand (in-tail c (λ f. free q (subst (λ z. Has (type_items ps) (z, Some q)) f h)) (inl (Some q, h))) (inl ((parents-has c q (type_items ps)).1 h))
  pairs-from' c q (inr h) = all-from types (type_items ps) refl known 1 tail c q stand (in-tail c h.1 h.2) (inr (no-parent c h.3, h.0))

  pub types-in-order : AreTypes (types_in_order ps) (pairs_in_order ps) ps
  types-in-order = record {
    items = type_items ps;
    spelled = spelled;
    first = refl;
    different = (each-lacks tail (codes "object") (not-object tail new.0), new.1);
    same_words = λ w. (words-to w, words-from w);
    same_pairs = λ c q. (pairs-to c q, pairs-from' c q);
  }
