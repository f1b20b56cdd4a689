-- A union is whole exactly where it says one or more names.
use Rattle.std.proofs.Common.{◌≡◌, Bool, true, false, cond, ◌||◌, List, [], ◌∷◌, codes, refl, sym, ap, subst, ◌∙◌}
use Rattle.std.proofs.lemmas.Bool.{cond-true}
use Rattle.std.specs.Str.{bytes_eq}
use Rattle.text_forms.specs.Lists.{name}
use Rattle.text_forms.specs.Placed.{Placed, cut, close, word, list, parts_of, IsWhole}
use Rattle.text_forms.specs.Words.{Word, is_name, is_among}
use Rattle.plan_texts.specs.TypedLists.{first_seen, words_in, types_in, are_names, is_word}
use Rattle.plan_texts.specs.Types.{EachIs}
use Rattle.plan_texts.proofs.Basics.{bytes_eq-true, bytes_eq-refl, bytes_eq-other, apart}
use Rattle.gd_reader.specs.ListGrammar.{more_names_form, some_names_form, union_form}
use Rattle.gd_reader.specs.Words.{is_either}
use Rattle.text_values.proofs.form_spellings.WordTests.{allow, is_allowed, false_true, whole_name, name_whole}

abbrev pub Named : Word → Type 0
Named w = is_name w ≡ true

-- comparing the other way round
pub flip : (u w : Word) → bytes_eq u w ≡ bytes_eq w u
flip u w = go (bytes_eq u w) refl
  where
    go : (b : Bool) → bytes_eq u w ≡ b → b ≡ bytes_eq w u
    go true e = sym (ap (bytes_eq w) (bytes_eq-true u w e) ∙ bytes_eq-refl w)
    go false e = sym (bytes_eq-other w u (λ g. apart u w e (sym g)))

pub each_named : (w : Word) (ws : List Word) → EachIs Named ws → is_among w ws ≡ true → Named w
each_named w [] n e = false_true e
each_named w (u ∷ ws) n e = go (bytes_eq w u) refl e (each_named w ws n.1)
  where
    go : (b : Bool) → bytes_eq w u ≡ b → (b || is_among w ws) ≡ true → (is_among w ws ≡ true → Named w) → Named w
    go true h e later = subst Named (sym (bytes_eq-true w u h)) n.0
    go false h e later = later e

pub seen_named : (seen ws : List Word) → EachIs Named ws → EachIs Named (first_seen seen ws)
seen_named seen [] n = tt
seen_named seen (w ∷ ws) n = go (is_among w seen) (seen_named seen ws n.1) (seen_named (w ∷ seen) ws n.1)
  where
    go : (b : Bool) → EachIs Named (first_seen seen ws) → EachIs Named (first_seen (w ∷ seen) ws) → EachIs Named (cond b (first_seen seen ws) (w ∷ first_seen (w ∷ seen) ws))
    go true old more = old
    go false old more = (n.0, more)

named_seen : (seen ws : List Word) → EachIs Named seen → EachIs Named (first_seen seen ws) → EachIs Named ws
named_seen seen [] s n = tt
named_seen seen (w ∷ ws) s n = go (is_among w seen) refl n (λ n. named_seen seen ws s n) (λ here n. named_seen (w ∷ seen) ws (here, s) n)
  where
    go : (b : Bool) → is_among w seen ≡ b → EachIs Named (cond b (first_seen seen ws) (w ∷ first_seen (w ∷ seen) ws)) → (EachIs Named (first_seen seen ws) → EachIs Named ws) → (Named w → EachIs Named (first_seen (w ∷ seen) ws) → EachIs Named ws) → EachIs Named (w ∷ ws)
    go true e n old more = (each_named w seen s e, old n)
    go false e n old more = (n.0, more n.0 n.1)

names_each : (ws : List Word) → are_names ws ≡ true → EachIs Named ws
names_each [] e = tt
names_each (w ∷ []) e = (e, tt)
names_each (w ∷ u ∷ ws) e = go (is_name w) refl e (names_each (u ∷ ws))
  where
    go : (b : Bool) → is_name w ≡ b → cond b (are_names (u ∷ ws)) false ≡ true → (are_names (u ∷ ws) ≡ true → EachIs Named (u ∷ ws)) → EachIs Named (w ∷ u ∷ ws)
    go true h e later = (h, later e)
    go false h e later = false_true e

pub each_names : (w : Word) (ws : List Word) → EachIs Named (w ∷ ws) → are_names (w ∷ ws) ≡ true
each_names w [] n = n.0
each_names w (u ∷ ws) n = cond-true _ _ _ n.0 ∙ each_names u ws n.1

more_whole : (p : Placed) → IsWhole p → EachIs Named (words_in (parts_of p)) → (more_names_form p).Whole
more_whole cut w n = w
more_whole (close at) w n = tt
more_whole (word at u p) w n = (whole_name u n.0, more_whole p w n.1)
more_whole (list at p q) w n = false_true n.0

whole_more : (p : Placed) → (more_names_form p).Whole → IsWhole p × EachIs Named (words_in (parts_of p))
whole_more cut h = absurd h
whole_more (close at) h = (tt, tt)
whole_more (word at u p) h = let g = whole_more p h.1 in (g.0, (name_whole u h.0, g.1))
whole_more (list at p q) h = absurd h

some_whole : (p : Placed) → IsWhole p → are_names (first_seen [] (words_in (parts_of p))) ≡ true → (some_names_form p).Whole
some_whole cut w e = absurd w
some_whole (close at) w e = false_true e
some_whole (word at u p) w e =
    let n = names_each (u ∷ first_seen (u ∷ []) (words_in (parts_of p))) e in
    (whole_name u n.0, more_whole p w (named_seen (u ∷ []) (words_in (parts_of p)) (n.0, tt) n.1))
some_whole (list at p q) w e = false_true (names_each ([] ∷ first_seen ([] ∷ []) (words_in (parts_of q))) e).0

whole_some : (p : Placed) → (some_names_form p).Whole → IsWhole p × (are_names (first_seen [] (words_in (parts_of p))) ≡ true)
whole_some cut h = absurd h
whole_some (close at) h = absurd h
whole_some (word at u p) h =
    let g = whole_more p h.1 in
    (g.0, each_names u (first_seen (u ∷ []) (words_in (parts_of p))) (name_whole u h.0, seen_named (u ∷ []) (words_in (parts_of p)) g.1))
whole_some (list at p q) h = absurd h

pub union_whole : (p : Placed) → IsWhole p → are_names (types_in (parts_of p)) ≡ true → (union_form p).Whole
union_whole cut w e = absurd w
union_whole (close at) w e = false_true e
union_whole (list at p q) w e = false_true e
union_whole (word at u p) w e = go (is_word (codes "either") (name u)) refl e
  where
    go : (b : Bool) → bytes_eq (codes "either") u ≡ b → are_names (cond b (first_seen [] (words_in (parts_of p))) []) ≡ true → (union_form (word at u p)).Whole
    go true h e = (allow (is_either u) (flip u (codes "either") ∙ h), some_whole p w e)
    go false h e = false_true e

pub whole_union : (p : Placed) → (union_form p).Whole → IsWhole p × (are_names (types_in (parts_of p)) ≡ true)
whole_union cut h = absurd h
whole_union (close at) h = absurd h
whole_union (list at p q) h = absurd h
whole_union (word at u p) h =
    let g = whole_some p h.1 in
    (g.0, ap are_names (cond-true _ _ _ (flip (codes "either") u ∙ is_allowed (is_either u) h.0)) ∙ g.1)
