-- A table of unions with more of them put in, each once.
use Rattle.std.proofs.Common.{ℕ, ◌≡◌, Bool, true, false, cond, inl, inr, List, [], ◌∷◌, ◌++◌, map, refl, sym, ap, subst, ◌∙◌, append-nil, ◌||◌}
use Rattle.std.specs.Prelude.{◌⊎◌}
use Rattle.std.specs.List.{fold, list_any}
use Rattle.std.specs.Str.{bytes_eq}
use Rattle.std.proofs.lemmas.List.{append_assoc}
use Rattle.std.proofs.lemmas.List.Sorted.{Contains-permutation}
use Rattle.htn_base.specs.Table.{with_word}
use Rattle.plan_texts.proofs.Basics.{bytes_eq-true}
use Rattle.htn_base.specs.Lists.{Has}
use Rattle.name_binding.specs.Unions.{members_of, AreWith}
use Rattle.name_binding.specs.declared.unions.Either.{Either}
use Rattle.text_values.proofs.form_spellings.binding_laws.Lists.{append_left, append_right}
use Rattle.text_values.proofs.form_spellings.binding_laws.Numbered.{contains_has, has_contains, has_to_map}
use Rattle.text_values.proofs.form_spellings.binding_laws.Ones.{has_one}

-- one more stands behind the others, or among them
more_by : (b : Bool) (us : List (List ℕ)) (u : List ℕ) → (more : List (List ℕ)) × (cond b us (us ++ u ∷ []) ≡ us ++ more)
more_by true us u = ([], sym (append-nil us))
more_by false us u = (u ∷ [], refl)

pub behind_others : (us vs : List (List ℕ)) → (more : List (List ℕ)) × (fold with_word us vs ≡ us ++ more)
behind_others us [] = ([], sym (append-nil us))
behind_others us (v ∷ vs) =
    let m = more_by (list_any (bytes_eq v) us) us v in
    let r = behind_others (with_word us v) vs in
    (m.0 ++ r.0, r.1 ∙ ap (λ ws. ws ++ r.0) m.1 ∙ append_assoc us m.0 r.0)

among : (u : List ℕ) (us : List (List ℕ)) → list_any (bytes_eq u) us ≡ true → Has us u
among u [] e = absurd (cc)
among u (v ∷ us) e = go (bytes_eq u v) refl e (among u us)
  where
    go : (b : Bool) → bytes_eq u v ≡ b → (b || list_any (bytes_eq u) us) ≡ true → (list_any (bytes_eq u) us ≡ true → Has us u) → Has (v ∷ us) u
    go true f e more = inl (sym (bytes_eq-true u v f))
    go false f e more = inr (more e)

there_now : (us : List (List ℕ)) (u : List ℕ) → Has (with_word us u) u
there_now us u = go (list_any (bytes_eq u) us) refl
  where
    go : (b : Bool) → list_any (bytes_eq u) us ≡ b → Has (cond b us (us ++ u ∷ [])) u
    go true e = among u us e
    go false e = append_right us (u ∷ []) u (inl refl)

-- each that was put in stands there, and each that stood there stays
pub put_in : (us vs : List (List ℕ)) (u : List ℕ) → Has us u ⊎ Has vs u → Has (fold with_word us vs) u
put_in us [] u (inl h) = h
put_in us [] u (inr h) = absurd h
put_in us (v ∷ vs) u (inl h) = put_in (with_word us v) vs u (inl (stays (list_any (bytes_eq v) us)))
  where
    stays : (b : Bool) → Has (cond b us (us ++ v ∷ [])) u
    stays true = h
    stays false = append_left us (v ∷ []) u h
put_in us (v ∷ vs) u (inr (inl e)) = put_in (with_word us v) vs u (inl (subst (Has (with_word us v)) e (there_now us v)))
put_in us (v ∷ vs) u (inr (inr h)) = put_in (with_word us v) vs u (inr h)

module _ (found : List Either) (old new : List (List ℕ)) (are : AreWith found old new) where
  pub found_stands : (e : Either) → Has found e → Has new e.members
  found_stands e h =
      let i = contains_has are.sorted e (Contains-permutation found are.sorted e are.same (has_contains found e h)) in
      subst (λ us. Has us e.members) (sym are.unions) (put_in old (map members_of are.sorted) e.members (inr (has_to_map members_of are.sorted e.members (has_one (λ (g : Either). g.members ≡ e.members) are.sorted e i refl))))

  pub old_in_front : (more : List (List ℕ)) × (new ≡ old ++ more)
  old_in_front = let m = behind_others old (map members_of are.sorted) in (m.0, are.unions ∙ m.1)
