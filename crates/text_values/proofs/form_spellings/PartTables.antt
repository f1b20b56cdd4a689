-- Groups of keywords, each with what stands behind: what is seen of them, and what is left.
use Rattle.std.proofs.Common.{◌≡◌, Bool, true, false, cond, if◌then◌else◌, ◌||◌, Option, Some, None, List, [], ◌∷◌, map, refl, sym, ap, subst, ◌∙◌}
use Rattle.std.specs.Option.{option_map}
use Rattle.std.specs.Str.{bytes_eq}
use Rattle.text_forms.specs.Lists.{Part, Parts, name, part}
use Rattle.text_forms.specs.Words.{Word, is_among}
use Rattle.text_forms.specs.form_grammar.Sections.{SectionDue}
use Rattle.text_forms.specs.form_grammar.Words.{Table, entry, counts_as}
use Rattle.plan_texts.specs.Sections.{without_group, is_in_one, found}
use Rattle.plan_texts.specs.Types.{EachIs}
use Rattle.plan_texts.proofs.Basics.{bytes_eq-true, bytes_eq-refl}
use Rattle.text_values.proofs.form_spellings.WordTests.{false_true}

module _ (X : Type 0) (due_of : X → SectionDue) where
  -- the words of a group, the first of which it counts as, and what stands behind
  abbrev pub Group : Type 0
  Group = Word × List Word × X

  abbrev pub words_of : Group → List Word
  words_of g = g.0 ∷ g.1

  -- what stands behind a keyword
  abbrev pub pick : List Group → Word → Option X
  pick [] w = None
  pick (g ∷ gs) w = if is_among w (words_of g) then Some g.2 else pick gs w

  abbrev pub drop_group : Word → List Group → List Group
  drop_group w [] = []
  drop_group w (g ∷ gs) = if is_among w (words_of g) then gs else g ∷ drop_group w gs

  abbrev pub groups_of : List Group → List (List Word)
  groups_of gs = map words_of gs

  abbrev pub flatten_one : List Word → X → Table SectionDue → Table SectionDue
  flatten_one [] x rest = rest
  flatten_one (k ∷ ks) x rest = (k, due_of x) ∷ flatten_one ks x rest

  abbrev pub flatten : List Group → Table SectionDue
  flatten [] = []
  flatten (g ∷ gs) = flatten_one (words_of g) g.2 (flatten gs)

  pub entry_flat : (gs : List Group) (w : Word) → entry (flatten gs) w ≡ option_map due_of (pick gs w)
  entry_flat [] w = refl
  entry_flat (g ∷ gs) w = one (words_of g) (entry_flat gs w)
    where
      step : (b : Bool) (ks : List Word) → entry (flatten_one ks g.2 (flatten gs)) w ≡ option_map due_of (if is_among w ks then Some g.2 else pick gs w)
          → (if b then Some (due_of g.2) else entry (flatten_one ks g.2 (flatten gs)) w) ≡ option_map due_of (if b || is_among w ks then Some g.2 else pick gs w)
      step true ks h = refl
      step false ks h = h

      one : (ks : List Word) → entry (flatten gs) w ≡ option_map due_of (pick gs w) → entry (flatten_one ks g.2 (flatten gs)) w ≡ option_map due_of (if is_among w ks then Some g.2 else pick gs w)
      one [] h = h
      one (k ∷ ks) h = step (bytes_eq w k) ks (one ks h)

  -- each word of a group counts as its first
  abbrev pub Counts : List Group → Type 0
  Counts gs = EachIs (λ (g : Group). EachIs (λ k. counts_as k ≡ g.0) (words_of g)) gs

  -- the first words differ
  abbrev pub Differ : List Group → Type 0
  Differ [] = Unit {0}
  Differ (g ∷ gs) = EachIs (λ (h : Group). bytes_eq g.0 h.0 ≡ false) gs × Differ gs

  count_one : (w f : Word) (ks : List Word) → EachIs (λ k. counts_as k ≡ f) ks → is_among w ks ≡ true → counts_as w ≡ f
  count_one w f [] c e = false_true e
  count_one w f (k ∷ ks) c e = by (bytes_eq w k) refl e (count_one w f ks c.1)
    where
      by : (b : Bool) → bytes_eq w k ≡ b → b || is_among w ks ≡ true → (is_among w ks ≡ true → counts_as w ≡ f) → counts_as w ≡ f
      by true h e more = ap counts_as (bytes_eq-true w k h) ∙ c.0
      by false h e more = more e

  -- what counts as another word stands in none of these groups
  none_there : (gs : List Group) (f w : Word) → Counts gs → EachIs (λ (h : Group). bytes_eq f h.0 ≡ false) gs → counts_as w ≡ f → pick gs w ≡ None
  none_there [] f w c d e = refl
  none_there (g ∷ gs) f w c d e = by (is_among w (words_of g)) refl (none_there gs f w c.1 d.1 e)
    where
      by : (b : Bool) → is_among w (words_of g) ≡ b → pick gs w ≡ None → (if b then Some g.2 else pick gs w) ≡ None
      by false h more = more
      by true h more = let m = sym e ∙ count_one w g.0 (words_of g) c.0 h in false_true (sym d.0 ∙ (ap (λ u. bytes_eq u g.0) m ∙ bytes_eq-refl g.0))

  -- a picked word counts as the first of a group
  picked_differs : (gs : List Group) (f w : Word) (x : X) → Counts gs → EachIs (λ (h : Group). bytes_eq f h.0 ≡ false) gs → pick gs w ≡ Some x → bytes_eq f (counts_as w) ≡ false
  picked_differs gs f w x c d e = by (bytes_eq f (counts_as w)) refl
    where
      by : (b : Bool) → bytes_eq f (counts_as w) ≡ b → bytes_eq f (counts_as w) ≡ false
      by false h = h
      by true h = absurd (let n = none_there gs f w c d (sym (bytes_eq-true f (counts_as w) h)) in let m = sym n ∙ e in cc)

  -- what is left behind a keyword of one of the groups
  pub left_over : (gs : List Group) (w u : Word) (x : X) → Counts gs → Differ gs → pick gs w ≡ Some x → pick (drop_group w gs) u ≡ (if bytes_eq (counts_as u) (counts_as w) then None else pick gs u)
  left_over [] w u x c d e = absurd (cc)
  left_over (g ∷ gs) w u x c d e = by (is_among w (words_of g)) refl e (left_over gs w u x c.1 d.1)
    where
      same : (b : Bool) → is_among u (words_of g) ≡ b → (t : Bool) → bytes_eq (counts_as u) (counts_as w) ≡ t → counts_as w ≡ g.0 → pick gs u ≡ (if t then None else (if b then Some g.2 else pick gs u))
      same true h true s m = none_there gs g.0 u c.1 d.0 (count_one u g.0 (words_of g) c.0 h)
      same true h false s m = false_true (sym s ∙ (ap (λ v. bytes_eq v (counts_as w)) (count_one u g.0 (words_of g) c.0 h ∙ sym m) ∙ bytes_eq-refl (counts_as w)))
      same false h true s m = none_there gs g.0 u c.1 d.0 (bytes_eq-true (counts_as u) (counts_as w) s ∙ m)
      same false h false s m = refl

      other : (b : Bool) → is_among u (words_of g) ≡ b → (t : Bool) → bytes_eq (counts_as u) (counts_as w) ≡ t → pick gs w ≡ Some x → pick (drop_group w gs) u ≡ (if t then None else pick gs u)
          → (if b then Some g.2 else pick (drop_group w gs) u) ≡ (if t then None else (if b then Some g.2 else pick gs u))
      other true h true s e more =
          false_true (sym (picked_differs gs g.0 w x c.1 d.0 e) ∙ (ap (λ v. bytes_eq v (counts_as w)) (sym (count_one u g.0 (words_of g) c.0 h)) ∙ s))
      other true h false s e more = refl
      other false h t s e more = more

      by : (b : Bool) → is_among w (words_of g) ≡ b → (if b then Some g.2 else pick gs w) ≡ Some x → (pick gs w ≡ Some x → pick (drop_group w gs) u ≡ (if bytes_eq (counts_as u) (counts_as w) then None else pick gs u))
          → pick (if b then gs else g ∷ drop_group w gs) u ≡ (if bytes_eq (counts_as u) (counts_as w) then None else (if is_among u (words_of g) then Some g.2 else pick gs u))
      by true h e more = same (is_among u (words_of g)) refl (bytes_eq (counts_as u) (counts_as w)) refl (count_one w g.0 (words_of g) c.0 h)
      by false h e more = other (is_among u (words_of g)) refl (bytes_eq (counts_as u) (counts_as w)) refl e (more e)

  -- what each group has stays
  pub each_left : (P : Group → Type 0) (gs : List Group) (w : Word) → EachIs P gs → EachIs P (drop_group w gs)
  each_left P [] w a = tt
  each_left P (g ∷ gs) w a = by (is_among w (words_of g)) (each_left P gs w a.1)
    where
      by : (b : Bool) → EachIs P (drop_group w gs) → EachIs P (if b then gs else g ∷ drop_group w gs)
      by true more = a.1
      by false more = (a.0, more)

  pub differ_left : (gs : List Group) (w : Word) → Differ gs → Differ (drop_group w gs)
  differ_left [] w d = tt
  differ_left (g ∷ gs) w d = by (is_among w (words_of g)) (differ_left gs w d.1)
    where
      by : (b : Bool) → Differ (drop_group w gs) → Differ (if b then gs else g ∷ drop_group w gs)
      by true more = d.1
      by false more = (each_left (λ (h : Group). bytes_eq g.0 h.0 ≡ false) gs w d.0, more)

  -- the groups of keywords without what stands behind
  pub is_in : (gs : List Group) (w : Word) (x : X) → pick gs w ≡ Some x → is_in_one w (groups_of gs) ≡ true
  is_in [] w x e = absurd (cc)
  is_in (g ∷ gs) w x e = by (is_among w (words_of g)) e (is_in gs w x)
    where
      by : (b : Bool) → (if b then Some g.2 else pick gs w) ≡ Some x → (pick gs w ≡ Some x → is_in_one w (groups_of gs) ≡ true) → b || is_in_one w (groups_of gs) ≡ true
      by true e more = refl
      by false e more = more e

  pub not_in : (gs : List Group) (w : Word) → pick gs w ≡ None → is_in_one w (groups_of gs) ≡ false
  not_in [] w e = refl
  not_in (g ∷ gs) w e = by (is_among w (words_of g)) e (not_in gs w)
    where
      by : (b : Bool) → (if b then Some g.2 else pick gs w) ≡ None → (pick gs w ≡ None → is_in_one w (groups_of gs) ≡ false) → b || is_in_one w (groups_of gs) ≡ false
      by true e more = absurd (cc)
      by false e more = more e

  pub without_is : (gs : List Group) (w : Word) → without_group w (groups_of gs) ≡ groups_of (drop_group w gs)
  without_is [] w = refl
  without_is (g ∷ gs) w = by (is_among w (words_of g)) (without_is gs w)
    where
      by : (b : Bool) → without_group w (groups_of gs) ≡ groups_of (drop_group w gs) → cond b (groups_of gs) (words_of g ∷ without_group w (groups_of gs)) ≡ groups_of (if b then gs else g ∷ drop_group w gs)
      by true more = refl
      by false more = ap (λ gs. words_of g ∷ gs) more

  -- what is found behind the keywords
  module _ (Spells : X → Part → Type 0) where
    abbrev pub AllFound : List Group → Parts → Type 0
    AllFound [] ps = Unit {0}
    AllFound (g ∷ gs) ps = Spells g.2 (found (words_of g) ps) × AllFound gs ps

    abbrev from_some : Option X → Part → Type 0
    from_some None q = Unit {0}
    from_some (Some x) q = Spells x q

    -- a keyword of no group
    passed : (gs : List Group) (w : Word) (q : Part) (ps : Parts) → pick gs w ≡ None → AllFound gs (part (name w) (part q ps)) ≡ AllFound gs ps
    passed [] w q ps e = refl
    passed (g ∷ gs) w q ps e = by (is_among w (words_of g)) e (passed gs w q ps)
      where
        by : (b : Bool) → (if b then Some g.2 else pick gs w) ≡ None → (pick gs w ≡ None → AllFound gs (part (name w) (part q ps)) ≡ AllFound gs ps) → ◌≡◌ {A = Type 0} (Spells g.2 (cond b q (found (words_of g) ps)) × AllFound gs (part (name w) (part q ps))) (Spells g.2 (found (words_of g) ps) × AllFound gs ps)
        by true e more = absurd (cc)
        by false e more = ap (λ (Z : Type 0). Spells g.2 (found (words_of g) ps) × Z) (more e)

    pub found_to : (gs : List Group) (w : Word) (q : Part) (ps : Parts) (x : X) → Counts gs → Differ gs → pick gs w ≡ Some x → Spells x q → AllFound (drop_group w gs) ps → AllFound gs (part (name w) (part q ps))
    found_to [] w q ps x c d e s a = tt
    found_to (g ∷ gs) w q ps x c d e s a = by (is_among w (words_of g)) refl e a (λ e a. found_to gs w q ps x c.1 d.1 e s a)
      where
        by : (b : Bool) → is_among w (words_of g) ≡ b → (if b then Some g.2 else pick gs w) ≡ Some x → AllFound (if b then gs else g ∷ drop_group w gs) ps
            → (pick gs w ≡ Some x → AllFound (drop_group w gs) ps → AllFound gs (part (name w) (part q ps))) → Spells g.2 (cond b q (found (words_of g) ps)) × AllFound gs (part (name w) (part q ps))
        by true h e a more = (subst (λ (o : Option X). from_some o q) (sym e) s, subst (λ (Z : Type 0). Z) (sym (passed gs w q ps (none_there gs g.0 w c.1 d.0 (count_one w g.0 (words_of g) c.0 h)))) a)
        by false h e a more = (a.0, more e a.1)

    pub found_from : (gs : List Group) (w : Word) (q : Part) (ps : Parts) (x : X) → Counts gs → Differ gs → pick gs w ≡ Some x → AllFound gs (part (name w) (part q ps)) → Spells x q × AllFound (drop_group w gs) ps
    found_from [] w q ps x c d e a = absurd (cc)
    found_from (g ∷ gs) w q ps x c d e a = by (is_among w (words_of g)) refl e a (found_from gs w q ps x c.1 d.1)
      where
        by : (b : Bool) → is_among w (words_of g) ≡ b → (if b then Some g.2 else pick gs w) ≡ Some x → Spells g.2 (cond b q (found (words_of g) ps)) × AllFound gs (part (name w) (part q ps))
            → (pick gs w ≡ Some x → AllFound gs (part (name w) (part q ps)) → Spells x q × AllFound (drop_group w gs) ps) → Spells x q × AllFound (if b then gs else g ∷ drop_group w gs) ps
        by true h e a more = (subst (λ (o : Option X). from_some o q) e a.0, subst (λ (Z : Type 0). Z) (passed gs w q ps (none_there gs g.0 w c.1 d.0 (count_one w g.0 (words_of g) c.0 h))) a.1)
        by false h e a more = let m = more e a.1 in (m.0, (a.0, m.1))
