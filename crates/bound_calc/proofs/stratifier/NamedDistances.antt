-- Distances to a goal, found round by round.
use Rattle.std.proofs.Common.{ℕ, zero, suc, ◌≡◌, ◌+◌, ◌<◌, ◌≤◌, ◌⊎◌, ◌↔◌, inl, inr, List, [], ◌∷◌, ◌++◌, length, get_or, set, take, Some, None, Option, true, false, Contains, All, refl, sym, subst, ap, ◌∙◌, arith, length-set, get_or-set_same, get_or-set_other}
use Rattle.std.specs.Bool.{◌==◌}
use Rattle.std.proofs.lemmas.Bool.{cases_eq, false≢true, eqb-true}
use Rattle.std.proofs.lemmas.List.{take_more, length_push}
use Rattle.std.proofs.lemmas.List.Sums.{sum_by-set, sum_by-le}
use Rattle.std.proofs.lemmas.List.Elements.{Contains-get_or, Contains-push, Contains-push_cases, Contains-append_left}
use Rattle.std.proofs.lemmas.Option.{none-some, same_Some, slice_get-get_or, get_or_from_slice_get}
use Rattle.plan_model.proofs.task_networks.Lists.{not-in_empty}
use Rattle.bound_calc.specs.declared.stratifier.named.Ends.{Ends}
use Rattle.bound_calc.specs.stratifier.NamedSearch.{AreEndsBelow, Leads, AreDistances, IsSourceInto, IsSourceOf, weight, left, AreFound}

abbrev HasDistance : List (Option ℕ) → ℕ → Type 0
HasDistance found t = (n : ℕ) × (get_or found t None ≡ Some n)

-- nothing is entered
pub found_none : (Into : ℕ → Type 0) (distance : ℕ) (old : List (Option ℕ)) (next : List ℕ) → ((t : ℕ) → Into t → ⊥) → next ≡ [] → AreFound Into distance old old next
found_none Into distance old next none empty = record {
  room = refl;
  kept = λ t n e. e;
  into = λ t i. absurd (none t i);
  fresh = λ t n e. inl e;
  listed = λ t c. absurd (not-in_empty t (subst (λ s. Contains s t) empty c));
  many = let e = ap length empty in omega arith;
}

pub found_as : {P Q : ℕ → Type 0} → ((t : ℕ) → P t ↔ Q t) → (distance : ℕ) (old new : List (Option ℕ)) (next : List ℕ) → AreFound P distance old new next → AreFound Q distance old new next
found_as same distance old new next h = record {
  room = h.room;
  kept = h.kept;
  into = λ t i. h.into t ((same t).1 i);
  fresh = λ t n e. elim (h.fresh t n e) [ inl f ↦ inl f | inr f ↦ inr (f.0, f.1, (same t).0 f.2) ];
  listed = h.listed;
  many = h.many;
}

module _ {P Q : ℕ → Type 0} (u : ℕ) (parts : (t : ℕ) → Q t ↔ (P t ⊎ (u ≡ t))) (distance : ℕ) (old found : List (Option ℕ)) (next : List ℕ) (h : AreFound P distance old found next) where
  -- one that has a distance already
  pub found_before : HasDistance found u → AreFound Q distance old found next
  found_before has = record {
    room = h.room;
    kept = h.kept;
    into = λ t i. elim ((parts t).0 i) [ inl p ↦ h.into t p | inr e ↦ subst (HasDistance found) e has ];
    fresh = λ t n e. elim (h.fresh t n e) [ inl f ↦ inl f | inr f ↦ inr (f.0, f.1, (parts t).1 (inl f.2)) ];
    listed = h.listed;
    many = h.many;
  }

  -- one that has none
  pub found_one : (new : List (Option ℕ)) (more : List ℕ) → u < length found → get_or found u None ≡ None → new ≡ set found u (Some distance) → more ≡ next ++ u ∷ [] → AreFound Q distance old new more
  found_one new more l none made listed = record {
    room = ap length made ∙ (length-set found u (Some distance) ∙ h.room);
    kept = λ t n e. kept t n (h.kept t n e);
    into = λ t i. elim ((parts t).0 i) [ inl p ↦ (let (n, e) = h.into t p in (n, kept t n e)) | inr e ↦ subst (HasDistance new) e (distance, here) ];
    fresh = λ t n e. elim (cases_eq t u) [
      | inl f ↦ inr (same_Some _ _ (sym e ∙ (ap (λ z. get_or new z None) f ∙ here)), in_more t f, (parts t).1 (inr (sym f)))
      | inr d ↦ elim (h.fresh t n (sym (there t d) ∙ e)) [ inl f ↦ inl f | inr f ↦ inr (f.0, subst (λ s. Contains s t) (sym listed) (Contains-append_left next (u ∷ []) t f.1), (parts t).1 (inl f.2)) ]
    ];
    listed = λ t c. elim (Contains-push_cases next u t (subst (λ s. Contains s t) listed c)) [ inl d ↦ kept t distance (h.listed t d) | inr e ↦ subst (λ z. get_or new z None ≡ Some distance) e here ];
    many =
        let s = sum_by-set weight found u (Some distance) None l in
        let f : weight (get_or found u None) ≡ 1 = ap weight none in
        let g : weight (Some distance) ≡ 0 = refl in
        let a = ap left made in
        let b = ap length listed in
        let c = length_push next u in
        let d = h.many in
        omega (arith, s, f, g, a, b, c, d);
  }
    where
      here : get_or new u None ≡ Some distance
      here = ap (λ s. get_or s u None) made ∙ get_or-set_same found u (Some distance) None l

      there : (t : ℕ) → (t ≡ u → ⊥) → get_or new t None ≡ get_or found t None
      there t d = ap (λ s. get_or s t None) made ∙ get_or-set_other found u t (Some distance) None d

      kept : (t n : ℕ) → get_or found t None ≡ Some n → get_or new t None ≡ Some n
      kept t n e = elim (cases_eq t u) [
        | inl f ↦ absurd (none-some _ (sym none ∙ (ap (λ z. get_or found z None) (sym f) ∙ e)))
        | inr d ↦ there t d ∙ e
      ]

      in_more : (t : ℕ) → t ≡ u → Contains more t
      in_more t f = subst (λ s. Contains s t) (sym listed) (subst (Contains (next ++ u ∷ [])) (sym f) (Contains-push next u))

-- the sources of the first tasks, and the first sources of the next task
abbrev pub IsSourceUpTo : List (List ℕ) → List ℕ → ℕ → List ℕ → ℕ → ℕ → Type 0
IsSourceUpTo sources tasks i row j s = IsSourceOf sources (take i tasks) s ⊎ Contains (take j row) s

pub no_source : (sources : List (List ℕ)) (tasks : List ℕ) (s : ℕ) → IsSourceOf sources (take 0 tasks) s → ⊥
no_source sources tasks s (t, c, d) = not-in_empty t c

pub source_first : (sources : List (List ℕ)) (tasks : List ℕ) (i : ℕ) (row : List ℕ) (s : ℕ) → IsSourceOf sources (take i tasks) s ↔ IsSourceUpTo sources tasks i row 0 s
source_first sources tasks i row s = (inl, λ h. elim h [ inl a ↦ a | inr c ↦ absurd (not-in_empty s c) ])

pub source_next : (sources : List (List ℕ)) (tasks : List ℕ) (i : ℕ) (row : List ℕ) (j u : ℕ) → u ≡ get_or row j u → j < length row
    → (s : ℕ) → IsSourceUpTo sources tasks i row (j + 1) s ↔ (IsSourceUpTo sources tasks i row j s ⊎ (u ≡ s))
source_next sources tasks i row j u is l s = (
  λ h. elim h [
    | inl a ↦ inl (inl a)
    | inr c ↦ elim (Contains-push_cases (take j row) u s (subst (λ z. Contains z s) more c)) [ inl d ↦ inl (inr d) | inr e ↦ inr e ]
  ],
  λ h. elim h [
    | inl a ↦ elim a [ inl b ↦ inl b | inr c ↦ inr (subst (λ z. Contains z s) (sym more) (Contains-append_left (take j row) (u ∷ []) s c)) ]
    | inr e ↦ inr (subst (λ z. Contains z s) (sym more) (subst (Contains (take j row ++ u ∷ [])) e (Contains-push (take j row) u)))
  ],
)
  where
    more : take (j + 1) row ≡ take j row ++ u ∷ []
    more = take_more row j u l ∙ ap (λ z. take j row ++ z ∷ []) (sym is)

pub source_row : (sources : List (List ℕ)) (tasks : List ℕ) (i t : ℕ) (row taken : List ℕ) → t ≡ get_or tasks i t → i < length tasks → row ≡ get_or sources t [] → taken ≡ row
    → (s : ℕ) → (IsSourceOf sources (take i tasks) s ⊎ Contains taken s) ↔ IsSourceOf sources (take (i + 1) tasks) s
source_row sources tasks i t row taken is l same all s = (
  λ h. elim h [
    | inl a ↦ (a.0, subst (λ z. Contains z a.0) (sym more) (Contains-append_left (take i tasks) (t ∷ []) a.0 a.1), a.2)
    | inr c ↦ (t, subst (λ z. Contains z t) (sym more) (Contains-push (take i tasks) t), subst (λ z. Contains z s) (all ∙ same) c)
  ],
  λ h. elim (Contains-push_cases (take i tasks) t h.0 (subst (λ z. Contains z h.0) more h.1)) [
    | inl c ↦ inl (h.0, c, h.2)
    | inr e ↦ inr (subst (λ z. Contains z s) (sym (all ∙ (same ∙ ap (λ z. get_or sources z []) e))) h.2)
  ],
)
  where
    more : take (i + 1) tasks ≡ take i tasks ++ t ∷ []
    more = take_more tasks i t l ∙ ap (λ z. take i tasks ++ z ∷ []) (sym is)

left_within : (found : List (Option ℕ)) → left found ≤ length found
left_within found = let h = sum_by-le weight 1 found (λ k d l. one_at_most (get_or found k d)) in omega arith
  where
    one_at_most : (o : Option ℕ) → weight o ≤ 1
    one_at_most None = omega arith
    one_at_most (Some n) = omega arith

module _ (ends : List Ends) (goal count : ℕ) where
  -- those at most so far away have their distance, and those so far away are the tasks
  pub record IsSearched (found : List (Option ℕ)) (work : List ℕ) (distance : ℕ) : Type 0 where
    pub room : length found ≡ count
    pub start : get_or found goal None ≡ Some 0
    pub leads : (t n : ℕ) → get_or found t None ≡ Some n → (n ≤ distance) × Leads ends goal n t
    pub tasks : (t : ℕ) → Contains work t → get_or found t None ≡ Some distance
    pub done : (t n : ℕ) → get_or found t None ≡ Some n → Contains work t ⊎ ((s : ℕ) → IsSourceInto ends s t → (m : ℕ) × (get_or found s None ≡ Some m) × (m ≤ suc n))
    pub few : distance + left found + length work ≤ count

  pub searched_on : (found new : List (Option ℕ)) (tasks next : List ℕ) (distance far : ℕ) (sources : List (List ℕ)) → far ≡ suc distance → 0 < length tasks
      → ((t s : ℕ) → Contains (get_or sources t []) s ↔ IsSourceInto ends s t) → IsSearched found tasks distance → AreFound (IsSourceOf sources tasks) far found new next → IsSearched new next far
  searched_on found new tasks next distance far sources is some into h f = record {
    room = f.room ∙ h.room;
    start = f.kept goal 0 h.start;
    leads = leads;
    tasks = f.listed;
    done = λ t n e. elim (f.fresh t n e) [ inl o ↦ inr (λ s i. before t n o s i (h.done t n o)) | inr g ↦ inl g.1 ];
    few = let a = h.few in let b = f.many in omega arith;
  }
    where
      leads : (t n : ℕ) → get_or new t None ≡ Some n → (n ≤ far) × Leads ends goal n t
      leads t n e = elim (f.fresh t n e) [
        | inl o ↦ (let (l, w) = h.leads t n o in (omega arith, w))
        | inr g ↦ (let (u, c, d) = g.2 in
            let (link, k, from, to) = (into u t).0 d in
            let w = (h.leads u distance (h.tasks u c)).1 in
            let long : Leads ends goal (suc distance) t = (link, k, from, subst (Leads ends goal distance) (sym to) w) in
            let same : suc distance ≡ n = sym is ∙ sym g.0 in
            (let z = g.0 in omega arith, subst (λ z. Leads ends goal z t) same long))
      ]

      before : (t n : ℕ) → get_or found t None ≡ Some n → (s : ℕ) → IsSourceInto ends s t → Contains tasks t ⊎ ((s : ℕ) → IsSourceInto ends s t → (m : ℕ) × (get_or found s None ≡ Some m) × (m ≤ suc n))
          → (m : ℕ) × (get_or new s None ≡ Some m) × (m ≤ suc n)
      before t n o s i (inl c) =
          let (m, e) = f.into s (t, c, (into t s).1 i) in
          let l = (leads s m e).0 in
          let same : n ≡ distance = same_Some _ _ (sym o ∙ h.tasks t c) in
          (m, e, omega arith)
      before t n o s i (inr g) = let (m, e, l) = g s i in (m, f.kept s m e, l)

  pub searched_all : (found : List (Option ℕ)) (tasks : List ℕ) (distance : ℕ) → tasks ≡ [] → IsSearched found tasks distance → AreDistances ends goal found
  searched_all found tasks distance empty h = record {
    leads = λ t n e. (h.leads t n e).1;
    least = λ t m w. least m t w;
  }
    where
      least : (m t : ℕ) → Leads ends goal m t → (n : ℕ) × (get_or found t None ≡ Some n) × (n ≤ m)
      least zero t w = (0, subst (λ z. get_or found z None ≡ Some 0) (sym w) h.start, omega arith)
      least (suc m) t (link, k, from, w) =
          let (n, e, l) = least m link.to w in
          let (i, f, j) = next link.to n e t (link, k, from, refl) in
          (i, f, omega arith)
        where
          next : (u n : ℕ) → get_or found u None ≡ Some n → (s : ℕ) → IsSourceInto ends s u → (m : ℕ) × (get_or found s None ≡ Some m) × (m ≤ suc n)
          next u n e = elim (h.done u n e) [ inl c ↦ absurd (not-in_empty u (subst (λ s. Contains s u) empty c)) | inr g ↦ g ]

  pub searched_first : (none found : List (Option ℕ)) (tasks : List ℕ) → goal < count → length none ≡ count → ((t : ℕ) → get_or none t None ≡ None) → found ≡ set none goal (Some 0) → tasks ≡ goal ∷ [] → IsSearched found tasks 0
  searched_first none found tasks l room empty made first = record {
    room = f.room ∙ room;
    start = f.listed goal (subst (λ s. Contains s goal) (sym first) (Contains-push [] goal));
    leads = λ t n e. elim (f.fresh t n e) [ inl o ↦ absurd (none-some _ (sym (empty t) ∙ o)) | inr g ↦ (let z = g.0 in omega arith, subst (λ z. Leads ends goal z t) (sym g.0) (sym g.2)) ];
    tasks = f.listed;
    done = λ t n e. elim (f.fresh t n e) [ inl o ↦ absurd (none-some _ (sym (empty t) ∙ o)) | inr g ↦ inl g.1 ];
    few = let a = f.many in let b = left_within none in omega arith;
  }
    where
      f : AreFound (λ t. goal ≡ t) 0 none found tasks
      f = found_one goal (λ t. (inr, λ h. elim h [ inl b ↦ absurd b | inr e ↦ e ])) 0 none none [] (found_none (λ t. ⊥) 0 none [] (λ t b. b) refl) found tasks (omega arith) (empty goal) made first

pub found_within : (found : List (Option ℕ)) (t n : ℕ) → get_or found t None ≡ Some n → t < length found
found_within [] t n e = absurd (none-some n e)
found_within (x ∷ found) zero n e = omega arith
found_within (x ∷ found) (suc t) n e = let l = found_within found t n e in omega arith

pub tasks_within : (ends : List Ends) (goal count : ℕ) (found : List (Option ℕ)) (tasks : List ℕ) (distance : ℕ) → IsSearched ends goal count found tasks distance → All (λ t. t < count) tasks
tasks_within ends goal count found tasks distance h k d l =
    let m = found_within found (get_or tasks k d) distance (h.tasks (get_or tasks k d) (Contains-get_or tasks k d l)) in
    let r = h.room in
    omega arith

pub sources_within : (count : ℕ) (ends : List Ends) (sources : List (List ℕ)) → AreEndsBelow count ends → ((t s : ℕ) → Contains (get_or sources t []) s ↔ IsSourceInto ends s t) → All (All (λ t. t < count)) sources
sources_within count ends sources below each k d l i b m =
    let row = get_or sources k d in
    let same : get_or sources k [] ≡ row = get_or_from_slice_get sources k row [] (slice_get-get_or sources k d l) in
    let (e, (j, n, is), from, to) = (each k (get_or row i b)).0 (subst (λ s. Contains s (get_or row i b)) (sym same) (Contains-get_or row i b m)) in
    subst (λ z. z < count) (ap (λ (z : Ends). z.from) is ∙ from) (below j e n).0

pub not_empty : (n : ℕ) → false ≡ (n == 0) → 0 < n
not_empty zero e = absurd (false≢true e)
not_empty (suc n) e = omega arith

pub is_empty : (n : ℕ) → true ≡ (n == 0) → n ≡ 0
is_empty n e = eqb-true n 0 (sym e)
