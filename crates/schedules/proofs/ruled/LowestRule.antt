-- The lowest free slots: there are as many as any free ones, and they are the only ones.
use Rattle.std.proofs.Common.{ℕ, zero, suc, ◌≡◌, ◌+◌, ◌<◌, ◌≤◌, ◌⊎◌, ◌↔◌, inl, inr, List, [], ◌∷◌, ◌++◌, length, map, take, drop, refl, ap, sym, subst, ◌∙◌, Contains, append_assoc, arith}
use Rattle.std.proofs.Math.Decide.{ℕ_discrete}
use Rattle.std.proofs.lemmas.List.{length-take-le, take-append-drop}
use Rattle.std.proofs.lemmas.List.Elements.{Contains-append_left, Contains-append_cases}
use Rattle.htn_base.specs.Different.{AreDifferent}
use Rattle.plan_model.specs.task_networks.Net.{Net}
use Rattle.plan_model.specs.task_networks.Lawful.{IsLawful}
use Rattle.plan_model.specs.task_networks.Tree.{Tree, Address}
use Rattle.plan_model.specs.task_networks.Spelling.{Act, apply, Spells}
use Rattle.plan_model.proofs.task_networks.Different.{different_without, no_more}
use Rattle.plan_model.proofs.task_networks.Lists.{head_or_tail, not-in_empty, Contains-here, Contains-later}
use Rattle.plan_model.specs.task_networks.PendingComputed.{pending}
use Rattle.plan_model.proofs.task_networks.PendingNodes.{pending_iff}
use Rattle.slot_machine.proofs.SpellingSteps.{open_pending, pending_open}
use Rattle.slot_machine.specs.Machine.{May}
use Rattle.slot_machine.proofs.Matching.{Matches}
use Rattle.slot_machine.proofs.OtherChildren.{map_cases, Contains-map}
use Rattle.slot_machine.proofs.SpellingRuns.{runs_from_spells}
use Rattle.plan_model.proofs.task_networks.Unused.{is_in}
use Rattle.schedules.specs.ruled.Narrowed.{after, AlwaysPicks, PicksOne}
use Rattle.schedules.specs.ruled.SlotRule.{PicksBy, SeesFree}
use Rattle.schedules.specs.ruled.LowestSlots.{AreLowestFree, LowestRule}

pub by_order : (a b : ℕ) → (a < b) ⊎ ((a ≡ b) ⊎ (b < a))
by_order a b = grind arith

move : (before : List ℕ) (x : ℕ) (zs : List ℕ) → before ++ x ∷ zs ≡ (before ++ x ∷ []) ++ zs
move before x zs = sym (append_assoc before (x ∷ []) zs)

first_same : (free : ℕ → Type 0) (before : List ℕ) (x y : ℕ) (xs ys : List ℕ) → AreDifferent (before ++ x ∷ xs)
    → AreDifferent (before ++ y ∷ ys)
    → ((z : ℕ) → Contains (x ∷ xs) z → free z) → ((z : ℕ) → Contains (y ∷ ys) z → free z) → AreLowestFree free (before ++ x ∷ xs)
    → AreLowestFree free (before ++ y ∷ ys) → x ≡ y
first_same free before x y xs ys dx dy fx fy lx ly = elim (by_order x y) [
  | inl h ↦ absurd ((different_without before x xs dx).1 (Contains-append_left before xs x (ly before ys y x refl (fx x (Contains-here x xs)) h)))
  | inr (inl e) ↦ e
  | inr (inr h) ↦ absurd ((different_without before y ys dy).1 (Contains-append_left before ys y (lx before xs x y refl (fy y (Contains-here y ys)) h)))
]

-- two lists of lowest free slots go on alike after what they share
go_on : (free : ℕ → Type 0) (before xs ys : List ℕ) → length xs ≡ length ys → AreDifferent (before ++ xs) → AreDifferent (before ++ ys)
    → ((x : ℕ) → Contains xs x → free x) → ((x : ℕ) → Contains ys x → free x) → AreLowestFree free (before ++ xs)
    → AreLowestFree free (before ++ ys) → xs ≡ ys
go_on free before [] [] l dx dy fx fy lx ly = refl
go_on free before [] (y ∷ ys) l dx dy fx fy lx ly = absurd (omega arith)
go_on free before (x ∷ xs) [] l dx dy fx fy lx ly = absurd (omega arith)
go_on free before (x ∷ xs) (y ∷ ys) l dx dy fx fy lx ly =
    let same = first_same free before x y xs ys dx dy fx fy lx ly in
    let rest = go_on free (before ++ x ∷ []) xs ys (omega arith) (subst AreDifferent (move before x xs) dx) (subst AreDifferent (move before x ys) (subst (λ z. AreDifferent (before ++ z ∷ ys)) (sym same) dy))
    (λ z c. fx z (Contains-later x xs z c)) (λ z c. fy z (Contains-later y ys z c))
    (subst (AreLowestFree free) (move before x xs) lx) (subst (AreLowestFree free) (move before x ys) (subst (λ z. AreLowestFree free (before ++ z ∷ ys)) (sym same) ly)) in
    cc

pub lowest_only : (free : ℕ → Type 0) (xs ys : List ℕ) → length xs ≡ length ys → AreDifferent xs → AreDifferent ys
    → ((x : ℕ) → Contains xs x → free x) → ((x : ℕ) → Contains ys x → free x)
    → AreLowestFree free xs → AreLowestFree free ys → xs ≡ ys
lowest_only free xs ys = go_on free [] xs ys

-- of n numbers from i on, those that aren't held, in order
left : List ℕ → ℕ → ℕ → List ℕ
left held i zero = []
left held i (suc n) = elim (is_in held i) [ yes c ↦ left held (suc i) n | no d ↦ i ∷ left held (suc i) n ]

left_cases : (held : List ℕ) (i n x : ℕ) → Contains (left held i n) x → (i ≤ x) × (x < i + n) × (Contains held x → ⊥)
unfolding left
left_cases held i zero x c = absurd (not-in_empty x c)
left_cases held i (suc n) x c = go (is_in held i) (λ d. left_cases held (suc i) n x d) c
  where
    go : (d : Dec (Contains held i)) → (Contains (left held (suc i) n) x → (suc i ≤ x) × (x < suc i + n) × (Contains held x → ⊥))
        → Contains (elim d [ yes c ↦ left held (suc i) n | no d ↦ i ∷ left held (suc i) n ]) x
        → (i ≤ x) × (x < i + suc n) × (Contains held x → ⊥)
    go (yes y) ih c = let h = ih c in (let a = h.0 in omega arith, let b = h.1 in omega arith, h.2)
    go (no y) ih c = elim (head_or_tail i (left held (suc i) n) x c) [
      | inl e ↦ (omega arith, omega arith, λ z. y (subst (Contains held) (sym e) z))
      | inr d ↦ (let h = ih d in (let a = h.0 in omega arith, let b = h.1 in omega arith, h.2))
    ]

to_left : (held : List ℕ) (i n x : ℕ) → i ≤ x → x < i + n → (Contains held x → ⊥) → Contains (left held i n) x
unfolding left
to_left held i zero x a b f = absurd (omega arith)
to_left held i (suc n) x a b f = go (is_in held i) (ℕ_discrete i x) (λ y z. to_left held (suc i) n x y z f)
  where
    go : (d : Dec (Contains held i)) → Dec (i ≡ x) → (suc i ≤ x → x < suc i + n → Contains (left held (suc i) n) x)
        → Contains (elim d [ yes c ↦ left held (suc i) n | no d ↦ i ∷ left held (suc i) n ]) x
    go (yes y) (yes e) ih = absurd (f (subst (Contains held) e y))
    go (yes y) (no e) ih = ih (omega arith) (omega arith)
    go (no y) (yes e) ih = (0, omega arith, e)
    go (no y) (no e) ih = Contains-later i (left held (suc i) n) x (ih (omega arith) (omega arith))

-- what stands later is greater
ascending : (held : List ℕ) (i n : ℕ) (before rest : List ℕ) (x y : ℕ) → left held i n ≡ before ++ x ∷ rest → Contains rest y → x < y
unfolding left
ascending held i zero [] rest x y e c = absurd cc
ascending held i zero (b ∷ before) rest x y e c = absurd cc
ascending held i (suc n) before rest x y e c = go (is_in held i) (λ b f. ascending held (suc i) n b rest x y f c) before e
  where
    go : (d : Dec (Contains held i)) → ((before : List ℕ) → left held (suc i) n ≡ before ++ x ∷ rest → x < y) → (before : List ℕ)
        → elim d [ yes c ↦ left held (suc i) n | no d ↦ i ∷ left held (suc i) n ] ≡ before ++ x ∷ rest → x < y
    go (yes z) ih before e = ih before e
    go (no z) ih [] e =
        let f : left held (suc i) n ≡ rest = cc in
        let g : i ≡ x = cc in
        let h = (left_cases held (suc i) n y (subst (λ v. Contains v y) (sym f) c)).0 in
        omega arith
    go (no z) ih (b ∷ before) e = ih before cc

-- where some are free, the lowest free ones are as many
pub lowest_exist : (free : ℕ → Type 0) (b : ℕ) (held some : List ℕ) → ((x : ℕ) → free x ↔ ((1 ≤ x) × (x ≤ b) × (Contains held x → ⊥)))
    → AreDifferent some → ((x : ℕ) → Contains some x → free x)
    → (new : List ℕ) × (length new ≡ length some) × AreDifferent new × ((x : ℕ) → Contains new x → free x) × AreLowestFree free new
lowest_exist free b held some iff d f = (new, length-take-le (length some) all enough, different new (drop (length some) all) whole, are_free, lowest)
  where
    all : List ℕ
    all = left held 1 b

    new : List ℕ
    new = take (length some) all

    whole : all ≡ new ++ drop (length some) all
    whole = sym (take-append-drop (length some) all)

    in_all : (x : ℕ) → free x → Contains all x
    in_all x h = let k = (iff x).0 h in let a = k.1 in to_left held 1 b x k.0 (omega arith) k.2

    from_all : (x : ℕ) → Contains all x → free x
    from_all x c = let h = left_cases held 1 b x c in (iff x).1 (h.0, (let a = h.1 in omega arith), h.2)

    enough : length some ≤ length all
    enough = no_more some all d (λ x c. in_all x (f x c))

    are_free : (x : ℕ) → Contains new x → free x
    are_free x c = from_all x (subst (λ v. Contains v x) (sym whole) (Contains-append_left new (drop (length some) all) x c))

    different : (xs more : List ℕ) → all ≡ xs ++ more → AreDifferent xs
    different xs more e = go xs [] e
      where
        go : (ys before : List ℕ) → all ≡ before ++ (ys ++ more) → AreDifferent ys
        go [] before e = tt
        go (y ∷ ys) before e = (λ c. (let h = ascending held 1 b before (ys ++ more) y y e (Contains-append_left ys more y c) in omega arith), go ys (before ++ y ∷ []) (e ∙ move before y (ys ++ more)))

    lowest : AreLowestFree free new
    lowest before rest x y e h l =
        let cut : all ≡ before ++ x ∷ (rest ++ drop (length some) all) = whole ∙ ap (λ z. z ++ drop (length some) all) e ∙ append_assoc before (x ∷ rest) (drop (length some) all) in
        elim (Contains-append_cases before (x ∷ (rest ++ drop (length some) all)) y (subst (λ z. Contains z y) cut (in_all y h))) [
          | inl c ↦ c
          | inr c ↦ elim (head_or_tail x (rest ++ drop (length some) all) y c) [
            | inl z ↦ absurd (omega arith)
            | inr k ↦ absurd (let z = ascending held 1 b before (rest ++ drop (length some) all) x y cut k in omega arith)
          ]
        ]

module _ (N : Net) where
  pub lowest_sees_free : SeesFree N (LowestRule N)
  lowest_sees_free free other h m new same low before rest x y e f l = low before rest x y e ((same y).1 f) l

  module _ (law : IsLawful N) (b : ℕ) (top : N.Work) where
    pub lowest_one : PicksOne N (PicksBy N (LowestRule N) b top) b top
    lowest_one acts tree order slot h new other m s a c p q = lowest_only (after N b top acts).free new other (a.enough ∙ sym c.enough) a.apart c.apart a.free c.free p q

    pub lowest_always : AlwaysPicks N (PicksBy N (LowestRule N) b top) b top
    lowest_always = record { runs = λ acts tree order slot h w s m. tt; methods = λ acts tree order slot h some m s a. some_lowest acts tree order slot h some m s.spells a }
      where
        some_lowest : (acts : List (Act N)) (tree : Tree N) (order : List Address) (slot : Address → ℕ) (h : ℕ) (some : List ℕ) (m : N.Method)
            → Spells N b top acts tree order slot → May N (after N b top acts) (apply h some m)
            → (new : List ℕ) × May N (after N b top acts) (apply h new m) × AreLowestFree (after N b top acts).free new
        some_lowest acts tree order slot h some m s a =
            let (new, l, d, f, low) = lowest_exist (after N b top acts).free b held some iff a.apart a.free in
            (new, record { holds = a.holds; ground = a.ground; unblocked = a.unblocked; enough = l ∙ a.enough; free = f; apart = d }, low)
          where
            matches : Matches N b (after N b top acts) tree slot
            matches = (runs_from_spells N law b top order acts tree slot s).1

            held : List ℕ
            held = map slot (pending N tree order)

            iff : (x : ℕ) → (after N b top acts).free x ↔ ((1 ≤ x) × (x ≤ b) × (Contains held x → ⊥))
            iff x = (
              λ k. (let y = (matches.free x).0 k in (y.0, y.1, λ c. (let (q, z, e) = map_cases slot (pending N tree order) x c in y.2 q (pending_open N tree order q s.front.schedule ((pending_iff N tree order q).0 z)) e))),
              λ y. (matches.free x).1 (y.0, y.1, λ q o e. y.2 (subst (Contains held) e (Contains-map slot (pending N tree order) q ((pending_iff N tree order q).1 (open_pending N tree order q s.front.schedule o))))),
            )
