-- Sets as pairs are added one by one.
use Rattle.std.proofs.Common.{ℕ, ◌≡◌, ◌+◌, ◌<◌, ◌↔◌, ◌⊎◌, inl, inr, List, [], ◌∷◌, ◌++◌, length, Bool, true, false, take, get_or, set, sym, subst, ap, ◌∙◌, arith, length-set, refl, get_or-set_same, get_or-set_other}
use Rattle.std.proofs.lemmas.List.{take_more}
use Rattle.std.proofs.lemmas.List.Elements.{Contains-append_left}
use Rattle.std.proofs.lemmas.Bool.{cases_eq, both_ways}
use Rattle.plan_model.specs.declared.networks.Pair.{Pair}
use Rattle.plan_model.proofs.task_networks.Lists.{not-in_empty}
use Rattle.plan_model.specs.net_order.Marks.{has, marked, Marked, IsSquare}
use Rattle.plan_model.specs.net_order.Meaning.{AreBelow}
use Rattle.plan_model.specs.Pairs.{pair, Pairs}
use Rattle.plan_model.specs.net_order.Closure.{IsDirect}
use Rattle.plan_model.proofs.net_order.Chains.{among_push, among_cases}
use Rattle.plan_model.proofs.net_order.Closures.{has_added}
use Rattle.plan_model.proofs.net_order.Meanings.{marked_within}

-- another set for one child
module _ (count : ℕ) (before : List (List Bool)) (j : ℕ) (s : List Bool) (square : IsSquare count before) (l : j < count) where
  pub set_at : get_or (set before j s) j [] ≡ s
  set_at = get_or-set_same before j s [] (let e = square.sets in omega arith)

  pub set_apart : (b : ℕ) → (b ≡ j → ⊥) → get_or (set before j s) b [] ≡ get_or before b []
  set_apart b d = get_or-set_other before j b s [] d

  pub square_set : length s ≡ count → IsSquare count (set before j s)
  square_set m = record { sets = length-set before j s ∙ square.sets; marks = λ b k. marks b k (cases_eq b j) }
    where
      marks : (b : ℕ) → b < count → ((b ≡ j) ⊎ (b ≡ j → ⊥)) → length (get_or (set before j s) b []) ≡ count
      marks b k (inl e) = subst (λ x. length (get_or (set before j s) x []) ≡ count) (sym e) (ap length set_at ∙ m)
      marks b k (inr d) = ap length (set_apart b d) ∙ square.marks b k

module _ (count : ℕ) (ps : List Pair) (p : Pair) (now : List (List Bool)) (f : p.first < count) (t : p.then < count) (h : IsDirect count ps now) where
  abbrev more : List Bool
  more = set (get_or now p.then []) p.first true

  abbrev next : List (List Bool)
  next = set now p.then more

  within : p.first < length (get_or now p.then [])
  within = let e = h.square.marks p.then t in omega arith

  abbrev Now : ℕ → ℕ → Type 0
  Now a b = Marked next a b ↔ Pairs (ps ++ p ∷ []) a b

  here : (a : ℕ) → Now a p.then
  here a = (to, from)
    where
      e : marked next a p.then ≡ has more a
      e = ap (λ x. has x a) (set_at count now p.then more h.square t)

      to : Marked next a p.then → Pairs (ps ++ p ∷ []) a p.then
      to m = elim ((has_added (get_or now p.then []) p.first a within).0 (sym e ∙ m)) [
        | inl g ↦ among_push ps p a p.then g refl
        | inr g ↦ Contains-append_left ps (p ∷ []) (pair a p.then) ((h.marks a p.then).0 g)
      ]

      from : Pairs (ps ++ p ∷ []) a p.then → Marked next a p.then
      from c = e ∙ (has_added (get_or now p.then []) p.first a within).1 (elim (among_cases ps p a p.then c) [ inl d ↦ inr ((h.marks a p.then).1 d) | inr g ↦ inl g.0 ])

  apart : (a b : ℕ) → (b ≡ p.then → ⊥) → Now a b
  apart a b d = (to, from)
    where
      e : marked next a b ≡ marked now a b
      e = ap (λ x. has x a) (set_apart count now p.then more h.square t b d)

      to : Marked next a b → Pairs (ps ++ p ∷ []) a b
      to m = Contains-append_left ps (p ∷ []) (pair a b) ((h.marks a b).0 (sym e ∙ m))

      from : Pairs (ps ++ p ∷ []) a b → Marked next a b
      from c = e ∙ (h.marks a b).1 (elim (among_cases ps p a b c) [ inl g ↦ g | inr g ↦ absurd (d g.1) ])

  pub direct_push : IsDirect count (ps ++ p ∷ []) (set now p.then (set (get_or now p.then []) p.first true))
  direct_push = record {
    square = square_set count now p.then more h.square t (length-set (get_or now p.then []) p.first true ∙ h.square.marks p.then t);
    marks = λ a b. elim (cases_eq b p.then) [ inl e ↦ subst (Now a) (sym e) (here a) | inr d ↦ apart a b d ];
  }

pub direct_more : (count : ℕ) (pairs : List Pair) (k : ℕ) (d : Pair) (now : List (List Bool)) → k < length pairs → AreBelow count pairs → IsDirect count (take k pairs) now
    → IsDirect count (take (k + 1) pairs) (set now (get_or pairs k d).then (set (get_or now (get_or pairs k d).then []) (get_or pairs k d).first true))
direct_more count pairs k d now l below h =
    let b = below k d l in
    rw (take_more pairs k d l) (direct_push count (take k pairs) (get_or pairs k d) now b.0 b.1 h)

pub direct_none : (count : ℕ) (before : List (List Bool)) → IsSquare count before → ((i j : ℕ) → j < count → marked before i j ≡ false) → IsDirect count [] before
direct_none count before square empty = record {
  square = square;
  marks = λ i j. ((λ m. absurd (both_ways (marked before i j) (empty i j (marked_within count before square i j m).1) m)), λ c. absurd (not-in_empty (pair i j) c));
}
