-- The facts that were met, as the sets of their numbers and keys grow.
use Rattle.std.proofs.Common.{ℕ, ◌≡◌, ◌^◌, Bool, true, false, cond, not, List, [], ◌∷◌, ◌++◌, ◌||◌, Option, Some, None, nat_eq, refl, ap, sym, subst, ◌∙◌, true≢false}
use Rattle.std.proofs.lemmas.Bool.{eqb-true, eq-eqb}
use Rattle.std.specs.Cmp.{unsigned_ties}
use Rattle.std.specs.Cmp.Lexicographic.{pointwise, texts_ties}
use Rattle.std.specs.Ordering.{nat_cmp}
use Rattle.std.specs.BTreeMap.{is_at}
use Rattle.std.specs.BTreeSet.{contains}
use Rattle.std.specs.Str.{bytes_eq}
use Rattle.std.specs.declared.vec.Vec.{Vec}
use Rattle.std.specs.declared.alloc.Global.{Global}
use Rattle.plan_model.specs.declared.terms.GroundAtom.{GroundAtom}
use Rattle.plan_model.specs.Numbers.{number}
use Rattle.plan_model.proofs.NumberLaws.{same_number}
use Rattle.plan_texts.proofs.Basics.{bytes_eq-refl, bytes_eq-other}
use Rattle.slot_encoding.specs.EncodedValue.{same_atom}
use Rattle.plan_model.proofs.plan_meaning.Once.{has-push}
use Rattle.slot_encoder.specs.declared.single.Seen.{Seen}
use Rattle.slot_encoder.specs.SeenFacts.{key_of, is_among, key_cmp, Meets}

same-true : (x g : GroundAtom) → key_of x ≡ key_of g → same_atom x g ≡ true
same-true x g e = ap (bytes_eq (key_of x)) (sym e) ∙ bytes_eq-refl (key_of x)

same-false : (x g : GroundAtom) → (key_of x ≡ key_of g → ⊥) → same_atom x g ≡ false
same-false x g d = bytes_eq-other (key_of x) (key_of g) d

-- one more fact, of which it is known whether it is the one that is asked for
among-next : (facts : List GroundAtom) (x g : GroundAtom) (same old new : Bool) → same_atom x g ≡ same → old ≡ is_among g facts → new ≡ cond same true old → new ≡ is_among g (facts ++ x ∷ [])
among-next facts x g same old new s o n = n ∙ ap (cond same true) o ∙ as_or same (is_among g facts) ∙ ap (λ b. is_among g facts || b) (sym s) ∙ sym (has-push same_atom facts x g)
  where
    as_or : (a b : Bool) → cond a true b ≡ (b || a)
    as_or true true = refl
    as_or true false = refl
    as_or false true = refl
    as_or false false = refl

-- a fact that is another one adds nothing
among-other : (facts : List GroundAtom) (x g : GroundAtom) (old : Bool) → same_atom x g ≡ false → old ≡ is_among g facts → old ≡ is_among g (facts ++ x ∷ [])
among-other facts x g old s o = among-next facts x g false old old s o refl

module _ (most : ℕ) where
  abbrev numbered : GroundAtom → Option ℕ
  numbered g = number most (2 ^ 64) (key_of g)

  -- facts with numbers are the same where these are
  same-numbered : (x g : GroundAtom) (m n : ℕ) → numbered x ≡ Some m → numbered g ≡ Some n → same_atom x g ≡ nat_eq m n
  same-numbered x g m n e f = by (nat_eq m n) refl
    where
      by : (b : Bool) → nat_eq m n ≡ b → same_atom x g ≡ b
      by true d = same-true x g (same_number most (2 ^ 64) (key_of x) (key_of g) m e (f ∙ ap (λ k. Some k) (sym (eqb-true m n d))))
      by false d = same-false x g (λ k.
          let one : Some m ≡ Some n = sym e ∙ ap (number most (2 ^ 64)) k ∙ f in
          let same : m ≡ n = cc one in
          true≢false (sym (eq-eqb m n same) ∙ d))

  -- a fact with a number is no fact without one
  apart : (x g : GroundAtom) (m : ℕ) → numbered x ≡ Some m → numbered g ≡ None → key_of x ≡ key_of g → ⊥
  apart x g m e f k = let one : Some m ≡ None = sym e ∙ ap (number most (2 ^ 64)) k ∙ f in cc one

module _ (old new : Seen) (x : GroundAtom) (told : Bool) (most : new.most ≡ old.most) where
  -- a fact with this number
  pub met_numbered : (m : ℕ) → number old.most (2 ^ 64) (key_of x) ≡ Some m → new.keys ≡ old.keys
      → ((n : ℕ) → contains nat_cmp new.numbers n ≡ cond (is_at (nat_cmp m) n) true (contains nat_cmp old.numbers n))
      → told ≡ not (contains nat_cmp old.numbers m) → Meets old x new told
  met_numbered m e same more t facts met = (
    t ∙ ap not (met.numbers x m e),
    record {
      numbers = λ g n f. let f = subst (λ m. number m (2 ^ 64) (key_of g) ≡ Some n) most f in
          among-next facts x g (is_at (nat_cmp m) n) (contains nat_cmp old.numbers n) (contains nat_cmp new.numbers n)
          (same-numbered old.most x g m n e f ∙ unsigned_ties m n) (met.numbers g n f) (more n);
      keys = λ g v f k. let f = subst (λ m. number m (2 ^ 64) (key_of g) ≡ None) most f in
          ap (λ ks. contains key_cmp ks v) same ∙ among-other facts x g (contains key_cmp old.keys v) (same-false x g (apart old.most x g m e f)) (met.keys g v f k);
    },
  )

  -- a fact without a number, with this key
  pub met_keyed : (key : Vec ℕ Global) → number old.most (2 ^ 64) (key_of x) ≡ None → key.items ≡ key_of x → new.numbers ≡ old.numbers
      → ((v : Vec ℕ Global) → contains key_cmp new.keys v ≡ cond (is_at (key_cmp key) v) true (contains key_cmp old.keys v))
      → told ≡ not (contains key_cmp old.keys key) → Meets old x new told
  met_keyed key e is same more t facts met = (
    t ∙ ap not (met.keys x key e is),
    record {
      numbers = λ g n f. let f = subst (λ m. number m (2 ^ 64) (key_of g) ≡ Some n) most f in
          ap (λ ns. contains nat_cmp ns n) same ∙ among-other facts x g (contains nat_cmp old.numbers n) (same-false x g (λ k. apart old.most g x n f e (sym k))) (met.numbers g n f);
      keys = λ g v f k. let f = subst (λ m. number m (2 ^ 64) (key_of g) ≡ None) most f in
          among-next facts x g (is_at (key_cmp key) v) (contains key_cmp old.keys v) (contains key_cmp new.keys v)
          (ap (λ z. pointwise nat_eq z (key_of g)) (sym is) ∙ ap (pointwise nat_eq key.items) (sym k) ∙ texts_ties key.items v.items) (met.keys g v f k) (more v);
    },
  )
