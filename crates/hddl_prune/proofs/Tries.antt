-- Tries of a search, one after another.
use Rattle.std.proofs.Common.{ℕ, ◌≡◌, ◌<◌, ◌≤◌, Bool, true, false, refl, sym, ap, subst, ◌∙◌, arith}
use Rattle.hddl_prune.specs.Search.{IsTried}

module _ {S : Type 0} (IsSound : S → Type 0) (size : S → ℕ) where
  abbrev Try : (S → Type 0) → S → S → Bool → Type 0
  Try P old new found = IsTried IsSound size P old new found

  pub none_found : (P : S → Type 0) (s : S) → P s → Try P s s false
  none_found P s p = record { sound = λ x. x; more = λ t x. (let e : false ≡ true = t in absurd cc); same = λ t. (refl, p) }

  pub one_found : (P : S → Type 0) (old new : S) → (IsSound old → IsSound new) → (IsSound old → size old < size new) → Try P old new true
  one_found P old new sound more = record { sound = sound; more = λ t x. more x; same = λ t. (let e : true ≡ false = t in absurd cc) }

  grown : (P : S → Type 0) (a b : S) (t : Bool) → Try P a b t → IsSound a → size a ≤ size b
  grown P a b true u x = let l = u.more refl x in omega arith
  grown P a b false u x = let e = ap size (u.same refl).0 in omega arith

  -- the next try found something
  pub then_found : (P Q R : S → Type 0) (a b c : S) (t : Bool) → Try P a b t → Try Q b c true → Try R a c true
  then_found P Q R a b c t u v = one_found R a c (λ x. v.sound (u.sound x)) (λ x. (let l = grown P a b t u x in let m = v.more refl (u.sound x) in omega arith))

  -- it found nothing
  pub then_none : (P Q R : S → Type 0) (a b c : S) (t : Bool) → ((s : S) → P s → Q s → R s) → Try P a b t → Try Q b c false → Try R a c t
  then_none P Q R a b c t both u v =
      let e : c ≡ b = (v.same refl).0 in
      record {
        sound = λ x. v.sound (u.sound x);
        more = λ y x. (let l = u.more y x in let k = ap size e in omega arith);
        same = λ y. (e ∙ (u.same y).0, both c (subst P (sym e) (u.same y).1) (v.same refl).1);
      }

  pub tried_as : (P R : S → Type 0) (a b : S) (t : Bool) → ((s : S) → P s → R s) → Try P a b t → Try R a b t
  tried_as P R a b t to u = record { sound = u.sound; more = u.more; same = λ y. ((u.same y).0, to b (u.same y).1) }
