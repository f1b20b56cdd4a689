-- Keys tell guards as the guards themselves are told.
use Rattle.std.proofs.Common.{ℕ, ◌≡◌, ◌==◌, ◌+◌, ◌<◌, Bool, true, cond, List, take, get_or, refl, sym, ap, ◌∙◌, length}
use Rattle.std.specs.Ordering.{nat_cmp, bool_cmp, ordering_then, is_eq}
use Rattle.std.specs.Cmp.{unsigned_tied, unsigned_ties, both_tied}
use Rattle.std.specs.BTreeMap.{is_at}
use Rattle.std.specs.declared.cmp.Ordering.{Ordering}
use Rattle.plan_model.specs.declared.terms.Term.{Term}
use Rattle.plan_model.specs.declared.terms.Term.TheVariants.{Var, Obj}
use Rattle.plan_model.specs.declared.networks.Guard.{Guard}
use Rattle.plan_model.specs.plan_meaning.Compilation.{same_term, same_guard}
use Rattle.bound_calc.specs.method_precs.Keys.{term_key, key}
use Rattle.plan_model.proofs.plan_meaning.Once.{has, has_next}

-- the order of keys by which a set finds them
abbrev pub key_cmp : ℕ × (Bool × ℕ) → ℕ × (Bool × ℕ) → Ordering
key_cmp x y = ordering_then (nat_cmp x.0 y.0) (ordering_then (bool_cmp x.1.0 y.1.0) (nat_cmp x.1.1 y.1.1))

same_terms : (t u : Term) → is_eq (ordering_then (bool_cmp (term_key t).0 (term_key u).0) (nat_cmp (term_key t).1 (term_key u).1)) ≡ same_term t u
same_terms (Var i) (Var j) = unsigned_tied i j
same_terms (Obj i) (Obj j) = unsigned_tied i j
same_terms (Var i) (Obj j) = refl
same_terms (Obj i) (Var j) = refl

pub same_keys : (g k : Guard) → is_at (key_cmp (key g)) (key k) ≡ same_guard g k
same_keys g k =
    sym (both_tied (g.ty == k.ty) (same_term g.term k.term) (nat_cmp g.ty k.ty)
    (ordering_then (bool_cmp (term_key g.term).0 (term_key k.term).0) (nat_cmp (term_key g.term).1 (term_key k.term).1))
    (unsigned_ties g.ty k.ty) (sym (same_terms g.term k.term)))

-- the keys seen so far and one more
pub seen_more : (guards : List Guard) (k : ℕ) (d : Guard) → k < length guards → (g : Guard) (old new : Bool)
    → old ≡ has same_guard g (take k guards) → new ≡ cond (is_at (key_cmp (key (get_or guards k d))) (key g)) true old → new ≡ has same_guard g (take (k + 1) guards)
seen_more guards k d l g old new o n = has_next same_guard guards k d l g old new o (n ∙ ap (λ b. cond b true old) (same_keys (get_or guards k d) g))
