-- Bytes that are put on a sheet one after another, and what comes of them.
use Rattle.std.proofs.Common.{ℕ, ◌≡◌, ◌<◌, ◌≤◌, ◌⊎◌, inl, inr, Bool, true, false, List, [], ◌++◌, length, refl, ap, sym, subst, ◌∙◌, append_assoc, arith}
use Rattle.std.proofs.lemmas.List.{append-nil, length-append}
use Rattle.text_forms.specs.sheets.Sheets.{capped, AppendsPrefix, Wrote, Counts, IsFresh}
use Rattle.text_forms.specs.declared.sheets.sheet.Sheet.{Sheet}

pub wrote-as : {a b : List ℕ} {s t : Sheet} → a ≡ b → Wrote a s t → Wrote b s t
wrote-as {s = s} {t = t} e w = subst (λ z. Wrote z s t) e w

pub wrote-nothing : (s : Sheet) → Wrote [] s s
wrote-nothing s = record {
  same_text = refl;
  same_limit = refl;
  all = λ e. (e, sym (append-nil s.into.now));
  prefix = ([], [], refl, sym (append-nil s.into.now));
  stopped = λ e. refl;
  counted = omega (arith);
  within = λ e l. l;
  wanting = λ e. e;
  cause = λ e. inl e;
}

-- what was done, where the first was put whole and where it was not
then-prefix : (whole : Bool) (a b old mid new : List ℕ) → (whole ≡ true → mid ≡ old ++ a) → (whole ≡ false → new ≡ mid) → AppendsPrefix a old mid → AppendsPrefix b mid new → AppendsPrefix (a ++ b) old new
then-prefix true a b old mid new f g p q = (a ++ q.0, q.1, ap (λ z. a ++ z) q.2 ∙ sym (append_assoc a q.0 q.1), q.3 ∙ ap (λ z. z ++ q.0) (f refl) ∙ append_assoc old a q.0)
then-prefix false a b old mid new f g p q = (p.0, p.1 ++ b, ap (λ z. z ++ b) p.2 ∙ append_assoc p.0 p.1 b, g refl ∙ p.3)

not-whole : (whole : Bool) → (whole ≡ true → false ≡ true) → whole ≡ false
not-whole true f = sym (f refl)
not-whole false f = refl

-- one way or the other
by-whole : {C : Type 0} (whole : Bool) → (whole ≡ true → C) → (whole ≡ false → C) → C
by-whole true f g = f refl
by-whole false f g = g refl

cause-then : {b : List ℕ} (s t u : Sheet) → Wrote b t u → (s.whole ≡ false) ⊎ (t.wanting ≡ true) ⊎ (t.limit < capped t.count) → (s.whole ≡ false) ⊎ (u.wanting ≡ true) ⊎ (u.limit < capped u.count)
cause-then s t u w (inl e) = inl e
cause-then s t u w (inr (inl e)) = inr (inl (w.wanting e))
cause-then {b = b} s t u w (inr (inr l)) = let c = w.counted in let k = w.same_limit in inr (inr (omega (arith, c, k, l)))

pub wrote-then : {a b : List ℕ} {s t u : Sheet} → Wrote a s t → Wrote b t u → Wrote (a ++ b) s u
wrote-then {a = a} {b = b} {s = s} {t = t} {u = u} v w = record {
  same_text = w.same_text ∙ v.same_text;
  same_limit = w.same_limit ∙ v.same_limit;
  all = λ e. ((v.all ((w.all e).0)).0, (w.all e).1 ∙ ap (λ z. z ++ b) ((v.all ((w.all e).0)).1) ∙ append_assoc s.into.now a b);
  prefix = then-prefix t.whole a b s.into.now t.into.now u.into.now (λ e. (v.all e).1) w.stopped v.prefix w.prefix;
  stopped = λ e. w.stopped (not-whole t.whole (λ f. sym e ∙ (v.all f).0)) ∙ v.stopped e;
  counted = let c = v.counted in let d = w.counted in let l = length-append a b in omega (arith, c, d, l);
  within = λ e l. w.within e (v.within ((w.all e).0) l);
  wanting = λ e. w.wanting (v.wanting e);
  cause = λ e. by-whole t.whole (λ f. elim (w.cause e) [
    | inl g ↦ absurd (cc)
    | inr r ↦ inr r
  ]) (λ f. cause-then s t u w (v.cause f));
}

-- of so many bytes that are counted all are put, where the text takes nothing more
pub wrote-counted : (a : List ℕ) (n : ℕ) {s t : Sheet} → s.whole ≡ false → n ≡ capped (length a) → Counts n s t → Wrote a s t
wrote-counted a n {s = s} {t = t} over e c = record {
  same_text = ap (λ z. z.ghost_name) c.same_into;
  same_limit = c.same_limit;
  all = λ f. absurd (let g = c.same_whole in cc);
  prefix = ([], a, refl, ap (λ z. z.now) c.same_into ∙ sym (append-nil s.into.now));
  stopped = λ f. ap (λ z. z.now) c.same_into;
  counted = let d = c.counted in omega (arith, d, e);
  within = λ f l. absurd (let g = c.same_whole in cc);
  wanting = λ f. c.same_wanting ∙ f;
  cause = λ f. inl over;
}

-- On a sheet on which nothing was put before: where the text has all, it has these bytes, and no more than its limit; else, if memory was
-- not wanting, they are more than the limit, and so many were counted.
module _ {bytes old : List ℕ} {limit : ℕ} {s t : Sheet} (fresh : IsFresh old limit s) (w : Wrote bytes s t) where
  pub whole-has : t.whole ≡ true → t.into.now ≡ old ++ bytes
  whole-has e = (w.all e).1 ∙ ap (λ z. z ++ bytes) fresh.text

  pub whole-fits : t.whole ≡ true → capped (length bytes) ≤ limit
  whole-fits e =
      let l = w.within e (let a = fresh.count in let b = fresh.limit_is in omega (arith, a, b)) in
      let c = w.counted in let k = w.same_limit in let a = fresh.count in let b = fresh.limit_is in omega (arith, l, c, k, a, b)

  pub long-counts : capped t.count ≡ capped (length bytes)
  long-counts = let c = w.counted in let a = fresh.count in omega (arith, c, a)

  pub long-is-long : t.whole ≡ false → t.wanting ≡ false → limit < capped (length bytes)
  long-is-long e f = elim (w.cause e) [
    | inl g ↦ absurd (let h = fresh.whole in cc)
    | inr (inl g) ↦ absurd (cc)
    | inr (inr l) ↦ let c = w.counted in let k = w.same_limit in let a = fresh.count in let b = fresh.limit_is in omega (arith, l, c, k, a, b)
  ]

  pub has-prefix : AppendsPrefix bytes old t.into.now
  has-prefix = (w.prefix.0, w.prefix.1, w.prefix.2, w.prefix.3 ∙ ap (λ z. z ++ w.prefix.0) fresh.text)
