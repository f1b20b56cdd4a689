-- Readers that tell exactly what is whole, what begins, and the first token that departs; and how they are put together.
use Rattle.std.proofs.Common.{◌≡◌, ℕ, suc, ◌<◌, ◌≤◌, ◌⊎◌, inl, inr, ⊎_elim, Bool, true, false, nat_lt, if◌then◌else◌, Ok, Err, Result, refl, sym, ◌∙◌, ap, subst, arith, rules}
use Rattle.std.proofs.str.Laws.{order}
use borrow.Author.Tests.{ltb-true, ltb-false}
use Rattle.gd_reader.specs.Forms.{Form, ◌followed_by◌}
use Rattle.text_forms.specs.Fronts.{cut_before}
use Rattle.text_forms.specs.Placed.{Placed, cut, close, word, list, IsWhole}
use Rattle.text_forms.specs.Words.{Word}
use Rattle.text_forms.proofs.Fronts.{Rises}
use Rattle.gd_reader.specs.declared.stop.Stop.{Stop}
use Rattle.gd_reader.specs.declared.stop.Stop.TheVariants.{Ends, Departs}
use Rattle.gd_reader.specs.Answers.{◌>>=◌}

-- what is read is whole, what ends too early begins the form, and what departs doesn't begin it
abbrev pub Tells : {X : Type 0} → Form → Result X Stop → Type 0
Tells form (Ok x) = form.Whole × form.Begins
Tells form (Err Ends) = (form.Whole → ⊥) × form.Begins
Tells form (Err (Departs code at)) = (form.Whole → ⊥) × (form.Begins → ⊥)

-- what departs stands at lo or behind it
abbrev pub After : {X : Type 0} → ℕ → Result X Stop → Type 0
After lo (Ok x) = Unit {0}
After lo (Err Ends) = Unit {0}
After lo (Err (Departs code at)) = lo ≤ at

-- what becomes of an answer where the tokens from place m on are cut
abbrev pub Cuts : {X : Type 0} → ℕ → Result X Stop → Result X Stop → Type 0
Cuts m (Ok x) s = (s ≡ Ok x) ⊎ (s ≡ Err Ends)
Cuts m (Err Ends) s = s ≡ Err Ends
Cuts m (Err (Departs code at)) s = ((at < m) × (s ≡ Err (Departs code at))) ⊎ ((m ≤ at) × (s ≡ Err Ends))

-- the answer to one token: it doesn't end, and departs at this token if it does
abbrev pub Own : {X : Type 0} → ℕ → Result X Stop → Type 0
Own at (Ok x) = Unit {0}
Own at (Err Ends) = ⊥
Own at (Err (Departs code a)) = a ≡ at

pub record IsExact {X : Type 0} (form : Placed → Form) (read : Placed → Result X Stop) (p : Placed) : Type 0 where
  pub tells : Tells (form p) (read p)
  -- only the end of the tokens ends it
  pub goes_on : IsWhole p → read p ≡ Err Ends → ⊥
  pub after : (lo hi : ℕ) → Rises lo p hi → After lo (read p)
  pub cuts : (m lo hi : ℕ) → Rises lo p hi → Cuts m (read p) (read (cut_before m p))

-- one answer after another
tells_then : {X Y : Type 0} (a b : Form) (r : Result X Stop) (f : X → Result Y Stop) → Tells a r → ((x : X) → r ≡ Ok x → Tells b (f x)) → Tells (a followed_by b) (r >>= f)
tells_then {Y = Y} a b (Ok x) f t u = second (f x) (u x refl)
  where
    second : (s : Result Y Stop) → Tells b s → Tells (a followed_by b) s
    second (Ok y) v = ((t.0, v.0), (t.1, λ _. v.1))
    second (Err Ends) v = (λ w. v.0 w.1, (t.1, λ _. v.1))
    second (Err (Departs code at)) v = (λ w. v.0 w.1, λ c. v.1 (c.1 t.0))
tells_then a b (Err Ends) f t u = (λ w. t.0 w.0, (t.1, λ w. absurd (t.0 w)))
tells_then a b (Err (Departs code at)) f t u = (λ w. t.0 w.0, λ c. t.1 c.0)

tells_map : {X Y : Type 0} (a : Form) (r : Result X Stop) (f : X → Y) → Tells a r → Tells a (r >>= (λ x. Ok (f x)))
tells_map a (Ok x) f t = t
tells_map a (Err Ends) f t = t
tells_map a (Err (Departs code at)) f t = t

clash : {X : Type 0} {P : Type 0} {x : X} → ◌≡◌ {A = Result X Stop} (Ok x) (Err Ends) → P
clash e = cc

clash_departs : {X : Type 0} {P : Type 0} {code at : ℕ} → ◌≡◌ {A = Result X Stop} (Err (Departs code at)) (Err Ends) → P
clash_departs e = cc

goes_then : {X Y : Type 0} (r : Result X Stop) (f : X → Result Y Stop) → (r ≡ Err Ends → ⊥) → ((x : X) → r ≡ Ok x → f x ≡ Err Ends → ⊥) → r >>= f ≡ Err Ends → ⊥
goes_then (Ok x) f a b e = b x refl e
goes_then (Err Ends) f a b e = a refl
goes_then (Err (Departs code at)) f a b e = clash_departs e

after_less : {X : Type 0} (lo lo' : ℕ) (r : Result X Stop) → lo ≤ lo' → After lo' r → After lo r
after_less lo lo' (Ok x) h a = tt
after_less lo lo' (Err Ends) h a = tt
after_less lo lo' (Err (Departs code at)) h a = omega arith

after_then : {X Y : Type 0} (lo : ℕ) (r : Result X Stop) (f : X → Result Y Stop) → After lo r → ((x : X) → r ≡ Ok x → After lo (f x)) → After lo (r >>= f)
after_then lo (Ok x) f a b = b x refl
after_then lo (Err Ends) f a b = tt
after_then lo (Err (Departs code at)) f a b = a

cuts_ends : {X : Type 0} (m lo : ℕ) (r : Result X Stop) → m ≤ lo → After lo r → Cuts m r (Err Ends)
cuts_ends m lo (Ok x) h a = inr refl
cuts_ends m lo (Err Ends) h a = refl
cuts_ends m lo (Err (Departs code at)) h a = inr (omega arith, refl)

cuts_then : {X Y : Type 0} (m : ℕ) (r s : Result X Stop) (f g : X → Result Y Stop) → Cuts m r s → ((x : X) → r ≡ Ok x → Cuts m (f x) (g x)) → (s ≡ Err Ends → (x : X) → r ≡ Ok x → Cuts m (f x) (Err Ends)) → Cuts m (r >>= f) (s >>= g)
cuts_then m (Ok x) s f g (inl e) b c = subst (λ s. Cuts m (f x) (s >>= g)) (sym e) (b x refl)
cuts_then m (Ok x) s f g (inr e) b c = subst (λ s. Cuts m (f x) (s >>= g)) (sym e) (c e x refl)
cuts_then m (Err Ends) s f g e b c = ap (λ s. s >>= g) e
cuts_then m (Err (Departs code at)) s f g (inl e) b c = inl (e.0, ap (λ s. s >>= g) e.1)
cuts_then m (Err (Departs code at)) s f g (inr e) b c = inr (e.0, ap (λ s. s >>= g) e.1)

-- the first token is cut, or stands
first_cut : {X : Type 0} (m at : ℕ) (read : Placed → Result X Stop) (r : Result X Stop) (rest : Placed) → read cut ≡ Err Ends → After at r → (at < m → Cuts m r (read rest)) → Cuts m r (read (if nat_lt at m then rest else cut))
first_cut m at read r rest ends a stands = by_test (nat_lt at m) refl
  where
    by_test : (b : Bool) → nat_lt at m ≡ b → Cuts m r (read (if b then rest else cut))
    by_test true e = stands (ltb-true at m e)
    by_test false e = subst (Cuts m r) (sym ends) (cuts_ends m at r (ltb-false at m e) a)

-- where parts are below a place, cutting there leaves them
rises_le : (lo hi : ℕ) (p : Placed) → Rises lo p hi → lo ≤ hi
rises_le lo hi cut r = r
rises_le lo hi (close at) r = let a = r.0 in let b = r.1 in omega arith
rises_le lo hi (word at w p) r = let a = r.0 in omega (arith, rises_le (suc at) hi p r.1)
rises_le lo hi (list at p q) r = let a = r.0 in omega (arith, rises_le (suc at) r.1.0 p r.1.1, rises_le r.1.0 hi q r.1.2)

test_true : (at m : ℕ) → at < m → nat_lt at m ≡ true
test_true at m h = search (arith, rules)

cut_none : (m lo hi : ℕ) (p : Placed) → Rises lo p hi → hi ≤ m → cut_before m p ≡ p
cut_none m lo hi cut r h = refl
cut_none m lo hi (close at) r h = let b = r.1 in ap (λ b. if b then close at else cut) (test_true at m (omega arith))
cut_none m lo hi (word at w p) r h =
    let lt : at < m = omega (arith, rises_le (suc at) hi p r.1) in
    ap (λ b. if b then word at w (cut_before m p) else cut) (test_true at m lt) ∙ ap (word at w) (cut_none m (suc at) hi p r.1 h)
cut_none m lo hi (list at p q) r h =
    let mid = r.1.0 in
    let le = rises_le mid hi q r.1.2 in
    let lt : at < m = omega (arith, rises_le (suc at) mid p r.1.1) in
    ap (λ b. if b then list at (cut_before m p) (cut_before m q) else cut) (test_true at m lt)
    ∙ (λ k. list at (cut_none m (suc at) mid p r.1.1 (omega arith) k) (cut_none m mid hi q r.1.2 h k))

own_goes : {X : Type 0} (at : ℕ) (r : Result X Stop) → Own at r → r ≡ Err Ends → ⊥
own_goes at (Ok x) o e = clash e
own_goes at (Err Ends) o e = o
own_goes at (Err (Departs code a)) o e = clash_departs e

own_after : {X : Type 0} (lo at : ℕ) (r : Result X Stop) → lo ≤ at → Own at r → After lo r
own_after lo at (Ok x) h o = tt
own_after lo at (Err Ends) h o = tt
own_after lo at (Err (Departs code a)) h o = omega arith

own_cuts : {X : Type 0} (m at : ℕ) (r : Result X Stop) → Own at r → at < m → Cuts m r r
own_cuts m at (Ok x) o h = inl refl
own_cuts m at (Err Ends) o h = refl
own_cuts m at (Err (Departs code a)) o h = inl (omega arith, refl)

module _ {X : Type 0} (form : Placed → Form) (read : Placed → Result X Stop) (ends : read cut ≡ Err Ends) where
  pub exact_cut : ((form cut).Whole → ⊥) × (form cut).Begins → IsExact form read cut
  exact_cut t = record {
    tells = subst (Tells (form cut)) (sym ends) t;
    goes_on = λ h _. h;
    after = λ lo hi r. subst (After lo) (sym ends) tt;
    cuts = λ m lo hi r. subst (λ a. Cuts m a a) (sym ends) refl;
  }

  -- the end of the list
  pub exact_close : (at : ℕ) (r : Result X Stop) → read (close at) ≡ r → Own at r → Tells (form (close at)) r → IsExact form read (close at)
  exact_close at r is own t = record {
    tells = subst (Tells (form (close at))) (sym is) t;
    goes_on = λ h e. own_goes at r own (sym is ∙ e);
    after = λ lo hi s. subst (After lo) (sym is) (own_after lo at r s.0 own);
    cuts = λ m lo hi s. first_cut m at read (read (close at)) (close at) ends (subst (After at) (sym is) (own_after at at r (omega arith) own)) (λ lt. subst (λ a. Cuts m a a) (sym is) (own_cuts m at r own lt));
  }

  -- a word that can't stand there
  pub exact_no_word : (at : ℕ) (w : Word) (p : Placed) (code : ℕ) → ((p : Placed) → read (word at w p) ≡ Err (Departs code at)) → ((form (word at w p)).Whole → ⊥) × ((form (word at w p)).Begins → ⊥) → IsExact form read (word at w p)
  exact_no_word at w p code is t = record {
    tells = subst (Tells (form (word at w p))) (sym (is p)) t;
    goes_on = λ h e. clash_departs (sym (is p) ∙ e);
    after = λ lo hi s. subst (After lo) (sym (is p)) s.0;
    cuts = λ m lo hi s. subst (λ a. Cuts m a (read (cut_before m (word at w p)))) (sym (is p)) (first_cut m at read (Err (Departs code at)) (word at w (cut_before m p)) ends (omega arith) (λ lt. inl (lt, is (cut_before m p))));
  }

  -- a list that can't stand there
  pub exact_no_list : (at : ℕ) (p q : Placed) (code : ℕ) → ((p q : Placed) → read (list at p q) ≡ Err (Departs code at)) → ((form (list at p q)).Whole → ⊥) × ((form (list at p q)).Begins → ⊥) → IsExact form read (list at p q)
  exact_no_list at p q code is t = record {
    tells = subst (Tells (form (list at p q))) (sym (is p q)) t;
    goes_on = λ h e. clash_departs (sym (is p q) ∙ e);
    after = λ lo hi s. subst (After lo) (sym (is p q)) s.0;
    cuts = λ m lo hi s. subst (λ a. Cuts m a (read (cut_before m (list at p q)))) (sym (is p q)) (first_cut m at read (Err (Departs code at)) (list at (cut_before m p) (cut_before m q)) ends (omega arith) (λ lt. inl (lt, is (cut_before m p) (cut_before m q))));
  }

  -- a word that is known, and what is read behind it
  pub exact_behind : (at : ℕ) (w : Word) (p : Placed) (rest_form : Placed → Form) (rest : Placed → Result X Stop) → ((p : Placed) → read (word at w p) ≡ rest p)
      → IsExact rest_form rest p → (Tells (rest_form p) (rest p) → Tells (form (word at w p)) (rest p)) → IsExact form read (word at w p)
  exact_behind at w p rest_form rest is x conv = record {
    tells = subst (Tells (form (word at w p))) (sym (is p)) (conv x.tells);
    goes_on = λ h e. x.goes_on h (sym (is p) ∙ e);
    after = λ lo hi s. let a = s.0 in subst (After lo) (sym (is p)) (after_less lo (suc at) (rest p) (omega arith) (x.after (suc at) hi s.1));
    cuts = λ m lo hi s. subst (λ a. Cuts m a (read (cut_before m (word at w p)))) (sym (is p))
        (first_cut m at read (rest p) (word at w (cut_before m p)) ends (after_less at (suc at) (rest p) (omega arith) (x.after (suc at) hi s.1))
        (λ lt. subst (Cuts m (rest p)) (sym (is (cut_before m p))) (x.cuts m (suc at) hi s.1)));
  }

  -- a word that is looked at, and what is read behind it
  pub exact_word : {Y : Type 0} (at : ℕ) (w : Word) (p : Placed) (one : Result Y Stop) (rest : Y → Placed → Result X Stop) (one_form : Form) (rest_form : Placed → Form)
      → ((p : Placed) → read (word at w p) ≡ one >>= (λ y. rest y p)) → Own at one → Tells one_form one → ((y : Y) → one ≡ Ok y → IsExact rest_form (rest y) p)
      → (Tells (one_form followed_by rest_form p) (one >>= (λ y. rest y p)) → Tells (form (word at w p)) (one >>= (λ y. rest y p))) → IsExact form read (word at w p)
  exact_word at w p one rest one_form rest_form is own t x conv = record {
    tells = subst (Tells (form (word at w p))) (sym (is p)) (conv (tells_then one_form (rest_form p) one (λ y. rest y p) t (λ y e. (x y e).tells)));
    goes_on = λ h e. goes_then one (λ y. rest y p) (own_goes at one own) (λ y e. (x y e).goes_on h) (sym (is p) ∙ e);
    after = λ lo hi s. let a = s.0 in subst (After lo) (sym (is p)) (after_then lo one (λ y. rest y p) (own_after lo at one s.0 own) (λ y e. after_less lo (suc at) (rest y p) (omega arith) ((x y e).after (suc at) hi s.1)));
    cuts = λ m lo hi s. subst (λ a. Cuts m a (read (cut_before m (word at w p)))) (sym (is p))
        (first_cut m at read (one >>= (λ y. rest y p)) (word at w (cut_before m p)) ends
        (after_then at one (λ y. rest y p) (own_after at at one (omega arith) own) (λ y e. after_less at (suc at) (rest y p) (omega arith) ((x y e).after (suc at) hi s.1)))
        (λ lt. subst (Cuts m (one >>= (λ y. rest y p))) (sym (is (cut_before m p)))
        (cuts_then m one one (λ y. rest y p) (λ y. rest y (cut_before m p)) (own_cuts m at one own lt) (λ y e. (x y e).cuts m (suc at) hi s.1) (λ e. absurd (own_goes at one own e)))));
  }

  -- a list, and what is read behind it
  pub exact_list : {Y : Type 0} (at : ℕ) (p q : Placed) (one : Placed → Result Y Stop) (rest : Y → Placed → Result X Stop) (one_form rest_form : Placed → Form)
      → ((p q : Placed) → read (list at p q) ≡ one p >>= (λ y. rest y q)) → IsExact one_form one p → ((y : Y) → one p ≡ Ok y → IsExact rest_form (rest y) q)
      → (Tells (one_form p followed_by rest_form q) (one p >>= (λ y. rest y q)) → Tells (form (list at p q)) (one p >>= (λ y. rest y q))) → IsExact form read (list at p q)
  exact_list at p q one rest one_form rest_form is a x conv =
      let behind : (lo hi : ℕ) → lo ≤ suc at → Rises at (list at p q) hi → After lo (one p >>= (λ y. rest y q)) =
      λ lo hi h s.
      let le = rises_le (suc at) s.1.0 p s.1.1 in
      after_then lo (one p) (λ y. rest y q) (after_less lo (suc at) (one p) h (a.after (suc at) s.1.0 s.1.1))
      (λ y e. after_less lo s.1.0 (rest y q) (omega arith) ((x y e).after s.1.0 hi s.1.2))
      in
      record {
        tells = subst (Tells (form (list at p q))) (sym (is p q)) (conv (tells_then (one_form p) (rest_form q) (one p) (λ y. rest y q) a.tells (λ y e. (x y e).tells)));
        goes_on = λ h e. goes_then (one p) (λ y. rest y q) (a.goes_on h.0) (λ y e. (x y e).goes_on h.1) (sym (is p q) ∙ e);
        after = λ lo hi s. let b = s.0 in subst (After lo) (sym (is p q)) (behind lo hi (omega arith) (omega arith, s.1));
        cuts = λ m lo hi s. subst (λ a. Cuts m a (read (cut_before m (list at p q)))) (sym (is p q))
            (first_cut m at read (one p >>= (λ y. rest y q)) (list at (cut_before m p) (cut_before m q)) ends
            (behind at hi (omega arith) (omega arith, s.1))
            (λ lt. subst (Cuts m (one p >>= (λ y. rest y q))) (sym (is (cut_before m p) (cut_before m q)))
            (cuts_then m (one p) (one (cut_before m p)) (λ y. rest y q) (λ y. rest y (cut_before m q)) (a.cuts m (suc at) s.1.0 s.1.1) (λ y e. (x y e).cuts m s.1.0 hi s.1.2)
            (λ end' y e. ⊎_elim
            (λ below. let same : one p ≡ Err Ends = ap one (sym (cut_none m (suc at) s.1.0 p s.1.1 (omega arith))) ∙ end' in clash (sym e ∙ same))
            (λ above. cuts_ends m s.1.0 (rest y q) above ((x y e).after s.1.0 hi s.1.2))
            (order s.1.0 m)))));
      }

  -- a list alone: what stands behind it isn't looked at
  pub exact_alone : (at : ℕ) (p q : Placed) (one_form : Placed → Form) (one : Placed → Result X Stop) → ((p q : Placed) → read (list at p q) ≡ one p) → IsExact one_form one p → (Tells (one_form p) (one p) → Tells (form (list at p q)) (one p)) → IsExact form read (list at p q)
  exact_alone at p q one_form one is x conv = record {
    tells = subst (Tells (form (list at p q))) (sym (is p q)) (conv x.tells);
    goes_on = λ h e. x.goes_on h.0 (sym (is p q) ∙ e);
    after = λ lo hi s. let a = s.0 in subst (After lo) (sym (is p q)) (after_less lo (suc at) (one p) (omega arith) (x.after (suc at) s.1.0 s.1.1));
    cuts = λ m lo hi s. subst (λ a. Cuts m a (read (cut_before m (list at p q)))) (sym (is p q))
        (first_cut m at read (one p) (list at (cut_before m p) (cut_before m q)) ends (after_less at (suc at) (one p) (omega arith) (x.after (suc at) s.1.0 s.1.1))
        (λ lt. subst (Cuts m (one p)) (sym (is (cut_before m p) (cut_before m q))) (x.cuts m (suc at) s.1.0 s.1.1)));
  }

-- a value that is put together
pub exact_map : {X Y : Type 0} (form : Placed → Form) (read : Placed → Result X Stop) (f : X → Y) (p : Placed) → IsExact form read p → IsExact form (λ p. read p >>= (λ x. Ok (f x))) p
exact_map form read f p x = record {
  tells = tells_map (form p) (read p) f x.tells;
  goes_on = λ h e. goes_then (read p) (λ x. Ok (f x)) (x.goes_on h) (λ y e e'. clash e') e;
  after = λ lo hi s. after_then lo (read p) (λ x. Ok (f x)) (x.after lo hi s) (λ y e. tt);
  cuts = λ m lo hi s. cuts_then m (read p) (read (cut_before m p)) (λ x. Ok (f x)) (λ x. Ok (f x)) (x.cuts m lo hi s) (λ y e. inl refl) (λ e y e'. inr refl);
}
