-- Ids that are seen one after another, each judged by whether it is known and was seen.
use Rattle.std.proofs.Common.{ℕ, zero, suc, ◌≡◌, ◌∙◌, ◌+◌, ◌<◌, ◌≤◌, inl, inr, ◌||◌, ◌==◌, Bool, true, false, not, Option, Some, None, List, [], ◌∷◌, ◌++◌, map, drop, length, get_or, refl, sym, ap, ap₂, subst, append_assoc, add-one, arith}
use Rattle.std.proofs.Math.Seq.{drop-cons}
use Rattle.std.proofs.lemmas.List.{append-nil, map-append}
use Rattle.std.proofs.lemmas.Bool.{eq-eqb}
use Rattle.std.proofs.lemmas.Bool.Decides.{eqb_tells}
use Rattle.plan_texts.specs.Types.{Has}
use Rattle.text_forms.specs.Faults.{Fault, fault, IsBefore}
use Rattle.hplan_text.specs.declared.mention.Mention.{Mention}
use Rattle.hplan_text.specs.declared.least.Found.{Found}
use Rattle.hplan_text.specs.declared.ids.Taken.{Taken}
use Rattle.hplan_text.specs.declared.ids.Taken.TheVariants.{Unknown, Again, New}
use Rattle.hplan_text.specs.Rows.{number}
use Rattle.hplan_text.specs.HPlanFaults.{is_among, put_if, repeats_behind, repeats, others, faults_at}
use Rattle.hplan_text.specs.LeastOf.{as_fault, IsLeastOf, faults_unless}
use Rattle.hplan_text.specs.Marks.{HaveIds, has, Takes, Tells, wrong}
use Rattle.hplan_text.proofs.LeastFound.{has-split, has-left, has-right, before-then}
use Rattle.hplan_text.proofs.Marked.{is-known, marked-now, among-at}
use Rattle.hplan_text.proofs.PhaseFaults.{itself}

pub faults-append : (code : ℕ) (ms ns : List Mention) → faults_at code (ms ++ ns) ≡ faults_at code ms ++ faults_at code ns
faults-append code ms ns = map-append (λ (m : Mention). fault code m.at) ms ns

drop-none : (n : ℕ) (ms : List Mention) → length ms ≤ n → drop n ms ≡ []
drop-none n [] l = nothing n
  where
    nothing : (n : ℕ) → ◌≡◌ {A = List Mention} (drop n []) []
    nothing zero = refl
    nothing (suc n) = refl
drop-none zero (m ∷ ms) l = absurd (omega arith)
drop-none (suc n) (m ∷ ms) l = drop-none n ms (omega arith)

-- the faults of ids, one id after another
module _ (unknown again : ℕ) (ids : List ℕ) where
  abbrev pub wrongs : List ℕ → List Mention → List Fault
  wrongs behind [] = []
  wrongs behind (m ∷ ms) = wrong unknown again (is_among m.id ids) (is_among m.id behind) m.at ++ wrongs (m.id ∷ behind) ms

  -- the same faults, but for those of the second code where the first one is at the same place
  record AreOf (fs gs : List Fault) : Type 0 where
    all : (f : Fault) → Has fs f → Has gs f
    behind : (g : Fault) → Has gs g → (f : Fault) × Has fs f × IsBefore f g

  same-least : (o : Option Found) (fs gs : List Fault) → AreOf fs gs → IsLeastOf o fs → IsLeastOf o gs
  same-least None fs gs h e = none gs h.behind
    where
      none : (gs : List Fault) → ((g : Fault) → Has gs g → (f : Fault) × Has fs f × IsBefore f g) → gs ≡ []
      none [] h = refl
      none (g ∷ gs) h = absurd (let i = h g (inl refl) in subst (λ z. Has z i.0) e i.1)
  same-least (Some x) fs gs h l = (h.all (as_fault x) l.0, λ g i. (let b = h.behind g i in before-then (as_fault x) b.0 g (l.1 b.0 b.1) b.2))

  module _ (m : Mention) (us rs : List Mention) (ws : List Fault) where
    abbrev Before : Type 0
    Before = AreOf ws (faults_at unknown us ++ faults_at again rs)

    up : (k s : Bool) (f : Fault) → Has (faults_at unknown us ++ faults_at again rs) f → Has (faults_at unknown (put_if (not k) m us) ++ faults_at again (put_if s m rs)) f
    up k s f h = elim (has-split (faults_at unknown us) (faults_at again rs) f h) [
      | inl i ↦ has-left (faults_at unknown (put_if (not k) m us)) (faults_at again (put_if s m rs)) f (left k i)
      | inr i ↦ has-right (faults_at unknown (put_if (not k) m us)) (faults_at again (put_if s m rs)) f (right s i)
    ]
      where
        left : (k : Bool) → Has (faults_at unknown us) f → Has (faults_at unknown (put_if (not k) m us)) f
        left true i = i
        left false i = inr i

        right : (s : Bool) → Has (faults_at again rs) f → Has (faults_at again (put_if s m rs)) f
        right true i = inr i
        right false i = i

    down-left : Before → (g : Fault) → Has (faults_at unknown us) g → (f : Fault) × Has ws f × IsBefore f g
    down-left h g i = h.behind g (has-left (faults_at unknown us) (faults_at again rs) g i)

    down-right : Before → (g : Fault) → Has (faults_at again rs) g → (f : Fault) × Has ws f × IsBefore f g
    down-right h g i = h.behind g (has-right (faults_at unknown us) (faults_at again rs) g i)

    -- one fault more in front
    later : (x g : Fault) → (f : Fault) × Has ws f × IsBefore f g → (f : Fault) × Has (x ∷ ws) f × IsBefore f g
    later x g b = (b.0, inr b.1, b.2)

    here : (x g : Fault) → x ≡ g → (f : Fault) × Has (x ∷ ws) f × IsBefore f g
    here x g e = (x, inl refl, subst (IsBefore x) e (itself x))

    unknown-next : unknown ≤ again → (s : Bool) → Before → AreOf (fault unknown m.at ∷ ws) (faults_at unknown (m ∷ us) ++ faults_at again (put_if s m rs))
    unknown-next le s h = record {
      all = λ f i. elim i [ inl e ↦ inl e | inr j ↦ up false s f (h.all f j) ];
      behind = λ g i. elim i [
        | inl e ↦ here (fault unknown m.at) g e
        | inr j ↦ elim (has-split (faults_at unknown us) (faults_at again (put_if s m rs)) g j) [
          | inl k ↦ later (fault unknown m.at) g (down-left h g k)
          | inr k ↦ seen s g k
        ]
      ];
    }
      where
        seen : (s : Bool) (g : Fault) → Has (faults_at again (put_if s m rs)) g → (f : Fault) × Has (fault unknown m.at ∷ ws) f × IsBefore f g
        seen false g k = later (fault unknown m.at) g (down-right h g k)
        seen true g (inl e) = (fault unknown m.at, inl refl, subst (IsBefore (fault unknown m.at)) e (inr (refl, le)))
        seen true g (inr k) = later (fault unknown m.at) g (down-right h g k)

    again-next : Before → AreOf (fault again m.at ∷ ws) (faults_at unknown us ++ faults_at again (m ∷ rs))
    again-next h = record {
      all = λ f i. elim i [ inl e ↦ has-right (faults_at unknown us) (faults_at again (m ∷ rs)) f (inl e) | inr j ↦ up true true f (h.all f j) ];
      behind = λ g i. elim (has-split (faults_at unknown us) (faults_at again (m ∷ rs)) g i) [
        | inl k ↦ later (fault again m.at) g (down-left h g k)
        | inr (inl e) ↦ here (fault again m.at) g e
        | inr (inr k) ↦ later (fault again m.at) g (down-right h g k)
      ];
    }

    each-next : unknown ≤ again → (k s : Bool) → Before → AreOf (wrong unknown again k s m.at ++ ws) (faults_at unknown (put_if (not k) m us) ++ faults_at again (put_if s m rs))
    each-next le true false h = h
    each-next le true true h = again-next h
    each-next le false s h = unknown-next le s h

  each-of : unknown ≤ again → (behind : List ℕ) (ms : List Mention) → AreOf (wrongs behind ms) (faults_at unknown (others ids ms) ++ faults_at again (repeats_behind behind ms))
  each-of le behind [] = record { all = λ f h. h; behind = λ g h. absurd h }
  each-of le behind (m ∷ ms) = each-next m (others ids ms) (repeats_behind (m.id ∷ behind) ms) (wrongs (m.id ∷ behind) ms) le (is_among m.id ids) (is_among m.id behind) (each-of le (m.id ∷ behind) ms)

  pub least-wrong : unknown ≤ again → (o : Option Found) (ms : List Mention) → IsLeastOf o (wrongs [] ms) → IsLeastOf o (faults_at unknown (others ids ms) ++ faults_at again (repeats ms))
  least-wrong le o ms h = same-least o (wrongs [] ms) (faults_at unknown (others ids ms) ++ faults_at again (repeats ms)) (each-of le [] ms) h

  -- the ids up to a place were seen, those that are known are marked, and the least fault of them was found
  pub record IsSeenTo (ms : List Mention) (i : ℕ) (marks : List Bool) (found : Option Found) : Type 0 where
    pub behind : List ℕ
    pub done : List Fault
    pub seen : (n : ℕ) → is_among n ids ≡ true → has ids marks n ≡ is_among n behind
    pub split : wrongs [] ms ≡ done ++ wrongs behind (drop i ms)
    pub least : IsLeastOf found done

  pub seen-first : (ms : List Mention) (marks : List Bool) → ((n : ℕ) → has ids marks n ≡ false) → IsSeenTo ms 0 marks None
  seen-first ms marks none = record { behind = []; done = []; seen = λ n k. none n; split = refl; least = refl }

  pub seen-last : (ms : List Mention) (i : ℕ) (marks : List Bool) (found : Option Found) → length ms ≤ i → IsSeenTo ms i marks found → IsLeastOf found (wrongs [] ms)
  seen-last ms i marks found l h = subst (IsLeastOf found) (sym (h.split ∙ ap (λ z. h.done ++ wrongs h.behind z) (drop-none i ms l) ∙ append-nil h.done)) h.least

  -- what became of an id tells whether it is known and was seen
  taken-tells : (behind : List ℕ) (n : ℕ) (old new : List Bool) (t : Taken) → ((q : ℕ) → is_among q ids ≡ true → has ids old q ≡ is_among q behind) → Takes ids n old new t → Tells t (is_among n ids) (is_among n behind)
  taken-tells behind n old new Unknown seen h = h.0
  taken-tells behind n old new Again seen h = let k = is-known n ids old h.0 in (k, sym (seen n k) ∙ h.0)
  taken-tells behind n old new (New p) seen h = let k = ap (λ z. is_among z ids) (sym h.1) ∙ among-at ids p h.0 in (k, sym (seen n k) ∙ h.2)

  -- the marks then
  taken-marks : (behind : List ℕ) (n : ℕ) (old new : List Bool) (t : Taken) → length old ≡ length ids → ((q : ℕ) → is_among q ids ≡ true → has ids old q ≡ is_among q behind) → Takes ids n old new t
      → (q : ℕ) → is_among q ids ≡ true → has ids new q ≡ is_among q (n ∷ behind)
  taken-marks behind n old new t sized seen h q k = go t h
    where
      still : new ≡ old → (n == q) ≡ false → has ids new q ≡ ((n == q) || is_among q behind)
      still e f = ap (λ z. has ids z q) e ∙ seen q k ∙ ap (λ b. b || is_among q behind) (sym f)

      go : (t : Taken) → Takes ids n old new t → has ids new q ≡ ((n == q) || is_among q behind)
      go Unknown h = elim (eqb_tells n q) [ inl e ↦ absurd (let f = ap (λ z. is_among z ids) e.1 in let g = h.0 in cc) | inr e ↦ still h.1 e.0 ]
      go Again h = elim (eqb_tells n q) [ inl e ↦ ap (λ z. has ids z q) h.1 ∙ ap (has ids old) (sym e.1) ∙ h.0 ∙ ap (λ b. b || is_among q behind) (sym e.0) | inr e ↦ still h.1 e.0 ]
      go (New p) h = marked-now ids old new p n h.0 sized h.1 h.3 q ∙ ap (λ b. (n == q) || b) (seen q k)

  pub seen-next : (ms : List Mention) (i : ℕ) (old new : List Bool) (found next : Option Found) (t : Taken) (d : Mention) → i < length ms → length old ≡ length ids → Takes ids (get_or ms i d).id old new t
      → ((fs : List Fault) (known seen : Bool) → Tells t known seen → IsLeastOf found fs → IsLeastOf next (fs ++ wrong unknown again known seen (get_or ms i d).at)) → IsSeenTo ms i old found → IsSeenTo ms (i + 1) new next
  seen-next ms i old new found next t d l sized h least s =
      let m : Mention = get_or ms i d in
      let here = wrong unknown again (is_among m.id ids) (is_among m.id s.behind) m.at in
      let rest = wrongs (m.id ∷ s.behind) (drop (i + 1) ms) in
      let cut : drop i ms ≡ m ∷ drop (i + 1) ms = drop-cons ms i d l ∙ ap (λ k. m ∷ drop k ms) (sym (add-one i)) in
      record {
        behind = m.id ∷ s.behind;
        done = s.done ++ here;
        seen = taken-marks s.behind m.id old new t sized s.seen h;
        split = s.split ∙ ap (λ z. s.done ++ wrongs s.behind z) cut ∙ sym (append_assoc s.done here rest);
        least = least s.done (is_among m.id ids) (is_among m.id s.behind) (taken-tells s.behind m.id old new t s.seen h) s.least;
      }

-- an id in front of others
put-front : (b : Bool) (m : Mention) (ms : List Mention) → put_if b m ms ≡ put_if b m [] ++ ms
put-front true m ms = refl
put-front false m ms = refl

faults-put : (t : Bool) (code : ℕ) (m : Mention) → faults_unless t code m.at ≡ faults_at code (put_if (not t) m [])
faults-put true code m = refl
faults-put false code m = refl

-- the same for ids that aren't among some
pub record IsLookedTo (ns : List ℕ) (ids : List Mention) (i code : ℕ) (found : Option Found) : Type 0 where
  pub done : List Mention
  pub split : others ns ids ≡ done ++ others ns (drop i ids)
  pub least : IsLeastOf found (faults_at code done)

pub looked-first : (ns : List ℕ) (ids : List Mention) (code : ℕ) → IsLookedTo ns ids 0 code None
looked-first ns ids code = record { done = []; split = refl; least = refl }

-- t: the set has the id
pub look-next : (ns : List ℕ) (ids : List Mention) (i code : ℕ) (found next : Option Found) (d : Mention) (t : Bool) → i < length ids → t ≡ is_among (get_or ids i d).id ns
    → ((fs : List Fault) → IsLeastOf found fs → IsLeastOf next (fs ++ faults_unless t code (get_or ids i d).at)) → IsLookedTo ns ids i code found → IsLookedTo ns ids (i + 1) code next
look-next ns ids i code found next d t l e least h =
    let m : Mention = get_or ids i d in
    let rest = others ns (drop (i + 1) ids) in
    record {
      done = h.done ++ put_if (not t) m [];
      split = h.split
          ∙ ap (λ z. h.done ++ z) (ap (others ns) (drop-cons ids i d l ∙ ap (λ k. m ∷ drop k ids) (sym (add-one i))) ∙ ap (λ t. put_if (not t) m rest) (sym e) ∙ put-front (not t) m rest)
          ∙ sym (append_assoc h.done (put_if (not t) m []) rest);
      least = subst (λ z. IsLeastOf next z) (ap (λ z. faults_at code h.done ++ z) (faults-put t code m) ∙ sym (faults-append code h.done (put_if (not t) m []))) (least (faults_at code h.done) h.least);
    }

pub look-at-last : (ns : List ℕ) (ids : List Mention) (i code : ℕ) (found : Option Found) → length ids ≤ i → IsLookedTo ns ids i code found → IsLeastOf found (faults_at code (others ns ids))
look-at-last ns ids i code found l h = subst (λ z. IsLeastOf found (faults_at code z)) (sym (h.split ∙ ap (λ z. h.done ++ others ns z) (drop-none i ids l) ∙ append-nil h.done)) h.least

pub among-mapped : (m : Mention) (ms : List Mention) → Has ms m → is_among m.id (map number ms) ≡ true
among-mapped m [] h = absurd h
among-mapped m (k ∷ ms) (inl e) = ap (λ t. t || is_among m.id (map number ms)) (eq-eqb k.id m.id (ap (λ (z : Mention). z.id) e))
among-mapped m (k ∷ ms) (inr h) = either (k.id == m.id) (among-mapped m ms h)
  where
    either : (a : Bool) → is_among m.id (map number ms) ≡ true → (a || is_among m.id (map number ms)) ≡ true
    either true e = refl
    either false e = e

-- among ids that have them all there are no others
pub no-others : (ids : List ℕ) (ms : List Mention) → HaveIds ids ms → others ids ms ≡ []
no-others ids ms same = go ms (λ m h. same m.id ∙ among-mapped m ms h)
  where
    go : (ns : List Mention) → ((m : Mention) → Has ns m → is_among m.id ids ≡ true) → others ids ns ≡ []
    go [] f = refl
    go (n ∷ ns) f = ap (λ b. put_if (not b) n (others ids ns)) (f n (inl refl)) ∙ go ns (λ m h. f m (inr h))

pub same-others : (ns ks : List ℕ) (ms : List Mention) → ((n : ℕ) → is_among n ns ≡ is_among n ks) → others ns ms ≡ others ks ms
same-others ns ks [] e = refl
same-others ns ks (m ∷ ms) e = ap₂ (λ b z. put_if (not b) m z) (e m.id) (same-others ns ks ms e)
