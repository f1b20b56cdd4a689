-- Subtasks, orderings and constraints are read in the order of the text.
use Rattle.std.proofs.Common.{◌≡◌, ◌∙◌, ℕ, suc, ◌≤◌, ◌<◌, true, Bool, false, if◌then◌else◌, codes, Ok, Err, List, [], ◌∷◌, Option, Some, None, IfSome, refl, sym, ap, subst, arith}
use Rattle.text_forms.specs.Placed.{Placed, cut, close, word, list}
use Rattle.text_forms.specs.Printing.{are_folded}
use Rattle.text_forms.specs.Words.{Word}
use Rattle.gd_reader.specs.declared.stop.Stop.TheVariants.{Departs}
use Rattle.gd_reader.specs.declared.term.RawAtom.{RawAtom}
use Rattle.gd_reader.specs.declared.term.RawTerm.{RawTerm}
use Rattle.gd_reader.specs.Answers.{◌>>=◌, word_due, list_due, end_due}
use Rattle.gd_reader.specs.Terms.{Names, used, terms, two_terms, applied}
use Rattle.gd_reader.proofs.Keeping.{keeps_same}
use Rattle.hddl_reader.specs.declared.networks.RawCon.{RawCon}
use Rattle.hddl_reader.specs.declared.networks.RawPair.{RawPair}
use Rattle.hddl_reader.specs.declared.networks.RawSub.{RawSub}
use Rattle.hddl_reader.specs.Networks.{is_word, declared, behind_name, sub_headed, sign_due, name_due, then_due, pair_headed, con_of, equation, con_headed}
use Rattle.text_values.specs.form_spellings.InOrder.{IsPlainName}
use Rattle.text_values.specs.form_spellings.Rising.{IsAtomInOrder, id_at}
use Rattle.text_values.proofs.form_spellings.KeptWords.{Reads, reads_then, reads_map, reads_weaken, reads_end, due_then}
use Rattle.text_values.proofs.form_spellings.TermsIn.{same}
use Rattle.text_values.proofs.form_spellings.order.Chains.{HeadedAt, IsWide}
use Rattle.text_values.proofs.form_spellings.order.Climbs.{Climbs, climbs_put, climbs_from, climbs_rise}
use Rattle.text_values.proofs.form_spellings.order.Formulas.{atom_rises}
use Rattle.text_values.proofs.form_spellings.order.Spans.{Span, fits}
use Rattle.text_values.proofs.form_spellings.order.Terms.{IsReadAs, plain_word, TermsClimb, AtomClimbs, PairClimbs, term_place, used_as, declared_as, terms_climb, applied_climbs, two_climb}

pub record SubAt (from to : ℕ) (s : RawSub) (table : Names) : Type 0 where
  pub opens : from ≤ s.at
  pub closes : s.at < to
  pub id : Climbs term_place (suc s.at) (id_at s.id) to
  pub id_word : IfSome s.id (IsPlainName table)
  pub atom : IsAtomInOrder s.atom

-- behind the name at the front
abbrev BehindAt : ℕ → RawTerm → Option RawTerm × RawAtom → Names → Type 0
BehindAt at head x table = head.at ≡ at → IfSome x.0 (λ t. t ≡ head) × IsAtomInOrder x.1

head_rises : (head : RawTerm) (ts : List RawTerm) (at to : ℕ) → Climbs term_place (suc at) ts to → head.at ≡ at → IsAtomInOrder (record { head = head; args = ts })
head_rises head ts at to c e = climbs_rise term_place (head ∷ ts) at to (climbs_put term_place head ts at at to e (omega arith) c)

behind_at : (p : Placed) (head : RawTerm) (names : Names) (at to : ℕ) → Span (suc at) p to → Reads names (behind_name head names p) (BehindAt at head)
unfolding behind_name
behind_at cut head names at to s = tt
behind_at (close b) head names at to s = let a = s.0 in let c = s.1 in (keeps_same names, λ table k e. (tt, head_rises head [] at to (omega arith) e))
behind_at (word b w p) head names at to s =
    reads_map (TermsClimb (suc at) to) (BehindAt at head) names (terms names (word b w p)) (λ ts. (None, record { head = head; args = ts })) (terms_climb (word b w p) names (suc at) to s) (λ ts table is e. (tt, head_rises head ts at to is e))
behind_at (list b p q) head names at to s =
    reads_then same (AtomClimbs (suc b) s.1) (BehindAt at head) names (applied names p) (λ a. end_due q >>= (λ _. Ok ((Some head, a.0), a.1))) (applied_climbs p names (suc b) s.1 s.2)
    (λ a. reads_end (λ x table. AtomClimbs (suc b) s.1 a.0 table → BehindAt at head x table) q ((Some head, a.0), a.1) (λ _ table is e. (refl, atom_rises (suc b) s.1 a.0 table is)))

sub_is : (place at from to : ℕ) (w : Word) (h : RawTerm) (x : Option RawTerm × RawAtom) (table : Names) → from ≤ place → place < at → at < to → IsReadAs at w h table → BehindAt at h x table → SubAt from to (record { id = x.0; atom = x.1; at = place }) table
sub_is place at from to w h x table l m n one is = record { opens = l; closes = omega arith; id = climbs x.0 (is one.0).0; id_word = words x.0 (is one.0).0; atom = (is one.0).1 }
  where
    climbs : (o : Option RawTerm) → IfSome o (λ t. t ≡ h) → Climbs term_place (suc place) (id_at o) to
    climbs None e = omega arith
    climbs (Some t) e = climbs_put term_place t [] at (suc place) to (ap term_place e ∙ one.0) (omega arith) (omega arith)

    words : (o : Option RawTerm) → IfSome o (λ t. t ≡ h) → IfSome o (IsPlainName table)
    words None e = tt
    words (Some t) e = subst (IsPlainName table) (sym e) (plain_word at w h table one)

pub sub_at : HeadedAt SubAt sub_headed
unfolding sub_headed
sub_at names place at w p from to low l m s =
    let f = fits p (suc at) to s in
    reads_then same (IsReadAs at w) (SubAt from to) names (declared 8 names at w) (λ h. behind_name h.0 h.1 p >>= (λ x. Ok (record { id = x.0.0; atom = x.0.1; at = place }, x.1))) (declared_as 8 names at w low)
    (λ h. reads_map (BehindAt at h.0) (λ x table. IsReadAs at w h.0 table → SubAt from to x table) h.1 (behind_name h.0 h.1 p) (λ x. record { id = x.0; atom = x.1; at = place }) (behind_at p h.0 h.1 at to s)
    (λ x table is one. sub_is place at from to w h.0 x table l m (omega arith) one is))

pub sub_wide : IsWide SubAt
sub_wide before from to x table l is = let a = is.opens in record { opens = omega arith; closes = is.closes; id = is.id; id_word = is.id_word; atom = is.atom }

pub record PairAt (from to : ℕ) (x : RawPair) (table : Names) : Type 0 where
  pub opens : from ≤ x.at
  pub first : x.at < x.first.at
  pub second : x.first.at < x.then.at
  pub closes : x.then.at < to

pub pair_wide : IsWide PairAt
pair_wide before from to x table l is = let a = is.opens in record { opens = omega arith; first = is.first; second = is.second; closes = is.closes }

-- the second name, once the first is known
abbrev ThenAt : RawTerm → ℕ → ℕ → ℕ → RawPair → Names → Type 0
ThenAt first place from to y table = (y.first ≡ first) × (y.at ≡ place) × (from ≤ y.then.at) × (y.then.at < to)

then_at : (p : Placed) (first : RawTerm) (place : ℕ) (names : Names) (from to : ℕ) → Span from p to → Reads names (then_due first place names p) (ThenAt first place from to)
unfolding then_due name_due word_due
then_at cut first place names from to s = tt
then_at (close at) first place names from to s = tt
then_at (list at p q) first place names from to s = tt
then_at (word at w p) first place names from to s =
    let f = fits p (suc at) to s.1 in
    due_then (IsReadAs at w) (ThenAt first place from to) names p (used names at w) (λ b. end_due b.0.1 >>= (λ _. Ok (record { first = first; then = b.0.0; at = place }, b.1))) (used_as names at w s.2)
    (λ b. reads_end (λ y table. IsReadAs at w b.0 table → ThenAt first place from to y table) p (record { first = first; then = b.0; at = place }, b.1)
    (λ _ table one. (refl, refl, subst (λ n. from ≤ n) (sym one.0) s.0, subst (λ n. n < to) (sym one.0) (omega arith))))

pair_is : (place at from next to : ℕ) (a : RawTerm) (y : RawPair) (table : Names) → from ≤ place → place < at → at < next → a.at ≡ at → ThenAt a place next to y table → PairAt from to y table
pair_is place at from next to a y table l m n e is =
    let f = ap term_place is.0 ∙ e in
    let c = is.1 in
    let d = is.2 in
    record { opens = omega arith; first = omega arith; second = omega arith; closes = is.3 }

-- < a b
prefixed_at : (p : Placed) (names : Names) (place at from to : ℕ) → from ≤ place → place < at → Span (suc at) p to → Reads names (name_due names p >>= (λ a. then_due a.0.0 place a.1 a.0.1)) (PairAt from to)
unfolding name_due word_due
prefixed_at cut names place at from to l m s = tt
prefixed_at (close b) names place at from to l m s = tt
prefixed_at (list b p q) names place at from to l m s = tt
prefixed_at (word b u p) names place at from to l m s =
    let c = s.0 in
    due_then (IsReadAs b u) (PairAt from to) names p (used names b u) (λ a. then_due a.0.0 place a.1 a.0.1) (used_as names b u s.2)
    (λ a. reads_weaken (ThenAt a.0 place (suc b) to) (λ y table. IsReadAs b u a.0 table → PairAt from to y table) a.1 (then_due a.0 place a.1 p) (then_at p a.0 place a.1 (suc b) to s.1)
    (λ y table is one. pair_is place b from (suc b) to a.0 y table l (omega arith) (omega arith) one.0 is))

-- behind the first name of a < b
second_at : (p : Placed) (a : RawTerm) (place : ℕ) (names : Names) (from to : ℕ) → Span from p to → Reads names (sign_due p >>= (λ q. then_due a place names q)) (ThenAt a place from to)
unfolding sign_due word_due
second_at cut a place names from to s = tt
second_at (close b) a place names from to s = tt
second_at (list b p q) a place names from to s = tt
second_at (word b u p) a place names from to s = by_sign (is_word (codes "<") u)
  where
    by_sign : (c : Bool) → Reads names ((if c then Ok p else Err (Departs 8 b)) >>= (λ q. then_due a place names q)) (ThenAt a place from to)
    by_sign true = let l = s.0 in reads_weaken (ThenAt a place (suc b) to) (ThenAt a place from to) names (then_due a place names p) (then_at p a place names (suc b) to s.1) (λ y table is. (let m = is.2 in (is.0, is.1, omega arith, is.3)))
    by_sign false = tt

-- a < b
between_at : (p : Placed) (names : Names) (place at : ℕ) (w : Word) (from to : ℕ) → are_folded w ≡ true → from ≤ place → place < at → Span (suc at) p to → Reads names (used names at w >>= (λ a. sign_due p >>= (λ q. then_due a.0 place a.1 q))) (PairAt from to)
between_at p names place at w from to low l m s =
    reads_then same (IsReadAs at w) (PairAt from to) names (used names at w) (λ a. sign_due p >>= (λ q. then_due a.0 place a.1 q)) (used_as names at w low)
    (λ a. reads_weaken (ThenAt a.0 place (suc at) to) (λ y table. IsReadAs at w a.0 table → PairAt from to y table) a.1 (sign_due p >>= (λ q. then_due a.0 place a.1 q)) (second_at p a.0 place a.1 (suc at) to s)
    (λ y table is one. pair_is place at from (suc at) to a.0 y table l m (omega arith) one.0 is))

pub pair_at : HeadedAt PairAt pair_headed
unfolding pair_headed
pair_at names place at w p from to low l m s = go (is_word (codes "<") w)
  where
    go : (b : Bool) → Reads names (if b then name_due names p >>= (λ a. then_due a.0.0 place a.1 a.0.1) else used names at w >>= (λ a. sign_due p >>= (λ q. then_due a.0 place a.1 q))) (PairAt from to)
    go true = prefixed_at p names place at from to l m s
    go false = between_at p names place at w from to low l m s

pub record ConAt (from to : ℕ) (c : RawCon) (table : Names) : Type 0 where
  pub opens : from ≤ c.left.at
  pub first : c.left.at < c.right.at
  pub closes : c.right.at < to

pub con_wide : IsWide ConAt
con_wide before from to x table l is = let a = is.opens in record { opens = omega arith; first = is.first; closes = is.closes }

con_is : (b : Bool) (before from to behind : ℕ) (t : RawTerm × RawTerm) (table : Names) → before ≤ from → to ≤ behind → PairClimbs from to t table → ConAt before behind (con_of b t) table
con_is b before from to behind t table l m c = let x = c.0 in let y = c.1.0 in let z = c.1.1 in record { opens = omega arith; first = omega arith; closes = omega arith }

equation_at : (p : Placed) (names : Names) (from to : ℕ) → Span from p to → Reads names (equation names p) (PairClimbs from to)
unfolding equation word_due
equation_at cut names from to s = tt
equation_at (close at) names from to s = tt
equation_at (list at p q) names from to s = tt
equation_at (word at w p) names from to s = go (is_word (codes "=") w)
  where
    go : (b : Bool) → Reads names (if b then two_terms names p else Err (Departs 8 at)) (PairClimbs from to)
    go true = let a = s.0 in reads_weaken (PairClimbs (suc at) to) (PairClimbs from to) names (two_terms names p) (two_climb p names (suc at) to s.1) (λ x table c. climbs_from term_place (x.0 ∷ x.1 ∷ []) from (suc at) to (omega arith) c)
    go false = tt

differ_at : (p : Placed) (names : Names) (from to : ℕ) → Span from p to → Reads names (list_due p >>= (λ g. equation names g.0 >>= (λ t. end_due g.1 >>= (λ _. Ok (con_of false t.0, t.1))))) (ConAt from to)
unfolding list_due
differ_at cut names from to s = tt
differ_at (close at) names from to s = tt
differ_at (word at w p) names from to s = tt
differ_at (list at p q) names from to s =
    let a = s.0 in
    let f = fits q s.1 to s.3 in
    reads_then same (PairClimbs (suc at) s.1) (ConAt from to) names (equation names p) (λ t. end_due q >>= (λ _. Ok (con_of false t.0, t.1))) (equation_at p names (suc at) s.1 s.2)
    (λ t. reads_end (λ c table. PairClimbs (suc at) s.1 t.0 table → ConAt from to c table) q (con_of false t.0, t.1) (λ _ table is. con_is false from (suc at) s.1 to t.0 table (omega arith) f is))

pub con_at : HeadedAt ConAt con_headed
unfolding con_headed
con_at names place at w p from to low l m s = go (is_word (codes "=") w) (is_word (codes "not") w)
  where
    go : (a b : Bool) → Reads names (if a then two_terms names p >>= (λ t. Ok (con_of true t.0, t.1)) else (if b then list_due p >>= (λ g. equation names g.0 >>= (λ t. end_due g.1 >>= (λ _. Ok (con_of false t.0, t.1)))) else Err (Departs 8 at))) (ConAt from to)
    go true b = reads_map (PairClimbs (suc at) to) (ConAt from to) names (two_terms names p) (con_of true) (two_climb p names (suc at) to s) (λ t table is. con_is true from (suc at) to to t table (omega arith) (omega arith) is)
    go false true = reads_weaken (ConAt (suc at) to) (ConAt from to) names (list_due p >>= (λ g. equation names g.0 >>= (λ t. end_due g.1 >>= (λ _. Ok (con_of false t.0, t.1))))) (differ_at p names (suc at) to s) (λ x table is. con_wide from (suc at) to x table (omega arith) is)
    go false false = tt
