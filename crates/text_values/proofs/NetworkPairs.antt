-- Subtasks, orderings and constraints are read alike.
use Rattle.std.proofs.Common.{ℕ, Bool, true, false, if◌then◌else◌, Ok, Err, Result, List, [], ◌∷◌, Option, Some, None, codes, refl}
use Rattle.text_forms.specs.Placed.{Placed, cut, close, word, list}
use Rattle.text_forms.specs.Words.{Word}
use Rattle.plan_texts.specs.Together.{Together}
use Rattle.gd_reader.specs.declared.stop.Stop.{Stop}
use Rattle.gd_reader.specs.declared.stop.Stop.TheVariants.{Departs}
use Rattle.gd_reader.specs.declared.term.RawTerm.{RawTerm}
use Rattle.gd_reader.specs.declared.term.RawAtom.{RawAtom}
use Rattle.gd_reader.specs.declared.words.Sort.{Sort}
use Rattle.gd_reader.specs.declared.words.Sort.TheVariants.{Variable, Name, Other}
use Rattle.gd_reader.specs.Answers.{◌>>=◌, word_due, list_due, end_due}
use Rattle.gd_reader.specs.Terms.{Names, used, terms, two_terms, applied}
use Rattle.gd_reader.specs.Words.{sort_of}
use Rattle.hddl_reader.specs.declared.networks.RawSub.{RawSub}
use Rattle.hddl_reader.specs.declared.networks.RawPair.{RawPair}
use Rattle.hddl_reader.specs.declared.networks.RawCon.{RawCon}
use Rattle.hddl_reader.specs.Networks.{is_word, declared_by, declared, behind_name, sub_headed, sign_due, name_due, then_due, pair_headed, con_of, equation, con_headed, Headed, one_of, all_of, some_of}
use Rattle.text_values.proofs.Alike.{AlikeTerm, AlikeAtom, AlikeSub, AlikePair, AlikeCon, Both}
use Rattle.text_values.proofs.Pairs.{Tie, Tied, after, built, behind_same, here}
use Rattle.text_values.proofs.TermPairs.{TermTie, TermsTie, AtomTie, TwoTie, ended, raw_tied, used_tied, terms_tied, applied_tied, two_tied}

pub declared_tied : (code : ℕ) (n m : Names) (at : ℕ) (w : Word) → Tied n m (declared code n at w) (declared code m at w) TermTie
unfolding declared
declared_tied code n m at w = go (sort_of w)
  where
    go : (s : Sort) → Tied n m (declared_by s code n at w) (declared_by s code m at w) TermTie
    go Variable = tt
    go Name = raw_tied n m false at w
    go Other = tt

-- behind the name at the front
abbrev BehindTie : Tie (Option RawTerm × RawAtom)
BehindTie x y t u = Both (AlikeTerm t u) x.0 y.0 × AlikeAtom t u x.1 y.1

behind_tied : (p : Placed) (x y : RawTerm) (n m : Names) → Tied n m (behind_name x n p) (behind_name y m p) (λ v w t u. TermTie x y t u → BehindTie v w t u)
unfolding behind_name
behind_tied cut x y n m = tt
behind_tied (close at) x y n m =
    here (λ v w t u. TermTie x y t u → BehindTie v w t u) n m (None, record { head = x; args = [] }) (None, record { head = y; args = [] }) (λ t u one. (tt, record { head = one; args = tt }))
behind_tied (word at w p) x y n m =
    built TermsTie (λ v w t u. TermTie x y t u → BehindTie v w t u) n m (terms n (word at w p)) (terms m (word at w p)) (λ ts. (None, record { head = x; args = ts })) (λ ts. (None, record { head = y; args = ts })) (terms_tied (word at w p) n m)
    (λ xs ys t u is one. (tt, record { head = one; args = is }))
behind_tied (list at p q) x y n m =
    after AtomTie (λ v w t u. TermTie x y t u → BehindTie v w t u) n m (applied n p) (applied m p) (λ a. end_due q >>= (λ _. Ok ((Some x, a.0), a.1))) (λ a. end_due q >>= (λ _. Ok ((Some y, a.0), a.1))) (applied_tied p n m)
    (λ a b. ended (λ v w t u. AtomTie a.0 b.0 t u → TermTie x y t u → BehindTie v w t u) q ((Some x, a.0), a.1) ((Some y, b.0), b.1) (λ t u is one. (one, is)))

abbrev pub SubTie : Tie RawSub
SubTie x y t u = AlikeSub t u x y

abbrev pub OrderTie : Tie RawPair
OrderTie x y t u = AlikePair t u x y

abbrev pub ConTie : Tie RawCon
ConTie x y t u = AlikeCon t u x y

-- what is read by the word at its front
abbrev pub HeadedTied : {X : Type 0} → Headed X → Tie X → Type 0
HeadedTied headed P = (n m : Names) (place at : ℕ) (w : Word) (p : Placed) → Tied n m (headed n place at w p) (headed m place at w p) P

pub sub_tied : HeadedTied sub_headed SubTie
unfolding sub_headed
sub_tied n m place at w p =
    after TermTie SubTie n m (declared 8 n at w) (declared 8 m at w) (λ h. behind_name h.0 h.1 p >>= (λ x. Ok (record { id = x.0.0; atom = x.0.1; at = place }, x.1)))
    (λ h. behind_name h.0 h.1 p >>= (λ x. Ok (record { id = x.0.0; atom = x.0.1; at = place }, x.1))) (declared_tied 8 n m at w)
    (λ h g. built (λ v w t u. TermTie h.0 g.0 t u → BehindTie v w t u) (λ x y t u. TermTie h.0 g.0 t u → SubTie x y t u) h.1 g.1 (behind_name h.0 h.1 p) (behind_name g.0 g.1 p) (λ x. record { id = x.0; atom = x.1; at = place })
    (λ x. record { id = x.0; atom = x.1; at = place }) (behind_tied p h.0 g.0 h.1 g.1) (λ x y t u is one. let both = is one in record { id = both.0; atom = both.1; at = refl }))

-- a name that is due, and what is read behind it
due_then : {Y : Type 0} (Q : Tie Y) (n m : Names) (p : Placed) (f g : (RawTerm × Placed) × Names → Result (Y × Names) Stop)
    → ((q : Placed) (x y : RawTerm × Names) → Tied x.1 y.1 (f ((x.0, q), x.1)) (g ((y.0, q), y.1)) (λ v w t u. TermTie x.0 y.0 t u → Q v w t u)) → Tied n m (name_due n p >>= f) (name_due m p >>= g) Q
unfolding name_due word_due
due_then Q n m cut f g h = tt
due_then Q n m (close at) f g h = tt
due_then Q n m (list at p q) f g h = tt
due_then Q n m (word at w p) f g h = go (used n at w) (used m at w) (used_tied n m at w)
  where
    go : (r s : Result (RawTerm × Names) Stop) → Tied n m r s TermTie → Tied n m ((r >>= (λ a. Ok ((a.0, p), a.1))) >>= f) ((s >>= (λ a. Ok ((a.0, p), a.1))) >>= g) Q
    go (Ok x) (Ok y) is = after TermTie Q n m (Ok x) (Ok y) (λ a. f ((a.0, p), a.1)) (λ a. g ((a.0, p), a.1)) is (h p)
    go (Ok x) (Err e) is = after TermTie Q n m (Ok x) (Err e) (λ a. f ((a.0, p), a.1)) (λ a. g ((a.0, p), a.1)) is (h p)
    go (Err e) s is = tt

then_tied : (p : Placed) (x y : RawTerm) (place : ℕ) (n m : Names) → Tied n m (then_due x place n p) (then_due y place m p) (λ v w t u. TermTie x y t u → OrderTie v w t u)
unfolding then_due
then_tied p x y place n m =
    due_then (λ v w t u. TermTie x y t u → OrderTie v w t u) n m p (λ b. end_due b.0.1 >>= (λ _. Ok (record { first = x; then = b.0.0; at = place }, b.1))) (λ b. end_due b.0.1 >>= (λ _. Ok (record { first = y; then = b.0.0; at = place }, b.1)))
    (λ q a b. ended (λ v w t u. TermTie a.0 b.0 t u → TermTie x y t u → OrderTie v w t u) q (record { first = x; then = a.0; at = place }, a.1) (record { first = y; then = b.0; at = place }, b.1)
    (λ t u second one. record { first = one; then = second; at = refl }))

pub pair_tied : HeadedTied pair_headed OrderTie
unfolding pair_headed
pair_tied n m place at w p = go (is_word (codes "<") w)
  where
    go : (b : Bool) → Tied n m (if b then name_due n p >>= (λ a. then_due a.0.0 place a.1 a.0.1) else used n at w >>= (λ a. sign_due p >>= (λ q. then_due a.0 place a.1 q)))
        (if b then name_due m p >>= (λ a. then_due a.0.0 place a.1 a.0.1) else used m at w >>= (λ a. sign_due p >>= (λ q. then_due a.0 place a.1 q))) OrderTie
    go true = due_then OrderTie n m p (λ a. then_due a.0.0 place a.1 a.0.1) (λ a. then_due a.0.0 place a.1 a.0.1) (λ q x y. then_tied q x.0 y.0 place x.1 y.1)
    go false =
        after TermTie OrderTie n m (used n at w) (used m at w) (λ a. sign_due p >>= (λ q. then_due a.0 place a.1 q)) (λ a. sign_due p >>= (λ q. then_due a.0 place a.1 q)) (used_tied n m at w)
        (λ x y. behind_same (λ v w t u. TermTie x.0 y.0 t u → OrderTie v w t u) x.1 y.1 (sign_due p) (λ q. then_due x.0 place x.1 q) (λ q. then_due y.0 place y.1 q) (λ q. then_tied q x.0 y.0 place x.1 y.1))

equation_tied : (p : Placed) (n m : Names) → Tied n m (equation n p) (equation m p) TwoTie
unfolding equation word_due
equation_tied cut n m = tt
equation_tied (close at) n m = tt
equation_tied (list at p q) n m = tt
equation_tied (word at w p) n m = go (is_word (codes "=") w)
  where
    go : (b : Bool) → Tied n m (if b then two_terms n p else Err (Departs 8 at)) (if b then two_terms m p else Err (Departs 8 at)) TwoTie
    go true = two_tied p n m
    go false = tt

con_alike : (equal : Bool) (x y : RawTerm × RawTerm) (t u : Names) → TwoTie x y t u → ConTie (con_of equal x) (con_of equal y) t u
con_alike equal x y t u is = record { left = is.0; right = is.1 }

differ_tied : (p : Placed) (n m : Names) → Tied n m (list_due p >>= (λ g. equation n g.0 >>= (λ t. end_due g.1 >>= (λ _. Ok (con_of false t.0, t.1))))) (list_due p >>= (λ g. equation m g.0 >>= (λ t. end_due g.1 >>= (λ _. Ok (con_of false t.0, t.1))))) ConTie
differ_tied p n m =
    behind_same ConTie n m (list_due p) (λ g. equation n g.0 >>= (λ t. end_due g.1 >>= (λ _. Ok (con_of false t.0, t.1)))) (λ g. equation m g.0 >>= (λ t. end_due g.1 >>= (λ _. Ok (con_of false t.0, t.1))))
    (λ g. after TwoTie ConTie n m (equation n g.0) (equation m g.0) (λ t. end_due g.1 >>= (λ _. Ok (con_of false t.0, t.1))) (λ t. end_due g.1 >>= (λ _. Ok (con_of false t.0, t.1))) (equation_tied g.0 n m)
    (λ x y. ended (λ v w t u. TwoTie x.0 y.0 t u → ConTie v w t u) g.1 (con_of false x.0, x.1) (con_of false y.0, y.1) (con_alike false x.0 y.0)))

pub con_tied : HeadedTied con_headed ConTie
unfolding con_headed
con_tied n m place at w p = go (is_word (codes "=") w) (is_word (codes "not") w)
  where
    go : (a b : Bool) → Tied n m (if a then two_terms n p >>= (λ t. Ok (con_of true t.0, t.1)) else (if b then list_due p >>= (λ g. equation n g.0 >>= (λ t. end_due g.1 >>= (λ _. Ok (con_of false t.0, t.1)))) else Err (Departs 8 at)))
        (if a then two_terms m p >>= (λ t. Ok (con_of true t.0, t.1)) else (if b then list_due p >>= (λ g. equation m g.0 >>= (λ t. end_due g.1 >>= (λ _. Ok (con_of false t.0, t.1)))) else Err (Departs 8 at))) ConTie
    go true b = built TwoTie ConTie n m (two_terms n p) (two_terms m p) (con_of true) (con_of true) (two_tied p n m) (con_alike true)
    go false true = differ_tied p n m
    go false false = tt

abbrev pub EachTie : {X : Type 0} → Tie X → Tie (List X)
EachTie P xs ys t u = Together (λ x y. P x y t u) xs ys

module _ {X : Type 0} (headed : Headed X) (P : Tie X) (each : HeadedTied headed P) where
  pub one_of_tied : (p : Placed) (n m : Names) (place : ℕ) → Tied n m (one_of headed n place p) (one_of headed m place p) P
  one_of_tied p n m place = behind_same P n m (word_due p) (λ v. headed n place v.0 v.1 v.2) (λ v. headed m place v.0 v.1 v.2) (λ v. each n m place v.0 v.1 v.2)

  pub all_of_tied : (p : Placed) (n m : Names) → Tied n m (all_of headed n p) (all_of headed m p) (EachTie P)
  all_of_tied cut n m = tt
  all_of_tied (close at) n m = here (EachTie P) n m [] [] (λ t u. tt)
  all_of_tied (word at w p) n m = tt
  all_of_tied (list at p q) n m =
      after P (EachTie P) n m (one_of headed n at p) (one_of headed m at p) (λ x. all_of headed x.1 q >>= (λ xs. Ok (x.0 ∷ xs.0, xs.1))) (λ x. all_of headed x.1 q >>= (λ xs. Ok (x.0 ∷ xs.0, xs.1))) (one_of_tied p n m at)
      (λ x y. built (EachTie P) (λ xs ys t u. P x.0 y.0 t u → EachTie P xs ys t u) x.1 y.1 (all_of headed x.1 q) (all_of headed y.1 q) (λ xs. x.0 ∷ xs) (λ ys. y.0 ∷ ys) (all_of_tied q x.1 y.1) (λ xs ys t u is one. (one, is)))

  pub some_of_tied : (p : Placed) (n m : Names) (place : ℕ) → Tied n m (some_of headed n place p) (some_of headed m place p) (EachTie P)
  unfolding some_of
  some_of_tied cut n m place = tt
  some_of_tied (close at) n m place = here (EachTie P) n m [] [] (λ t u. tt)
  some_of_tied (list at p q) n m place = tt
  some_of_tied (word at w p) n m place = go (is_word (codes "and") w)
    where
      go : (b : Bool) → Tied n m (if b then all_of headed n p else headed n place at w p >>= (λ x. Ok (x.0 ∷ [], x.1))) (if b then all_of headed m p else headed m place at w p >>= (λ x. Ok (x.0 ∷ [], x.1))) (EachTie P)
      go true = all_of_tied p n m
      go false = built P (EachTie P) n m (headed n place at w p) (headed m place at w p) (λ x. x ∷ []) (λ x. x ∷ []) (each n m place at w p) (λ x y t u is. (is, tt))
