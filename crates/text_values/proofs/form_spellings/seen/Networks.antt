-- Networks write no unions.
use Rattle.std.proofs.Common.{◌≡◌, ◌∙◌, ℕ, Bool, true, false, if◌then◌else◌, codes, Ok, Err, [], ◌∷◌, Some, None, refl, sym, ap}
use Rattle.text_forms.specs.Placed.{Placed, cut, close, word, list}
use Rattle.text_forms.specs.Words.{Word}
use Rattle.plan_texts.proofs.Basics.{bytes_eq-true}
use Rattle.gd_reader.specs.declared.stop.Stop.TheVariants.{Departs}
use Rattle.gd_reader.specs.declared.term.RawTerm.{RawTerm}
use Rattle.gd_reader.specs.Answers.{◌>>=◌, word_due, list_due, end_due}
use Rattle.gd_reader.specs.Terms.{Names, used, terms, two_terms, applied}
use Rattle.gd_reader.proofs.Keeping.{keeps_same}
use Rattle.hddl_reader.specs.Networks.{is_word, declared, behind_name, sub_headed, sign_due, name_due, then_due, pair_headed, con_of, equation, con_headed, Headed, one_of, all_of, some_of}
use Rattle.text_values.proofs.form_spellings.KeptWords.{Reads, reads_then, reads_map, reads_weaken, reads_end, due_then}
use Rattle.text_values.proofs.form_spellings.TermsBound.{NameBound, used_bound}
use Rattle.text_values.proofs.form_spellings.TermsExact.{declared_bound}
use Rattle.text_values.proofs.form_spellings.TermsIn.{same}
use Rattle.text_values.proofs.form_spellings.seen.Erased.{unions_at, inside_at, named_inside}
use Rattle.text_values.proofs.form_spellings.seen.Formulas.{alone_at}
use Rattle.text_values.proofs.form_spellings.seen.Terms.{NoUnions, NoneInside, none_at_end, terms_none, applied_none, two_none}

-- a list without any in front of parts without any
pub none_joined : (at : ℕ) (p q : Placed) → inside_at p ≡ [] → unions_at q ≡ [] → unions_at (list at p q) ≡ []
none_joined at p q e f = sym (alone_at p q f) ∙ e

-- behind the name at the front of a subtask
behind_none : (p : Placed) (head : RawTerm) (names : Names) → Reads names (behind_name head names p) (NoUnions p)
unfolding behind_name
behind_none cut head names = tt
behind_none (close at) head names = (keeps_same names, λ table k. refl)
behind_none (word at w p) head names = reads_map (NoUnions p) (NoUnions p) names (terms names (word at w p)) (λ ts. (None, record { head = head; args = ts })) (terms_none (word at w p) names) (λ ts table is. is)
behind_none (list at p q) head names =
    reads_then same (NoneInside p) (NoUnions (list at p q)) names (applied names p) (λ a. end_due q >>= (λ _. Ok ((Some head, a.0), a.1))) (applied_none p names)
    (λ a. reads_end (λ x table. NoneInside p a.0 table → NoUnions (list at p q) x table) q ((Some head, a.0), a.1) (λ e table one. none_joined at p q one (none_at_end q e)))

-- what is read by the word at its front
abbrev HeadedNone : {X : Type 0} → Headed X → Type 0
HeadedNone headed = (names : Names) (place at : ℕ) (w : Word) (p : Placed) → Reads names (headed names place at w p) (NoneInside (word at w p))

sub_none : HeadedNone sub_headed
unfolding sub_headed
sub_none names place at w p =
    reads_then same (NameBound w) (NoneInside (word at w p)) names (declared 8 names at w) (λ h. behind_name h.0 h.1 p >>= (λ x. Ok (record { id = x.0.0; atom = x.0.1; at = place }, x.1))) (declared_bound 8 names at w)
    (λ h. reads_map (NoUnions p) (λ x table. NameBound w h.0 table → NoneInside (word at w p) x table) h.1 (behind_name h.0 h.1 p) (λ x. record { id = x.0; atom = x.1; at = place }) (behind_none p h.0 h.1) (λ x table is one. named_inside at w p one.1 ∙ is))

then_none : (p : Placed) (first : RawTerm) (place : ℕ) (names : Names) → Reads names (then_due first place names p) (NoUnions p)
unfolding then_due name_due word_due
then_none cut first place names = tt
then_none (close at) first place names = tt
then_none (list at p q) first place names = tt
then_none (word at w p) first place names =
    due_then (NameBound w) (NoUnions p) names p (used names at w) (λ b. end_due b.0.1 >>= (λ _. Ok (record { first = first; then = b.0.0; at = place }, b.1))) (used_bound names at w)
    (λ b. reads_end (λ y table. NameBound w b.0 table → NoUnions p y table) p (record { first = first; then = b.0; at = place }, b.1) (λ e table one. none_at_end p e))

-- < a b
prefixed_none : (p : Placed) (names : Names) (place : ℕ) → Reads names (name_due names p >>= (λ a. then_due a.0.0 place a.1 a.0.1)) (NoUnions p)
unfolding name_due word_due
prefixed_none cut names place = tt
prefixed_none (close b) names place = tt
prefixed_none (list b p q) names place = tt
prefixed_none (word b u p) names place =
    due_then (NameBound u) (NoUnions p) names p (used names b u) (λ a. then_due a.0.0 place a.1 a.0.1) (used_bound names b u)
    (λ a. reads_weaken (NoUnions p) (λ y table. NameBound u a.0 table → NoUnions p y table) a.1 (then_due a.0 place a.1 p) (then_none p a.0 place a.1) (λ y table is one. is))

-- behind the first name of a < b
sign_none : (p : Placed) (a : RawTerm) (place : ℕ) (names : Names) → Reads names (sign_due p >>= (λ q. then_due a place names q)) (NoUnions p)
unfolding sign_due word_due
sign_none cut a place names = tt
sign_none (close b) a place names = tt
sign_none (list b p q) a place names = tt
sign_none (word b u p) a place names = by_sign (is_word (codes "<") u)
  where
    by_sign : (c : Bool) → Reads names ((if c then Ok p else Err (Departs 8 b)) >>= (λ q. then_due a place names q)) (NoUnions p)
    by_sign true = then_none p a place names
    by_sign false = tt

pair_none : HeadedNone pair_headed
unfolding pair_headed
pair_none names place at w p = go (is_word (codes "<") w) refl
  where
    go : (b : Bool) → is_word (codes "<") w ≡ b → Reads names (if b then name_due names p >>= (λ a. then_due a.0.0 place a.1 a.0.1) else used names at w >>= (λ a. sign_due p >>= (λ q. then_due a.0 place a.1 q))) (NoneInside (word at w p))
    go true e =
        reads_weaken (NoUnions p) (NoneInside (word at w p)) names (name_due names p >>= (λ a. then_due a.0.0 place a.1 a.0.1)) (prefixed_none p names place)
        (λ y table is. ap (λ w. inside_at (word at w p)) (bytes_eq-true w (codes "<") e) ∙ is)
    go false e =
        reads_then same (NameBound w) (NoneInside (word at w p)) names (used names at w) (λ a. sign_due p >>= (λ q. then_due a.0 place a.1 q)) (used_bound names at w)
        (λ a. reads_weaken (NoUnions p) (λ y table. NameBound w a.0 table → NoneInside (word at w p) y table) a.1 (sign_due p >>= (λ q. then_due a.0 place a.1 q)) (sign_none p a.0 place a.1) (λ y table is one. named_inside at w p one.1 ∙ is))

equation_none : (p : Placed) (names : Names) → Reads names (equation names p) (NoneInside p)
unfolding equation word_due
equation_none cut names = tt
equation_none (close at) names = tt
equation_none (list at p q) names = tt
equation_none (word at w p) names = go (is_word (codes "=") w) refl
  where
    go : (b : Bool) → is_word (codes "=") w ≡ b → Reads names (if b then two_terms names p else Err (Departs 8 at)) (NoneInside (word at w p))
    go true e = reads_weaken (NoUnions p) (NoneInside (word at w p)) names (two_terms names p) (two_none p names) (λ x table is. ap (λ w. inside_at (word at w p)) (bytes_eq-true w (codes "=") e))
    go false e = tt

differ_none : (p : Placed) (names : Names) → Reads names (list_due p >>= (λ g. equation names g.0 >>= (λ t. end_due g.1 >>= (λ _. Ok (con_of false t.0, t.1))))) (NoUnions p)
unfolding list_due
differ_none cut names = tt
differ_none (close at) names = tt
differ_none (word at u p) names = tt
differ_none (list at p q) names =
    reads_then same (NoneInside p) (NoUnions (list at p q)) names (equation names p) (λ t. end_due q >>= (λ _. Ok (con_of false t.0, t.1))) (equation_none p names)
    (λ t. reads_end (λ c table. NoneInside p t.0 table → NoUnions (list at p q) c table) q (con_of false t.0, t.1) (λ f table is. none_joined at p q is (none_at_end q f)))

con_none : HeadedNone con_headed
unfolding con_headed
con_none names place at w p = go (is_word (codes "=") w) refl (is_word (codes "not") w) refl
  where
    go : (a : Bool) → is_word (codes "=") w ≡ a → (b : Bool) → is_word (codes "not") w ≡ b
        → Reads names (if a then two_terms names p >>= (λ t. Ok (con_of true t.0, t.1)) else (if b then list_due p >>= (λ g. equation names g.0 >>= (λ t. end_due g.1 >>= (λ _. Ok (con_of false t.0, t.1)))) else Err (Departs 8 at))) (NoneInside (word at w p))
    go true e b f = reads_map (NoUnions p) (NoneInside (word at w p)) names (two_terms names p) (con_of true) (two_none p names) (λ x table is. ap (λ w. inside_at (word at w p)) (bytes_eq-true w (codes "=") e))
    go false e true f =
        reads_weaken (NoUnions p) (NoneInside (word at w p)) names (list_due p >>= (λ g. equation names g.0 >>= (λ t. end_due g.1 >>= (λ _. Ok (con_of false t.0, t.1))))) (differ_none p names)
        (λ x table is. ap (λ w. inside_at (word at w p)) (bytes_eq-true w (codes "not") f) ∙ is)
    go false e false f = tt

module _ {X : Type 0} (headed : Headed X) (each : HeadedNone headed) where
  one_of_none : (p : Placed) (names : Names) (place : ℕ) → Reads names (one_of headed names place p) (NoneInside p)
  unfolding word_due
  one_of_none cut names place = tt
  one_of_none (close at) names place = tt
  one_of_none (list at p q) names place = tt
  one_of_none (word at w p) names place = each names place at w p

  all_of_none : (p : Placed) (names : Names) → Reads names (all_of headed names p) (NoUnions p)
  all_of_none cut names = tt
  all_of_none (close at) names = (keeps_same names, λ table k. refl)
  all_of_none (word at w p) names = tt
  all_of_none (list at p q) names =
      reads_then same (NoneInside p) (NoUnions (list at p q)) names (one_of headed names at p) (λ x. all_of headed x.1 q >>= (λ xs. Ok (x.0 ∷ xs.0, xs.1))) (one_of_none p names at)
      (λ x. reads_map (NoUnions q) (λ xs table. NoneInside p x.0 table → NoUnions (list at p q) xs table) x.1 (all_of headed x.1 q) (λ xs. x.0 ∷ xs) (all_of_none q x.1) (λ xs table is one. none_joined at p q one is))

  some_of_none : (p : Placed) (names : Names) (place : ℕ) → Reads names (some_of headed names place p) (NoneInside p)
  unfolding some_of
  some_of_none cut names place = tt
  some_of_none (close at) names place = (keeps_same names, λ table k. refl)
  some_of_none (list at p q) names place = tt
  some_of_none (word at w p) names place = go (is_word (codes "and") w) refl
    where
      go : (b : Bool) → is_word (codes "and") w ≡ b → Reads names (if b then all_of headed names p else headed names place at w p >>= (λ x. Ok (x.0 ∷ [], x.1))) (NoneInside (word at w p))
      go true e = reads_weaken (NoUnions p) (NoneInside (word at w p)) names (all_of headed names p) (all_of_none p names) (λ xs table is. ap (λ w. inside_at (word at w p)) (bytes_eq-true w (codes "and") e) ∙ is)
      go false e = reads_map (NoneInside (word at w p)) (NoneInside (word at w p)) names (headed names place at w p) (λ x. x ∷ []) (each names place at w p) (λ x table is. is)

pub subtasks_none : (p : Placed) (names : Names) (place : ℕ) → Reads names (some_of sub_headed names place p) (NoneInside p)
subtasks_none = some_of_none sub_headed sub_none

pub pairs_none : (p : Placed) (names : Names) (place : ℕ) → Reads names (some_of pair_headed names place p) (NoneInside p)
pairs_none = some_of_none pair_headed pair_none

pub constraints_none : (p : Placed) (names : Names) (place : ℕ) → Reads names (some_of con_headed names place p) (NoneInside p)
constraints_none = some_of_none con_headed con_none
