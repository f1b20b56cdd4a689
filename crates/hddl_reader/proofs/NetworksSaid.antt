-- Subtasks, orderings and constraints are answered as the grammar says.
use Rattle.std.proofs.Common.{◌≡◌, ℕ, Bool, true, false, Result, Ok, Err, Some, None, [], ◌∷◌, codes, refl, sym, ◌∙◌, ap, if◌then◌else◌}
use Rattle.text_forms.specs.Placed.{Placed, cut, close, word, list}
use Rattle.text_forms.specs.Words.{Word, is_name}
use Rattle.text_forms.specs.form_grammar.Lists.{TermDue, term_rows}
use Rattle.text_forms.specs.form_grammar.Lists as due
use Rattle.text_forms.specs.form_grammar.Networks.{NetworkDue, of_terms, group, subs, more_subs, sub, behind_id, pairs, more_pairs, pair, id, sign, cons, more_cons, con, equality, sub_word, pair_word, con_word, network_rows}
use Rattle.text_forms.specs.form_grammar.Rows.{Next, go, stop, if_allowed, form, list_or_end, word_or_end}
use Rattle.text_forms.specs.form_grammar.Rows as rows
use Rattle.text_forms.specs.form_grammar.Words as words
use Rattle.text_forms.proofs.form_grammar.Meaning.{form_same}
use Rattle.gd_reader.specs.declared.stop.Stop.{Stop}
use Rattle.gd_reader.specs.declared.stop.Stop.TheVariants.{Departs}
use Rattle.gd_reader.specs.declared.term.RawTerm.{RawTerm}
use Rattle.gd_reader.specs.Answers.{◌>>=◌, word_due, list_due, end_due}
use Rattle.gd_reader.specs.Terms.{Names, terms, two_terms, applied, used}
use Rattle.hddl_reader.specs.Said.{said}
use Rattle.hddl_reader.proofs.TermsSaid.{said_then, said_map, at_next, end_said, terms_said, two_terms_said, applied_said, used_then}
use Rattle.hddl_reader.specs.declared.networks.RawCon.{RawCon}
use Rattle.hddl_reader.specs.Networks.{Headed, one_of, all_of, some_of, sub_headed, pair_headed, con_headed, con_of, behind_name, name_due, sign_due, then_due, equation, is_word}
use Rattle.hddl_reader.proofs.Answers.{bound, by_row, row_form, declared_then}

-- terms are the same as parts of networks
terms_in : (d : TermDue) (p : Placed) → form network_rows (of_terms d) p ≡ form term_rows d p
terms_in d p = form_same term_rows network_rows of_terms (λ e. refl) p d

behind_said : (p : Placed) (head : RawTerm) (names : Names) → said (behind_name head names p) ≡ form network_rows behind_id p
unfolding behind_name
behind_said cut head names = refl
behind_said (close at) head names = refl
behind_said (word at w p) head names = said_map (terms names (word at w p)) _ ∙ terms_said (word at w p) names ∙ by_test (words.is_term w)
  where
    by_test : (b : Bool) → at_next term_rows (if_allowed b 8 due.terms) at p ≡ at_next network_rows (if_allowed b 8 (of_terms due.terms)) at p
    by_test true = sym (terms_in due.terms p)
    by_test false = refl
behind_said (list at p q) head names =
    said_then (applied names p) (λ a. end_due q >>= (λ _. Ok ((Some head, a.0), a.1))) _ _ (applied_said p names ∙ sym (terms_in due.applied p)) (λ a. end_said q ((Some head, a.0), a.1) ∙ sym (terms_in due.ended q))

pub sub_said : (names : Names) (place at : ℕ) (w : Word) (p : Placed) → said (sub_headed names place at w p) ≡ at_next network_rows (sub_word w) at p
unfolding sub_headed
sub_said names place at w p = declared_then network_rows 8 names at w _ behind_id p (λ h. said_map (behind_name h.0 h.1 p) _ ∙ behind_said p h.0 h.1)

name_then : {B : Type 0} (p : Placed) (names : Names) (k : (RawTerm × Placed) × Names → Result B Stop) (next : NetworkDue) → ((x : RawTerm × Names) (q : Placed) → said (k ((x.0, q), x.1)) ≡ form network_rows next q)
    → said (name_due names p >>= k) ≡ form network_rows (id next) p
unfolding name_due word_due
name_then cut names k next h = refl
name_then (close at) names k next h = refl
name_then (list at p q) names k next h = refl
name_then (word at w p) names k next h = ap said (bound (used names at w) (λ a. Ok ((a.0, p), a.1)) k) ∙ used_then network_rows names at w (λ a. k ((a.0, p), a.1)) next p (λ x. h x p)

then_said : (p : Placed) (first : RawTerm) (place : ℕ) (names : Names) → said (then_due first place names p) ≡ form network_rows (id (of_terms due.ended)) p
unfolding then_due
then_said p first place names = name_then p names _ (of_terms due.ended) (λ x q. end_said q (record { first = first; then = x.0; at = place }, x.1) ∙ sym (terms_in due.ended q))

sign_then : {B : Type 0} (p : Placed) (k : Placed → Result B Stop) (next : NetworkDue) → ((q : Placed) → said (k q) ≡ form network_rows next q) → said (sign_due p >>= k) ≡ form network_rows (sign next) p
unfolding sign_due word_due
sign_then cut k next h = refl
sign_then (close at) k next h = refl
sign_then (list at p q) k next h = refl
sign_then {B} (word at w p) k next h = by_test (is_word (codes "<") w)
  where
    by_test : (b : Bool) → said ((if b then Ok p else Err (Departs 8 at)) >>= k) ≡ at_next network_rows (if_allowed b 8 next) at p
    by_test true = h p
    by_test false = refl

pub pair_said : (names : Names) (place at : ℕ) (w : Word) (p : Placed) → said (pair_headed names place at w p) ≡ at_next network_rows (pair_word w) at p
unfolding pair_headed
pair_said names place at w p = by_test (is_word (codes "<") w)
  where
    by_test : (b : Bool) → said (if b then name_due names p >>= (λ a. then_due a.0.0 place a.1 a.0.1) else used names at w >>= (λ a. sign_due p >>= (λ q. then_due a.0 place a.1 q)))
        ≡ at_next network_rows (elim (if b then Some (id (id (of_terms due.ended))) else None) [ None ↦ words.used is_name (sign (id (of_terms due.ended))) w | Some x ↦ go x ]) at p
    by_test true = name_then p names (λ a. then_due a.0.0 place a.1 a.0.1) (id (of_terms due.ended)) (λ x q. then_said q x.0 place x.1)
    by_test false = used_then network_rows names at w (λ a. sign_due p >>= (λ q. then_due a.0 place a.1 q)) (sign (id (of_terms due.ended))) p (λ x. sign_then p _ (id (of_terms due.ended)) (λ q. then_said q x.0 place x.1))

equation_said : (p : Placed) (names : Names) → said (equation names p) ≡ form network_rows equality p
unfolding equation word_due
equation_said cut names = refl
equation_said (close at) names = refl
equation_said (list at p q) names = refl
equation_said (word at w p) names = by_test (is_word (codes "=") w)
  where
    by_test : (b : Bool) → said (if b then two_terms names p else Err (Departs 8 at)) ≡ at_next network_rows (if_allowed b 8 (of_terms (due.term (due.term due.ended)))) at p
    by_test true = two_terms_said p names ∙ sym (terms_in (due.term (due.term due.ended)) p)
    by_test false = refl

negated_said : (p : Placed) (names : Names) → said {A = RawCon × Names} (list_due p >>= (λ g. equation names g.0 >>= (λ t. end_due g.1 >>= (λ _. Ok (con_of false t.0, t.1))))) ≡ form network_rows (group equality (of_terms due.ended)) p
unfolding list_due
negated_said cut names = refl
negated_said (close at) names = refl
negated_said (word at w p) names = refl
negated_said (list at p q) names = said_then (equation names p) (λ t. end_due q >>= (λ _. Ok (con_of false t.0, t.1))) _ _ (equation_said p names) (λ t. end_said q (con_of false t.0, t.1) ∙ sym (terms_in due.ended q))

pub con_said : (names : Names) (place at : ℕ) (w : Word) (p : Placed) → said (con_headed names place at w p) ≡ at_next network_rows (con_word w) at p
unfolding con_headed
con_said names place at w p = by_test (is_word (codes "=") w) (is_word (codes "not") w)
  where
    by_test : (b c : Bool) → said {A = RawCon × Names} (if b then two_terms names p >>= (λ t. Ok (con_of true t.0, t.1)) else (if c then list_due p >>= (λ g. equation names g.0 >>= (λ t. end_due g.1 >>= (λ _. Ok (con_of false t.0, t.1)))) else Err (Departs 8 at)))
        ≡ at_next network_rows (elim (if b then Some (of_terms (due.term (due.term due.ended))) else (if c then Some (group equality (of_terms due.ended)) else None)) [ None ↦ stop 8 | Some x ↦ go x ]) at p
    by_test true c = said_map (two_terms names p) _ ∙ two_terms_said p names ∙ sym (terms_in (due.term (due.term due.ended)) p)
    by_test false true = negated_said p names
    by_test false false = refl

-- none of these, one, or and with any number
module _ {X : Type 0} (headed : Headed X) (of_word : Word → Next NetworkDue) (item more some : NetworkDue) (item_is : network_rows item ≡ rows.word_due 8 of_word) (more_is : network_rows more ≡ list_or_end 8 item more)
    (some_is : network_rows some ≡ word_or_end 8 (words.by_word ((codes "and", more) ∷ []) of_word))
    (headed_said : (names : Names) (place at : ℕ) (w : Word) (p : Placed) → said (headed names place at w p) ≡ at_next network_rows (of_word w) at p) where
  one_by : (p : Placed) (names : Names) (place : ℕ) → said (one_of headed names place p) ≡ by_row network_rows (rows.word_due 8 of_word) p
  unfolding word_due
  one_by cut names place = refl
  one_by (close at) names place = refl
  one_by (list at p q) names place = refl
  one_by (word at w p) names place = headed_said names place at w p

  one_said : (p : Placed) (names : Names) (place : ℕ) → said (one_of headed names place p) ≡ form network_rows item p
  one_said p names place = one_by p names place ∙ sym (row_form network_rows item (rows.word_due 8 of_word) item_is p)

  all_said : (p : Placed) (names : Names) → said (all_of headed names p) ≡ form network_rows more p
  all_said cut names = refl
  all_said (close at) names = sym (row_form network_rows more (list_or_end 8 item more) more_is (close at))
  all_said (word at w p) names = sym (row_form network_rows more (list_or_end 8 item more) more_is (word at w p))
  all_said (list at p q) names =
      said_then (one_of headed names at p) (λ x. all_of headed x.1 q >>= (λ xs. Ok (x.0 ∷ xs.0, xs.1))) _ _ (one_said p names at) (λ x. said_map (all_of headed x.1 q) _ ∙ all_said q x.1)
      ∙ sym (row_form network_rows more (list_or_end 8 item more) more_is (list at p q))

  some_by : (p : Placed) (names : Names) (place : ℕ) → said (some_of headed names place p) ≡ by_row network_rows (word_or_end 8 (words.by_word ((codes "and", more) ∷ []) of_word)) p
  unfolding some_of
  some_by cut names place = refl
  some_by (close at) names place = refl
  some_by (list at p q) names place = refl
  some_by (word at w p) names place = by_test (is_word (codes "and") w)
    where
      by_test : (b : Bool) → said (if b then all_of headed names p else headed names place at w p >>= (λ x. Ok (x.0 ∷ [], x.1)))
          ≡ at_next network_rows (elim (if b then Some more else None) [ None ↦ of_word w | Some x ↦ go x ]) at p
      by_test true = all_said p names
      by_test false = said_map (headed names place at w p) _ ∙ headed_said names place at w p

  some_said : (p : Placed) (names : Names) (place : ℕ) → said (some_of headed names place p) ≡ form network_rows some p
  some_said p names place = some_by p names place ∙ sym (row_form network_rows some _ some_is p)

pub subs_said : (p : Placed) (names : Names) (place : ℕ) → said (some_of sub_headed names place p) ≡ form network_rows subs p
subs_said = some_said sub_headed sub_word sub more_subs subs refl refl refl sub_said

pub pairs_said : (p : Placed) (names : Names) (place : ℕ) → said (some_of pair_headed names place p) ≡ form network_rows pairs p
pairs_said = some_said pair_headed pair_word pair more_pairs pairs refl refl refl pair_said

pub cons_said : (p : Placed) (names : Names) (place : ℕ) → said (some_of con_headed names place p) ≡ form network_rows cons p
cons_said = some_said con_headed con_word con more_cons cons refl refl refl con_said
