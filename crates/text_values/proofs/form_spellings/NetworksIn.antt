-- What holds of the names and places of subtasks, orderings and constraints.
use Rattle.std.proofs.Common.{◌≡◌, ◌∙◌, ℕ, inl, inr, Bool, true, false, if◌then◌else◌, codes, Ok, Err, List, [], ◌∷◌, Option, Some, None, IfSome, refl, sym, ap, subst}
use Rattle.std.specs.Option.{unwrap_or}
use Rattle.plan_texts.proofs.Basics.{bytes_eq-true}
use Rattle.text_forms.specs.Placed.{Placed, cut, close, word, list}
use Rattle.text_forms.specs.Words.{Word}
use Rattle.plan_texts.specs.Types.{EachIs}
use Rattle.gd_reader.specs.declared.stop.Stop.TheVariants.{Departs}
use Rattle.gd_reader.specs.declared.term.RawTerm.{RawTerm}
use Rattle.gd_reader.specs.declared.term.RawAtom.{RawAtom}
use Rattle.gd_reader.specs.declared.words.Sort.{Sort}
use Rattle.gd_reader.specs.declared.words.Sort.TheVariants.{Variable, Name, Other}
use Rattle.gd_reader.specs.Answers.{◌>>=◌, word_due, list_due, end_due}
use Rattle.gd_reader.specs.Terms.{Names, name_by, used, terms, two_terms, applied}
use Rattle.gd_reader.specs.Words.{sort_of}
use Rattle.gd_reader.proofs.Keeping.{keeps_same}
use Rattle.hddl_reader.specs.declared.networks.RawSub.{RawSub}
use Rattle.hddl_reader.specs.declared.networks.RawPair.{RawPair}
use Rattle.hddl_reader.specs.declared.networks.RawCon.{RawCon}
use Rattle.hddl_reader.specs.Networks.{is_word, declared_by, declared, behind_name, sub_headed, sign_due, name_due, then_due, pair_headed, con_of, equation, con_headed, Headed, one_of, all_of, some_of}
use Rattle.text_values.specs.form_spellings.EachPart.{OpensTerm, OfSub, OfPair, OfCon}
use Rattle.text_values.proofs.form_spellings.Facts.{Facts, Fronted, AllSeen}
use Rattle.text_values.proofs.form_spellings.KeptWords.{Reads, reads_then, reads_map, reads_weaken, reads_end, due_then}
use Rattle.text_values.proofs.form_spellings.TermsIn.{TermIn, TermsIn, AtomIn, PairIn, same, raw_in, terms_in, applied_in, two_in}

module _ (F : Facts) where
  -- a name that is read of the word at a place
  abbrev pub NameFrom : ℕ → RawTerm → Names → Type 0
  NameFrom at t table = TermIn F t table × (t.at ≡ at) × (t.variable ≡ false)

  pub declared_in : (code : ℕ) (names : Names) (at : ℕ) (w : Word) → F.Seen at w → Reads names (declared code names at w) (NameFrom at)
  unfolding declared
  declared_in code names at w seen = go (sort_of w)
    where
      go : (s : Sort) → Reads names (declared_by s code names at w) (NameFrom at)
      go Variable = tt
      go Name = let r = raw_in F names false at w seen in (r.0, λ table k. (r.1 table k, refl, refl))
      go Other = tt

  pub name_in : (names : Names) (at : ℕ) (w : Word) → F.Seen at w → Reads names (used names at w) (NameFrom at)
  unfolding used
  name_in names at w seen = go (sort_of w)
    where
      go : (s : Sort) → Reads names (name_by s names at w) (NameFrom at)
      go Variable = tt
      go Name = let r = raw_in F names false at w seen in (r.0, λ table k. (r.1 table k, refl, refl))
      go Other = tt

  -- behind the name at the front
  abbrev BehindIn : RawTerm → Option RawTerm × RawAtom → Names → Type 0
  BehindIn head x table = TermIn F head table → IfSome x.0 (λ t. TermIn F t table) × AtomIn F x.1 table × (unwrap_or x.0 x.1.head ≡ head)

  behind_in : (p : Placed) (head : RawTerm) (names : Names) → AllSeen F p → Reads names (behind_name head names p) (BehindIn head)
  unfolding behind_name
  behind_in cut head names s = tt
  behind_in (close at) head names s = (keeps_same names, λ table k one. (tt, (one, tt), refl))
  behind_in (word at w p) head names s =
      reads_map (TermsIn F) (BehindIn head) names (terms names (word at w p)) (λ ts. (None, record { head = head; args = ts })) (terms_in F (word at w p) names s) (λ ts table is one. (tt, (one, is), refl))
  behind_in (list at p q) head names s =
      reads_then same (AtomIn F) (BehindIn head) names (applied names p) (λ a. end_due q >>= (λ _. Ok ((Some head, a.0), a.1))) (applied_in F p names s.1)
      (λ a. reads_end (λ x table. AtomIn F a.0 table → BehindIn head x table) q ((Some head, a.0), a.1) (λ _ table is one. (one, is, refl)))

  abbrev pub SubIn : RawSub → Names → Type 0
  SubIn x table = OfSub (F.Is table) F.Opens x

  abbrev pub OrderIn : RawPair → Names → Type 0
  OrderIn x table = OfPair (F.Is table) F.Opens x

  abbrev pub ConIn : RawCon → Names → Type 0
  ConIn x table = OfCon (F.Is table) F.Opens x

  -- what is read by the word at its front
  abbrev pub HeadedIn : {X : Type 0} → Headed X → (X → Names → Type 0) → Type 0
  HeadedIn headed P = (names : Names) (place at : ℕ) (w : Word) (p : Placed) → F.Opens place at w → F.Seen at w → AllSeen F p → Reads names (headed names place at w p) P

  opens_term : (place at : ℕ) (w : Word) (t : RawTerm) → F.Opens place at w → t.at ≡ at → OpensTerm (F.Is []) F.Opens place t
  opens_term place at w t opens e = (w, subst (λ at. F.Opens place at w) (sym e) opens)

  pub sub_in : HeadedIn sub_headed SubIn
  unfolding sub_headed
  sub_in names place at w p opens seen s =
      reads_then same (NameFrom at) SubIn names (declared 8 names at w) (λ h. behind_name h.0 h.1 p >>= (λ x. Ok (record { id = x.0.0; atom = x.0.1; at = place }, x.1))) (declared_in 8 names at w seen)
      (λ h. reads_map (BehindIn h.0) (λ x table. NameFrom at h.0 table → SubIn x table) h.1 (behind_name h.0 h.1 p) (λ x. record { id = x.0; atom = x.1; at = place }) (behind_in p h.0 h.1 s)
      (λ x table is one. let y = is one.0 in record { id = y.0; atom = y.1; place = opens_term place at w (unwrap_or x.0 x.1.head) opens (ap (λ (t : RawTerm). t.at) y.2 ∙ one.1) }))

  -- the two names, once the place of the parenthesis is known
  abbrev ThenIn : RawTerm → ℕ → RawPair → Names → Type 0
  ThenIn first place y table = (y.first ≡ first) × (y.at ≡ place) × TermIn F y.then table × (y.then.variable ≡ false)

  then_in : (p : Placed) (first : RawTerm) (place : ℕ) (names : Names) → AllSeen F p → Reads names (then_due first place names p) (ThenIn first place)
  unfolding then_due name_due word_due
  then_in cut first place names s = tt
  then_in (close at) first place names s = tt
  then_in (list at p q) first place names s = tt
  then_in (word at w p) first place names s =
      due_then (NameFrom at) (ThenIn first place) names p (used names at w) (λ b. end_due b.0.1 >>= (λ _. Ok (record { first = first; then = b.0.0; at = place }, b.1))) (name_in names at w s.0)
      (λ b. reads_end (λ y table. NameFrom at b.0 table → ThenIn first place y table) p (record { first = first; then = b.0; at = place }, b.1) (λ _ table one. (refl, refl, one.0, one.2)))

  -- < a b
  prefixed_in : (p : Placed) (names : Names) (place at : ℕ) → F.Opens place at (codes "<") → AllSeen F p → Reads names (name_due names p >>= (λ a. then_due a.0.0 place a.1 a.0.1)) OrderIn
  unfolding name_due word_due
  prefixed_in cut names place at sign s = tt
  prefixed_in (close b) names place at sign s = tt
  prefixed_in (list b p q) names place at sign s = tt
  prefixed_in (word b u p) names place at sign s =
      due_then (NameFrom b) OrderIn names p (used names b u) (λ a. then_due a.0.0 place a.1 a.0.1) (name_in names b u s.0)
      (λ a. reads_weaken (ThenIn a.0 place) (λ y table. NameFrom b a.0 table → OrderIn y table) a.1 (then_due a.0 place a.1 p) (then_in p a.0 place a.1 s.1)
      (λ y table is one. record { first = subst (λ t. TermIn F t table) (sym is.0) one.0; then = is.2; place = inr (at, subst (λ n. F.Opens n at (codes "<")) (sym is.1) sign); ids = (ap (λ (t : RawTerm). t.variable) is.0 ∙ one.2, is.3) }))

  -- behind the first name of a < b
  second_in : (p : Placed) (a : RawTerm) (place : ℕ) (names : Names) → AllSeen F p → Reads names (sign_due p >>= (λ q. then_due a place names q)) (ThenIn a place)
  unfolding sign_due word_due
  second_in cut a place names s = tt
  second_in (close b) a place names s = tt
  second_in (list b p q) a place names s = tt
  second_in (word b u p) a place names s = by_sign (is_word (codes "<") u)
    where
      by_sign : (c : Bool) → Reads names ((if c then Ok p else Err (Departs 8 b)) >>= (λ q. then_due a place names q)) (ThenIn a place)
      by_sign true = then_in p a place names s.1
      by_sign false = tt

  -- a < b
  between_in : (p : Placed) (names : Names) (place at : ℕ) (w : Word) → F.Opens place at w → F.Seen at w → AllSeen F p → Reads names (used names at w >>= (λ a. sign_due p >>= (λ q. then_due a.0 place a.1 q))) OrderIn
  between_in p names place at w opens seen s =
      reads_then same (NameFrom at) OrderIn names (used names at w) (λ a. sign_due p >>= (λ q. then_due a.0 place a.1 q)) (name_in names at w seen)
      (λ a. reads_weaken (ThenIn a.0 place) (λ y table. NameFrom at a.0 table → OrderIn y table) a.1 (sign_due p >>= (λ q. then_due a.0 place a.1 q)) (second_in p a.0 place a.1 s)
      (λ y table is one. record { first = subst (λ t. TermIn F t table) (sym is.0) one.0; then = is.2; place = inl (w, subst (λ n. F.Opens n y.first.at w) (sym is.1) (subst (λ n. F.Opens place n w) (sym (ap (λ (t : RawTerm). t.at) is.0 ∙ one.1)) opens)); ids = (ap (λ (t : RawTerm). t.variable) is.0 ∙ one.2, is.3) }))

  pub pair_in : HeadedIn pair_headed OrderIn
  unfolding pair_headed
  pair_in names place at w p opens seen s = go (is_word (codes "<") w) refl
    where
      go : (b : Bool) → is_word (codes "<") w ≡ b → Reads names (if b then name_due names p >>= (λ a. then_due a.0.0 place a.1 a.0.1) else used names at w >>= (λ a. sign_due p >>= (λ q. then_due a.0 place a.1 q))) OrderIn
      go true e = prefixed_in p names place at (subst (λ w. F.Opens place at w) (bytes_eq-true w (codes "<") e) opens) s
      go false e = between_in p names place at w opens seen s

  equation_in : (p : Placed) (names : Names) → AllSeen F p → Reads names (equation names p) (PairIn F)
  unfolding equation word_due
  equation_in cut names s = tt
  equation_in (close at) names s = tt
  equation_in (list at p q) names s = tt
  equation_in (word at w p) names s = go (is_word (codes "=") w)
    where
      go : (b : Bool) → Reads names (if b then two_terms names p else Err (Departs 8 at)) (PairIn F)
      go true = two_in F p names s.1
      go false = tt

  differ_in : (p : Placed) (names : Names) → AllSeen F p → Reads names (list_due p >>= (λ g. equation names g.0 >>= (λ t. end_due g.1 >>= (λ _. Ok (con_of false t.0, t.1))))) ConIn
  unfolding list_due
  differ_in cut names s = tt
  differ_in (close at) names s = tt
  differ_in (word at w p) names s = tt
  differ_in (list at p q) names s =
      reads_then same (PairIn F) ConIn names (equation names p) (λ t. end_due q >>= (λ _. Ok (con_of false t.0, t.1))) (equation_in p names s.1)
      (λ t. reads_end (λ c table. PairIn F t.0 table → ConIn c table) q (con_of false t.0, t.1) (λ _ table is. is))

  pub con_in : HeadedIn con_headed ConIn
  unfolding con_headed
  con_in names place at w p opens seen s = go (is_word (codes "=") w) (is_word (codes "not") w)
    where
      go : (a b : Bool) → Reads names (if a then two_terms names p >>= (λ t. Ok (con_of true t.0, t.1)) else (if b then list_due p >>= (λ g. equation names g.0 >>= (λ t. end_due g.1 >>= (λ _. Ok (con_of false t.0, t.1)))) else Err (Departs 8 at))) ConIn
      go true b = reads_map (PairIn F) ConIn names (two_terms names p) (con_of true) (two_in F p names s) (λ t table is. is)
      go false true = differ_in p names s
      go false false = tt

  -- each of what is read
  abbrev pub EachIn : {X : Type 0} → (X → Names → Type 0) → List X → Names → Type 0
  EachIn P xs table = EachIs (λ x. P x table) xs

  module _ {X : Type 0} (headed : Headed X) (P : X → Names → Type 0) (each : HeadedIn headed P) where
    pub one_of_in : (p : Placed) (names : Names) (place : ℕ) → Fronted F place p → AllSeen F p → Reads names (one_of headed names place p) P
    unfolding word_due
    one_of_in cut names place f s = tt
    one_of_in (close at) names place f s = tt
    one_of_in (list at p q) names place f s = tt
    one_of_in (word at w p) names place f s = each names place at w p f s.0 s.1

    pub all_of_in : (p : Placed) (names : Names) → AllSeen F p → Reads names (all_of headed names p) (EachIn P)
    all_of_in cut names s = tt
    all_of_in (close at) names s = (keeps_same names, λ table k. tt)
    all_of_in (word at w p) names s = tt
    all_of_in (list at p q) names s =
        reads_then same P (EachIn P) names (one_of headed names at p) (λ x. all_of headed x.1 q >>= (λ xs. Ok (x.0 ∷ xs.0, xs.1))) (one_of_in p names at s.0 s.1)
        (λ x. reads_map (EachIn P) (λ xs table. P x.0 table → EachIn P xs table) x.1 (all_of headed x.1 q) (λ xs. x.0 ∷ xs) (all_of_in q x.1 s.2) (λ xs table is one. (one, is)))

    pub some_of_in : (p : Placed) (names : Names) (place : ℕ) → Fronted F place p → AllSeen F p → Reads names (some_of headed names place p) (EachIn P)
    unfolding some_of
    some_of_in cut names place f s = tt
    some_of_in (close at) names place f s = (keeps_same names, λ table k. tt)
    some_of_in (list at p q) names place f s = tt
    some_of_in (word at w p) names place f s = go (is_word (codes "and") w)
      where
        go : (b : Bool) → Reads names (if b then all_of headed names p else headed names place at w p >>= (λ x. Ok (x.0 ∷ [], x.1))) (EachIn P)
        go true = all_of_in p names s.1
        go false = reads_map P (EachIn P) names (headed names place at w p) (λ x. x ∷ []) (each names place at w p f s.0 s.1) (λ x table is. (is, tt))
