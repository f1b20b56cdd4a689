-- The parts from which a typed list is read spell it, once bound.
use Rattle.std.proofs.Common.{◌≡◌, ℕ, Bool, true, false, ◌&&◌, not, if◌then◌else◌, Ok, Err, Result, List, [], ◌∷◌, drop, codes, Option, Some, None, refl, ap, sym, subst, ◌∙◌}
use Rattle.htn_base.specs.Words.{is_reserved}
use Rattle.text_forms.specs.Lists.{Part, Parts, name, group, nothing, part}
use Rattle.text_forms.specs.Placed.{Placed, cut, close, word, list, parts_of}
use Rattle.text_forms.specs.Words.{Word, is_name, is_variable, is_among}
use Rattle.plan_texts.specs.Declared.{Declared, named}
use Rattle.plan_texts.specs.Formulas.{IsParam}
use Rattle.plan_texts.specs.Schemas.{IsObject}
use Rattle.plan_texts.specs.TypedLists.{EachTyped, first_part, ahead, skipped, type_said, kind_said}
use Rattle.plan_texts.specs.Types.{IsTypeItem, IsSomeName, parent_said}
use Rattle.plan_texts.proofs.Basics.{bytes_eq-true}
use Rattle.plan_model.specs.declared.terms.Param.{Param}
use Rattle.gd_reader.specs.declared.stop.Stop.{Stop}
use Rattle.gd_reader.specs.declared.stop.Stop.TheVariants.{Departs}
use Rattle.gd_reader.specs.declared.term.RawTerm.{RawTerm}
use Rattle.gd_reader.specs.declared.typed_lists.ListKind.{ListKind}
use Rattle.gd_reader.specs.declared.typed_lists.ListKind.TheVariants.{Parameters, Predicate, Objects, Types}
use Rattle.gd_reader.specs.declared.typed_lists.RawParam.{RawParam}
use Rattle.gd_reader.specs.declared.words.Sort.{Sort}
use Rattle.gd_reader.specs.declared.words.Sort.TheVariants.{Variable, Name, Other}
use Rattle.gd_reader.specs.Answers.{◌>>=◌}
use Rattle.gd_reader.specs.ListGrammar.{may_declare, declared_name}
use Rattle.gd_reader.specs.Terms.{Names}
use Rattle.gd_reader.specs.TypedLists.{State, declares as declares_word, variable_by, are_variables, param_by, param_due, type_due, union_due, with_type, Rest, one_more, typed_with, params, behind, typed, listed}
use Rattle.gd_reader.specs.Words.{sort_of, is_hyphen}
use Rattle.gd_reader.proofs.Keeping.{keeps_same, keeps_word}
use Rattle.plan_texts.specs.Together.{Together}
use Rattle.text_values.specs.form_spellings.Bound.{types_of, parent_of, IsBoundParam, IsBoundObject, IsBoundType}
use Rattle.text_values.proofs.form_spellings.Freshness.{declares}
use Rattle.text_values.proofs.form_spellings.KeptWords.{ReadsBy, Reads, reads_then, reads_map}
use Rattle.text_values.proofs.form_spellings.ListsIn.{words_of}
use Rattle.text_values.proofs.form_spellings.ListsSpelled.{none_said}
use Rattle.text_values.proofs.form_spellings.ListsWhole.{OkSaid, ahead_same, skipped_same, dash_test}
use Rattle.text_values.proofs.form_spellings.ListValues.{parameter_marked, predicate_marked, object_named, type_named, some_parent, MarkedVariable}
use Rattle.text_values.proofs.form_spellings.TermsBound.{word_stands}
use Rattle.text_values.proofs.form_spellings.TermsIn.{same}
use Rattle.text_values.proofs.form_spellings.UnionsBound.{TypesSay, TypesBound, union_due_bound, type_bound}
use Rattle.text_values.proofs.form_spellings.WordTests.{false_true}

-- a word that declares, read as its name
abbrev pub WordBound : ListKind → Word → RawParam → Names → Type 0
WordBound kind w x table = (named table x.name ≡ declared_name kind w) × (declares kind w ≡ true)

-- by the kind of list
pub param_bound : (kind : ListKind) (st : State) (at : ℕ) (w : Word) → ReadsBy words_of st.0 (param_due kind st at w) (WordBound kind w)
unfolding param_by variable_by
param_bound kind st at w = go (sort_of w) refl kind
  where
    variable_name : (kind : ListKind) (once : Bool) → declared_name kind w ≡ drop 1 w → (is_reserved (drop 1 w) ≡ false → declares kind w ≡ true) → (a : Bool) → is_reserved (drop 1 w) ≡ a → (b : Bool)
        → ReadsBy words_of st.0 (if a then Err (Departs 9 at) else (if b then Err (Departs 18 at) else declares_word st at (drop 1 w))) (WordBound kind w)
    variable_name kind once n d true e b = tt
    variable_name kind once n d false e true = tt
    variable_name kind once n d false e false = (keeps_word st.0 (drop 1 w), λ table k. (word_stands st.0 (drop 1 w) table k ∙ sym n, d e))

    parameter : sort_of w ≡ Variable → is_reserved (drop 1 w) ≡ false → declares Parameters w ≡ true
    parameter s e = ap (λ s. may_declare s Parameters [] w) s ∙ ap (λ r. not r && true) e

    predicate : sort_of w ≡ Variable → is_reserved (drop 1 w) ≡ false → declares Predicate w ≡ true
    predicate s e = ap (λ s. may_declare s Predicate [] w) s ∙ ap (λ r. not r && true) e

    go : (s : Sort) → sort_of w ≡ s → (kind : ListKind) → ReadsBy words_of st.0 (param_by s kind st at w) (WordBound kind w)
    go Variable e Parameters = variable_name Parameters true refl (parameter e) (is_reserved (drop 1 w)) refl (true && is_among (drop 1 w) st.1)
    go Variable e Predicate = variable_name Predicate false refl (predicate e) (is_reserved (drop 1 w)) refl (false && is_among (drop 1 w) st.1)
    go Variable e Objects = tt
    go Variable e Types = tt
    go Name e Parameters = tt
    go Name e Predicate = tt
    go Name e Objects = (keeps_word st.0 w, λ table k. (word_stands st.0 w table k, ap (λ s. may_declare s Objects [] w) e))
    go Name e Types = (keeps_word st.0 w, λ table k. (word_stands st.0 w table k, ap (λ s. may_declare s Types [] w) e))
    go Other e Parameters = tt
    go Other e Predicate = tt
    go Other e Objects = tt
    go Other e Types = tt

-- A typed list is read part by part: what is asked of the parts and of what is read of them, where it holds of the end of the list and
-- of one more word.
module _ (kind : ListKind) (Front : Parts → List RawParam → Names → Type 0) where
  abbrev FrontOf : Parts → List RawTerm × List RawParam → Names → Type 0
  FrontOf ps r table = Front ps r.1 table

  -- the type of the words in front, and the words behind
  abbrev pub Rests : Option Part → Parts → List RawTerm × List RawParam → Names → Type 0
  Rests said ps r table = TypesBound (are_variables kind) said r.0 table × Front ps r.1 table

  module _ (none : (table : Names) → Front nothing [] table) (more : (p : Placed) (w : Word) (x : RawParam) (r : List RawTerm × List RawParam) (table : Names) → Rests (ahead (parts_of p)) (skipped (parts_of p)) r table → WordBound kind w x table → Front (part (name w) (parts_of p)) (with_type r.0 x ∷ r.1) table) where
    -- a word that declares, with the rest of the list
    word_bound : (st : State) (at : ℕ) (w : Word) (p : Placed) (Q : List RawTerm × List RawParam → Names → Type 0) (h : RawParam → List RawTerm × List RawParam → List RawTerm × List RawParam)
        → ((x : RawParam) (r : List RawTerm × List RawParam) (table : Names) → Rests (ahead (parts_of p)) (skipped (parts_of p)) r table → WordBound kind w x table → Q (h x r) table)
        → ((st : State) → Reads st.0 (behind kind st p) (Rests (ahead (parts_of p)) (skipped (parts_of p)))) → Reads st.0 (param_due kind st at w >>= (λ x. behind kind x.1 p >>= (λ r. Ok (h x.0 r.0, r.1)))) Q
    word_bound st at w p Q h fit rest =
        reads_then words_of (WordBound kind w) Q st.0 (param_due kind st at w) (λ x. behind kind x.1 p >>= (λ r. Ok (h x.0 r.0, r.1))) (param_bound kind st at w)
        (λ x. reads_map (Rests (ahead (parts_of p)) (skipped (parts_of p))) (λ r table. WordBound kind w x.0 table → Q r table) x.1.0 (behind kind x.1 p) (h x.0) (rest x.1) (λ r table is one. fit x.0 r table is one))

    by_hyphen : (st : State) (at : ℕ) (w : Word) (p : Placed)
        → Reads st.0 (typed kind st p) (Rests (first_part (parts_of p)) (skipped (part (name (codes "-")) (parts_of p))))
        → Reads st.0 (param_due kind st at w >>= (λ x. behind kind x.1 p >>= (λ r. Ok (one_more x.0 r)))) (Rests (ahead (parts_of p)) (part (name w) (parts_of p)))
        → Reads st.0 (behind kind st (word at w p)) (Rests (ahead (part (name w) (parts_of p))) (skipped (part (name w) (parts_of p))))
    unfolding behind
    by_hyphen st at w p t d = go (is_hyphen w) refl
      where
        go : (b : Bool) → is_hyphen w ≡ b → Reads st.0 (let a : Result Rest Stop = elim b [ true ↦ typed kind st p | false ↦ param_due kind st at w >>= (λ x. behind kind x.1 p >>= (λ r. Ok (one_more x.0 r))) ] in a) (Rests (ahead (part (name w) (parts_of p))) (skipped (part (name w) (parts_of p))))
        go true e = subst (λ w. Reads st.0 (typed kind st p) (Rests (ahead (part (name w) (parts_of p))) (skipped (part (name w) (parts_of p))))) (sym (bytes_eq-true w (codes "-") e)) t
        go false e =
            let no = dash_test w ∙ e in
            subst (λ said. Reads st.0 (param_due kind st at w >>= (λ x. behind kind x.1 p >>= (λ r. Ok (one_more x.0 r)))) (Rests said (skipped (part (name w) (parts_of p))))) (sym (ahead_same (name w) (parts_of p) no))
            (subst (λ ps. Reads st.0 (param_due kind st at w >>= (λ x. behind kind x.1 p >>= (λ r. Ok (one_more x.0 r)))) (Rests (ahead (parts_of p)) ps)) (sym (skipped_same (name w) (parts_of p) no)) d)

    mutual
      unfolding params behind typed

      params_bound : (p : Placed) (st : State) → Reads st.0 (params kind st p) (FrontOf (parts_of p))
      params_bound cut st = tt
      params_bound (close at) st = (keeps_same st.0, λ table k. none table)
      params_bound (list at p q) st = tt
      params_bound (word at w p) st =
          word_bound st at w p (FrontOf (part (name w) (parts_of p))) (λ x r. ([], with_type r.0 x ∷ r.1)) (λ x r table is one. more p w x r table is one) (λ st. behind_bound p st)

      behind_bound : (p : Placed) (st : State) → Reads st.0 (behind kind st p) (Rests (ahead (parts_of p)) (skipped (parts_of p)))
      behind_bound cut st = tt
      behind_bound (close at) st = (keeps_same st.0, λ table k. ((none_said (are_variables kind), tt), none table))
      behind_bound (list at p q) st = tt
      behind_bound (word at w p) st =
          by_hyphen st at w p (typed_bound p st)
          (word_bound st at w p (Rests (ahead (parts_of p)) (part (name w) (parts_of p))) (λ x r. (r.0, with_type r.0 x ∷ r.1)) (λ x r table is one. (is.0, more p w x r table is one)) (λ st. behind_bound p st))

      typed_bound : (p : Placed) (st : State) → Reads st.0 (typed kind st p) (Rests (first_part (parts_of p)) (skipped (part (name (codes "-")) (parts_of p))))
      typed_bound cut st = tt
      typed_bound (close at) st = tt
      typed_bound (word at w p) st =
          reads_then same (TypesBound (are_variables kind) (Some (name w))) (Rests (Some (name w)) (parts_of p)) st.0 (type_due kind st.0 at w) (λ t. params kind (t.1, st.1) p >>= (λ r. Ok (typed_with t.0 r))) (type_bound kind st.0 at w)
          (λ t. reads_map (FrontOf (parts_of p)) (λ r table. TypesBound (are_variables kind) (Some (name w)) t.0 table → Rests (Some (name w)) (parts_of p) r table) t.1 (params kind (t.1, st.1) p) (λ r. (t.0, r.1)) (params_bound p (t.1, st.1)) (λ r table is one. (one, is)))
      typed_bound (list at p q) st =
          reads_then same (TypesBound (are_variables kind) (Some (group (parts_of p)))) (Rests (Some (group (parts_of p))) (parts_of q)) st.0 (union_due kind st.0 at p) (λ t. params kind (t.1, st.1) q >>= (λ r. Ok (typed_with t.0 r))) (union_due_bound kind p st.0 at)
          (λ t. reads_map (FrontOf (parts_of q)) (λ r table. TypesBound (are_variables kind) (Some (group (parts_of p))) t.0 table → Rests (Some (group (parts_of p))) (parts_of q) r table) t.1 (params kind (t.1, st.1) q) (λ r. (t.0, r.1)) (params_bound q (t.1, st.1)) (λ r table is one. (one, is)))

    pub listed_with : (p : Placed) (names : Names) → Reads names (listed kind names p) (Front (parts_of p))
    listed_with p names = reads_map (FrontOf (parts_of p)) (Front (parts_of p)) names (params kind (names, []) p) (λ r. r.1) (params_bound p (names, [])) (λ r table is. is)

module _ {X : Type 0} (Is : Declared → X → Part → Option Part → Type 0) (IsBound : Declared → Names → RawParam → X → Type 0) (kind : ListKind) where
  -- what is bound to a word and its type is spelled by them
  abbrev pub Fits : Type 0
  Fits = (v : Declared) (table : Names) (r : RawParam) (x : X) (w : Word) (said : Option Part) → declares kind w ≡ true → named table r.name ≡ declared_name kind w → TypesBound (are_variables kind) said r.ty table → IsBound v table r x → Is v x (name w) said

  module _ (fits : Fits) where
    -- a typed list, once bound, is spelled by the parts
    abbrev Front : Parts → List RawParam → Names → Type 0
    Front ps rs table = (v : Declared) (xs : List X) → Together (IsBound v table) rs xs → EachTyped (Is v) xs ps

    one_fits : (p : Placed) (w : Word) (x : RawParam) (r : List RawTerm × List RawParam) (table : Names) → Rests kind Front (ahead (parts_of p)) (skipped (parts_of p)) r table → WordBound kind w x table → Front (part (name w) (parts_of p)) (with_type r.0 x ∷ r.1) table
    one_fits p w x r table is one v [] b = absurd b
    one_fits p w x r table is one v (y ∷ ys) b = (fits v table (with_type r.0 x) y w (ahead (parts_of p)) one.1 one.0 is.0 b.0, is.1 v ys b.1)

    none_fits : (table : Names) → Front nothing [] table
    none_fits table v [] b = tt
    none_fits table v (x ∷ xs) b = absurd b

    abbrev pub ListBound : Placed → List RawParam → Names → Type 0
    ListBound p = Front (parts_of p)

    pub listed_bound : (p : Placed) (names : Names) → Reads names (listed kind names p) (ListBound p)
    listed_bound p names = listed_with kind Front none_fits one_fits p names

pub said_types : (v : Declared) (table : Names) (said : Option Part) (ty : List RawTerm) → TypesSay said ty table → types_of v table ty ≡ kind_said said
said_types v table None [] s = refl
said_types v table None (t ∷ ts) s = absurd s
said_types v table (Some p) [] s = absurd s
said_types v table (Some p) (t ∷ ts) s = s

pub one_type : (said : Option Part) → OkSaid false said → kind_said said ≡ type_said said ∷ []
one_type None o = refl
one_type (Some (name w)) o = refl
one_type (Some (group ps)) o = false_true o

first_or : List Word → Word
first_or [] = []
first_or (w ∷ ws) = w

first_is : {u w : Word} → u ∷ [] ≡ w ∷ [] → u ≡ w
unfolding first_or
first_is e = ap first_or e

pub said_parent : (v : Declared) (table : Names) (said : Option Part) (ty : List RawTerm) → OkSaid false said → TypesSay said ty table → parent_of v table ty ≡ parent_said said
unfolding first_or
said_parent v table None [] o s = refl
said_parent v table None (t ∷ ts) o s = absurd s
said_parent v table (Some p) [] o s = absurd s
said_parent v table (Some (name w)) (t ∷ ts) o s = ap (λ ws. Some (first_or ws)) s
said_parent v table (Some (group ps)) (t ∷ ts) o s = false_true o

param_fits : (v : Declared) (table : Names) (r : RawParam) (x : Param) (w : Word) (said : Option Part) → MarkedVariable w → named table r.name ≡ drop 1 w → TypesBound true said r.ty table → IsBoundParam v table r x → IsParam v x (name w) said
param_fits v table r x w said m n t b =
    let there = b.0 ∙ n ∙ ap (drop 1) m.1 in
    (ap name (m.1 ∙ ap (λ u. 63 ∷ u) (sym there)), ap is_variable there ∙ m.2, (b.1 ∙ said_types v table said r.ty t.1, t.0))

pub parameter_fits : Fits IsParam IsBoundParam Parameters
parameter_fits v table r x w said d n t b = param_fits v table r x w said (parameter_marked w d) n t b

pub variable_fits : Fits IsParam IsBoundParam Predicate
variable_fits v table r x w said d n t b = param_fits v table r x w said (predicate_marked w d) n t b

pub object_fits : (constant : Bool) → Fits (λ v. IsObject v constant) (λ v table. IsBoundObject v table constant) Objects
object_fits constant v table r x w said d n t b =
    let there = b.0 ∙ n in
    (ap name (sym there), ap is_name there ∙ object_named w d, (first_is (b.1 ∙ said_types v table said r.ty t.1 ∙ one_type said t.0), t.0), b.2)

pub type_fits : Fits (λ v. IsTypeItem) IsBoundType Types
type_fits v table r x w said d n t b =
    let there = b.0 ∙ n in
    let same = b.1 ∙ said_parent v table said r.ty t.0 t.1 in
    (ap name (sym there), ap is_name there ∙ type_named w d, same, subst IsSomeName (sym same) (some_parent said t.0))
