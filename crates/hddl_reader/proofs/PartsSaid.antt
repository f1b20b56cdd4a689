-- Parts are answered as the grammar says.
use Rattle.std.proofs.Common.{◌≡◌, ℕ, Bool, true, false, ◌||◌, if◌then◌else◌, Result, Ok, Err, List, [], ◌∷◌, codes, refl, sym, ◌∙◌, ap}
use Rattle.std.specs.Str.{bytes_eq}
use Rattle.text_forms.specs.Placed.{Placed, cut, close, word, list}
use Rattle.text_forms.specs.Words.{Word, is_among}
use Rattle.text_forms.specs.form_grammar.Effects.{effect_rows, eff}
use Rattle.text_forms.specs.form_grammar.Effects as effects
use Rattle.text_forms.specs.form_grammar.Formulas.{gd}
use Rattle.text_forms.specs.form_grammar.Lists as due
use Rattle.text_forms.specs.form_grammar.Networks.{network_rows, subs, pairs, cons}
use Rattle.text_forms.specs.form_grammar.Rows.{if_allowed, form, closed}
use Rattle.text_forms.specs.form_grammar.Sections.{SectionDue, of_effect, of_network, of_terms_due, typed, group, section_rows, part_table, has_parts}
use Rattle.text_forms.specs.form_grammar.Sections as grammar
use Rattle.text_forms.specs.form_grammar.Words.{Table, counts_as, by_keyword}
use Rattle.text_forms.proofs.form_grammar.Meaning.{form_same}
use Rattle.gd_reader.specs.declared.stop.Stop.{Stop}
use Rattle.gd_reader.specs.declared.stop.Stop.TheVariants.{Departs}
use Rattle.gd_reader.specs.declared.typed_lists.ListKind.{ListKind}
use Rattle.gd_reader.specs.declared.typed_lists.ListKind.TheVariants as list_kind
use Rattle.gd_reader.specs.Answers.{◌>>=◌, end_due}
use Rattle.gd_reader.specs.Effects.{effect_inside}
use Rattle.gd_reader.specs.Formulas.{inside}
use Rattle.gd_reader.specs.Terms.{Names, applied}
use Rattle.gd_reader.specs.TypedLists.{listed}
use Rattle.hddl_reader.specs.Said.{said, kind_of}
use Rattle.hddl_reader.proofs.TermsSaid.{said_map, at_next, end_said, applied_said}
use Rattle.hddl_reader.proofs.FormulasSaid.{inside_said}
use Rattle.hddl_reader.proofs.EffectsSaid.{formulas_in, terms_within, lists_within, effect_inside_said}
use Rattle.hddl_reader.proofs.ListsSaid.{listed_said}
use Rattle.hddl_reader.specs.declared.parts.Part.{Part}
use Rattle.hddl_reader.specs.declared.parts.Part.TheVariants as part
use Rattle.hddl_reader.specs.declared.parts.Parted.{Parted}
use Rattle.hddl_reader.specs.declared.parts.Parted.TheVariants as parted
use Rattle.hddl_reader.specs.declared.parts.RawParts.{RawParts}
use Rattle.hddl_reader.specs.Networks.{sub_headed, pair_headed, con_headed, some_of}
use Rattle.hddl_reader.specs.Parts.{no_parts, is_there, stands, part_of, part_read, may_end, parts, parts_from}
use Rattle.hddl_reader.specs.Parts as reader
use Rattle.hddl_reader.proofs.Answers.{said_behind}
use Rattle.hddl_reader.proofs.NetworksSaid.{subs_said, pairs_said, cons_said}
use Rattle.hddl_reader.proofs.Standing.{valued, AreKeyed, keyed, keyword_then, lookup, put, has_key, lookup_put}

-- effects, lists and networks are the same as parts of sections
pub effects_in : (d : effects.EffectDue) (p : Placed) → form section_rows (of_effect d) p ≡ form effect_rows d p
effects_in d p = form_same effect_rows section_rows of_effect (λ e. refl) p d

pub networks_in : (d : _) (p : Placed) → form section_rows (of_network d) p ≡ form network_rows d p
networks_in d p = form_same network_rows section_rows of_network (λ e. refl) p d

pub terms_of_section : (d : due.TermDue) (p : Placed) → form section_rows (of_terms_due d) p ≡ form due.term_rows d p
terms_of_section d p = effects_in _ p ∙ terms_within d p

pub typed_said : (kind : ListKind) (p : Placed) (names : Names) → said (listed kind names p) ≡ form section_rows (typed (kind_of kind)) p
typed_said kind p names = listed_said p kind names ∙ sym (effects_in _ p ∙ lists_within (due.names (kind_of kind) []) p)

pub formula_said : (p : Placed) (names : Names) → said (inside names p) ≡ form section_rows (of_effect (effects.of_formula gd)) p
formula_said p names = inside_said p names ∙ sym (effects_in _ p ∙ formulas_in gd p)

-- what is due in a part's list
abbrev pub due_of : Part → SectionDue
due_of part.Parameters = typed due.parameters
due_of part.Task = of_terms_due due.applied
due_of part.Precondition = of_effect (effects.of_formula gd)
due_of part.NoPrecondition = of_terms_due due.ended
due_of part.Effect = of_effect eff
due_of part.NoEffect = of_terms_due due.ended
due_of part.Subtasks = of_network subs
due_of part.OrderedSubtasks = of_network subs
due_of part.Ordering = of_network pairs
due_of part.Constraints = of_network cons

part_said : (x : Part) (st : RawParts) (names : Names) (at : ℕ) (p : Placed) → said (part_read x st names at p) ≡ form section_rows (due_of x) p
unfolding part_read
part_said part.Parameters st names at p = said_map (listed list_kind.Parameters names p) _ ∙ typed_said list_kind.Parameters p names
part_said part.Task st names at p = said_map (applied names p) _ ∙ applied_said p names ∙ sym (terms_of_section due.applied p)
part_said part.Precondition st names at p = said_map (inside names p) _ ∙ formula_said p names
part_said part.NoPrecondition st names at p = end_said p _ ∙ sym (terms_of_section due.ended p)
part_said part.Effect st names at p = said_map (effect_inside names p) _ ∙ effect_inside_said p names ∙ sym (effects_in eff p)
part_said part.NoEffect st names at p = end_said p _ ∙ sym (terms_of_section due.ended p)
part_said part.Subtasks st names at p = said_map (some_of sub_headed names at p) _ ∙ subs_said p names at ∙ sym (networks_in subs p)
part_said part.OrderedSubtasks st names at p = said_map (some_of sub_headed names at p) _ ∙ subs_said p names at ∙ sym (networks_in subs p)
part_said part.Ordering st names at p = said_map (some_of pair_headed names at p) _ ∙ pairs_said p names at ∙ sym (networks_in pairs p)
part_said part.Constraints st names at p = said_map (some_of con_headed names at p) _ ∙ cons_said p names at ∙ sym (networks_in cons p)

-- the keyword as which a part is counted
abbrev key : Part → Word
key part.Parameters = codes ":parameters"
key part.Task = codes ":task"
key part.Precondition = codes ":precondition"
key part.NoPrecondition = codes ":precondition"
key part.Effect = codes ":effect"
key part.NoEffect = codes ":effect"
key part.Subtasks = codes ":subtasks"
key part.OrderedSubtasks = codes ":subtasks"
key part.Ordering = codes ":ordering"
key part.Constraints = codes ":constraints"

abbrev standing : RawParts → Table Bool
standing st =
    (codes ":parameters", is_there st.params) ∷
    (codes ":task", is_there st.task) ∷
    (codes ":precondition", is_there st.pre) ∷
    (codes ":effect", is_there st.eff) ∷
    (codes ":subtasks", is_there st.subs) ∷
    (codes ":ordering", is_there st.pairs) ∷
    (codes ":constraints", is_there st.constraints) ∷
    []

stands_is : (st : RawParts) (x : Part) → stands st x ≡ lookup (key x) (standing st)
unfolding stands
stands_is st part.Parameters = refl
stands_is st part.Task = refl
stands_is st part.Precondition = refl
stands_is st part.NoPrecondition = refl
stands_is st part.Effect = refl
stands_is st part.NoEffect = refl
stands_is st part.Subtasks = refl
stands_is st part.OrderedSubtasks = refl
stands_is st part.Ordering = refl
stands_is st part.Constraints = refl

has_part : (st : RawParts) (x : Part) → has_key (key x) (standing st) ≡ true
has_part st part.Parameters = refl
has_part st part.Task = refl
has_part st part.Precondition = refl
has_part st part.NoPrecondition = refl
has_part st part.Effect = refl
has_part st part.NoEffect = refl
has_part st part.Subtasks = refl
has_part st part.OrderedSubtasks = refl
has_part st part.Ordering = refl
has_part st part.Constraints = refl

-- what a value that is built of another is
pub built : {A B : Type 0} (a : Result A Stop) (f : A → B) (r : B) → a >>= (λ x. Ok (f x)) ≡ Ok r → (x : A) × (f x ≡ r)
built (Ok x) f r e = (x, let g : Ok (f x) ≡ Ok r = e in cc)
built (Err s) f r e = let g = e in cc

part_put : (x : Part) (st : RawParts) (names : Names) (at : ℕ) (p : Placed) (r : RawParts × Names) → part_read x st names at p ≡ Ok r → standing r.0 ≡ put (key x) (standing st)
unfolding part_read
part_put part.Parameters st names at p r e = ap (λ (r : RawParts × Names). standing r.0) (sym (built (listed list_kind.Parameters names p) _ r e).1)
part_put part.Task st names at p r e = ap (λ (r : RawParts × Names). standing r.0) (sym (built (applied names p) _ r e).1)
part_put part.Precondition st names at p r e = ap (λ (r : RawParts × Names). standing r.0) (sym (built (inside names p) _ r e).1)
part_put part.NoPrecondition st names at p r e = ap (λ (r : RawParts × Names). standing r.0) (sym (built (end_due p) _ r e).1)
part_put part.Effect st names at p r e = ap (λ (r : RawParts × Names). standing r.0) (sym (built (effect_inside names p) _ r e).1)
part_put part.NoEffect st names at p r e = ap (λ (r : RawParts × Names). standing r.0) (sym (built (end_due p) _ r e).1)
part_put part.Subtasks st names at p r e = ap (λ (r : RawParts × Names). standing r.0) (sym (built (some_of sub_headed names at p) _ r e).1)
part_put part.OrderedSubtasks st names at p r e = ap (λ (r : RawParts × Names). standing r.0) (sym (built (some_of sub_headed names at p) _ r e).1)
part_put part.Ordering st names at p r e = ap (λ (r : RawParts × Names). standing r.0) (sym (built (some_of pair_headed names at p) _ r e).1)
part_put part.Constraints st names at p r e = ap (λ (r : RawParts × Names). standing r.0) (sym (built (some_of con_headed names at p) _ r e).1)

-- what stands is what was seen
abbrev Fits : RawParts → List Word → Type 0
Fits st seen = (x : Part) → is_among (key x) seen ≡ stands st x

fits_none : Fits no_parts []
unfolding stands
fits_none part.Parameters = refl
fits_none part.Task = refl
fits_none part.Precondition = refl
fits_none part.NoPrecondition = refl
fits_none part.Effect = refl
fits_none part.NoEffect = refl
fits_none part.Subtasks = refl
fits_none part.OrderedSubtasks = refl
fits_none part.Ordering = refl
fits_none part.Constraints = refl

fits_put : (x : Part) (st : RawParts) (names : Names) (at : ℕ) (p : Placed) (r : RawParts × Names) (w : Word) (seen : List Word) → part_read x st names at p ≡ Ok r → counts_as w ≡ key x → Fits st seen → Fits r.0 (counts_as w ∷ seen)
fits_put x st names at p r w seen e k fits y =
    ap (λ v. is_among (key y) (v ∷ seen)) k
    ∙ ap (λ b. bytes_eq (key y) (key x) || b) (fits y ∙ stands_is st y)
    ∙ sym (lookup_put (key x) (key y) (standing st) (has_part st x))
    ∙ sym (stands_is r.0 y ∙ ap (lookup (key y)) (part_put x st names at p r e))

-- what has parts, in the words of the grammar
abbrev pub parted_of : Parted → grammar.Parted
parted_of parted.Task = grammar.task
parted_of parted.Method = grammar.method
parted_of parted.Action = grammar.action
parted_of parted.Network = grammar.network

same_table : (kind : Parted) → part_table (parted_of kind) ≡ valued due_of (reader.part_table kind)
same_table parted.Task = refl
same_table parted.Method = refl
same_table parted.Action = refl
same_table parted.Network = refl

are_keyed : (kind : Parted) → AreKeyed key (reader.part_table kind)
are_keyed parted.Task = (refl, (refl, (refl, tt)))
are_keyed parted.Method = (refl, (refl, (refl, (refl, (refl, (refl, (refl, (refl, (refl, (refl, tt))))))))))
are_keyed parted.Action = (refl, (refl, (refl, tt)))
are_keyed parted.Network = (refl, (refl, (refl, (refl, (refl, (refl, (refl, (refl, tt))))))))

same_end : (kind : Parted) (st : RawParts) (seen : List Word) → Fits st seen → has_parts (parted_of kind) seen ≡ may_end kind st
unfolding may_end stands
same_end parted.Task st seen fits = refl
same_end parted.Method st seen fits = fits part.Task
same_end parted.Action st seen fits = refl
same_end parted.Network st seen fits = refl

pub by_end : {A : Type 0} (b c : Bool) (at : ℕ) (x : A) → c ≡ b → said {A = A} (if b then Ok x else Err (Departs 8 at)) ≡ closed (if_allowed c 8 tt) at
by_end true true at x e = refl
by_end true false at x e = let f = e in cc
by_end false true at x e = let f = e in cc
by_end false false at x e = refl

mutual
  unfolding parts parts_from part_of

  pub parts_said_from : (p : Placed) (kind : Parted) (st : RawParts) (names : Names) (seen : List Word) → Fits st seen → said (parts kind st names p) ≡ form section_rows (grammar.parts (parted_of kind) seen) p
  parts_said_from cut kind st names seen fits = refl
  parts_said_from (close at) kind st names seen fits = by_end (may_end kind st) (has_parts (parted_of kind) seen) at (st, names) (same_end kind st seen fits)
  parts_said_from (list at p q) kind st names seen fits = refl
  parts_said_from (word at w p) kind st names seen fits =
      (keyword_then section_rows due_of key (reader.part_table kind) (stands st) seen (λ inside. group inside (grammar.parts (parted_of kind) (counts_as w ∷ seen))) at w
      (λ x. parts_from kind x st names p) p (are_keyed kind) fits (λ x e. behind_said p kind x st names seen w (keyed key (reader.part_table kind) (are_keyed kind) w x e) fits))
      ∙ ap (λ t. at_next section_rows (by_keyword t seen (λ inside. group inside (grammar.parts (parted_of kind) (counts_as w ∷ seen))) w) at p) (sym (same_table kind))

  behind_said : (p : Placed) (kind : Parted) (x : Part) (st : RawParts) (names : Names) (seen : List Word) (w : Word) → counts_as w ≡ key x → Fits st seen
      → said (parts_from kind x st names p) ≡ form section_rows (group (due_of x) (grammar.parts (parted_of kind) (counts_as w ∷ seen))) p
  behind_said cut kind x st names seen w k fits = refl
  behind_said (close at) kind x st names seen w k fits = refl
  behind_said (word at v p) kind x st names seen w k fits = refl
  behind_said (list at p q) kind x st names seen w k fits =
      said_behind (part_read x st names at p) (λ r. parts kind r.0 r.1 q) _ _ (part_said x st names at p) (λ r e. parts_said_from q kind r.0 r.1 (counts_as w ∷ seen) (fits_put x st names at p r w seen e k fits))

pub parts_said : (kind : Parted) (p : Placed) (names : Names) → said (parts kind no_parts names p) ≡ form section_rows (grammar.parts (parted_of kind) []) p
parts_said kind p names = parts_said_from p kind no_parts names [] fits_none
