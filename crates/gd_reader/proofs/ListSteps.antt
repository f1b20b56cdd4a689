-- Steps through typed lists: front is what is done, pending what waits for its type.
use Rattle.std.proofs.Common.{◌≡◌, ◌<◌, ◌≤◌, ℕ, Bool, length, arith, true, false, Ok, Err, Result, List, [], ◌∷◌, ◌++◌, map, Some, None, refl, sym, ◌∙◌, ap, subst, append_assoc}
use Rattle.std.proofs.lemmas.List.{append-nil, map-append}
use Rattle.text_forms.specs.Placed.{Placed, cut, close, word, list}
use Rattle.text_forms.specs.Words.{Word}
use Rattle.gd_reader.specs.declared.stop.Failure.{Failure}
use Rattle.gd_reader.specs.declared.stop.Failure.TheVariants as failures
use Rattle.gd_reader.specs.declared.stop.Stop.{Stop}
use Rattle.gd_reader.specs.declared.term.RawTerm.{RawTerm}
use Rattle.gd_reader.specs.declared.typed_lists.ListKind.{ListKind}
use Rattle.gd_reader.specs.declared.typed_lists.RawParam.{RawParam}
use Rattle.gd_reader.specs.Answers.{◌>>=◌, Fails, word_or_end}
use Rattle.gd_reader.specs.Ends.{end_of}
use Rattle.gd_reader.proofs.Listing.{Listing, Reading, settled, whole, with_next, with_kind, rest_of, continued}
use Rattle.gd_reader.specs.Terms.{Names}
use Rattle.gd_reader.specs.TypedLists.{State, Rest, params, behind, typed, param_due, type_due, union_due, kind_due, with_type, one_more, alone, typed_with}
use Rattle.gd_reader.specs.Words.{is_hyphen}
use Rattle.gd_reader.proofs.Steps.{fails_bind}

-- whether a word is the hyphen of the words that wait for their type
abbrev pub hyphen_due : List RawParam → Word → Bool
hyphen_due [] w = false
hyphen_due (x ∷ pending) w = is_hyphen w

abbrev whole_list : List RawParam → List RawParam → Rest → List RawParam × Names
whole_list front pending r = (front ++ (map (with_type r.0.0) pending ++ r.0.1), r.1)

abbrev total : List RawParam → List RawParam → Result Rest Stop → Result (List RawParam × Names) Stop
total front pending a = a >>= (λ r. Ok (whole_list front pending r))

pub word_is : (p : Placed) (v : ℕ × Word × Placed) → word_or_end p ≡ Ok (Some v) → p ≡ word v.0 v.1 v.2
unfolding word_or_end
word_is cut v e = cc
word_is (close at) v e = cc
word_is (list at p q) v e = cc
word_is (word at w p) v e = let is : ◌≡◌ {A = ℕ × Word × Placed} (at, w, p) v = cc in (λ k. word (is k).0 (is k).1 (is k).2)

-- the end of a list is that of what stands behind its first word
pub end_behind : (p : Placed) (v : ℕ × Word × Placed) → word_or_end p ≡ Ok (Some v) → end_of v.2 ≡ end_of p
end_behind p v e = sym (ap end_of (word_is p v e))

pub end_here : (p : Placed) → word_or_end p ≡ Ok None → p ≡ end_of p
unfolding word_or_end
end_here cut e = refl
end_here (close at) e = refl
end_here (list at p q) e = cc
end_here (word at w p) e = cc

total_more : (front pending : List RawParam) (x : RawParam) (a : Result Rest Stop) → total front pending (a >>= (λ r. Ok (one_more x r))) ≡ total front (pending ++ x ∷ []) a
total_more front pending x (Err s) = refl
total_more front pending x (Ok r) = ap (λ (l : List RawParam). Ok (front ++ l, r.1)) (sym (append_assoc (map (with_type r.0.0) pending) (with_type r.0.0 x ∷ []) r.0.1) ∙ ap (λ l. l ++ r.0.1) (sym (map-append (with_type r.0.0) pending (x ∷ []))))

total_first : (front : List RawParam) (x : RawParam) (a : Result Rest Stop) → total front [] (a >>= (λ r. Ok (alone (one_more x r)))) ≡ total front (x ∷ []) a
total_first front x (Err s) = refl
total_first front x (Ok r) = refl

total_type : (front pending : List RawParam) (ty : List RawTerm) (a : Result Rest Stop) → total front pending (a >>= (λ r. Ok (typed_with ty r))) ≡ total (front ++ map (with_type ty) pending) [] a
total_type front pending ty (Err s) = refl
total_type front pending ty (Ok r) = ap (λ (l : List RawParam). Ok (l, r.1)) (sym (append_assoc front (map (with_type ty) pending) r.0.1))

by_hyphen : (kind : ListKind) (st : State) (at : ℕ) (w : Word) (p : Placed) (b : Bool) → is_hyphen w ≡ b → behind kind st (word at w p) ≡ elim b [ true ↦ typed kind st p | false ↦ param_due kind st at w >>= (λ x. behind kind x.1 p >>= (λ r. Ok (one_more x.0 r))) ]
unfolding behind typed
by_hyphen kind st at w p b e = ap (λ (b : Bool). let a : Result Rest Stop = elim b [ true ↦ typed kind st p | false ↦ param_due kind st at w >>= (λ x. behind kind x.1 p >>= (λ r. Ok (one_more x.0 r))) ] in a) e

-- one more word
abbrev plus : List RawParam → List RawParam → RawParam × State → Reading
plus front pending x = (record { seen = x.1.1; done = front; pending = pending ++ x.0 ∷ [] }, x.1.0)

next_first : (kind : ListKind) (front : List RawParam) (p : Placed) (a : Result (RawParam × State) Stop)
    → total front [] (a >>= (λ x. behind kind x.1 p >>= (λ r. Ok (alone (one_more x.0 r))))) ≡ a >>= (λ x. Ok (plus front [] x)) >>= (λ m. continued kind m p)
next_first kind front p (Err s) = refl
next_first kind front p (Ok x) = total_first front x.0 (behind kind x.1 p)

next_more : (kind : ListKind) (front : List RawParam) (y : RawParam) (pending : List RawParam) (p : Placed) (a : Result (RawParam × State) Stop)
    → total front (y ∷ pending) (a >>= (λ x. behind kind x.1 p >>= (λ r. Ok (one_more x.0 r)))) ≡ a >>= (λ x. Ok (plus front (y ∷ pending) x)) >>= (λ m. continued kind m p)
next_more kind front y pending p (Err s) = refl
next_more kind front y pending p (Ok x) = total_more front (y ∷ pending) x.0 (behind kind x.1 p)

word_step : (kind : ListKind) (seen : Names) (front pending : List RawParam) (names : Names) (at : ℕ) (w : Word) (p : Placed) → hyphen_due pending w ≡ false
    → continued kind (record { seen = seen; done = front; pending = pending }, names) (word at w p) ≡ with_next kind (record { seen = seen; done = front; pending = pending }, names) at w >>= (λ m. continued kind m p)
unfolding params
word_step kind seen front [] names at w p h = next_first kind front p (param_due kind (names, seen) at w)
word_step kind seen front (y ∷ pending) names at w p h = ap (total front (y ∷ pending)) (by_hyphen kind (names, seen) at w p false h) ∙ next_more kind front y pending p (param_due kind (names, seen) at w)

pub step_word : (kind : ListKind) (l : Listing) (names : Names) (at : ℕ) (w : Word) (p : Placed) (x : RawParam × State) → hyphen_due l.pending w ≡ false → param_due kind (names, l.seen) at w ≡ Ok x
    → continued kind (plus l.done l.pending x) p ≡ continued kind (l, names) (word at w p)
step_word kind l names at w p x h e =
    sym (word_step kind l.seen l.done l.pending names at w p h ∙ ap (λ a. a >>= (λ x. Ok (plus l.done l.pending x)) >>= (λ m. continued kind m p)) e)

pub stop_word : (e : Failure) (kind : ListKind) (l : Listing) (names : Names) (at : ℕ) (w : Word) (p : Placed) → hyphen_due l.pending w ≡ false → Fails e (param_due kind (names, l.seen) at w) → Fails e (continued kind (l, names) (word at w p))
stop_word e kind l names at w p h f =
    subst (Fails e) (sym (word_step kind l.seen l.done l.pending names at w p h))
    (fails_bind e (with_next kind (l, names) at w) (λ m. continued kind m p) (fails_bind e (param_due kind (names, l.seen) at w) (λ x. Ok (plus l.done l.pending x)) f))

-- a type, and then the rest of the list
bind_map : {A B C : Type 0} (a : Result A Stop) (f : A → B) (g : B → Result C Stop) → a >>= (λ x. Ok (f x)) >>= g ≡ a >>= (λ x. g (f x))
bind_map (Ok x) f g = refl
bind_map (Err e) f g = refl

typed_is : (kind : ListKind) (st : State) (p : Placed) → typed kind st p ≡ kind_due kind st.0 p >>= (λ k. params kind (k.1, st.1) k.0.1 >>= (λ r. Ok (typed_with k.0.0 r)))
unfolding typed kind_due
typed_is kind st cut = refl
typed_is kind st (close at) = refl
typed_is kind st (word at w p) = sym (bind_map (type_due kind st.0 at w) (λ t. ((t.0, p), t.1)) (λ k. params kind (k.1, st.1) k.0.1 >>= (λ r. Ok (typed_with k.0.0 r))))
typed_is kind st (list at p q) = sym (bind_map (union_due kind st.0 at p) (λ t. ((t.0, q), t.1)) (λ k. params kind (k.1, st.1) k.0.1 >>= (λ r. Ok (typed_with k.0.0 r))))

abbrev with_type_of : Listing → (List RawTerm × Placed) × Names → Reading × Placed
with_type_of l k = ((settled l k.0.0, k.1), k.0.1)

type_more : (kind : ListKind) (seen : Names) (front : List RawParam) (y : RawParam) (pending : List RawParam) (a : Result ((List RawTerm × Placed) × Names) Stop)
    → total front (y ∷ pending) (a >>= (λ k. params kind (k.1, seen) k.0.1 >>= (λ r. Ok (typed_with k.0.0 r))))
    ≡ a >>= (λ k. Ok (with_type_of (record { seen = seen; done = front; pending = y ∷ pending }) k)) >>= (λ m. continued kind m.0 m.1)
type_more kind seen front y pending (Err s) = refl
type_more kind seen front y pending (Ok k) = total_type front (y ∷ pending) k.0.0 (params kind (k.1, seen) k.0.1)

type_step : (kind : ListKind) (seen : Names) (front pending : List RawParam) (names : Names) (at : ℕ) (w : Word) (q : Placed) → hyphen_due pending w ≡ true
    → continued kind (record { seen = seen; done = front; pending = pending }, names) (word at w q) ≡ with_kind kind (record { seen = seen; done = front; pending = pending }, names) q >>= (λ m. continued kind m.0 m.1)
type_step kind seen front [] names at w q h = cc
type_step kind seen front (y ∷ pending) names at w q h = ap (total front (y ∷ pending)) (by_hyphen kind (names, seen) at w q true h ∙ typed_is kind (names, seen) q) ∙ type_more kind seen front y pending (kind_due kind names q)

pub step_type : (kind : ListKind) (l : Listing) (names : Names) (at : ℕ) (w : Word) (q : Placed) (k : (List RawTerm × Placed) × Names) → hyphen_due l.pending w ≡ true → kind_due kind names q ≡ Ok k
    → continued kind (settled l k.0.0, k.1) k.0.1 ≡ continued kind (l, names) (word at w q)
step_type kind l names at w q k h e =
    sym (type_step kind l.seen l.done l.pending names at w q h ∙ ap (λ a. a >>= (λ k. Ok (with_type_of l k)) >>= (λ m. continued kind m.0 m.1)) e)

pub stop_type : (e : Failure) (kind : ListKind) (l : Listing) (names : Names) (at : ℕ) (w : Word) (q : Placed) → hyphen_due l.pending w ≡ true → Fails e (kind_due kind names q) → Fails e (continued kind (l, names) (word at w q))
stop_type e kind l names at w q h f =
    subst (Fails e) (sym (type_step kind l.seen l.done l.pending names at w q h))
    (fails_bind e (with_kind kind (l, names) q) (λ m. continued kind m.0 m.1) (fails_bind e (kind_due kind names q) (λ k. Ok (with_type_of l k)) f))

-- the end of the list, and what can't stand in it
list_ends : (kind : ListKind) (front pending : List RawParam) (st : State) (p : Placed) → word_or_end p ≡ Ok None → total front pending (rest_of kind pending st p) ≡ Ok (front ++ map (with_type []) pending, st.0)
unfolding params behind word_or_end
list_ends kind front pending st cut e = cc
list_ends kind front pending st (list at p q) e = cc
list_ends kind front pending st (word at w p) e = cc
list_ends kind front [] st (close at) e = refl
list_ends kind front (y ∷ pending) st (close at) e = ap (λ (l : List RawParam). Ok (front ++ l, st.0)) (append-nil (map (with_type []) (y ∷ pending)))

pub list_end : (kind : ListKind) (l : Listing) (names : Names) (p : Placed) → word_or_end p ≡ Ok None → continued kind (l, names) p ≡ Ok (whole l, names)
list_end kind l names p e = list_ends kind l.done l.pending (names, l.seen) p e

stuck_rest : (e : Failure) (kind : ListKind) (pending : List RawParam) (st : State) (p : Placed) → Fails e (word_or_end p) → Fails e (rest_of kind pending st p)
unfolding params behind word_or_end
stuck_rest failures.Memory kind pending st p f = tt
stuck_rest (failures.At s) kind pending st (close at) f = cc
stuck_rest (failures.At s) kind pending st (word at w p) f = cc
stuck_rest (failures.At s) kind [] st cut f = let is = f in cc
stuck_rest (failures.At s) kind (y ∷ pending) st cut f = let is = f in cc
stuck_rest (failures.At s) kind [] st (list at p q) f = let is = f in cc
stuck_rest (failures.At s) kind (y ∷ pending) st (list at p q) f = let is = f in cc

pub list_stuck : (e : Failure) (kind : ListKind) (r : Reading) (p : Placed) → Fails e (word_or_end p) → Fails e (continued kind r p)
list_stuck e kind r p f = fails_bind e (rest_of kind r.0.pending (r.1, r.0.seen) p) (λ x. Ok (whole_list r.0.done r.0.pending x)) (stuck_rest e kind r.0.pending (r.1, r.0.seen) p f)

-- a hyphen is due behind words whose type is
pub hyphen_of : (pending : List RawParam) (w : Word) → 0 < length pending → hyphen_due pending w ≡ is_hyphen w
hyphen_of [] w h = absurd (omega (arith, h))
hyphen_of (x ∷ pending) w h = refl

pub no_hyphen : (pending : List RawParam) (w : Word) → length pending ≤ 0 → hyphen_due pending w ≡ false
no_hyphen [] w h = refl
no_hyphen (x ∷ pending) w h = absurd (omega (arith, h))
