-- Subtasks, ordering and constraints of a network as they are read: what stands in the list behind a part's keyword, up to its end.
-- Source: the full syntax definition of Höller et al., "HDDL", AAAI 2020; a pair may have its sign behind its first name.
use Rattle.std.specs.Prelude.{ℕ, Bool, true, false, List, [], ◌∷◌, Option, Some, None, Result, Ok, Err, if◌then◌else◌, codes}
use Rattle.std.specs.Str.{bytes_eq}
use Rattle.htn_base.specs.Words.{is_reserved}
use Rattle.text_forms.specs.Placed.{Placed, cut, close, word, list}
use Rattle.text_forms.specs.Words.{Word}
use Rattle.gd_reader.specs.declared.stop.Stop.{Stop}
use Rattle.gd_reader.specs.declared.stop.Stop.TheVariants.{Ends, Departs}
use Rattle.gd_reader.specs.declared.term.RawAtom.{RawAtom}
use Rattle.gd_reader.specs.declared.term.RawTerm.{RawTerm}
use Rattle.gd_reader.specs.declared.words.Sort.{Sort}
use Rattle.gd_reader.specs.declared.words.Sort.TheVariants.{Variable, Name, Other}
use Rattle.gd_reader.specs.Answers.{◌>>=◌, word_due, list_due, end_due}
use Rattle.gd_reader.specs.Terms.{Names, raw_term, used, terms, two_terms, applied}
use Rattle.gd_reader.specs.Words.{sort_of}
use Rattle.hddl_reader.specs.declared.networks.RawSub.{RawSub}
use Rattle.hddl_reader.specs.declared.networks.RawPair.{RawPair}
use Rattle.hddl_reader.specs.declared.networks.RawCon.{RawCon}

abbrev pub is_word : List ℕ → Word → Bool
is_word text w = bytes_eq w text

-- a word that can't be a name, where one is declared: 9 where it is reserved
abbrev pub undeclared : ℕ → Word → ℕ
undeclared code w = if is_reserved w then 9 else code

abbrev pub declared_by : Sort → ℕ → Names → ℕ → Word → Result (RawTerm × Names) Stop
declared_by Variable code names at w = Err (Departs code at)
declared_by Name code names at w = Ok (raw_term names false at w)
declared_by Other code names at w = Err (Departs (undeclared code w) at)

-- a name that is or may be declared
unfoldable pub declared : ℕ → Names → ℕ → Word → Result (RawTerm × Names) Stop
declared code names at w = declared_by (sort_of w) code names at w

-- behind the name at the front of a subtask: terms, or the task whose id it is
unfoldable pub behind_name : RawTerm → Names → Placed → Result ((Option RawTerm × RawAtom) × Names) Stop
behind_name head names cut = Err Ends
behind_name head names (close at) = Ok ((None, record { head = head; args = [] }), names)
behind_name head names (word at w p) = terms names (word at w p) >>= (λ ts. Ok ((None, record { head = head; args = ts.0 }), ts.1))
behind_name head names (list at p q) = applied names p >>= (λ a. end_due q >>= (λ _. Ok ((Some head, a.0), a.1)))

-- a subtask behind the parenthesis at a place: its first word, and what is behind it
unfoldable pub sub_headed : Names → ℕ → ℕ → Word → Placed → Result (RawSub × Names) Stop
sub_headed names place at w p = declared 8 names at w >>= (λ h. behind_name h.0 h.1 p >>= (λ s. Ok (record { id = s.0.0; atom = s.0.1; at = place }, s.1)))

-- the sign of an ordering, and what is behind it
unfoldable pub sign_due : Placed → Result Placed Stop
sign_due p = word_due p >>= (λ v. if is_word (codes "<") v.1 then Ok v.2 else Err (Departs 8 v.0))

-- a name that is used, and what is behind it
unfoldable pub name_due : Names → Placed → Result ((RawTerm × Placed) × Names) Stop
name_due names p = word_due p >>= (λ v. used names v.0 v.1 >>= (λ a. Ok ((a.0, v.2), a.1)))

-- the second name of an ordering, and the end of its list
unfoldable pub then_due : RawTerm → ℕ → Names → Placed → Result (RawPair × Names) Stop
then_due first place names p = name_due names p >>= (λ b. end_due b.0.1 >>= (λ _. Ok (record { first = first; then = b.0.0; at = place }, b.1)))

-- < a b, or a < b, behind the parenthesis at a place
unfoldable pub pair_headed : Names → ℕ → ℕ → Word → Placed → Result (RawPair × Names) Stop
pair_headed names place at w p =
    if is_word (codes "<") w then name_due names p >>= (λ a. then_due a.0.0 place a.1 a.0.1)
    else used names at w >>= (λ a. sign_due p >>= (λ q. then_due a.0 place a.1 q))

-- two terms, equal or not
abbrev pub con_of : Bool → RawTerm × RawTerm → RawCon
con_of equal t = record { equal = equal; left = t.0; right = t.1 }

-- = and two terms, as what stands in a list's parentheses
unfoldable pub equation : Names → Placed → Result ((RawTerm × RawTerm) × Names) Stop
equation names p = word_due p >>= (λ v. if is_word (codes "=") v.1 then two_terms names v.2 else Err (Departs 8 v.0))

-- = s t, or not ( = s t )
unfoldable pub con_headed : Names → ℕ → ℕ → Word → Placed → Result (RawCon × Names) Stop
con_headed names place at w p =
    if is_word (codes "=") w then two_terms names p >>= (λ t. Ok (con_of true t.0, t.1))
    else (if is_word (codes "not") w then list_due p >>= (λ g. equation names g.0 >>= (λ t. end_due g.1 >>= (λ _. Ok (con_of false t.0, t.1))))
    else Err (Departs 8 at))

-- What stands behind the parenthesis at a place, by the word at its front: the words so far, the place, the word's place, the word, what is behind it.
abbrev pub Headed : Type 0 → Type 0
Headed X = Names → ℕ → ℕ → Word → Placed → Result (X × Names) Stop

-- one of these in its parentheses
abbrev pub one_of : {X : Type 0} → Headed X → Names → ℕ → Placed → Result (X × Names) Stop
one_of headed names place p = word_due p >>= (λ v. headed names place v.0 v.1 v.2)

-- any number of these, each in its parentheses, up to the end of the list
abbrev pub all_of : {X : Type 0} → Headed X → Names → Placed → Result (List X × Names) Stop
all_of headed names cut = Err Ends
all_of headed names (close at) = Ok ([], names)
all_of headed names (word at w p) = Err (Departs 8 at)
all_of headed names (list at p q) = one_of headed names at p >>= (λ x. all_of headed x.1 q >>= (λ xs. Ok (x.0 ∷ xs.0, xs.1)))

-- What stands in the list that the parenthesis at a place opens: none of these, one without parentheses of its own, or `and` and any number.
unfoldable pub some_of : {X : Type 0} → Headed X → Names → ℕ → Placed → Result (List X × Names) Stop
some_of headed names place cut = Err Ends
some_of headed names place (close at) = Ok ([], names)
some_of headed names place (list at p q) = Err (Departs 8 at)
some_of headed names place (word at w p) =
    if is_word (codes "and") w then all_of headed names p
    else headed names place at w p >>= (λ x. Ok (x.0 ∷ [], x.1))
