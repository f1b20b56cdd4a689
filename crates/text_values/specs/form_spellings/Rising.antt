-- Offsets that rise, in lists of what was read, and the words of a section of types, no two of which share an offset.
-- Source: this project's; offsets are in bytes from 0.
use Rattle.std.specs.Prelude.{ℕ, ◌≡◌, ◌<◌, false, List, [], ◌∷◌, ◌++◌, AllPairs, Contains, Option, Some, None, map}
use Rattle.gd_reader.specs.declared.term.RawTerm.{RawTerm}
use Rattle.gd_reader.specs.declared.term.RawAtom.{RawAtom}
use Rattle.gd_reader.specs.declared.typed_lists.RawParam.{RawParam}
use Rattle.hddl_reader.specs.declared.networks.RawCon.{RawCon}
use Rattle.hddl_reader.specs.declared.networks.RawPair.{RawPair}
use Rattle.hddl_reader.specs.declared.networks.RawSub.{RawSub}
use Rattle.hddl_reader.specs.declared.sections.RawAction.{RawAction}
use Rattle.hddl_reader.specs.declared.sections.RawHead.{RawHead}
use Rattle.hddl_reader.specs.declared.sections.RawMethod.{RawMethod}

-- as those of words do in the order of the text
abbrev pub Rise : List ℕ → Type 0
Rise offsets = AllPairs (λ x y. x < y) offsets

abbrev pub term_offsets : List RawTerm → List ℕ
term_offsets ts = map (λ (t : RawTerm). t.at) ts

abbrev pub param_offsets : List RawParam → List ℕ
param_offsets xs = map (λ (x : RawParam). x.at) xs

abbrev pub head_offsets : List RawHead → List ℕ
head_offsets hs = map (λ (h : RawHead). h.name.at) hs

abbrev pub action_offsets : List RawAction → List ℕ
action_offsets as' = map (λ (a : RawAction). a.head.name.at) as'

abbrev pub method_offsets : List RawMethod → List ℕ
method_offsets ms = map (λ (m : RawMethod). m.head.name.at) ms

-- those of names of predicates
abbrev pub atom_offsets : List RawAtom → List ℕ
atom_offsets as' = map (λ (a : RawAtom). a.head.at) as'

-- those of opening parentheses
abbrev pub sub_offsets : List RawSub → List ℕ
sub_offsets ss = map (λ (s : RawSub). s.at) ss

abbrev pub pair_offsets : List RawPair → List ℕ
pair_offsets xs = map (λ (x : RawPair). x.at) xs

-- those of first terms
abbrev pub con_offsets : List RawCon → List ℕ
con_offsets cs = map (λ (c : RawCon). c.left.at) cs

abbrev pub id_at : Option RawTerm → List RawTerm
id_at None = []
id_at (Some t) = t ∷ []

-- the ids that subtasks have
abbrev pub ids : List RawSub → List RawTerm
ids [] = []
ids (s ∷ ss) = id_at s.id ++ ids ss

-- the name at the front of an atom, and its terms behind it
abbrev pub IsAtomInOrder : RawAtom → Type 0
IsAtomInOrder a = Rise (a.head.at ∷ term_offsets a.args)

-- an ordering opens before its first name
abbrev pub IsPairInOrder : RawPair → Type 0
IsPairInOrder x = Rise (x.at ∷ x.first.at ∷ x.then.at ∷ [])

abbrev pub IsConInOrder : RawCon → Type 0
IsConInOrder c = Rise (c.left.at ∷ c.right.at ∷ [])

abbrev pub own_word : RawParam → RawTerm
own_word x = record { name = x.name; variable = false; at = x.at }

-- a declared word, and the types that stand behind it
abbrev pub HasTypesBehind : RawParam → Type 0
HasTypesBehind x = Rise (x.at ∷ term_offsets x.ty)

-- each word of a section of types: types and their parents
abbrev pub mentioned : List RawParam → List RawTerm
mentioned [] = []
mentioned (x ∷ xs) = own_word x ∷ (x.ty ++ mentioned xs)

-- no two different words stand at one offset
abbrev pub HaveOneWordAPlace : List RawTerm → Type 0
HaveOneWordAPlace words = (v w : RawTerm) → Contains words v → Contains words w → v.at ≡ w.at → v.name.number ≡ w.name.number

-- tasks and actions share one space of names
abbrev pub callables : List RawHead → List RawAction → List RawHead
callables tasks actions = tasks ++ map (λ (a : RawAction). a.head) actions
