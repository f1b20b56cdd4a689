-- What the files tell of inputs is one text for each name, so what is got of them agrees as far as both lists go; and the first text that is
-- too large is one.
use Rattle.std.proofs.Common.{ℕ, ◌≡◌, Bool, List, [], ◌∷◌, length, Option, Some, None, IfSome, refl, sym, ap, ◌∙◌, arith}
use Rattle.outside_io.specs.Folder.{Folder, file_of}
use Rattle.outside_io.specs.Files.{FilesState}
use Rattle.command_words.specs.Names.{Word}
use Rattle.htn_cli.specs.Inputs.{AreGot, AreWhole, EndTooLarge}
use Rattle.htn_cli.specs.OneAnswer.{AreTold}

one_read : (held : Option Folder) (folder : Folder) → held ≡ Some folder → (lenient : Bool) (name one other : List ℕ) → IfSome held (λ folder. file_of lenient folder name ≡ Some one)
    → IfSome held (λ folder. file_of lenient folder name ≡ Some other) → one ≡ other
one_read None folder told lenient name one other e f = absurd (cc)
one_read (Some held) folder told lenient name one other e f = cc

-- two lists agree as far as both go
abbrev pub Agree : List (List ℕ) → List (List ℕ) → Type 0
Agree [] others = Unit {0}
Agree (text ∷ texts) [] = Unit {0}
Agree (text ∷ texts) (other ∷ others) = (text ≡ other) × Agree texts others

pub agree : (files : FilesState) → AreTold files → (names : List Word) (texts others : List (List ℕ)) → AreGot files names texts → AreGot files names others → Agree texts others
agree files told names [] others got also = tt
agree files told names (text ∷ texts) [] got also = tt
agree files told [] (text ∷ texts) (other ∷ others) got also = absurd got
agree files told (name ∷ names) (text ∷ texts) (other ∷ others) got also =
    (one_read files.held told.0 told.1 files.lenient name text other got.0 also.0, agree files told names texts others got.1 also.1)

-- all texts are one list
pub whole_same : (names : List Word) (texts others : List (List ℕ)) → AreWhole names texts → AreWhole names others → Agree texts others → texts ≡ others
whole_same [] [] [] whole also e = refl
whole_same [] [] (other ∷ others) whole also e = absurd also
whole_same [] (text ∷ texts) others whole also e = absurd whole
whole_same (name ∷ names) [] others whole also e = absurd whole
whole_same (name ∷ names) (text ∷ texts) [] whole also e = absurd also
whole_same (name ∷ names) (text ∷ texts) (other ∷ others) whole also e = let rest = whole_same names texts others whole.1 also.1 e.1 in λ i. e.0 i ∷ rest i

-- a text that is too large is none of them
pub large_not_whole : (names : List Word) (texts others : List (List ℕ)) (word : Word) → EndTooLarge names texts word → AreWhole names others → Agree texts others → ⊥
large_not_whole [] texts others word large whole e = large
large_not_whole (name ∷ names) [] others word large whole e = large
large_not_whole (name ∷ names) (text ∷ texts) [] word large whole e = whole
large_not_whole (name ∷ names) (text ∷ []) (other ∷ others) word large whole e = let same = ap length e.0 in let past = large.1 in let short = whole.0 in omega (arith, same, past, short)
large_not_whole (name ∷ names) (text ∷ more ∷ texts) (other ∷ others) word large whole e = large_not_whole names (more ∷ texts) others word large.1 whole.1 e.1

-- and has one name
pub one_large : (names : List Word) (texts others : List (List ℕ)) (word also : Word) → EndTooLarge names texts word → EndTooLarge names others also → Agree texts others → word ≡ also
one_large [] texts others word also large past e = absurd large
one_large (name ∷ names) [] others word also large past e = absurd large
one_large (name ∷ names) (text ∷ texts) [] word also large past e = absurd past
one_large (name ∷ names) (text ∷ []) (other ∷ []) word also large past e = large.0 ∙ sym past.0
one_large (name ∷ names) (text ∷ []) (other ∷ more ∷ others) word also large past e =
    let same = ap length e.0 in let long = large.1 in let short = past.0 in absurd (omega (arith, same, long, short))
one_large (name ∷ names) (text ∷ more ∷ texts) (other ∷ []) word also large past e =
    let same = ap length e.0 in let long = past.1 in let short = large.0 in absurd (omega (arith, same, long, short))
one_large (name ∷ names) (text ∷ more ∷ texts) (other ∷ again ∷ others) word also large past e = one_large names (more ∷ texts) (again ∷ others) word also large.1 past.1 e.1
