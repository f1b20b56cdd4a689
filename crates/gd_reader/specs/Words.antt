-- What a word is by its letters, and what it begins at the front of a list. Words are in lower case here.
-- Source: appendix A (grammar) of Fox and Long, "PDDL2.1", JAIR 20, 2003, level 1.
use Rattle.std.specs.Prelude.{ℕ, Bool, not, ◌&&◌, ◌||◌, ◌==◌, if◌then◌else◌, [], ◌∷◌, codes}
use Rattle.std.specs.Str.{bytes_eq}
use Rattle.htn_base.specs.Words.{is_reserved}
use Rattle.text_forms.specs.Words.{Word}
use Rattle.gd_reader.specs.declared.words.Sort.{Sort}
use Rattle.gd_reader.specs.declared.words.Sort.TheVariants.{Variable, Name, Other}
use Rattle.gd_reader.specs.declared.words.Head.{Head}
use Rattle.gd_reader.specs.declared.words.Head.TheVariants as head
use Rattle.gd_reader.specs.declared.words.EffectHead.{EffectHead}
use Rattle.gd_reader.specs.declared.words.EffectHead.TheVariants as effect

-- a word of one letter, and whether it is reserved
abbrev pub sort_of_one : ℕ → Bool → Sort
sort_of_one b reserved = if not (b == 63) && (not (b == 58) && not reserved) then Name else Other

-- the first of some letters, and whether the word is reserved
abbrev pub sort_of_more : ℕ → Bool → Sort
sort_of_more b reserved = if b == 63 then Variable else sort_of_one b reserved

abbrev pub sort_by : Word → Bool → Sort
sort_by [] reserved = Other
sort_by (b ∷ []) reserved = sort_of_one b reserved
sort_by (b ∷ c ∷ w) reserved = sort_of_more b reserved

-- a letter with which some reserved word begins
abbrev pub begins_reserved : ℕ → Bool
begins_reserved b = b == 45 || (b == 60 || (b == 61 || (b == 97 || (b == 101 || (b == 102 || (b == 105 || (b == 110 || (b == 111 || b == 119))))))))

-- a variable is a question mark and one or more letters; a name starts with neither ? nor : and isn't reserved
unfoldable pub sort_of : Word → Sort
sort_of w = sort_by w (is_reserved w)

abbrev pub plain_by : Sort → Head
plain_by Name = head.Plain
plain_by Variable = head.Wrong
plain_by Other = head.Wrong

-- what a word begins at the front of a formula
unfoldable pub head_of : Word → Head
head_of w =
    if bytes_eq w (codes "and") then head.And
    else (if bytes_eq w (codes "or") then head.Or
    else (if bytes_eq w (codes "not") then head.Not
    else (if bytes_eq w (codes "imply") then head.Imply
    else (if bytes_eq w (codes "forall") then head.Forall
    else (if bytes_eq w (codes "exists") then head.Exists
    else (if bytes_eq w (codes "=") then head.Equal
    else plain_by (sort_of w)))))))

abbrev pub plain_effect_by : Sort → EffectHead
plain_effect_by Name = effect.Plain
plain_effect_by Variable = effect.Wrong
plain_effect_by Other = effect.Wrong

-- what a word begins at the front of an effect
unfoldable pub effect_head_of : Word → EffectHead
effect_head_of w =
    if bytes_eq w (codes "and") then effect.And
    else (if bytes_eq w (codes "forall") then effect.Forall
    else (if bytes_eq w (codes "when") then effect.When
    else (if bytes_eq w (codes "not") then effect.Not
    else (if bytes_eq w (codes "increase") then effect.Increase
    else plain_effect_by (sort_of w)))))

abbrev pub is_hyphen : Word → Bool
is_hyphen w = bytes_eq w (codes "-")

abbrev pub is_either : Word → Bool
is_either w = bytes_eq w (codes "either")
