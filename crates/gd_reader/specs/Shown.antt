-- What stands at a token, among the nested lists of the text.
use Rattle.std.specs.Prelude.{◌≡◌, ℕ, ◌+◌, ◌<◌, ◌≤◌, ◌^◌, Some, List}
use Rattle.htn_base.specs.Words.{folded}
use Rattle.text_forms.specs.Closing.{close_at}
use Rattle.text_forms.specs.Placed.{Placed, cut, close, word, list, parts_at, IsWhole}
use Rattle.text_forms.specs.Tokens.{token_count}
use Rattle.gd_reader.specs.Added.{Says}
use Rattle.gd_reader.specs.declared.cursor.Item.{Item}
use Rattle.gd_reader.specs.declared.cursor.Item.TheVariants as items

-- token i opens a list, in which the token with the second number comes first; the token with the third stands behind it
pub record IsList (text : List ℕ) (i at inside behind : ℕ) : Type 0 where
  pub parts : parts_at text i ≡ list at (parts_at text inside) (parts_at text behind)
  pub whole : IsWhole (parts_at text inside)
  pub opens : i < inside
  pub order : inside ≤ behind
  pub within : behind ≤ token_count text
  pub closing : ℕ
  pub closed : close_at text i ≡ Some closing
  pub next : behind ≡ closing + 1

-- token i is a word
pub record IsWord (text : List ℕ) (i at : ℕ) (letters : List ℕ) : Type 0 where
  pub parts : parts_at text i ≡ word at letters (parts_at text (i + 1))
  pub within : i < token_count text
  pub few : token_count text < 2 ^ 32
  pub said : Says text letters

-- the same, at some place
abbrev pub IsListTo : List ℕ → ℕ → ℕ → ℕ → Type 0
IsListTo text i inside behind = (at : ℕ) × IsList text i at inside behind

abbrev pub EndsAt : List ℕ → ℕ → ℕ → Type 0
EndsAt text i behind = (inside : ℕ) × IsListTo text i inside behind

-- what stands at two tokens
abbrev pub parts_at_both : List ℕ → ℕ × ℕ → Placed × Placed
parts_at_both text x = (parts_at text x.0, parts_at text x.1)

-- two tokens that stand behind token i
abbrev pub AreLater : List ℕ → ℕ → ℕ × ℕ → Type 0
AreLater text i x = (i < x.0) × (x.0 ≤ token_count text) × (i < x.1) × (x.1 ≤ token_count text)

abbrev pub Shows : List ℕ → ℕ → Item → Type 0
Shows text i items.End = (parts_at text i ≡ cut) × (token_count text ≤ i)
Shows text i (items.Close at) = parts_at text i ≡ close at
Shows text i (items.Word at w) = IsWord text i at (folded w.now)
Shows text i (items.List at inside behind) = IsList text i at inside behind
