-- The lengths of the two texts with many slots, from those with few.
use Rattle.std.proofs.Common.{ℕ, ◌≡◌, ◌^◌, ◌<◌, sym, subst}
use Rattle.text_forms.specs.sheets.Sheets.{capped}
use Rattle.plan_model.specs.declared.options.Slots.{Slots}
use Rattle.plan_model.specs.declared.options.Slots.TheVariants.{Any}
use Rattle.plan_model.specs.declared.options.Style.{Style}
use Rattle.plan_model.specs.declared.values.Compiled.{Compiled}
use Rattle.slot_encoding.specs.encoded_texts.Growth.{AreOnLine}
use Rattle.slot_encoding.proofs.encoded_texts.growth.FewSlots.{from-few}
use Rattle.problem_texts.specs.FewSlots.{AreCapped, GrowsEvenly}
use Rattle.problem_texts.specs.Lengths.{AreSizesOf}
use Rattle.problem_texts.specs.declared.printing.Sizes.{Sizes}

-- what the lengths with few slots tell
abbrev Tells : ℕ → ℕ → ℕ → ℕ → ℕ → Type 0
Tells slots a b t n = (one two ten all : ℕ) → AreOnLine slots one two ten all → AreCapped one two ten (record { one = a; two = b; ten = t }) → 10 < slots → n ≡ capped all

sizes-are : (c : Compiled) (slots : ℕ) (style : Style) → GrowsEvenly Any c slots → slots < 2 ^ 32 → (one two ten : Sizes) (domain problem : ℕ)
    → AreSizesOf Any c 1 style one → AreSizesOf Any c 2 style two → AreSizesOf Any c 10 style ten
    → Tells slots one.domain two.domain ten.domain domain → Tells slots one.problem two.problem ten.problem problem
    → AreSizesOf Any c slots style (record { domain = domain; problem = problem })
sizes-are c slots style even small one two ten domain problem f g h tell tells p is has =
    let few = from-few c slots style p (record { encoded = is; words = has }) even.declared even.many small in
    let a = f few.one few.one_encoded.encoded few.one_encoded.words in
    let b = g few.two few.two_encoded.encoded few.two_encoded.words in
    let d = h few.ten few.ten_encoded.encoded few.ten_encoded.words in
    (tell _ _ _ _ few.domains (record { one_is = a.0; two_is = b.0; ten_is = d.0 }) even.many, tells _ _ _ _ few.problems (record { one_is = a.1; two_is = b.1; ten_is = d.1 }) even.many)

-- the same by a rule that takes any free slots
pub sizes-by : (rule : Slots) (c : Compiled) (slots : ℕ) (style : Style) → GrowsEvenly rule c slots → slots < 2 ^ 32 → (one two ten : Sizes) (domain problem : ℕ)
    → AreSizesOf rule c 1 style one → AreSizesOf rule c 2 style two → AreSizesOf rule c 10 style ten
    → Tells slots one.domain two.domain ten.domain domain → Tells slots one.problem two.problem ten.problem problem
    → AreSizesOf rule c slots style (record { domain = domain; problem = problem })
sizes-by rule c slots style even small one two ten domain problem =
    subst (λ r. AreSizesOf r c 1 style one → AreSizesOf r c 2 style two → AreSizesOf r c 10 style ten
    → Tells slots one.domain two.domain ten.domain domain → Tells slots one.problem two.problem ten.problem problem → AreSizesOf r c slots style (record { domain = domain; problem = problem })) (sym even.any)
    (sizes-are c slots style (subst (λ r. GrowsEvenly r c slots) even.any even) small one two ten domain problem)
