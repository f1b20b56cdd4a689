use Rattle.std.proofs.Common.{ap, length, ◌∙◌}
use Rattle.plan_texts.specs.PrintedTexts.{domain_text, problem_text}
use Rattle.text_forms.specs.sheets.Sheets.{capped}
use Rattle.problem_texts.specs.Pages.{value_of}
use Rattle.problem_texts.proofs.lengths.lengths_of.Goals as goal

pub returns : goal.returns
returns c =
    let pages = c.in_ok-pages.pages in
    let same = c.in_ok-pages.ensures.value in (
      c.length_of.ensures (domain_text (value_of pages)) _ _ c.in_ok-domain.ensures ∙ ap (λ p. capped (length (domain_text p))) same,
      c.length_of-2.ensures (problem_text (value_of pages)) _ _ c.in_ok-problem.ensures ∙ ap (λ p. capped (length (problem_text p))) same,
    )
