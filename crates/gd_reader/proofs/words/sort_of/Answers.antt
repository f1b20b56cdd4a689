use Rattle.std.proofs.Common.{◌≡◌, ◌==◌, true, false, sym, ap, ◌∙◌, get_or, arith}
use Rattle.std.specs.Char.{to_ascii_lowercase}
use Rattle.gd_reader.specs.Words.{begins_reserved}
use Rattle.gd_reader.proofs.Sorts.{sort_variable, sort_mark, sort_colon, sort_reserved, sort_name, kept_by_first}
use Rattle.gd_reader.proofs.words.sort_of.Goals as goal
use Rattle.gd_reader.proofs.words.sort_of.Goals.{then-b-eq58, else-b-eq58+then-begins_reserved, else-b-eq58+else-begins_reserved}

pub returns-then-w-gt1 : goal.returns-then-w-gt1
returns-then-w-gt1 c =
    let long = c.if-w-gt1.true in
    record { sort = sym (sort_variable c.args.w.now c.to_ascii_lowercase-b.result (omega (arith, long)) c.to_ascii_lowercase-b.ensures.value c.if-b-eq63.true) }

pub returns-else-w-gt1 : goal.returns-else-w-gt1
returns-else-w-gt1 c =
    record { sort = sym (sort_mark c.args.w.now c.to_ascii_lowercase-b.result c.in-len1-up.len_at_least c.if-w-gt1.false c.to_ascii_lowercase-b.ensures.value c.if-b-eq63.true) }

pub returns-then-is_reserved_in_any_case : goal.returns-then-is_reserved_in_any_case
returns-then-is_reserved_in_any_case c =
    let w = c.args.w.now in
    let b = c.to_ascii_lowercase-b.result in
    let long = c.in-len1-up.len_at_least in
    let is = c.to_ascii_lowercase-b.ensures.value in
    record {
      sort = elim c.if-b-eq58.branch [
        | then-b-eq58 d ↦ sym (sort_colon w b long is c.if-b-eq63.false d.if-b-eq58.true)
        | else-b-eq58+then-begins_reserved d ↦
            sym (sort_reserved w b long is c.if-b-eq63.false (sym d.is_reserved_in_any_case.ensures.reserved ∙ sym d.value-is ∙ c.if-is_reserved_in_any_case.true))
        | else-b-eq58+else-begins_reserved d ↦ let no = sym d.value-is ∙ c.if-is_reserved_in_any_case.true in let none = d.if-begins_reserved.false in cc
      ];
    }

pub returns-else-is_reserved_in_any_case : goal.returns-else-is_reserved_in_any_case
returns-else-is_reserved_in_any_case c =
    let w = c.args.w.now in
    let b = c.to_ascii_lowercase-b.result in
    let long = c.in-len1-up.len_at_least in
    let is = c.to_ascii_lowercase-b.ensures.value in
    record {
      sort = elim c.if-b-eq58.branch [
        | then-b-eq58 d ↦ let no : true ≡ false = sym (ap (λ b. b == 58) d.if-b-eq58.true) ∙ sym d.value-is ∙ c.if-is_reserved_in_any_case.false in cc
        | else-b-eq58+then-begins_reserved d ↦
            sym (sort_name w b long is c.if-b-eq63.false d.if-b-eq58.false (sym d.is_reserved_in_any_case.ensures.reserved ∙ sym d.value-is ∙ c.if-is_reserved_in_any_case.false))
        | else-b-eq58+else-begins_reserved d ↦
            let none : begins_reserved (to_ascii_lowercase (get_or w 0 0)) ≡ false = sym (ap begins_reserved is) ∙ sym d.begins_reserved.ensures ∙ d.if-begins_reserved.false in
            sym (sort_name w b long is c.if-b-eq63.false d.if-b-eq58.false (kept_by_first w long none))
      ];
    }
