use Rattle.std.proofs.Common.{Bool, ◌++◌, Contains, List, ℕ, ◌≤◌, length, ap, sym, subst, ◌∙◌, arith}
use Rattle.std.specs.Borrow.{Bor}
use Rattle.std.proofs.lemmas.List.{length-map}
use Rattle.plan_model.specs.declared.terms.Param.{Param}
use Rattle.stack_encoding.specs.StackSpelling.{cells_of}
use Rattle.ground_state.specs.Frames.{frame}
use Rattle.ground_state.specs.Runs.{texts, words_step}
use Rattle.step_reader.proofs.PartLaws.{room_for, are_of}
use Rattle.step_reader.proofs.StackReadLaws.{too_few, cut_texts, row_room, no_cells, no_objects, are_due, apart, has_cells}
use Rattle.step_reader.proofs.StackParts.{arguments_of, step_is}
use Rattle.step_reader.proofs.CellWords.{each_within}
use Rattle.step_reader.specs.Cells.{children_at, AreTheCells}
use Rattle.problem_index.specs.Printed.{in_print}
use Rattle.step_reader.proofs.ReadLaws.{unnamed, is_named}
use Rattle.step_reader.proofs.stacks.read_at_cells.Goals as goal

pub returns-in_default-clause-read : goal.returns-in_default-clause-read
returns-in_default-clause-read c =
    unnamed c.args.c.now c.requires.readable.lawful (words_step c.args.name.now c.args.args.now) c.in_default.ensures

pub returns-then-args-due-clause-read : goal.returns-then-args-due-clause-read
returns-then-args-due-clause-read c =
    let less = c.if-args-due.true in
    let due = c.due_cells-due.ensures in
    let n = c.children_at-children.ensures in
    let size = length-map c.args.args.now (λ (w : Bor (List ℕ)). w.now) in
    let many = due ∙ ap (λ k. length (cells_of 0 k)) n in (
      is_named c.args.c.now (words_step c.args.name.now c.args.args.now) c.in-Some.found c.in-Some.ensures.0 c.in-Some.ensures.1,
      too_few c.args.c.now c.requires.readable c.requires.checks c.args.cells c.in-Some.found (words_step c.args.name.now c.args.args.now) c.in-Some.ensures.0 c.in-Some.ensures.1 (omega (less, many, size, arith)),
    )

pub returns-then-not-branch-clause-read : goal.returns-then-not-branch-clause-read
returns-then-not-branch-clause-read c =
    let p = c.args.c.now in
    let is = c.requires.readable in
    let b = c.args.cells in
    let step = words_step c.args.name.now c.args.args.now in
    let there = c.in-Some.ensures.0 in
    let word = c.in-Some.ensures.1 in
    let n = c.children_at-children.ensures in
    let front = texts c.split_at.result.0.now in
    let back = texts c.split_at.result.1.now in
    let cut = cut_texts c.due_cells-due.result c.args.args.now ∙ (λ i. texts (sym c.split_at.ensures.front i) ++ texts (sym c.split_at.ensures.back i)) in
    let long = length-map c.split_at.result.0.now (λ (w : Bor (List ℕ)). w.now) ∙ c.split_at.ensures.front_len ∙ c.due_cells-due.ensures ∙ ap (λ k. length (cells_of 0 k)) n in
    let none = subst (λ (t : Bool). AreTheCells b front t c.fill_cells.new.into.items) c.if-not-branch.true c.in_ok-fill_cells.ensures in
    (is_named p step c.in-Some.found there word, no_cells p is c.requires.checks b c.in-Some.found step there word front back cut long none)

pub returns-then-not-fill-clause-read : goal.returns-then-not-fill-clause-read
returns-then-not-fill-clause-read c =
    let p = c.args.c.now in
    let is = c.requires.readable in
    let b = c.args.cells in
    let step = words_step c.args.name.now c.args.args.now in
    let there = c.in-Some.ensures.0 in
    let word = c.in-Some.ensures.1 in
    let n = c.children_at-children.ensures in
    let front = texts c.split_at.result.0.now in
    let back = texts c.split_at.result.1.now in
    let cut = cut_texts c.due_cells-due.result c.args.args.now ∙ (λ i. texts (sym c.split_at.ensures.front i) ++ texts (sym c.split_at.ensures.back i)) in
    let long = length-map c.split_at.result.0.now (λ (w : Bor (List ℕ)). w.now) ∙ c.split_at.ensures.front_len ∙ c.due_cells-due.ensures ∙ ap (λ k. length (cells_of 0 k)) n in
    let are = are_of p is c.args.printed.now c.args.world.now c.requires.own c.index.result.now c.index.ensures in (
      is_named p step c.in-Some.found there word,
      no_objects p is c.requires.checks b c.in-Some.found step there word front back cut long c.params_of.result.now c.params_of.ensures (c.if-not-fill.ensures.filled (in_print p.hddl) are),
    )

pub returns-in_default-own_cell-clause-read : goal.returns-in_default-own_cell-clause-read
returns-in_default-own_cell-clause-read c =
    let p = c.args.c.now in
    let is = c.requires.readable in
    let b = c.args.cells in
    let step = words_step c.args.name.now c.args.args.now in
    let there = c.in-Some.ensures.0 in
    let word = c.in-Some.ensures.1 in
    let n = c.children_at-children.ensures in
    let front = texts c.split_at.result.0.now in
    let back = texts c.split_at.result.1.now in
    let cut = cut_texts c.due_cells-due.result c.args.args.now ∙ (λ i. texts (sym c.split_at.ensures.front i) ++ texts (sym c.split_at.ensures.back i)) in
    let long = length-map c.split_at.result.0.now (λ (w : Bor (List ℕ)). w.now) ∙ c.split_at.ensures.front_len ∙ c.due_cells-due.ensures ∙ ap (λ k. length (cells_of 0 k)) n in
    let words = subst (λ (t : Bool). AreTheCells b front t c.fill_cells.new.into.items) c.if-not-branch.false c.in_ok-fill_cells.ensures in
    let are = are_of p is c.args.printed.now c.args.world.now c.requires.own c.index.result.now c.index.ensures in
    let due = are_due p is c.requires.checks b c.in-Some.found step there word front back cut long c.params_of.result.now c.params_of.ensures c.fill_cells.new.into.items c.fill.new.env.values.items words (c.if-not-fill.ensures.filled (in_print p.hddl) are) in (
      arguments_of p is c.requires.checks b c.in-Some.found step there word c.fill_cells.new.into.items c.fill.new.env.values.items due,
      apart p is c.requires.checks b c.in-Some.found step there word c.ranges.cells.fits c.fill_cells.new.into.items c.fill.new.env.values.items due
          (λ h l e. c.in_default-own_cell.ensures h l (c.as_slice.ensures.value ∙ e ∙ ap (cells_of h) (sym n))),
    )

pub fill_new-requires-clause-room : goal.fill_new-requires-clause-room
fill_new-requires-clause-room c =
    let p = c.args.c.now in
    let is = c.requires.readable in
    let b = c.args.cells in
    let step = words_step c.args.name.now c.args.args.now in
    let there = c.in-Some.ensures.0 in
    let word = c.in-Some.ensures.1 in
    let n = c.children_at-children.ensures in
    let front = texts c.split_at.result.0.now in
    let back = texts c.split_at.result.1.now in
    let cut = cut_texts c.due_cells-due.result c.args.args.now ∙ (λ i. texts (sym c.split_at.ensures.front i) ++ texts (sym c.split_at.ensures.back i)) in
    let long = length-map c.split_at.result.0.now (λ (w : Bor (List ℕ)). w.now) ∙ c.split_at.ensures.front_len ∙ c.due_cells-due.ensures ∙ ap (λ k. length (cells_of 0 k)) n in
    let words = subst (λ (t : Bool). AreTheCells b front t c.fill_cells.new.into.items) c.if-not-branch.false c.in_ok-fill_cells.ensures in
    let are = are_of p is c.args.printed.now c.args.world.now c.requires.own c.index.result.now c.index.ensures in
    let row = sym c.as_slice.ensures.value ∙ c.in-Some-own_cell.ensures.1 ∙ ap (cells_of c.in-Some-own_cell.cell) n in
    let within = each_within b front c.fill_cells.new.into.items words in
    let room = row_room b c.in-Some-own_cell.cell (children_at p c.in-Some.found) (λ x k. within x (subst (λ z. Contains z x) (sym row) k)) in
    let fits = c.ranges.cells.fits in
    omega (room, fits, arith)

pub returns-clause-read : goal.returns-clause-read
returns-clause-read c =
    let p = c.args.c.now in
    let is = c.requires.readable in
    let b = c.args.cells in
    let step = words_step c.args.name.now c.args.args.now in
    let there = c.in-Some.ensures.0 in
    let word = c.in-Some.ensures.1 in
    let n = c.children_at-children.ensures in
    let front = texts c.split_at.result.0.now in
    let back = texts c.split_at.result.1.now in
    let cut = cut_texts c.due_cells-due.result c.args.args.now ∙ (λ i. texts (sym c.split_at.ensures.front i) ++ texts (sym c.split_at.ensures.back i)) in
    let long = length-map c.split_at.result.0.now (λ (w : Bor (List ℕ)). w.now) ∙ c.split_at.ensures.front_len ∙ c.due_cells-due.ensures ∙ ap (λ k. length (cells_of 0 k)) n in
    let words = subst (λ (t : Bool). AreTheCells b front t c.fill_cells.new.into.items) c.if-not-branch.false c.in_ok-fill_cells.ensures in
    let are = are_of p is c.args.printed.now c.args.world.now c.requires.own c.index.result.now c.index.ensures in
    let due = are_due p is c.requires.checks b c.in-Some.found step there word front back cut long c.params_of.result.now c.params_of.ensures c.fill_cells.new.into.items c.fill.new.env.values.items words (c.if-not-fill.ensures.filled (in_print p.hddl) are) in
    let row = sym c.as_slice.ensures.value ∙ c.in-Some-own_cell.ensures.1 ∙ ap (cells_of c.in-Some-own_cell.cell) n in
    let new = c.fill_new.new.new.items in
    step_is p is c.requires.checks b c.in-Some.found step there word c.fill_cells.new.into.items c.fill.new.env.values.items new c.in-Some-own_cell.cell due c.in-Some-own_cell.ensures.0 row
    (has_cells p c.requires.lines c.in-Some.found c.in-Some-own_cell.cell new c.fill.new.env.values.items there c.in_ok-fill_new.ensures)

pub fill-requires-clause-room : goal.fill-requires-clause-room
fill-requires-clause-room c =
    let env = frame c.args.env.now in
    let enough = room_for c.args.c.now env c.requires.room c.in-Some.found c.in-Some.ensures.0 in
    subst (λ (ps : List Param). length ps ≤ env.room) (sym c.params_of.ensures) enough
