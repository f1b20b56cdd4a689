use Rattle.std.proofs.Common.{◌≢◌, ◌<◌, length, arith}
use Rattle.step_reader.proofs.NewCells.{as_many, has_room, few}
use Rattle.step_reader.proofs.stacks.fill_new.Goals as goal

pub fill_children-requires-clause-long : goal.fill_children-requires-clause-long
fill_children-requires-clause-long c =
    let n : c.len.result ≢ 0 = c.if-len-eq0.false in
    let l = c.len.ensures.length in
    let some : 0 < length c.in-Some.plan.now.schema.children = omega (n, l, arith) in
    as_many c.args.c.now c.args.name c.in-Method.method c.in-Some.plan.now c.in-Method.is c.in-Some.ensures.item some c.args.cell c.requires.some c.args.cells.now.items c.requires.row c.requires.room

pub fill_children-requires-clause-few : goal.fill_children-requires-clause-few
fill_children-requires-clause-few c =
    let n : c.len.result ≢ 0 = c.if-len-eq0.false in
    let l = c.len.ensures.length in
    let some : 0 < length c.in-Some.plan.now.schema.children = omega (n, l, arith) in
    few c.args.c.now c.args.name c.in-Method.method c.in-Some.plan.now c.in-Method.is c.in-Some.ensures.item some c.args.cell c.requires.some c.args.cells.now.items c.requires.row c.requires.room

pub fill_children-requires-clause-room : goal.fill_children-requires-clause-room
fill_children-requires-clause-room c =
    let n : c.len.result ≢ 0 = c.if-len-eq0.false in
    let l = c.len.ensures.length in
    let some : 0 < length c.in-Some.plan.now.schema.children = omega (n, l, arith) in
    has_room c.args.c.now c.args.name c.in-Method.method c.in-Some.plan.now c.in-Method.is c.in-Some.ensures.item some c.args.cell c.requires.some c.args.cells.now.items c.requires.row c.requires.room
