use Rattle.std.proofs.Common.{◌≡◌, ℕ, ◌+◌, ◌≤◌, None, sym, ap, ◌∙◌, arith}
use Rattle.blocks.specs.Blocks.{inside, changed}
use Rattle.tables.proofs.Lowest.{lowest_when_none}
use Rattle.block_map.specs.Extending.{drop_next, drop_all}
use Rattle.block_map.proofs.keys.drop_file.Goals as goal

pub returns-in_default-checked_add-clause-after : goal.returns-in_default-checked_add-clause-after
returns-in_default-checked_add-clause-after g c =
    let h0 = g.T.Table.holding c.args.table.now in
    let block = c.in-Some.row.block in
    let d = drop_next h0 (g.T.Table.holding c.loop-row.table) (g.T.Table.holding c.remove.new.self) c.args.file c.loop-row.from
    c.in-Some.row (omega arith) c.loop-row.invariant.after c.in-Some.ensures c.remove.ensures.after in
    let last : 65536 ≤ block + 1 = omega (arith, c.in_default-checked_add.ensures) in
    drop_all h0 (g.T.Table.holding c.remove.new.self) c.args.file (block + 1) (g.met.T.Table.numbered c.args.table.now) d.1
    (λ b l m. absurd (omega arith))

pub loop-row-smaller : goal.loop-row-smaller
loop-row-smaller g c =
    let d = drop_next (g.T.Table.holding c.args.table.now) (g.T.Table.holding c.loop-row.table) (g.T.Table.holding c.remove.new.self)
    c.args.file c.loop-row.from c.in-Some.row (omega arith) c.loop-row.invariant.after c.in-Some.ensures c.remove.ensures.after in
    omega (arith, d.0, c.in-Some-checked_add.ensures)

pub loop-row-preserved : goal.loop-row-preserved
loop-row-preserved g c =
    let h0 = g.T.Table.holding c.args.table.now in
    let next : c.in-Some.row.block + 1 ≡ c.in-Some-checked_add.next = omega (arith, c.in-Some-checked_add.ensures) in
    let d = drop_next h0 (g.T.Table.holding c.loop-row.table) (g.T.Table.holding c.remove.new.self) c.args.file c.loop-row.from
    c.in-Some.row (omega arith) c.loop-row.invariant.after c.in-Some.ensures c.remove.ensures.after in
    record {
      from = omega (arith, c.in-Some-checked_add.ensures);
      room = c.remove.ensures.room ∙ c.loop-row.invariant.room;
      after = d.1 ∙ ap (λ (x : ℕ). changed h0 c.args.file (inside 0 x) (λ _. None)) next;
    }

pub returns-clause-after : goal.returns-clause-after
returns-clause-after g c =
    drop_all (g.T.Table.holding c.args.table.now) (g.T.Table.holding c.loop-row.table) c.args.file c.loop-row.from
    (g.met.T.Table.numbered c.args.table.now) c.loop-row.invariant.after
    (lowest_when_none (g.T.Table.holding c.loop-row.table) c.args.file c.loop-row.from (sym c.in_default.ensures))
