use Rattle.std.proofs.Common.{arith}
use Rattle.key_rule.proofs.Edges.{lowest_here, lowest_end, lowest_one}
use Rattle.extent_map.proofs.Covers.{mapped_under, unmapped_under, lowest_told}
use Rattle.extent_map.proofs.keys.FileKeys.lowest_mapped.Goals as goal

pub returns-then-is_some : goal.returns-then-is_some
returns-then-is_some g c =
    let e = c.key_over.ensures in
    let y = mapped_under _ c.args.self.now.held c.args.self.now.file c.args.first c.key_over.result c.if-is_some.ensures (e.sane, e.found) in
    lowest_here _ c.args.first c.args.n y.0 c.requires.0 y.1

pub returns-then-n-eq1 : goal.returns-then-n-eq1
returns-then-n-eq1 g c =
    let e = c.key_over.ensures in
    let hole = unmapped_under _ c.args.self.now.held c.args.self.now.file c.args.first c.key_over.result c.if-is_some.ensures (e.sane, e.found) in
    lowest_one _ c.args.self.now.held c.args.self.now.file c.args.first c.args.n hole (omega arith)

pub returns-in_err-row : goal.returns-in_err-row
returns-in_err-row g c =
    let e = c.key_over.ensures in
    let hole = unmapped_under _ c.args.self.now.held c.args.self.now.file c.args.first c.key_over.result c.if-is_some.ensures (e.sane, e.found) in
    rw c.from_residual.ensures (lowest_end _ c.args.self.now.held c.args.self.now.file c.args.first c.args.n hole c.in_err-row.ensures c.requires.1)

pub returns : goal.returns
returns g c =
    let e = c.key_over.ensures in
    let hole = unmapped_under _ c.args.self.now.held c.args.self.now.file c.args.first c.key_over.result c.if-is_some.ensures (e.sane, e.found) in
    rw (c.then_some.ensures, c.from-start.ensures) (lowest_told _ c.args.self.now.held c.args.self.now.file c.args.first c.args.n hole c.in_ok-row.row c.in_ok-row.ensures (omega arith))
