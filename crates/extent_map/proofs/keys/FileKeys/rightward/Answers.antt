use Rattle.std.proofs.Common.{sym, ◌∙◌, subst, arith}
use Rattle.extents.specs.Extents.{IsKey}
use Rattle.key_rule.proofs.Edges.{righting_next, right_hole, right_break}
use Rattle.key_rule.proofs.Looks.{held_key, held_is_key, held_small, held_within, key_long}
use Rattle.extent_map.proofs.keys.FileKeys.rightward.Goals as goal

pub returns-in_default-clause-found : goal.returns-in_default-clause-found
returns-in_default-clause-found g c =
    let e = c.loop-right.right in
    right_hole _ c.args.end c.args.board e.block e.board c.loop-right.invariant.4 (sym (held_is_key _ c.args.self.now.held c.args.self.now.file e.block) ∙ sym c.in_default.ensures)

pub returns-then-from-right-clause-found : goal.returns-then-from-right-clause-found
returns-then-from-right-clause-found g c =
    let e = c.loop-right.right in
    let n = c.in-Some.entry in
    right_break _ c.args.end c.args.board e.block e.board n.length n.board c.loop-right.invariant.4
    (held_key _ c.args.self.now.held c.args.self.now.file e.block n.length n.board (sym c.in-Some.ensures)) (rw c.from.ensures at c.if-from-right.true)

pub loop-right-smaller : goal.loop-right-smaller
loop-right-smaller g c =
    let e = c.loop-right.right in
    let n = c.in-Some.entry in
    let h = c.args.self.now.held in
    let f = c.args.self.now.file in
    let long = key_long _ e.block n.length n.board (held_key _ h f e.block n.length n.board (sym c.in-Some.ensures)) in
    let top = held_within _ h f e.block n.length n.board (sym c.in-Some.ensures) in
    omega (arith, c.from-in-loop-right.ensures)

pub loop-right-preserved : goal.loop-right-preserved
loop-right-preserved g c =
    let e = c.loop-right.right in
    let n = c.in-Some.entry in
    let h = c.args.self.now.held in
    let f = c.args.self.now.file in
    let i = c.loop-right.invariant in
    let top = held_within _ h f e.block n.length n.board (sym c.in-Some.ensures) in
    let low = held_small _ h f e.block n.length n.board (sym c.in-Some.ensures) in
    let same = rw c.from.ensures at c.if-from-right.false in
    rw (c.from-in-loop-right.ensures, c.from-in-loop-right-2.ensures) (
      omega arith,
      top,
      omega arith,
      omega arith,
      righting_next _ c.args.end c.args.board e.block e.board n.length i.4
          (subst (IsKey _ e.block n.length) same (held_key _ h f e.block n.length n.board (sym c.in-Some.ensures))),
    )
