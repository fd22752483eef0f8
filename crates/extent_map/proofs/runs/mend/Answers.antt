use Rattle.std.proofs.Common.{sym, refl, ◌∙◌, arith}
use Rattle.std.proofs.lemmas.Bool.{leb-false}
use Rattle.key_rule.specs.Mends.{Cut}
use Rattle.key_rule.proofs.Mends.{refused, enough, laid_both}
use Rattle.extent_map.proofs.runs.mend.Goals as goal

pub returns-then-from-more-clause-after : goal.returns-then-from-more-clause-after
returns-then-from-more-clause-after g c = λ n w.
    let a = c.args.cut.before in
    let b = c.args.cut.behind in
    let q : Cut a.first a.end a.board b.first b.board b.end
    = record { before = a.order; between = c.args.cut.apart; behind = b.order; top = b.inside; low = a.fitting; high = b.fitting } in
    let o = refused _ c.requires.held n c.args.file a.first a.end a.board b.first b.board b.end q w
    c.key_count.result c.key_count-2.result c.count_keys-less.result c.held.result (g.T.Table.places c.args.table.now)
    c.key_count.ensures.count c.key_count-2.ensures.count c.count_keys-less.ensures c.held.ensures
    (omega (arith, c.if-from-more.true, c.from.ensures, c.from-2.ensures, c.from-3.ensures, c.room.ensures)) in
    (leb-false _ _ (sym o), refl, refl)

pub returns-clause-after : goal.returns-clause-after
returns-clause-after g c = λ n w.
    let a = c.args.cut.before in
    let b = c.args.cut.behind in
    let q : Cut a.first a.end a.board b.first b.board b.end
    = record { before = a.order; between = c.args.cut.apart; behind = b.order; top = b.inside; low = a.fitting; high = b.fitting } in
    let o = enough _ c.requires.held n c.args.file a.first a.end a.board b.first b.board b.end q w
    c.key_count.result c.key_count-2.result c.count_keys-less.result c.held.result (g.T.Table.places c.args.table.now)
    c.key_count.ensures.count c.key_count-2.ensures.count c.count_keys-less.ensures c.held.ensures
    (omega (arith, c.if-from-more.false, c.from.ensures, c.from-2.ensures, c.from-3.ensures, c.room.ensures)) in
    let e = c.drop_keys.ensures in
    let f = c.put_run.ensures in (
      o,
      laid_both _ c.requires.held n c.args.file a.first a.end a.board b.first b.board b.end q w _ _ _ _ _ _
          e.after f.after c.put_run-2.ensures.after e.room (f.room ∙ e.room) o,
    )
