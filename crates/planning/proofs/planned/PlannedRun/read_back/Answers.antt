use Rattle.std.proofs.Common.{◌+◌, vec_items, sym, ap, ◌∙◌, subst}
use Rattle.std.specs.Int.{from_bool}
use Rattle.blocks.specs.Blocks.{one}
use Rattle.extents.specs.Runs.{table_of}
use Rattle.planning.specs.Plans.{is_at}
use Rattle.planning.proofs.Counts.{Back, back_start, back_next, right_more}
use Rattle.planning.proofs.planned.PlannedRun.read_back.Goals as goal

pub loop-i-init : goal.loop-i-init
loop-i-init c = back_start (table_of (vec_items c.args.self.now.keys)) c.args.self.now.run.first c.args.self.now.run.board

pub loop-i-preserved : goal.loop-i-preserved
loop-i-preserved c =
    let found = c.look_up-found.ensures in
    subst (Back (table_of (vec_items c.args.self.now.keys)) c.args.self.now.run.first c.args.self.now.run.board (c.loop-i.i + 1) (c.loop-i.right + c.from-right.result))
    (sym c.max-tried.ensures)
    (back_next (table_of (vec_items c.args.self.now.keys)) c.args.self.now.run.first c.args.self.now.run.board c.loop-i.i c.loop-i.right c.loop-i.tried
    c.from-right.result c.look_up-found.result.tried c.loop-i.invariant
    (c.from-right.ensures ∙ ap from_bool c.eq.ensures ∙ right_more c.look_up-found.result.board (c.args.self.now.run.board + c.loop-i.i) ∙ ap (λ f. one (is_at f.board (c.args.self.now.run.board + c.loop-i.i))) found)
    (ap (λ f. f.tried) found))
