use Rattle.std.proofs.Common.{ap, ◌∙◌}
use Rattle.extents.specs.Extents.{says, lookup}
use Rattle.look_ups.proofs.look_up.Goals as goal

pub returns : goal.returns
unfolding lookup
returns g c =
    let h = c.first_held-held.ensures in
    λ j. record { board = (c.board_by.ensures ∙ ap (λ k. says k.key c.args.block) h) j; tried = (h j).tried }
