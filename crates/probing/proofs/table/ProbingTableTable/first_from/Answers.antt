use Rattle.std.proofs.Common.{◌≡◌, ℕ, vec_items, vec_len, subst, arith}
use Rattle.probing.specs.Slots.{Best}
use Rattle.probing.specs.Probing.{home_in}
use Rattle.probing.proofs.TableLaws.{best_lowest}
use Rattle.probing.proofs.table.ProbingTableTable.first_from.Goals as goal

pub returns : goal.returns
returns g c =
    let t = c.args.self.now in
    let xs = vec_items t.slots.slots in
    let len : vec_len t.slots.slots ≡ t.room = omega (arith, t.sound.long) in
    best_lowest (home_in t) t.room xs t.held c.args.file c.args.block c.lowest.result t.sound
    (subst (λ (n : ℕ). Best xs c.args.file c.args.block n c.lowest.result) len c.lowest.ensures)
