use Rattle.std.proofs.Common.{◌+◌, ◌-◌, length, refl, ap, ◌∙◌, arith}
use Rattle.memory.specs.Memory.{overlaid}
use Rattle.memory.proofs.Overlays.{overlaid_put}
use Rattle.console.proofs.printing.put.Goals as goal

pub returns : goal.returns
returns c =
    let at = c.args.at in
    let text = c.args.text.now in
    let e = c.copy_from_slice.ensures.after in
    let n = ap length e in
    record {
      end = refl;
      after = overlaid_put c.args.buffer.now c.copy_from_slice.new.self at ((at + length text) - at) (omega arith) ∙ ap (overlaid c.args.buffer.now at) e;
    }
