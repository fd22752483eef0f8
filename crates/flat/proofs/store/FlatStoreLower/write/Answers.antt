use Rattle.std.proofs.Common.{◌≡◌, ◌+◌, ◌-◌, ◌<◌, List, ℕ, length, refl, ap, ◌∙◌, arith, rules}
use Rattle.memory.specs.Memory.{overlaid}
use Rattle.memory.proofs.Overlays.{overlaid_put}
use Rattle.flat.specs.Flat.{bytes_in}
use Rattle.flat.specs.Full.{extent_within}
use Rattle.flat.proofs.Laying.{written_within}
use Rattle.flat.proofs.store.FlatStoreLower.write.Goals as goal

pub slice_bounds-copy_from_slice-end : goal.slice_bounds-copy_from_slice-end
slice_bounds-copy_from_slice-end c =
    let self = c.args.self.now in
    let lf : c.args.file < self.sizes.files = search rules in
    let lb : c.args.block < self.sizes.width = search rules in
    omega (arith, extent_within self.bytes.now self.sizes.files self.sizes.width self.laid c.args.file c.args.block 1 lf (omega arith) (omega arith))

pub returns-clause-meaning : goal.returns-clause-meaning
returns-clause-meaning c =
    let self = c.args.self.now in
    let memory = self.bytes.now in
    let files = self.sizes.files in
    let width = self.sizes.width in
    let new = c.args.from.now in
    let file = c.args.file in
    let block = c.args.block in
    let at = c.start-at.result in
    let lf : file < files = search rules in
    let lb : block < width = search rules in
    let e = c.copy_from_slice.ensures.after in
    let n = ap length e in
    let full : length new ≡ 4096 = omega arith in
    let written =
    overlaid_put memory c.copy_from_slice.new.self at ((at + 4096) - at) (omega arith)
    ∙ ap (overlaid memory at) e
    ∙ ap (λ (k : ℕ). overlaid memory k new) c.start-at.ensures in
    record {
      answers = search rules;
      same_files = refl;
      same_width = refl;
      makes = ap (λ (m : List ℕ). bytes_in m files width) written ∙ written_within memory new files width file block self.laid lf lb full;
    }
