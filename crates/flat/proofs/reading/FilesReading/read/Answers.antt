use Rattle.std.proofs.Common.{◌≡◌, ℕ, ◌<◌, List, length, sym, ap, ◌∙◌, arith, rules}
use Rattle.memory.specs.Memory.{block_at}
use Rattle.memory.proofs.Overlays.{block_cut}
use Rattle.flat.specs.Flat.{index_of}
use Rattle.flat.specs.Full.{extent_within, bytes_is}
use Rattle.flat.proofs.reading.FilesReading.read.Goals as goal

pub slice_bounds-copy_from_slice-end : goal.slice_bounds-copy_from_slice-end
slice_bounds-copy_from_slice-end g c =
    let self = c.args.self.now in
    let memory = g.B.AsSlice.items self.bytes in
    let lf : c.args.file < self.sizes.files = search rules in
    let lb : c.args.block < self.sizes.width = search rules in
    let lent : c.as_slice.result.now ≡ memory = c.as_slice.ensures in
    omega (arith, ap length lent, extent_within memory self.sizes.files self.sizes.width self.laid c.args.file c.args.block 1 lf (omega arith) (omega arith))

pub returns-clause-meaning : goal.returns-clause-meaning
returns-clause-meaning g c =
    let self = c.args.self.now in
    let memory = g.B.AsSlice.items self.bytes in
    let files = self.sizes.files in
    let width = self.sizes.width in
    let file = c.args.file in
    let block = c.args.block in
    let lf : file < files = search rules in
    let lb : block < width = search rules in
    let lent : c.as_slice.result.now ≡ memory = c.as_slice.ensures in
    let at = index_of width file block in
    record {
      answers = search rules;
      copies = c.copy_from_slice.ensures.after
          ∙ block_cut c.as_slice.result.now at c.start-at.result c.start-at.ensures
          ∙ ap (λ (m : List ℕ). block_at m at) lent
          ∙ sym (bytes_is memory files width file block lf lb);
      leaves = search rules;
    }
