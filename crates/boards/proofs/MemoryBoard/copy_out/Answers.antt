use Rattle.std.proofs.Common.{◌*◌, ◌<◌, sym, refl, ◌∙◌, rules}
use Rattle.memory.proofs.Overlays.{block_cut}
use Rattle.boards.specs.Boards.{size_in}
use Rattle.boards.specs.Full.{block_is}
use Rattle.boards.proofs.MemoryBoard.copy_out.Goals as goal

pub returns : goal.returns
returns c =
    let memory = c.args.self.now.bytes.now in
    let number = c.args.number in
    let within : number < size_in memory = search rules in
    record {
      answer = search rules;
      buffer = c.copy_from_slice.ensures.after ∙ (block_cut memory number (number * 4096) refl ∙ sym (block_is memory number within));
    }
