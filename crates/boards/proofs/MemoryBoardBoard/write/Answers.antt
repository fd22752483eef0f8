use Rattle.std.proofs.Common.{◌+◌, ◌-◌, ◌*◌, ◌<◌, length, ap, ◌∙◌, arith, rules}
use Rattle.memory.specs.Memory.{overlaid}
use Rattle.memory.proofs.Overlays.{overlaid_put}
use Rattle.boards.specs.Boards.{size_in, block_in}
use Rattle.boards.proofs.InMemory.{granted, same_size_in, replaced_in}
use Rattle.boards.proofs.MemoryBoardBoard.write.Goals as goal

pub returns : goal.returns
returns c =
    let memory = c.args.self.now.bytes.now in
    let new = c.args.from.now in
    let number = c.args.number in
    let e = c.copy_from_slice.ensures.after in
    let n = ap length e in
    let brought = granted c.blocks-2.result number (length new) c.in_ok-admit.ensures in
    let within : number < size_in memory = omega (arith, c.blocks-2.ensures.answer) in
    let whole = brought.1 in
    let written =
    overlaid_put memory c.copy_from_slice.new.self (number * 4096) ((number * 4096 + 4096) - number * 4096) (omega arith)
    ∙ ap (overlaid memory (number * 4096)) e in
    record {
      meaning = record {
        answers = search rules;
        replaces = ap block_in written ∙ replaced_in memory new number within whole;
        same_size = ap size_in written ∙ same_size_in memory new number within whole;
      };
      memory = written;
      lender = search rules;
    }
