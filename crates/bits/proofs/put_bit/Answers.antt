use Rattle.std.proofs.Common.{◌%◌, sym, ap, ◌∙◌, arith}
use Rattle.ledger.specs.Store.{put}
use Rattle.bits.specs.Bits.{bit}
use Rattle.bits.proofs.Words.{set_mask, clear_mask}
use Rattle.bits.proofs.put_bit.Goals as goal

pub returns-then-value : goal.returns-then-value
returns-then-value c =
    set_mask c.args.word (c.args.number % 64) (omega arith) ∙ ap (put (bit c.args.word) (c.args.number % 64)) (sym c.if-value.true)

pub returns-else-value : goal.returns-else-value
returns-else-value c =
    clear_mask c.args.word (c.args.number % 64) (omega arith) (omega arith) ∙ ap (put (bit c.args.word) (c.args.number % 64)) (sym c.if-value.false)
