use Rattle.std.proofs.Common.{sym, ◌∙◌, arith}
use Rattle.std.proofs.lemmas.Bool.{lt-ltb, le-ltb, cond-true, cond-false}
use Rattle.block_set.proofs.Rows.{change_one}
use Rattle.block_set.proofs.BlockSet.put.Goals as goal

pub returns-then-number-lt-BOARD_BLOCKS : goal.returns-then-number-lt-BOARD_BLOCKS
returns-then-number-lt-BOARD_BLOCKS c =
    change_one c.args.self.now.words c.args.number c.put_bit.result c.args.value (omega arith) c.put_bit.ensures
    ∙ sym (cond-true _ _ _ (lt-ltb c.args.number 4096 (omega arith)))

pub returns-else-number-lt-BOARD_BLOCKS : goal.returns-else-number-lt-BOARD_BLOCKS
returns-else-number-lt-BOARD_BLOCKS c = sym (cond-false _ _ _ (le-ltb c.args.number 4096 (omega arith)))
