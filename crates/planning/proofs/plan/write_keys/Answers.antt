use Rattle.std.proofs.Common.{string_bytes}
use Rattle.planning.proofs.Texts.{keys_next, keys_done}
use Rattle.planning.proofs.plan.write_keys.Goals as goal

pub loop-key-preserved : goal.loop-key-preserved
loop-key-preserved c =
    keys_next c.args.keys.now c.loop-key.key-index (record { start = 0; length = 0; board = 0 }) (string_bytes c.loop-key.text) (string_bytes c.writeln.new.self) _
    c.loop-key-test.true c.in_ok-writeln.ensures.bytes c.loop-key.invariant

pub returns : goal.returns
returns c = keys_done c.args.keys.now c.loop-key.key-index (string_bytes c.loop-key.text) _ c.loop-key-test.false c.loop-key.invariant
