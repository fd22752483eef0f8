use Rattle.std.proofs.Common.{◌≡◌, ◌++◌, drop, string_bytes}
use Rattle.planning.specs.Plans.{keys_text}
use Rattle.planning.proofs.plan.write_keys.Given as goal

-- the text so far and the lines of the keys to come are the whole
abbrev pub invariant-loop-key : goal.invariant-loop-key
invariant-loop-key l = string_bytes l.text ++ keys_text (drop l.key-index l.keys) ≡ string_bytes l.initial.text ++ keys_text l.keys
