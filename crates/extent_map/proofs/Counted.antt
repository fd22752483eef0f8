-- The counted look-up, by the table and by what is placed.
use Rattle.std.proofs.Common.{◌≡◌, ℕ, ap}
use Rattle.extents.specs.Extents.{KeyTable, lookup, tried}
use Rattle.tables.specs.Holding.{Holding}
use Rattle.maps.specs.Steps.{answer, ground_of_block}
use Rattle.key_rule.specs.Keyed.{Held, keyed, placing}
use Rattle.extent_map.specs.Calls.{counted_in, counted_answer}

pub counted_same : (h : Holding) → Held h → (file block : ℕ) → counted_in h file block ≡ counted_answer (placing h) file block
unfolding placing keyed
counted_same h v file block =
    ap (λ (t : KeyTable). answer file block (ground_of_block file block) (record { board = lookup (h file) block; tried = tried t block }))
    (ap (λ (u : Holding). u file) v.exact)
