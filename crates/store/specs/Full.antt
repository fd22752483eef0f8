-- The blocks that a store shows.
use Rattle.std.specs.Prelude.{◌≡◌, ℕ, ◌<◌, List, length, Some, None, Option, refl}
use Rattle.ledger.specs.Sound.{Sound}
use Rattle.ledger.specs.Store.{Shape, State, bytes_at, shown}

-- every block that is shown has 4,096 bytes
pub shown_full : {sh : Shape} {s : State} → Sound sh s → ((i : ℕ) → i < sh.size → length (s.board i) ≡ 4096)
    → ((f b : ℕ) → f < sh.files → b < sh.width → length (s.lower f b) ≡ 4096) → (f b : ℕ) → f < sh.files → b < sh.width → length (shown s f b) ≡ 4096
shown_full {sh = sh} {s = s} v boards lowers f b lf lb = go (s.place f b) refl
  where
    go : (o : Option ℕ) → s.place f b ≡ o → length (bytes_at s.board (s.lower f b) o) ≡ 4096
    go (Some p) e = boards p (v.within f b p e).2
    go None e = lowers f b lf lb
