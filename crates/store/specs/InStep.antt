-- That map, pool and sizes of a store are in step is a fact: there is at most one proof of it, since a board block that is taken is the place of one block.
use Rattle.std.specs.Prelude.{◌≡◌, ℕ, ◌<◌, true, Some}
use Rattle.std.proofs.Props.{props}
use mathlib.Core.HLevel.{is_prop→PathP}
use Rattle.blocks.specs.Blocks.{count, tally_below}
use Rattle.ledger.specs.Sound.{Sound}
use Rattle.ledger.specs.Store.{Shape, State}

-- the block whose place a board block is
abbrev Owner : State → ℕ → Type 0
Owner s p = (f : ℕ) × (b : ℕ) × (s.place f b ≡ Some p)

here_prop : (s : State) (f b p : ℕ) → IsProp (s.place f b ≡ Some p)
here_prop s f b p = Prim.hlevel props

owner_prop : {sh : Shape} {s : State} → Sound sh s → (p : ℕ) → IsProp (Owner s p)
owner_prop {s = s} x p a c =
    let q = x.apart a.0 a.1 c.0 c.1 p a.2 c.2 in
    λ i. (q.0 i, q.1 i, is_prop→PathP (λ j. s.place (q.0 j) (q.1 j) ≡ Some p) (λ j. here_prop s (q.0 j) (q.1 j) p) a.2 c.2 i)

within_prop : (sh : Shape) (s : State) → IsProp ((f b p : ℕ) → s.place f b ≡ Some p → (f < sh.files) × (b < sh.width) × (p < sh.size) × (s.taken p ≡ true))
within_prop sh s = Prim.hlevel props

apart_prop : (s : State) → IsProp ((f b g c p : ℕ) → s.place f b ≡ Some p → s.place g c ≡ Some p → (f ≡ g) × (b ≡ c))
apart_prop s = Prim.hlevel props

counted_prop : (sh : Shape) (s : State) → IsProp (count sh.size s.taken ≡ tally_below sh.files sh.width s.place)
counted_prop sh s = Prim.hlevel props

pub sound_prop : (sh : Shape) (s : State) → IsProp (Sound sh s)
sound_prop sh s x y = λ i. record {
  within = within_prop sh s x.within y.within i;
  owned = λ p l t. owner_prop x p (x.owned p l t) (y.owned p l t) i;
  apart = apart_prop s x.apart y.apart i;
  counted = counted_prop sh s x.counted y.counted i;
}
