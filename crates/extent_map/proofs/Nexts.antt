-- The first key from a block on, found, dropped and counted.
use Rattle.std.proofs.Common.{◌≡◌, ℕ, ◌+◌, ◌<◌, ◌≤◌, Bool, true, false, nat_lt, ◌⊎◌, Some, None, Option, sym, refl, ap, ◌∙◌, inl, inr, arith}
use Rattle.std.proofs.lemmas.Bool.{cases_lt, ltb-true, ltb-false}
use Rattle.std.specs.Bool.{then_some}
use Rattle.blocks.specs.Blocks.{tally}
use Rattle.extents.specs.declared.key.Key.{Key}
use Rattle.extents.specs.Extents.{Barrier, key}
use Rattle.extents.proofs.Straights.{some-none}
use Rattle.tables.specs.Holding.{Holding, lowest_row}
use Rattle.tables.specs.declared.row.Row.{Row}
use Rattle.tables.proofs.Lowest.{Lowest, lowest_when_none, lowest_when_some}
use Rattle.key_rule.specs.Keyed.{Held, placing}
use Rattle.key_rule.specs.Mends.{update, blend, none, Sought}
use Rattle.key_rule.proofs.Drops.{stops, gone, counts, same_beyond, sought_back}
use Rattle.key_rule.proofs.Looks.{held_key, key_block, key_long}
use Rattle.key_rule.proofs.Tallies.{blend_skip}
use Rattle.extent_map.specs.Calls.{Next}

-- ---- by the question for the lowest key, where no key starts from x on and below z

module _ (h : Holding) (file x z r : ℕ) (free : (b : ℕ) → x ≤ b → b < z → h file b ≡ None) where
  from_here : (y : ℕ) → ((b : ℕ) → z ≤ b → b < y → h file b ≡ None) → (b : ℕ) → x ≤ b → b < y → h file b ≡ None
  from_here y more b xb by = at (cases_lt b z)
    where
      at : (b < z) ⊎ (z ≤ b) → h file b ≡ None
      at (inl o) = free b xb o
      at (inr o) = more b o by

  pub next_none : None ≡ lowest_row h file z → r ≤ 65536 → Sought (h file) x r r
  next_none q top = record {
    free = from_here r (λ b zb br. lowest_when_none h file z (sym q) b zb (omega arith));
    held = λ o. absurd (omega arith);
  }

  module _ (w : Row) (top : z ≤ 65536) (q : Some w ≡ lowest_row h file z) where
    -- the lowest key, if it starts below r
    pub next_told : x ≤ z → Next (h file) x r (then_some (nat_lt w.block r) (key w.block w.entry.length w.entry.board))
    next_told xz = at (nat_lt w.block r) refl
      where
        low : Lowest (h file) file z 65536 w
        low = lowest_when_some h file z w top (sym q)

        at : (t : Bool) → nat_lt w.block r ≡ t → Next (h file) x r (then_some t (key w.block w.entry.length w.entry.board))
        at true e = (
          omega (arith, low.least),
          ltb-true w.block r e,
          record { free = from_here w.block low.before; held = λ p none. some-none (h file w.block) w.entry low.there none },
          low.there,
        )
        at false e =
            let o = ltb-false w.block r e in
            record { free = from_here r (λ b zb br. low.before b zb (omega arith)); held = λ p. absurd (omega arith) }

-- ---- the keys of an interval one by one

module _ (h : Holding) (v : Held h) (file l x r : ℕ) (lx : l ≤ x) where
  pub none_left : x ≤ r → Next (h file) x r None → blend file l r none h ≡ blend file l x none h
  none_left xr s = blend_skip file l x r none h lx xr (λ b xb br. sym (s.free b xb br))

  module _ (k : Key) (n : Next (h file) x r (Some k)) where
    up_to : blend file l k.start none h ≡ blend file l x none h
    up_to = let s = n.2 in blend_skip file l x k.start none h lx n.0 (λ b xb bk. sym (s.free b xb bk))

    before : l ≤ k.start
    before = let o = n.0 in omega arith

    pub long : 0 < k.length
    long = key_long (placing h file) k.start k.length k.board (held_key h v file k.start k.length k.board n.3)

    pub next_stops : Barrier (placing h file) r → k.start + k.length ≤ r
    next_stops = stops h v file l k.start k.length k.board k.length before (sym n.3) (λ _. refl) r n.1

    pub next_gone : blend file l (k.start + k.length) none h ≡ update (blend file l x none h) file k.start None
    next_gone =
        gone h v file l k.start k.length k.board k.length before (sym n.3) (λ _. refl)
        ∙ ap (λ (u : Holding). update u file k.start None) up_to

    numbered : file < 65536
    numbered = at (cases_lt file 65536)
      where
        at : (file < 65536) ⊎ (65536 ≤ file) → file < 65536
        at (inl o) = o
        at (inr o) =
            some-none (placing h file k.start) _
            (key_block (placing h file) k.start k.length k.board k.start (held_key h v file k.start k.length k.board n.3) (omega arith) (omega (arith, long)))
            (v.within file k.start (inl o))

    pub next_counts : (c : ℕ) → c + tally (blend file l x none h) ≡ tally h
        → (c + 1) + tally (blend file l (k.start + k.length) none h) ≡ tally h
    next_counts c e =
        counts h v file l k.start k.length k.board k.length before (sym n.3) (λ _. refl) c numbered (ap (λ (u : Holding). c + tally u) up_to ∙ e)

-- the same of the table as it has become
pub next_back : (h g : Holding) (file l x r : ℕ) (o : Option Key) → g ≡ blend file l x none h → x ≤ r → Next (g file) x r o → Next (h file) x r o
next_back h g file l x r None e xr n = sought_back h g file l x x r r e (omega arith) xr n
next_back h g file l x r (Some k) e xr n =
    (n.0, n.1, sought_back h g file l x x r k.start e (omega arith) n.0 n.2, sym (same_beyond h g file l x k.start e n.0) ∙ n.3)
