-- The first key on a block's path, kept if its extent contains the block.
use Rattle.std.proofs.Common.{◌≡◌, ℕ, ◌+◌, ◌≤◌, Bool, true, false, nat_le, nat_lt, is_some, Some, None, Option, sym, refl}
use Rattle.std.proofs.lemmas.Bool.{and_parts, leb-true, ltb-true, ltb-false, true≢false}
use Rattle.std.specs.Prelude.{option_and_then}
use Rattle.std.specs.Bool.{then_some}
use Rattle.blocks.specs.Blocks.{inside}
use Rattle.extents.specs.declared.key.Key.{Key}
use Rattle.extents.specs.Extents.{path, first_held_key}
use Rattle.tables.specs.Holding.{Holding, lowest_row}
use Rattle.tables.specs.declared.row.Row.{Row}
use Rattle.maps.specs.Steps.{lowest_mapped_block}
use Rattle.key_rule.specs.Keyed.{Held, placing}
use Rattle.key_rule.specs.Mends.{Sane, Over}
use Rattle.key_rule.proofs.Edges.{lowest_key, lowest_past}
use Rattle.key_rule.proofs.Looks.{held_small, held_within, key_block, found_held, over_hit, over_none, over_miss}

abbrev pub kept : ℕ → Option Key → Option Key
kept b o = option_and_then (λ k. then_some (inside k.start k.length b) k) o

module _ (h : Holding) (v : Held h) (f b : ℕ) where
  abbrev Found : Option Key → Type 0
  Found r = Sane b r × Over (placing h f) b r

  pub over_kept : (o : Option Key) → o ≡ first_held_key (h f) (path b) → Found (kept b o)
  over_kept None e = (tt, over_none h v f b e)
  over_kept (Some k) e = at (inside k.start k.length b) refl
    where
      at : (t : Bool) → inside k.start k.length b ≡ t → Found (then_some t k)
      at false i = (tt, over_miss h v f b k e i)
      at true i =
          let held = found_held (h f) (path b) k (sym e) in
          let x = and_parts (nat_le k.start b) (nat_lt b (k.start + k.length)) i in (
            (
              leb-true k.start b x.0,
              ltb-true b (k.start + k.length) x.1,
              held_small h v f k.start k.length k.board held,
              held_within h v f k.start k.length k.board held,
            ),
            over_hit h v f b k e,
          )

  -- whether there is such a key tells whether the block is mapped
  pub mapped_under : (o : Option Key) → true ≡ is_some o → Found o → (p : ℕ) × (placing h f b ≡ Some p)
  mapped_under None e k = absurd (true≢false e)
  mapped_under (Some y) e (s, k) = (_, key_block (placing h f) y.start y.length y.board b k s.0 s.1)

  pub unmapped_under : (o : Option Key) → false ≡ is_some o → Found o → placing h f b ≡ None
  unmapped_under None e (_, k) = k
  unmapped_under (Some y) e k = absurd (true≢false (sym e))

-- the block of the lowest key behind an unmapped block, if that is among the n
pub lowest_told : (h : Holding) → Held h → (f first n : ℕ) → placing h f first ≡ None → (w : Row) → Some w ≡ lowest_row h f (first + 1) → first + 1 ≤ 65536
    → then_some (nat_lt w.block (first + n)) w.block ≡ lowest_mapped_block (placing h f) first n
lowest_told h v f first n hole w q top = at (nat_lt w.block (first + n)) refl
  where
    at : (t : Bool) → nat_lt w.block (first + n) ≡ t → then_some t w.block ≡ lowest_mapped_block (placing h f) first n
    at true e = lowest_key h v f first n hole w q top (ltb-true w.block (first + n) e)
    at false e = lowest_past h v f first n hole w q top (ltb-false w.block (first + n) e)
