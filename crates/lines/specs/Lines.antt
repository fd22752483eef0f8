-- Lines of text and their decimal fields.
use Rattle.std.specs.Prelude.{◌≡◌, ℕ, zero, suc, ◌+◌, ◌-◌, ◌*◌, ◌<◌, Bool, cond, not, ◌&&◌, ◌||◌, List, [], ◌∷◌, length, drop, Some, None, Option, ◌==◌, nat_le, slice_index}
use Rattle.std.specs.Borrow.{Bor}
use Rattle.std.specs.Option.{unwrap_or}
use Rattle.lines.specs.declared.LineReader.{LineReader}

-- ---- cutting at a byte

-- the bytes before the first one that is `at`
unfoldable pub before : ℕ → List ℕ → List ℕ
before at [] = []
before at (c ∷ cs) = cond (c == at) [] (c ∷ before at cs)

-- the bytes behind it, if it is there
unfoldable pub behind : ℕ → List ℕ → Option (List ℕ)
behind at [] = None
behind at (c ∷ cs) = cond (c == at) (Some cs) (behind at cs)

-- ---- lines

-- the lines of a text, n at the most: each ends at a newline, and a last one may lack it
unfoldable pub lines_up_to : ℕ → List ℕ → List (List ℕ)
lines_up_to zero bs = []
lines_up_to (suc n) [] = []
lines_up_to (suc n) (c ∷ cs) = before 10 (c ∷ cs) ∷ lines_up_to n (unwrap_or (behind 10 (c ∷ cs)) [])

-- the lines of a text: there are no more than bytes
abbrev pub lines : List ℕ → List (List ℕ)
lines bs = lines_up_to (length bs) bs

-- what a reader at a position has still to read
abbrev pub unread : LineReader → List ℕ
unread r = drop r.at r.input.now

-- A step gives the next line, and leaves what follows its newline; at the end of the text it gives none.
abbrev pub NextLine : LineReader → Option (Bor (List ℕ)) → LineReader → Type 0
NextLine r None s = unread r ≡ []
NextLine r (Some line) s =
    (r.at < length r.input.now) × (line.now ≡ before 10 (unread r)) × (unread s ≡ unwrap_or (behind 10 (unread r)) [])

-- ---- fields

abbrev pub is_digit : ℕ → Bool
is_digit c = nat_le 48 c && nat_le c 57

-- the number that digits stand for, read on from v
unfoldable pub value_from : ℕ → List ℕ → Option ℕ
value_from v [] = Some v
value_from v (c ∷ cs) = cond (is_digit c) (value_from (10 * v + (c - 48)) cs) None

-- one to five bytes, the first no zero unless it stands alone
abbrev pub shaped : List ℕ → Bool
shaped bs = nat_le 1 (length bs) && (nat_le (length bs) 5 && (length bs == 1 || not (slice_index bs 0 == 48)))

-- the number that a decimal field stands for: one to five digits, no needless zero in front
abbrev pub number : List ℕ → Option ℕ
number bs = cond (shaped bs) (value_from 0 bs) None

abbrev pub both : Option ℕ → Option (List ℕ) → Option (List ℕ)
both None ns = None
both (Some n) None = None
both (Some n) (Some ns) = Some (n ∷ ns)

-- the numbers of k fields, with one space between each and the next, where nothing else is left of the line
abbrev pub fields : ℕ → Option (List ℕ) → Option (List ℕ)
fields zero None = Some []
fields zero (Some bs) = None
fields (suc k) None = None
fields (suc k) (Some bs) = both (number (before 32 bs)) (fields k (behind 32 bs))
