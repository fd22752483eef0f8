-- Five bytes for each byte of the text and five more are enough.
use Rattle.std.proofs.Common.{◌≡◌, ℕ, suc, ◌+◌, ◌^◌, ◌<◌, ◌≤◌, Bool, true, false, cond, eqb, ◌⊎◌, List, [], ◌∷◌, ◌++◌, length, Some, None, codes, decimal, Option, sym, refl, ap, inl, inr, arith, length-append}
use Rattle.std.proofs.lemmas.Fmt.{length-decimal-le}
use Rattle.std.specs.Option.{option_map}
use Rattle.faults.specs.declared.Ground.{Ground}
use Rattle.faults.specs.declared.Ground.TheVariants.{Mark, File, Block, Length, Buffer, BoardNumber, Line, Mapped, NoFreeBlock, TooManyKeys, TableFull}
use Rattle.faults.specs.Grounds.{ground_number}
use Rattle.commands.specs.declared.command.Command.{Command}
use Rattle.commands.specs.declared.command.Command.TheVariants.{Keys}
use Rattle.commands.specs.declared.reply.Reply.{Reply}
use Rattle.commands.specs.declared.reply.Reply.TheVariants.{Granted, Refused, At, Hole, NextAt, NoNext, Held}
use Rattle.commands.specs.Commands.{reply_text, lettered, command_in, assign_command, clear_command, find_command, next_command, keys_command}
use Rattle.lines.specs.Lines.{before, behind, fields, number, both}
use Rattle.lines.proofs.Cuts.{before_le}

-- the numbers of a reply are as small as a console's are
abbrev pub Small : Reply → Type 0
Small (Granted k) = k ≤ 2048
Small (Refused g) = g ≤ 14
Small (At p n) = (p < 4096) × (n ≤ 13)
Small (Hole n) = n ≤ 13
Small (NextAt b) = b < 65536
Small NoNext = Unit {0}
Small (Held k) = k ≤ 2048

digits : (k n : ℕ) → 0 < k → n < 10 ^ k → n < 2 ^ 64 → length (decimal n) ≤ k
digits k n p a b = length-decimal-le k n p a b

-- how many bytes the longest lines have
pub reply_short : (r : Reply) → Small r → length (reply_text r) ≤ 20
reply_short (Granted k) s = omega (arith, length-append (decimal k) (codes "\n"), digits 4 k (omega arith) (omega arith) (omega arith))
reply_short (Refused g) s = omega (arith, length-append (decimal g) (codes "\n"), digits 2 g (omega arith) (omega arith) (omega arith))
reply_short (At p n) s =
    let l = s.0 in
    let m = s.1 in
    omega (
      arith,
      length-append (decimal p) (codes " tried " ++ (decimal n ++ codes "\n")),
      length-append (decimal n) (codes "\n"),
      digits 4 p (omega arith) (omega arith) (omega arith),
      digits 2 n (omega arith) (omega arith) (omega arith),
    )
reply_short (Hole n) s = omega (arith, length-append (decimal n) (codes "\n"), digits 2 n (omega arith) (omega arith) (omega arith))
reply_short (NextAt b) s = omega (arith, length-append (decimal b) (codes "\n"), digits 5 b (omega arith) (omega arith) (omega arith))
reply_short NoNext s = omega arith
reply_short (Held k) s = omega (arith, length-append (decimal k) (codes "\n"), digits 4 k (omega arith) (omega arith) (omega arith))

-- the shortest ones, for the shortest lines
pub keys_short : (k : ℕ) → k ≤ 2048 → length (reply_text (Held k)) ≤ 10
keys_short k s = omega (arith, length-append (decimal k) (codes "\n"), digits 4 k (omega arith) (omega arith) (omega arith))

pub line_short : length (reply_text (Refused (ground_number Line))) ≤ 5
line_short = omega (arith, length-append (decimal 7) (codes "\n"), digits 1 7 (omega arith) (omega arith) (omega arith))

pub ground_small : (g : Ground) → ground_number g ≤ 14
ground_small Mark = omega arith
ground_small File = omega arith
ground_small Block = omega arith
ground_small Length = omega arith
ground_small Buffer = omega arith
ground_small BoardNumber = omega arith
ground_small Line = omega arith
ground_small Mapped = omega arith
ground_small NoFreeBlock = omega arith
ground_small TooManyKeys = omega arith
ground_small TableFull = omega arith

-- ---- how long a line is

pub cut_length : (at : ℕ) (bs r : List ℕ) → behind at bs ≡ Some r → length (before at bs) + 1 + length r ≡ length bs
unfolding before behind
cut_length at [] r e = cc
cut_length at (c ∷ cs) r e = go (eqb c at) e (cut_length at cs r)
  where
    go : (b : Bool) → cond b (Some cs) (behind at cs) ≡ Some r → (behind at cs ≡ Some r → length (before at cs) + 1 + length r ≡ length cs)
        → length (cond b [] (c ∷ before at cs)) + 1 + length r ≡ suc (length cs)
    go true f more = let g : cs ≡ r = cc in omega (arith, ap length g)
    go false f more = omega (arith, more f)

number_some : (bs : List ℕ) (v : ℕ) → number bs ≡ Some v → 1 ≤ length bs
number_some [] v e = cc
number_some (c ∷ cs) v e = omega arith

-- where a field is read, something is left of the line
field_left : (k : ℕ) (o : Option (List ℕ)) (ns : List ℕ) → fields (suc k) o ≡ Some ns → (r : List ℕ) × (o ≡ Some r) × (1 ≤ length r)
field_left k None ns e = cc
field_left k (Some r) ns e = (r, refl, go (number (before 32 r)) refl e)
  where
    go : (o : Option ℕ) → number (before 32 r) ≡ o → both o (fields k (behind 32 r)) ≡ Some ns → 1 ≤ length r
    go None h f = cc
    go (Some v) h f = omega (arith, number_some (before 32 r) v h, before_le 32 r)

abbrev Left : Option (List ℕ) → Type 0
Left o = (r : List ℕ) × (o ≡ Some r) × (1 ≤ length r)

-- a command is the one without fields, or something is left for its fields
module _ (rest : Option (List ℕ)) (c : Command) where
  some_left : (f : List ℕ → Command) (k : ℕ) (o : Option (List ℕ)) → fields (suc k) rest ≡ o → option_map f o ≡ Some c → Left rest
  some_left f k None h e = cc
  some_left f k (Some ns) h e = field_left k rest ns h

  keys_only : (o : Option (List ℕ)) → keys_command o ≡ Some c → c ≡ Keys
  keys_only None e = cc
  keys_only (Some ns) e = let f : Keys ≡ c = cc in sym f

  letter_left : (a b d e f : Bool)
      → cond a (assign_command (fields 4 rest)) (cond b (clear_command (fields 3 rest)) (cond d (find_command (fields 2 rest)) (cond e (next_command (fields 2 rest)) (cond f (keys_command (fields 0 rest)) None)))) ≡ Some c
      → (c ≡ Keys) ⊎ Left rest
  letter_left true b d e f h = inr (some_left _ 3 (fields 4 rest) refl h)
  letter_left false true d e f h = inr (some_left _ 2 (fields 3 rest) refl h)
  letter_left false false true e f h = inr (some_left _ 1 (fields 2 rest) refl h)
  letter_left false false false true f h = inr (some_left _ 1 (fields 2 rest) refl h)
  letter_left false false false false true h = inl (keys_only (fields 0 rest) h)
  letter_left false false false false false h = cc

-- a line that is the command without fields has a byte, and any other command at least three
pub line_long : (line : List ℕ) (c : Command) → command_in line ≡ Some c → ((c ≡ Keys) × (1 ≤ length line)) ⊎ (3 ≤ length line)
line_long line c h = go (before 32 line) refl h
  where
    one : (x : ℕ) → before 32 line ≡ x ∷ [] → (c ≡ Keys) ⊎ Left (behind 32 line) → ((c ≡ Keys) × (1 ≤ length line)) ⊎ (3 ≤ length line)
    one x e (inl k) = inl (k, omega (arith, ap length e, before_le 32 line))
    one x e (inr l) = inr (omega (arith, ap length e, cut_length 32 line l.0 l.1, l.2))

    go : (f : List ℕ) → before 32 line ≡ f → lettered f (behind 32 line) ≡ Some c → ((c ≡ Keys) × (1 ≤ length line)) ⊎ (3 ≤ length line)
    go [] e g = cc
    go (x ∷ []) e g = one x e (letter_left (behind 32 line) c (eqb x 97) (eqb x 99) (eqb x 102) (eqb x 110) (eqb x 107) g)
    go (x ∷ y ∷ zs) e g = cc
