-- The lines of the console: what a line asks for, and what is printed for an answer.
use Rattle.std.specs.Prelude.{ℕ, cond, List, [], ◌∷◌, ◌++◌, None, codes, decimal, Option, ◌==◌, slice_index}
use Rattle.std.specs.Option.{option_map}
use Rattle.lines.specs.Lines.{before, behind, fields}
use Rattle.commands.specs.declared.command.Command.{Command}
use Rattle.commands.specs.declared.command.Command.TheVariants.{Assign, Clear, Find, Next, Keys}
use Rattle.commands.specs.declared.reply.Reply.{Reply}
use Rattle.commands.specs.declared.reply.Reply.TheVariants.{Granted, Refused, At, Hole, NextAt, NoNext, Held}

-- ---- what a line asks for

-- the commands by their fields
abbrev pub assign_command : Option (List ℕ) → Option Command
assign_command = option_map (λ ns. Assign (slice_index ns 0) (slice_index ns 1) (slice_index ns 2) (slice_index ns 3))

abbrev pub clear_command : Option (List ℕ) → Option Command
clear_command = option_map (λ ns. Clear (slice_index ns 0) (slice_index ns 1) (slice_index ns 2))

abbrev pub find_command : Option (List ℕ) → Option Command
find_command = option_map (λ ns. Find (slice_index ns 0) (slice_index ns 1))

abbrev pub next_command : Option (List ℕ) → Option Command
next_command = option_map (λ ns. Next (slice_index ns 0) (slice_index ns 1))

abbrev pub keys_command : Option (List ℕ) → Option Command
keys_command = option_map (λ ns. Keys)

-- by its letter, a, c, f, n or k, a command has 4, 3, 2, 2 or no fields
abbrev pub command_by_letter : ℕ → Option (List ℕ) → Option Command
command_by_letter c rest =
    cond (c == 97) (assign_command (fields 4 rest))
    (cond (c == 99) (clear_command (fields 3 rest))
    (cond (c == 102) (find_command (fields 2 rest))
    (cond (c == 110) (next_command (fields 2 rest))
    (cond (c == 107) (keys_command (fields 0 rest)) None))))

abbrev pub lettered : List ℕ → Option (List ℕ) → Option Command
lettered [] rest = None
lettered (c ∷ []) rest = command_by_letter c rest
lettered (c ∷ d ∷ cs) rest = None

-- A line is a letter and decimal fields, one space before each. None is a line outside the forms.
abbrev pub command_in : List ℕ → Option Command
command_in line = lettered (before 32 line) (behind 32 line)

-- ---- what is printed

-- the line of a reply
abbrev pub reply_text : Reply → List ℕ
reply_text (Granted keys) = codes "ok " ++ (decimal keys ++ codes "\n")
reply_text (Refused number) = codes "no " ++ (decimal number ++ codes "\n")
reply_text (At board tried) = codes "at " ++ (decimal board ++ (codes " tried " ++ (decimal tried ++ codes "\n")))
reply_text (Hole tried) = codes "hole tried " ++ (decimal tried ++ codes "\n")
reply_text (NextAt block) = codes "next " ++ (decimal block ++ codes "\n")
reply_text NoNext = codes "none\n"
reply_text (Held keys) = codes "keys " ++ (decimal keys ++ codes "\n")
