-- What the console prints for a text: the reply to each line, in turn, over a map that is empty at first.
use Rattle.std.specs.Prelude.{ℕ, ◌+◌, ◌*◌, ◌||◌, List, [], ◌∷◌, ◌++◌, Some, None, Ok, Err, Option, Result, nat_lt}
use Rattle.faults.specs.declared.Fault.{Fault}
use Rattle.faults.specs.declared.Ground.{Ground}
use Rattle.faults.specs.declared.Ground.TheVariants.{Buffer, Line}
use Rattle.faults.specs.Grounds.{ground_number, first_ground}
use Rattle.blocks.specs.Blocks.{Placement}
use Rattle.lines.specs.Lines.{lines}
use Rattle.commands.specs.declared.command.Command.{Command}
use Rattle.commands.specs.declared.command.Command.TheVariants.{Assign, Clear, Find, Next, Keys}
use Rattle.commands.specs.declared.reply.Reply.{Reply}
use Rattle.commands.specs.declared.reply.Reply.TheVariants.{Granted, Refused, At, Hole, NextAt, NoNext, Held}
use Rattle.commands.specs.Commands.{command_in, reply_text}
use Rattle.extents.specs.Extents.{tried}
use Rattle.maps.specs.Steps.{Outcome, nowhere, find_answer, next_answer, assign_step, clear_step}
use Rattle.key_rule.specs.Keyed.{keyed, rule_of_keys}

-- the keys that the console's map has room for
abbrev pub console_room : ℕ
console_room = 2048

-- a refusal is printed by its number
abbrev pub refusal : Fault → Reply
refusal f = Refused (ground_number f.ground)

-- a granted change prints the keys then held
abbrev pub change_reply : Outcome → Reply × Placement
change_reply (Ok u, p) = (Granted (rule_of_keys p), p)
change_reply (Err f, p) = (refusal f, p)

-- a look-up prints where the block lies, or that it is a hole, and the keys tried
abbrev pub found_reply : Result (Option ℕ) Fault → ℕ → Reply
found_reply (Ok (Some p)) n = At p n
found_reply (Ok None) n = Hole n
found_reply (Err f) n = refusal f

abbrev pub reply_to_next : Result (Option ℕ) Fault → Reply
reply_to_next (Ok (Some b)) = NextAt b
reply_to_next (Ok None) = NoNext
reply_to_next (Err f) = refusal f

-- The reply to a command, and the placement that it leaves. No command is a line outside the forms.
abbrev pub reply_to : Placement → Option Command → Reply × Placement
reply_to p None = (Refused (ground_number Line), p)
reply_to p (Some (Assign file first n board)) = change_reply (assign_step rule_of_keys console_room p file first n board)
reply_to p (Some (Clear file first n)) = change_reply (clear_step rule_of_keys console_room p file first n)
reply_to p (Some (Find file block)) = (found_reply (find_answer p file block) (tried (keyed p file) block), p)
reply_to p (Some (Next file block)) = (reply_to_next (next_answer p file block), p)
reply_to p (Some Keys) = (Held (rule_of_keys p), p)

-- what is printed for lines, from a placement on
unfoldable pub printed_from : Placement → List (List ℕ) → List ℕ
printed_from p [] = []
printed_from p (l ∷ ls) = reply_text (reply_to p (command_in l)).0 ++ printed_from (reply_to p (command_in l)).1 ls

-- what is printed for a text
abbrev pub transcript : List ℕ → List ℕ
transcript input = printed_from nowhere (lines input)

-- The console is refused a text of more than 8,192 bytes, and room for less than five bytes for each of its bytes and five more.
abbrev pub ground_of_console : ℕ → ℕ → Option Ground
ground_of_console input output = first_ground ((nat_lt 8192 input || nat_lt output (5 * input + 5), Buffer) ∷ [])
