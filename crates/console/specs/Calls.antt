-- What a call of the console answers and prints, and how its parts reply.
use Rattle.std.specs.Prelude.{◌≡◌, ℕ, List, ◌++◌, length, drop, Some, None, Ok, Err, Option, Result, codes}
use Rattle.faults.specs.declared.Fault.{Fault}
use Rattle.faults.specs.declared.Ground.{Ground}
use Rattle.faults.specs.declared.Layer.TheVariants.{Console}
use Rattle.faults.specs.Answers.{refused_by}
use Rattle.blocks.specs.Blocks.{Placement}
use Rattle.look_ups.specs.declared.Found.{Found}
use Rattle.commands.specs.declared.command.Command.{Command}
use Rattle.commands.specs.declared.reply.Reply.{Reply}
use Rattle.commands.specs.declared.reply.Reply.TheVariants.{Granted}
use Rattle.replies.specs.Console.{ground_of_console, refusal, found_reply, reply_to, transcript}
use Rattle.console.specs.declared.ConsoleError.{ConsoleError}
use Rattle.console.specs.declared.ConsoleError.TheVariants.{Refused, NoMemory}

-- ---- the call

-- the console's refusal, which names no file and no block
abbrev pub console_fault : (ground : Ground) → Fault
console_fault g = refused_by Console g 0 0

-- a text printed at the front of a buffer; what lies behind it stays
abbrev pub printed_over : List ℕ → List ℕ → List ℕ
printed_over text buffer = text ++ drop (length text) buffer

abbrev pub answer_on : Option Ground → List ℕ → Result ℕ ConsoleError
answer_on (Some g) text = Err (Refused (console_fault g))
answer_on None text = Ok (length text)

abbrev pub output_on : Option Ground → List ℕ → List ℕ → List ℕ
output_on (Some g) text output = output
output_on None text output = printed_over text output

-- What the console answers for a text, with an output of so many bytes: the refusal, or how many bytes are printed.
abbrev pub console_answer : List ℕ → ℕ → Result ℕ ConsoleError
console_answer input room = answer_on (ground_of_console (length input) room) (transcript input)

-- What it leaves in the output: the replies and what lay behind them, or the output as it was if it is refused.
abbrev pub console_output : List ℕ → List ℕ → List ℕ
console_output input output = output_on (ground_of_console (length input) (length output)) (transcript input) output

-- The answer and the output of a call. Whether memory is found is left open; a call without it prints nothing, and is one that is not refused.
abbrev pub Answered : List ℕ → List ℕ → Result ℕ ConsoleError → List ℕ → Type 0
Answered input output (Ok n) after = (Ok n ≡ console_answer input (length output)) × (after ≡ console_output input output)
Answered input output (Err (Refused f)) after = (Err (Refused f) ≡ console_answer input (length output)) × (after ≡ console_output input output)
Answered input output (Err NoMemory) after = (ground_of_console (length input) (length output) ≡ None) × (after ≡ output)

-- what is said of a call that prints nothing
abbrev pub failure_text : ConsoleError → List ℕ
failure_text (Refused f) = codes "the console refuses the input"
failure_text NoMemory = codes "there is not enough memory"

-- ---- replies

-- the reply to a change, after which so many keys are held
abbrev pub changed_to : Result (Unit {0}) Fault → ℕ → Reply
changed_to (Ok u) keys = Granted keys
changed_to (Err f) keys = refusal f

-- the reply to a look-up that was counted
abbrev pub found_by : Result Found Fault → Reply
found_by (Ok f) = found_reply (Ok f.board) f.tried
found_by (Err f) = refusal f

-- ---- the map

-- The reply to a command, and the placement that it leaves, are those that are asked for.
abbrev pub Replied : Placement → Option Command → Reply → Placement → Type 0
Replied before command reply after = ◌≡◌ {A = Reply × Placement} (reply, after) (reply_to before command)
