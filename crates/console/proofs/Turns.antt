-- A line that is answered, by what its parts promise.
use Rattle.std.proofs.Common.{◌≡◌, ℕ, ◌≤◌, List, ap, ◌∙◌}
use Rattle.blocks.specs.Blocks.{Placement}
use Rattle.key_rule.specs.Keyed.{rule_of_keys, OnBoard}
use Rattle.commands.specs.declared.reply.Reply.{Reply}
use Rattle.commands.specs.Commands.{command_in, reply_text}
use Rattle.replies.proofs.Printing.{Turn}
use Rattle.console.specs.Calls.{Replied}

pub turned : (p q : Placement) (line : List ℕ) (reply : Reply) → Replied p (command_in line) reply q → OnBoard p → rule_of_keys q ≤ 2048
    → (text : List ℕ) → text ≡ reply_text reply → Turn p line text q
turned p q line reply e on_board few text t = record {
  replied = t ∙ ap (λ (x : Reply × Placement). reply_text x.0) e;
  left = ap (λ (x : Reply × Placement). x.1) e;
  on_board = on_board;
  few = few;
}
