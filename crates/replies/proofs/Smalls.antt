-- The numbers that the console prints are small.
use Rattle.std.proofs.Common.{◌≡◌, ℕ, zero, suc, ◌+◌, ◌-◌, ◌*◌, ◌%◌, ◌^◌, ◌<◌, ◌≤◌, ◌⊎◌, List, [], ◌∷◌, length, Some, None, Ok, Err, Option, sym, refl, subst, inl, inr, mod-lt, arith, pow_pos}
use Rattle.std.proofs.lemmas.Bool.Decides.{nat_tests}
use lib.Count.{ones-le}
use Rattle.faults.specs.declared.Ground.{Ground}
use Rattle.faults.specs.declared.Ground.TheVariants.{Line}
use Rattle.blocks.specs.Blocks.{Placement}
use Rattle.blocks.specs.declared.Entry.{Entry}
use Rattle.extents.specs.Extents.{KeyTable, path, only_here, tried_of, tried}
use Rattle.extents.proofs.Paths.{path_length}
use Rattle.maps.specs.Steps.{Outcome, answer, ground_of_block, here_or, lowest_mapped_block, find_answer, next_answer, assign_step, clear_step}
use Rattle.key_rule.specs.Keyed.{keyed, rule_of_keys, OnBoard}
use Rattle.commands.specs.declared.command.Command.{Command}
use Rattle.commands.specs.declared.command.Command.TheVariants.{Assign, Clear, Find, Next, Keys}
use Rattle.commands.specs.Commands.{command_in, reply_text}
use Rattle.replies.specs.Console.{console_room, change_reply, found_reply, reply_to_next, reply_to}
use Rattle.replies.proofs.Lengths.{Small, ground_small, reply_short, keys_short, line_short, line_long}

tried_few : (t : KeyTable) (xs : List ℕ) → tried_of t xs ≤ length xs
unfolding tried_of
tried_few t [] = omega arith
tried_few t (x ∷ xs) = go (t x) (tried_few t xs)
  where
    go : (o : Option Entry) → tried_of t xs ≤ length xs → only_here o (tried_of t xs) ≤ suc (length xs)
    go None h = omega arith
    go (Some e) h = omega arith

pub tried_small : (t : KeyTable) (b : ℕ) → tried t b ≤ 13
unfolding tried
tried_small t b = omega (arith, tried_few t (path b), path_length b, ones-le 12 (b % 2 ^ 12) (mod-lt b (pow_pos 12)))

pub lowest_small : (m : ℕ → Option ℕ) (b n x : ℕ) → lowest_mapped_block m b n ≡ Some x → x < b + n
unfolding lowest_mapped_block
lowest_small m b zero x e = cc
lowest_small m b (suc n) x e = go (m b) e (lowest_small m (suc b) n x)
  where
    go : (o : Option ℕ) → here_or o b (lowest_mapped_block m (suc b) n) ≡ Some x → (lowest_mapped_block m (suc b) n ≡ Some x → x < suc b + n) → x < b + suc n
    go None f more = omega (arith, more f)
    go (Some p) f more = let g : b ≡ x = cc in omega arith

change_small : (o : Outcome) → rule_of_keys (change_reply o).1 ≤ 2048 → Small (change_reply o).0
change_small (Ok u, q) k = k
change_small (Err f, q) k = ground_small f.ground

found_small : (p : Placement) (file block : ℕ) → OnBoard p → Small (found_reply (find_answer p file block) (tried (keyed p file) block))
found_small p file block on = go (ground_of_block file block) (p file block) refl
  where
    go : (g : Option Ground) (o : Option ℕ) → p file block ≡ o → Small (found_reply (answer file block g o) (tried (keyed p file) block))
    go None None e = tried_small (keyed p file) block
    go None (Some v) e = (on file block v e, tried_small (keyed p file) block)
    go (Some g) o e = ground_small g

next_small : (p : Placement) (file block : ℕ) → Small (reply_to_next (next_answer p file block))
next_small p file block = go (ground_of_block file block) refl (lowest_mapped_block (p file) block (65536 - block)) refl
  where
    go : (g : Option Ground) → ground_of_block file block ≡ g → (o : Option ℕ) → lowest_mapped_block (p file) block (65536 - block) ≡ o → Small (reply_to_next (answer file block g o))
    go None h None e = tt
    go None h (Some b) e = let l = lowest_small (p file) block (65536 - block) b e in let m = block_good file block h in omega arith
      where
        block_good : (file block : ℕ) → ground_of_block file block ≡ None → block < 65536
        block_good file block h = grind (arith, nat_tests)
    go (Some g) h o e = ground_small g

-- what is replied has small numbers, where the placement after it calls for no more keys than there is room for
pub reply_small : (p : Placement) (c : Option Command) → OnBoard p → rule_of_keys (reply_to p c).1 ≤ 2048 → Small (reply_to p c).0
reply_small p None on k = ground_small Line
reply_small p (Some (Assign file first n board)) on k = change_small (assign_step rule_of_keys console_room p file first n board) k
reply_small p (Some (Clear file first n)) on k = change_small (clear_step rule_of_keys console_room p file first n) k
reply_small p (Some (Find file block)) on k = found_small p file block on
reply_small p (Some (Next file block)) on k = next_small p file block
reply_small p (Some Keys) on k = k

-- five bytes for each byte of the line and for its newline are enough for the reply
pub reply_fits : (p : Placement) (line : List ℕ) → OnBoard p → rule_of_keys (reply_to p (command_in line)).1 ≤ 2048
    → length (reply_text (reply_to p (command_in line)).0) ≤ 5 * length line + 5
reply_fits p line on k = go (command_in line) refl k
  where
    keys_fit : (c : Command) → c ≡ Keys → rule_of_keys (reply_to p (Some c)).1 ≤ 2048 → length (reply_text (reply_to p (Some c)).0) ≤ 10
    keys_fit c e h =
        subst (λ d. length (reply_text (reply_to p (Some d)).0) ≤ 10) (sym e) (keys_short (rule_of_keys p) (subst (λ d. rule_of_keys (reply_to p (Some d)).1 ≤ 2048) e h))

    go : (o : Option Command) → command_in line ≡ o → rule_of_keys (reply_to p o).1 ≤ 2048 → length (reply_text (reply_to p o).0) ≤ 5 * length line + 5
    go None e h = omega (arith, line_short)
    go (Some c) e h = by (line_long line c e)
      where
        by : ((c ≡ Keys) × (1 ≤ length line)) ⊎ (3 ≤ length line) → length (reply_text (reply_to p (Some c)).0) ≤ 5 * length line + 5
        by (inl (k, l)) = omega (arith, keys_fit c k h, l)
        by (inr l) = omega (arith, reply_short (reply_to p (Some c)).0 (reply_small p (Some c) on h), l)
