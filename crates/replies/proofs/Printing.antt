-- Replies that are printed one behind the other, at the front of an output.
use Rattle.std.proofs.Common.{◌≡◌, ℕ, ◌+◌, ◌*◌, ◌<◌, ◌≤◌, List, [], ◌∷◌, ◌++◌, length, take, drop, None, unwrap_or, sym, refl, ap, ◌∙◌, subst, append_assoc, append-nil, arith, length-append, length-drop}
use Rattle.std.proofs.lemmas.Bool.Decides.{nat_tests}
use Rattle.std.proofs.lemmas.List.{take-append-drop, take_at, drop_at, drop-drop, length-take-le}
use Rattle.blocks.specs.Blocks.{Placement}
use Rattle.maps.specs.Steps.{nowhere}
use Rattle.key_rule.specs.Keyed.{rule_of_keys, OnBoard}
use Rattle.lines.specs.Lines.{before, behind, lines}
use Rattle.lines.proofs.Cuts.{before_le, cut_behind}
use Rattle.lines.proofs.Steps.{lines_none, lines_more}
use Rattle.commands.specs.Commands.{command_in, reply_text}
use Rattle.replies.specs.Console.{ground_of_console, reply_to, printed_from, transcript}
use Rattle.replies.proofs.Smalls.{reply_fits}

-- a line and its newline are no longer than what is left to read, and what is left behind them is the rest
pub line_room : (rest : List ℕ) → (length (before 10 rest) ≤ length rest)
    × (0 < length (unwrap_or (behind 10 rest) []) → length (before 10 rest) + 1 + length (unwrap_or (behind 10 rest) []) ≡ length rest)
line_room rest = (before_le 10 rest, λ l. omega (arith, ap length (cut_behind 10 rest), length-drop (length (before 10 rest) + 1) rest))

-- One line is answered: its reply is printed as the text, and the placement becomes q.
pub record Turn (p : Placement) (line text : List ℕ) (q : Placement) : Type 0 where
  pub replied : text ≡ reply_text (reply_to p (command_in line)).0
  pub left : q ≡ (reply_to p (command_in line)).1
  pub on_board : OnBoard p
  pub few : rule_of_keys q ≤ 2048

-- The replies so far stand at the front of the output, and those to the lines that are left make them the whole.
-- What lies behind them is as it was at first, and there is room for what is still to be printed.
pub record Printing (input first : List ℕ) (p : Placement) (output : List ℕ) (printed : ℕ) (rest : List ℕ) : Type 0 where
  pub text : take printed output ++ printed_from p (lines rest) ≡ transcript input
  pub behind_it : drop printed output ≡ drop printed first
  pub few : 0 < length rest → printed + 5 * length rest ≤ 5 * length input
  pub inside : printed ≤ 5 * length input + 5
  pub room : 5 * length input + 5 ≤ length output

pub ground_room : (input output : ℕ) → ground_of_console input output ≡ None → (input ≤ 8192) × (5 * input + 5 ≤ output)
ground_room input output e = (grind (arith, nat_tests), grind (arith, nat_tests))

pub printing_start : (input output rest : List ℕ) (p : Placement) → p ≡ nowhere → rest ≡ input → ground_of_console (length input) (length output) ≡ None
    → Printing input output p output 0 rest
printing_start input output rest p e r g = record {
  text = ap (λ x. printed_from p (lines x)) r ∙ ap (λ x. printed_from x (lines input)) e;
  behind_it = refl;
  few = λ l. let n = ap length r in omega arith;
  inside = omega arith;
  room = (ground_room (length input) (length output) g).1;
}

module _ (input first : List ℕ) (p : Placement) (output : List ℕ) (printed : ℕ) (rest : List ℕ) (h : Printing input first p output printed rest)
    (l : 0 < length rest) (line : List ℕ) (e : line ≡ before 10 rest) (text : List ℕ) (q : Placement) (t : Turn p line text q) where
  -- a reply is no longer than five bytes for each byte of its line and five more
  turn_fits : length text ≤ 5 * length line + 5
  turn_fits = let m = ap length t.replied in let s = reply_fits p line t.on_board (subst (λ x. rule_of_keys x ≤ 2048) t.left t.few) in omega arith

  -- so there is room for it
  pub printing_fits : printed + length text ≤ length output
  printing_fits = let f = h.few l in let o = h.room in let r = (line_room rest).0 in let n = ap length e in let s = turn_fits in omega arith

  pub printing_next : (rest' : List ℕ) → rest' ≡ unwrap_or (behind 10 rest) []
      → (output' : List ℕ) → output' ≡ take printed output ++ (text ++ drop (printed + length text) output)
      → (printed' : ℕ) → printed' ≡ printed + length text → Printing input first q output' printed' rest'
  unfolding printed_from
  printing_next rest' r output' o printed' n =
      let fits = printing_fits in
      let room = h.room in
      let front : length (take printed output ++ text) ≡ printed' =
      length-append (take printed output) text ∙ ap (λ x. x + length text) (length-take-le printed output (omega arith)) ∙ sym n in
      let whole : output' ≡ (take printed output ++ text) ++ drop printed' output =
      o ∙ ap (λ x. take printed output ++ (text ++ drop x output)) (sym n) ∙ sym (append_assoc (take printed output) text (drop printed' output)) in
      let split : lines rest ≡ line ∷ lines rest' =
      lines_more rest l ∙ ap (λ x. x ∷ lines (unwrap_or (behind 10 rest) [])) (sym e) ∙ ap (λ x. line ∷ lines x) (sym r) in
      let f = h.few l in
      let a = ap length e in
      let s = turn_fits in
      let b = (line_room rest).0 in
      record {
        text =
            ap (λ x. take printed' x ++ printed_from q (lines rest')) whole
            ∙ ap (λ x. x ++ printed_from q (lines rest')) (take_at (take printed output ++ text) (drop printed' output) printed' front)
            ∙ append_assoc (take printed output) text (printed_from q (lines rest'))
            ∙ ap (λ x. take printed output ++ (x ++ printed_from q (lines rest'))) t.replied
            ∙ ap (λ x. take printed output ++ (reply_text (reply_to p (command_in line)).0 ++ printed_from x (lines rest'))) t.left
            ∙ sym (ap (λ x. take printed output ++ printed_from p x) split)
            ∙ h.text;
        behind_it =
            ap (drop printed') whole ∙ drop_at (take printed output ++ text) (drop printed' output) printed' front
            ∙ ap (λ x. drop x output) n ∙ sym (drop-drop (length text) printed output) ∙ ap (drop (length text)) h.behind_it
            ∙ drop-drop (length text) printed first ∙ sym (ap (λ x. drop x first) n);
        few = λ z.
            let m = ap length r in
            let some : 0 < length (unwrap_or (behind 10 rest) []) = omega arith in
            let d = (line_room rest).1 some in
            omega arith;
        inside = omega arith;
        room =
            let m = ap length whole in
            let d = length-append (take printed output ++ text) (drop printed' output) in
            let k = length-drop printed' output in
            omega arith;
      }

module _ (input first : List ℕ) (p : Placement) (output : List ℕ) (printed : ℕ) (rest : List ℕ) (h : Printing input first p output printed rest) (e : rest ≡ []) where
  printed_text : take printed output ≡ transcript input
  unfolding printed_from
  printed_text =
      sym (append-nil (take printed output)) ∙ ap (λ x. take printed output ++ printed_from p x) (sym lines_none ∙ ap lines (sym e)) ∙ h.text

  pub printing_number : printed ≡ length (transcript input)
  printing_number = let r = h.room in let i = h.inside in sym (length-take-le printed output (omega arith)) ∙ ap length printed_text

  pub printing_output : output ≡ transcript input ++ drop (length (transcript input)) first
  printing_output =
      sym (take-append-drop printed output) ∙ ap (λ x. x ++ drop printed output) printed_text
      ∙ ap (λ x. transcript input ++ x) h.behind_it ∙ ap (λ x. transcript input ++ drop x first) printing_number
