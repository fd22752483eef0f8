-- Counts that grow block by block and line by line.
use Rattle.std.proofs.Common.{◌≡◌, ℕ, zero, suc, ◌+◌, ◌-◌, ◌*◌, ◌^◌, ◌<◌, ◌≤◌, max, Bool, true, false, eqb, ◌⊎◌, List, [], ◌∷◌, ◌++◌, length, Some, None, Ok, Err, Option, Result, unwrap_or, sym, refl, ap, ◌∙◌, subst, inl, inr, add-one, arith}
use Rattle.std.proofs.lemmas.Bool.{cases_lt, eq-eqb}
use Rattle.std.proofs.lemmas.Bool.Decides.{nat_tests}
use Rattle.std.specs.Int.{from_bool}
use Rattle.std.specs.Option.{option_eq}
use Rattle.blocks.specs.Blocks.{one}
use Rattle.blocks.proofs.Sums.{one_le, count_full}
use Rattle.extents.specs.Extents.{KeyTable, lookup, tried}
use Rattle.extents.specs.Runs.{run_map, ground_of_run, piece, walk, table_of}
use Rattle.extents.proofs.Greed.{walk_done, walk_more}
use Rattle.extents.proofs.OneRun.{run_here, run_keys, run_reads}
use Rattle.faults.specs.declared.Ground.{Ground}
use Rattle.lines.specs.Lines.{before, behind, fields, lines}
use Rattle.lines.proofs.Steps.{rest_shorter, lines_none, lines_more}
use Rattle.planning.specs.declared.summary.Run.{Run}
use Rattle.planning.specs.declared.summary.Summary.{Summary}
use Rattle.planning.specs.Plans.{is_at, right_in, most_tried, Room, run_in_line, admitted, asked, outcome, keys_of, line_text, lines_text, counted, nothing, counted_from, summary_of}
use Rattle.planning.proofs.Texts.{lines_next, lines_done}

-- what is counted of the first i blocks
pub record Back (t : KeyTable) (first p i right most : ℕ) : Type 0 where
  pub right_is : right ≡ right_in t first p i
  pub most_is : most ≡ most_tried t first i
  pub few : right ≤ i

pub back_start : (t : KeyTable) (first p : ℕ) → Back t first p 0 0 0
unfolding most_tried
back_start t first p = record { right_is = refl; most_is = refl; few = omega arith }

pub back_next : (t : KeyTable) (first p i right most more try : ℕ) → Back t first p i right most
    → more ≡ one (is_at (lookup t (first + i)) (p + i)) → try ≡ tried t (first + i) → Back t first p (i + 1) (right + more) (max most try)
unfolding most_tried
back_next t first p i right most more try h e f =
    let r = h.right_is in
    let m = h.most_is in
    let l = h.few in
    let o = one_le (is_at (lookup t (first + i)) (p + i)) in
    let n : right_in t first p (i + 1) ≡ one (is_at (lookup t (first + i)) (p + i)) + right_in t first p i = ap (right_in t first p) (add-one i) in
    let q : most_tried t first (i + 1) ≡ max (most_tried t first i) (tried t (first + i)) = ap (most_tried t first) (add-one i) in
    record { right_is = omega arith; most_is = (cc); few = omega arith }

-- what a block adds to those that were right
pub right_more : (o : Option ℕ) (p : ℕ) → from_bool (option_eq eqb o (Some p)) ≡ one (is_at o p)
right_more None p = refl
right_more (Some q) p = at (eqb q p)
  where
    at : (b : Bool) → from_bool b ≡ one b
    at true = refl
    at false = refl

-- ---- runs that are planned

-- what is known of a run that no ground refuses
pub ground_none : (first n p : ℕ) → ground_of_run first n p ≡ None → (first + n ≤ 65536) × (n ≤ 4096) × (p + n ≤ 4096)
ground_none first n p e = grind (arith, nat_tests)

walk_zero : (x r p : ℕ) → walk 0 x r p ≡ []
unfolding walk
walk_zero x r p = refl

-- a walk gives no more keys than it has steps
pub walk_few : (n x r p : ℕ) → length (walk n x r p) ≤ n
walk_few zero x r p = omega (arith, ap length (walk_zero x r p))
walk_few (suc n) x r p = at (cases_lt x r) (walk_few n (x + piece x r) r (p + piece x r))
  where
    at : (x < r) ⊎ (r ≤ x) → length (walk n (x + piece x r) r (p + piece x r)) ≤ n → length (walk (suc n) x r p) ≤ suc n
    at (inl l) h = omega (arith, ap length (walk_more n x r p l))
    at (inr l) h = omega (arith, ap length (walk_done (suc n) x r p l))

-- every block of a run reads back right over its keys
pub all_right : (run : Run) → right_in (table_of (keys_of run)) run.first run.board run.blocks ≡ run.blocks
all_right run = count_full run.blocks (λ i. is_at (lookup (table_of (keys_of run)) (run.first + i)) (run.board + i)) (λ i l.
    let first = run.first in
    let here : run_map run.first run.blocks run.board (run.first + i) ≡ Some (run.board + ((run.first + i) - run.first)) =
    run_here run.first run.blocks run.board (run.first + i) (omega arith) (omega arith) in
    let e : run.board + ((run.first + i) - run.first) ≡ run.board + i = omega arith in
    ap (λ o. is_at o (run.board + i))
    (run_reads run.first run.blocks run.board (keys_of run) (run_keys run.first run.blocks run.board) (run.first + i)
    ∙ here ∙ ap Some e)
    ∙ eq-eqb (run.board + i) (run.board + i) refl)

-- ---- a plan under way

-- the counts are in bounds that rise with the lines, and all blocks were right
pub record Bounded (s : Summary) : Type 0 where
  pub planned : s.planned ≤ s.lines
  pub refused : s.refused ≤ s.lines
  pub blocks : s.blocks ≤ 4096 * s.lines
  pub keys : s.keys ≤ 4096 * s.lines
  pub right : s.right ≡ s.blocks

pub bounded_start : Bounded nothing
bounded_start = record { planned = omega arith; refused = omega arith; blocks = omega arith; keys = omega arith; right = refl }

pub bounded_room : (s : Summary) → Bounded s → s.lines < 2 ^ 32 → Room s
bounded_room s b l =
    let r = b.right in
    let k = b.blocks in
    record { lines = l; planned = b.planned; refused = b.refused; blocks = b.blocks; keys = b.keys; right = omega arith }

bounded_next : (s : Summary) (o : Option Run) → Bounded s → Bounded (counted s (asked o))
bounded_next s None b =
    let p = b.planned in
    let r = b.refused in
    let k = b.blocks in
    let y = b.keys in
    record { planned = omega arith; refused = omega arith; blocks = omega arith; keys = omega arith; right = b.right }
bounded_next s (Some run) b = at (ground_of_run run.first run.blocks run.board) refl
  where
    p : s.planned ≤ s.lines
    p = b.planned

    r : s.refused ≤ s.lines
    r = b.refused

    k : s.blocks ≤ 4096 * s.lines
    k = b.blocks

    y : s.keys ≤ 4096 * s.lines
    y = b.keys

    at : (g : Option Ground) → ground_of_run run.first run.blocks run.board ≡ g → Bounded (counted s (admitted g run))
    at None e =
        let small = (ground_none run.first run.blocks run.board e).1 in
        let w = walk_few run.blocks run.first (run.first + run.blocks) run.board in
        record {
          planned = omega (arith, p);
          refused = omega (arith, r);
          blocks = omega (arith, k);
          keys = omega (arith, y);
          right = let q = b.right in let a = all_right run in omega arith;
        }
    at (Some g) e = record { planned = omega (arith, p); refused = omega (arith, r); blocks = omega (arith, k); keys = omega (arith, y); right = b.right }

pub bounded_all : (s : Summary) (ls : List (List ℕ)) → Bounded s → Bounded (counted_from s ls)
unfolding counted_from
bounded_all s [] b = b
bounded_all s (l ∷ ls) b = bounded_all (counted s (outcome l)) ls (bounded_next s (run_in_line (fields 3 (Some l))) b)

-- every block of every run that is planned is right
pub all_lines_right : (ls : List (List ℕ)) → (summary_of ls).right ≡ (summary_of ls).blocks
all_lines_right ls = (bounded_all nothing ls bounded_start).right

-- the text and the counts so far, and what the lines that are left add to them, are the whole
pub record Planning (input text : List ℕ) (counts : Summary) (rest : List ℕ) : Type 0 where
  pub texts : text ++ lines_text (lines rest) ≡ lines_text (lines input)
  pub counts_are : counted_from counts (lines rest) ≡ summary_of (lines input)
  pub bounded : Bounded counts
  pub few : counts.lines + length rest ≤ length input
  pub short : length input < 2 ^ 32

pub planning_start : (input text rest : List ℕ) (counts : Summary) → length input < 2 ^ 32 → text ≡ [] → rest ≡ input → counts ≡ nothing → Planning input text counts rest
planning_start input text rest counts short t r c = record {
  texts = ap (λ x. x ++ lines_text (lines rest)) t ∙ ap (λ x. lines_text (lines x)) r;
  counts_are = ap (λ x. counted_from x (lines rest)) c ∙ ap (λ x. summary_of (lines x)) r;
  bounded = subst Bounded (sym c) bounded_start;
  few = let a = ap (λ s. s.lines) c in let b = ap length r in omega arith;
  short = short;
}

module _ (input text : List ℕ) (counts : Summary) (rest : List ℕ) (h : Planning input text counts rest) where
  pub planning_room : 0 < length rest → Room counts
  planning_room l = let f = h.few in let s = h.short in bounded_room counts h.bounded (omega arith)

  pub planning_next : (line rest' text' : List ℕ) (counts' : Summary) → 0 < length rest → line ≡ before 10 rest → rest' ≡ unwrap_or (behind 10 rest) []
      → text' ≡ text ++ line_text (outcome line) → counts' ≡ counted counts (outcome line) → Planning input text' counts' rest'
  unfolding counted_from
  planning_next line rest' text' counts' l e r t c =
      let split : lines rest ≡ line ∷ lines rest' =
      lines_more rest l ∙ ap (λ x. x ∷ lines (unwrap_or (behind 10 rest) [])) (sym e) ∙ ap (λ x. line ∷ lines x) (sym r) in
      record {
        texts = lines_next line (lines rest') text text' (lines_text (lines input)) t (ap (λ x. text ++ lines_text x) (sym split) ∙ h.texts);
        counts_are = ap (λ x. counted_from x (lines rest')) c ∙ sym (ap (counted_from counts) split) ∙ h.counts_are;
        bounded = subst Bounded (sym c) (bounded_next counts (run_in_line (fields 3 (Some line))) h.bounded);
        few = let f = h.few in let s = rest_shorter rest l in let z = ap length r in let n = one_line counts (outcome line) in let m = ap (λ x. x.lines) c in omega arith;
        short = h.short;
      }
    where
      one_line : (s : Summary) (o : Result Run Ground) → (counted s o).lines ≡ s.lines + 1
      one_line s (Ok run) = refl
      one_line s (Err g) = refl

  pub planning_text : rest ≡ [] → text ≡ lines_text (lines input)
  planning_text e = lines_done text (lines_text (lines input)) (ap (λ x. text ++ lines_text x) (sym lines_none ∙ ap lines (sym e)) ∙ h.texts)

  pub planning_counts : rest ≡ [] → counts ≡ summary_of (lines input)
  unfolding counted_from
  planning_counts e = ap (counted_from counts) (sym lines_none ∙ ap lines (sym e)) ∙ h.counts_are
