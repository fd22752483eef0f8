-- The lines of a text, one after another.
use Rattle.std.proofs.Common.{◌≡◌, ℕ, zero, suc, ◌+◌, ◌<◌, ◌≤◌, List, [], ◌∷◌, length, unwrap_or, refl, ap, arith, length-drop}
use Rattle.lines.specs.declared.LineReader.{LineReader}
use Rattle.lines.specs.Lines.{unread, before, behind, lines_up_to, lines}
use Rattle.lines.proofs.Cuts.{cut_behind}

-- each line takes at least a byte
pub rest_shorter : (bs : List ℕ) → 0 < length bs → length (unwrap_or (behind 10 bs) []) < length bs
rest_shorter bs l = omega (arith, ap length (cut_behind 10 bs), length-drop (length (before 10 bs) + 1) bs)

enough : (n k : ℕ) (bs : List ℕ) → length bs ≤ n → length bs ≤ k → lines_up_to n bs ≡ lines_up_to k bs
unfolding lines_up_to
enough zero zero bs a b = refl
enough zero (suc k) [] a b = refl
enough zero (suc k) (c ∷ cs) a b = absurd (omega arith)
enough (suc n) zero [] a b = refl
enough (suc n) zero (c ∷ cs) a b = absurd (omega arith)
enough (suc n) (suc k) [] a b = refl
enough (suc n) (suc k) (c ∷ cs) a b =
    let s = rest_shorter (c ∷ cs) (omega arith) in
    ap (λ ls. before 10 (c ∷ cs) ∷ ls) (enough n k (unwrap_or (behind 10 (c ∷ cs)) []) (omega arith) (omega arith))

pub lines_none : lines [] ≡ []
unfolding lines_up_to
lines_none = refl

pub lines_more : (bs : List ℕ) → 0 < length bs → lines bs ≡ before 10 bs ∷ lines (unwrap_or (behind 10 bs) [])
unfolding lines_up_to
lines_more [] l = absurd (omega arith)
lines_more (c ∷ cs) l =
    let s = rest_shorter (c ∷ cs) l in
    let rest : List ℕ = unwrap_or (behind 10 (c ∷ cs)) [] in
    ap (λ ls. before 10 (c ∷ cs) ∷ ls) (enough (length cs) (length (unwrap_or (behind 10 (c ∷ cs)) [])) (unwrap_or (behind 10 (c ∷ cs)) []) (omega arith) (omega arith))

-- a reader that has not come to the end has something to read
pub unread_some : (r : LineReader) → r.at < length r.input.now → 0 < length (unread r)
unread_some r l = omega (arith, length-drop r.at r.input.now)
