-- What holds as blocks and files are carried one by one.
use Rattle.std.proofs.Common.{◌≡◌, ℕ, ◌+◌, ◌-◌, ◌*◌, ◌^◌, ◌<◌, ◌≤◌, min, Bool, true, false, cond, not, ◌&&◌, eqb, ltb, List, [], ◌∷◌, length, get_or, refl, sym, ap, ◌∙◌, zero, suc, arith}
use Rattle.std.specs.List.{count_by, zip}
use Rattle.std.proofs.lemmas.List.Sums.{sum_by-cons}
use Rattle.std.proofs.lemmas.Slice.Zip.{length-zip}
use Rattle.blocks.specs.Blocks.{Contents, one, sum}
use Rattle.lowers.specs.Lowers.{Holds}
use Rattle.carrying.specs.Carrying.{file_carried, blocks_carried, differing}

-- Below, Fs Ws src and Ft Wt tgt are what source and target meant at the start, fs ws s and ft wt t what they mean now.

-- the blocks below `block` of a file are carried
pub record FileGoing (Fs Ws : ℕ) (src : Contents) (Ft Wt : ℕ) (tgt : Contents)
    (fs ws : ℕ) (s : Contents) (ft wt : ℕ) (t : Contents) (file block carried : ℕ) : Type 0 where
  pub reads : Holds Fs Ws src fs ws s
  pub makes : Holds Ft Wt (file_carried (min Fs Ft) (min Ws Wt) src file block tgt) ft wt t
  pub counts : carried ≡ blocks_carried (min Fs Ft) (min Ws Wt) file block

-- the target has the source's bytes in all blocks of the files below `below`, as far as both sides reach
abbrev pub carried_below : ℕ → ℕ → Contents → ℕ → Contents → Contents
carried_below files width source below target f b = cond (ltb f (min below files) && ltb b width) (source f b) (target f b)

-- the files below `file` are carried
pub record AllGoing (Fs Ws : ℕ) (src : Contents) (Ft Wt : ℕ) (tgt : Contents)
    (fs ws : ℕ) (s : Contents) (ft wt : ℕ) (t : Contents) (file carried refused : ℕ) : Type 0 where
  pub reads : Holds Fs Ws src fs ws s
  pub makes : Holds Ft Wt (carried_below (min Fs Ft) (min Ws Wt) src file tgt) ft wt t
  pub counts : carried ≡ min file (min Fs Ft) * min Ws Wt
  pub adds : carried + refused ≡ file * Ws

-- ---- bytes compared place by place

sum_front : (n : ℕ) (g : ℕ → ℕ) → sum (suc n) g ≡ g 0 + sum n (λ i. g (suc i))
sum_front zero g = refl
sum_front (suc n) g = omega (arith, sum_front n g)

as_one : (v : Bool) → cond v 1 0 ≡ one v
as_one true = refl
as_one false = refl

pub differ_zip : (left right : List ℕ) → count_by (λ p. not (eqb p.0 p.1)) (zip left right) ≡ differing (min (length left) (length right)) left right
differ_zip [] right = ap (λ (n : ℕ). differing n [] right) (let e : 0 ≡ min (length {A = ℕ} []) (length right) = omega arith in e)
differ_zip (x ∷ left) [] = ap (λ (n : ℕ). differing n (x ∷ left) []) (let e : 0 ≡ min (length (x ∷ left)) (length {A = ℕ} []) = omega arith in e)
differ_zip (x ∷ left) (y ∷ right) =
    let n = min (length left) (length right) in
    let front = sum_front n (λ i. one (not (eqb (get_or (x ∷ left) i 0) (get_or (y ∷ right) i 0)))) in
    sum_by-cons (λ p. cond (not (eqb p.0 p.1)) 1 0) (x, y) (zip left right)
    ∙ ap (λ (k : ℕ). k + count_by (λ p. not (eqb p.0 p.1)) (zip left right)) (as_one (not (eqb x y)))
    ∙ ap (λ (k : ℕ). one (not (eqb x y)) + k) (differ_zip left right)
    ∙ sym front
    ∙ ap (λ (k : ℕ). differing k (x ∷ left) (y ∷ right)) (let e : suc n ≡ min (length (x ∷ left)) (length (y ∷ right)) = omega arith in e)

-- there are no more pairs than a length can be
pub few_pairs : (left right : List ℕ) → length left < 2 ^ 64 → length (zip left right) ≤ 2 ^ 64 - 1
few_pairs left right few = omega (arith, few, length-zip left right)
