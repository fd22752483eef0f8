-- Distances between places of n, going round.
use Rattle.std.proofs.Common.{◌≡◌, ℕ, ◌+◌, ◌-◌, ◌<◌, ◌≤◌, arith}
use Rattle.probing.specs.Slots.{dist, onto}

pub dist_lt : (n h x : ℕ) → h < n → x < n → dist n h x < n
dist_lt n h x p q = grind arith

pub dist_inj : (n h x y : ℕ) → h < n → x < n → y < n → dist n h x ≡ dist n h y → x ≡ y
dist_inj n h x y p q r e = grind arith

pub dist_self : (n a : ℕ) → dist n a a ≡ 0
dist_self n a = grind arith

dist_add : (n h a q : ℕ) → h < n → a < n → q < n → dist n h a ≤ dist n h q → dist n h q ≡ dist n h a + dist n a q
dist_add n h a q p r s l = grind arith

dist_sum : (n h a j : ℕ) → h < n → a < n → j < n → dist n h a + dist n a j < n → dist n h j ≡ dist n h a + dist n a j
dist_sum n h a j p r s l = grind arith

dist_round : (n s j x : ℕ) → s < n → j < n → x < n → dist n s j < dist n s x → dist n x j ≡ n - dist n s x + dist n s j
dist_round n s j x p q r l = grind arith

-- Going on from s, first a comes, then j, then q: on a way to q that passes a, j is passed too.
pub between : (n h s a j q : ℕ) → h < n → s < n → a < n → j < n → q < n → dist n s a < dist n s j → dist n s j < dist n s q
    → dist n h a < dist n h q → dist n h j < dist n h q
between n h s a j q hh hs ha hj hq l m o =
    let p1 = dist_add n s a j hs ha hj (omega arith) in
    let p2 = dist_add n s a q hs ha hq (omega arith) in
    let p3 = dist_add n h a q hh ha hq (omega arith) in
    let p4 = dist_lt n h q hh hq in
    let p5 = dist_sum n h a j hh ha hj (omega arith) in
    omega arith

-- Going on from s, first a comes, then j, then x: on a way to j that passes x, a is passed too.
pub around : (n h s a j x : ℕ) → h < n → s < n → a < n → j < n → x < n → dist n s a < dist n s j → dist n s j < dist n s x
    → dist n h x < dist n h j → dist n h a < dist n h j
around n h s a j x hh hs ha hj hx l m o =
    let p1 = dist_add n h x j hh hx hj (omega arith) in
    let p2 = dist_round n s j x hs hj hx m in
    let p3 = dist_round n s a x hs ha hx (omega arith) in
    let p4 = dist_lt n h j hh hj in
    let p5 = dist_sum n h x a hh hx ha (omega arith) in
    omega arith

pub onto_in : (n from k : ℕ) → from < n → k < n → onto n from k < n
onto_in n from k p q = grind arith

pub dist_onto : (n from k : ℕ) → from < n → k < n → dist n from (onto n from k) ≡ k
dist_onto n from k p q = grind arith

pub onto_dist : (n from i : ℕ) → from < n → i < n → onto n from (dist n from i) ≡ i
onto_dist n from i p q = grind arith
