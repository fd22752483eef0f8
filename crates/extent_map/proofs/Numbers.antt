-- What a granted call says of its numbers.
use Rattle.std.proofs.Common.{◌≡◌, ℕ, ◌+◌, ◌<◌, ◌≤◌, Bool, true, false, nat_lt, cond, Some, None, Ok, Option, Result, sym, refl, ap, is_some, is_ok, arith}
use Rattle.std.proofs.lemmas.Bool.{ltb-false, true≢false}
use Rattle.faults.specs.declared.Fault.{Fault}
use Rattle.faults.specs.declared.Ground.{Ground}
use Rattle.faults.specs.declared.Ground.TheVariants.{File}
use Rattle.maps.specs.declared.extent.Extent.{Extent}
use Rattle.maps.specs.Named.{numbers_in}
use Rattle.maps.specs.Steps.{answer}

pub granted : {X : Type 0} (file block : ℕ) (o : Option Ground) (x y : X) → ◌≡◌ {A = Result X Fault} (Ok y) (answer file block o x) → (None ≡ o) × (y ≡ x)
granted file block None x y e = (refl, cc)
granted file block (Some g) x y e = absurd (true≢false (ap is_ok e))

-- the first ground to refuse a call is that its file is past the last
pub below : (file : ℕ) (o : Option Ground) → None ≡ cond (nat_lt 65535 file) (Some File) o → file < 65536
below file o e = at (nat_lt 65535 file) refl e
  where
    at : (t : Bool) → nat_lt 65535 file ≡ t → None ≡ cond t (Some File) o → file < 65536
    at false i e = let l = ltb-false 65535 file i in omega arith
    at true i e = absurd (true≢false (sym (ap is_some e)))

-- The extent is the one that the call names, and within the numbers of a map.
pub record Granted (file first n : ℕ) (o : Option Ground) (e : Extent) : Type 0 where
  pub free : None ≡ o
  pub same : e.file ≡ file
  pub known : e.file < 65536
  pub some : 0 < n
  pub top : first + n ≤ 65536

pub granted_extent : (file first n : ℕ) (o : Option Ground) (e : Extent)
    → numbers_in (Ok e) ≡ answer file first (cond (nat_lt 65535 file) (Some File) o) (file, first, n)
    → Granted file first n (cond (nat_lt 65535 file) (Some File) o) e
granted_extent file first n o e is =
    let a = granted {X = ℕ × ℕ × ℕ} file first _ (file, first, n) (e.file, e.first, e.n) is in
    let f : e.file ≡ file = ap (λ (p : ℕ × ℕ × ℕ). p.0) a.1 in
    let x : e.first ≡ first = ap (λ (p : ℕ × ℕ × ℕ). p.1) a.1 in
    let k : e.n ≡ n = ap (λ (p : ℕ × ℕ × ℕ). p.2) a.1 in
    record {
      free = a.0;
      same = f;
      known = omega (arith, f, below file o a.0);
      some = omega (arith, k, e.some);
      top = omega (arith, x, k, e.within);
    }
