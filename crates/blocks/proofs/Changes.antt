-- What a change leaves and what it makes.
use Rattle.std.proofs.Common.{◌≡◌, ℕ, ◌+◌, ◌<◌, ◌≤◌, Bool, true, false, ◌&&◌, eqb, ltb, leb, ◌≢◌, refl}
use Rattle.std.proofs.lemmas.Bool.{eq-eqb, ne_eqb, and_from, and_left, and_right, cond-true, cond-false, le-leb, lt-ltb, lt-leb, le-ltb}
use Rattle.blocks.specs.Blocks.{only, inside, changed}

pub changed_here : {X : Type 0} (h : ℕ → ℕ → X) (file : ℕ) (chosen : ℕ → Bool) (g : ℕ → X) (b : ℕ)
    → chosen b ≡ true → changed h file chosen g file b ≡ g b
changed_here h file chosen g b e =
    cond-true (eqb file file && chosen b) (g b) (h file b) (and_from (eqb file file) (chosen b) (eq-eqb file file refl) e)

pub changed_beside : {X : Type 0} (h : ℕ → ℕ → X) (file : ℕ) (chosen : ℕ → Bool) (g : ℕ → X) (b : ℕ)
    → chosen b ≡ false → changed h file chosen g file b ≡ h file b
changed_beside h file chosen g b e =
    cond-false (eqb file file && chosen b) (g b) (h file b) (and_right (eqb file file) (chosen b) e)

pub changed_elsewhere : {X : Type 0} (h : ℕ → ℕ → X) (file : ℕ) (chosen : ℕ → Bool) (g : ℕ → X) (f b : ℕ)
    → f ≢ file → changed h file chosen g f b ≡ h f b
changed_elsewhere h file chosen g f b d =
    cond-false (eqb f file && chosen b) (g b) (h f b) (and_left (eqb f file) (chosen b) (ne_eqb f file d))

-- ---- which blocks are chosen

pub only_here : (block : ℕ) → only block block ≡ true
only_here block = eq-eqb block block refl

pub only_other : (block b : ℕ) → b ≢ block → only block b ≡ false
only_other block b d = ne_eqb b block d

pub inside_yes : (first n b : ℕ) → first ≤ b → b < first + n → inside first n b ≡ true
inside_yes first n b l h = and_from (leb first b) (ltb b (first + n)) (le-leb first b l) (lt-ltb b (first + n) h)

pub inside_before : (first n b : ℕ) → b < first → inside first n b ≡ false
inside_before first n b l = and_left (leb first b) (ltb b (first + n)) (lt-leb first b l)

pub inside_after : (first n b : ℕ) → first + n ≤ b → inside first n b ≡ false
inside_after first n b l = and_right (leb first b) (ltb b (first + n)) (le-ltb b (first + n) l)
