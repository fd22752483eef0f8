-- The map never calls for more keys than there is room for.
use Rattle.std.proofs.Common.{◌≡◌, ℕ, ◌≤◌, Bool, true, false, cond, eqb, List, [], ◌∷◌, length, Some, None, Ok, Err, Option, Result, refl, arith}
use Rattle.std.proofs.lemmas.Bool.{ltb-false}
use Rattle.blocks.specs.Blocks.{Contents, only, inside, every, changed}
use Rattle.blocks.proofs.Sums.{tally_none}
use Rattle.faults.specs.declared.Ground.{Ground}
use Rattle.calls.specs.declared.Call.{Call}
use Rattle.calls.specs.declared.Call.TheVariants.{Write, Read, Clear, Remove, Demote}
use Rattle.calls.specs.declared.StoreFault.{StoreFault}
use Rattle.calls.specs.declared.Written.TheVariants.{Lower, Board}
use Rattle.ledger.specs.Keys.{KeyRule, KeysFit}
use Rattle.ledger.specs.Store.{Shape, State, Ask, map_full, unless, overfull, if_granted, bad_write, takes, writes, free_for, wrote, placed, vacated, bad_clear, cleared, file_answer, state_after, next, final}

module _ (sh : Shape) (rules : KeyRule sh.rule) (s : State) (fits : sh.rule s.place ≤ sh.keys) where
  fits_write : (file block mark : ℕ) (sent : List ℕ) → sh.rule (state_after sh s (Write file block mark) sent).place ≤ sh.keys
  fits_write file block mark sent = admitted (bad_write sh file block mark (length sent))
    where
      roomy : (p : ℕ) (v : Bool) → overfull sh (changed s.place file (only block) (λ _. Some p)) ≡ v
          → sh.rule (if_granted (cond v (Err (map_full file block)) (Ok (Board p true))) s (wrote s file block sent)).place ≤ sh.keys
      roomy p true e = fits
      roomy p false e = ltb-false sh.keys (sh.rule (changed s.place file (only block) (λ _. Some p))) e

      free : (o : Option ℕ) → sh.rule (if_granted (takes sh s.place file block o) s (wrote s file block sent)).place ≤ sh.keys
      free None = fits
      free (Some p) = roomy p (overfull sh (changed s.place file (only block) (λ _. Some p))) refl

      marked : (v : Bool)
          → sh.rule (if_granted (cond v (Ok Lower) (takes sh s.place file block (free_for sh s file block))) s (wrote s file block sent)).place ≤ sh.keys
      marked true = fits
      marked false = free (free_for sh s file block)

      mapped : (o : Option ℕ)
          → sh.rule (if_granted (writes sh s.place file block mark (free_for sh s file block) o) s (wrote s file block sent)).place ≤ sh.keys
      mapped (Some p) = fits
      mapped None = marked (eqb mark 0)

      admitted : (o : Option Ground)
          → sh.rule (if_granted (unless o file block (writes sh s.place file block mark (free_for sh s file block) (s.place file block))) s (wrote s file block sent)).place
          ≤ sh.keys
      admitted (Some g) = fits
      admitted None = mapped (s.place file block)

  fits_clear : (file first n : ℕ) (sent : List ℕ) → sh.rule (state_after sh s (Clear file first n) sent).place ≤ sh.keys
  fits_clear file first n sent = admitted (bad_clear sh file first n) (overfull sh (changed s.place file (inside first n) (λ _. None))) refl
    where
      admitted : (o : Option Ground) (v : Bool) → overfull sh (changed s.place file (inside first n) (λ _. None)) ≡ v
          → sh.rule (if_granted (unless o file first (cond v (Err (map_full file first)) (Ok (placed (s.place file) (inside first n) sh.width)))) s
          (λ _. cleared sh s file first n)).place ≤ sh.keys
      admitted (Some g) v e = fits
      admitted None true e = fits
      admitted None false e = ltb-false sh.keys (sh.rule (changed s.place file (inside first n) (λ _. None))) e

  fits_file : (file : ℕ) (low : Contents) (r : Result ℕ StoreFault) → sh.rule (if_granted r s (λ _. vacated sh s file every low)).place ≤ sh.keys
  fits_file file low (Ok k) = omega (arith, rules.forgets s.place file)
  fits_file file low (Err f) = fits

  pub fits_next : (q : Ask) → sh.rule (next sh s q).place ≤ sh.keys
  fits_next q = of q.call q.sent
    where
      of : (c : Call) (sent : List ℕ) → sh.rule (state_after sh s c sent).place ≤ sh.keys
      of (Write file block mark) sent = fits_write file block mark sent
      of (Read file block) sent = fits
      of (Clear file first n) sent = fits_clear file first n sent
      of (Remove file) sent = fits_file file _ (file_answer sh s file)
      of (Demote file) sent = fits_file file _ (file_answer sh s file)

pub fits_final : (sh : Shape) → KeyRule sh.rule → (s : State) → sh.rule s.place ≤ sh.keys → (qs : List Ask) → sh.rule (final sh s qs).place ≤ sh.keys
fits_final sh rules s fits [] = fits
fits_final sh rules s fits (q ∷ qs) = fits_final sh rules (next sh s q) (fits_next sh rules s fits q) qs

pub keys_fit : KeysFit
keys_fit sh rules s new qs =
    fits_final sh rules s (let none = tally_none s.place new.unplaced in let most = rules.most s.place in omega arith) qs
