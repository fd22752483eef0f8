-- One block taken and entered, and then another.
use Rattle.std.proofs.Common.{◌≡◌, ℕ, Bool, Some, None, Ok, Err, Option, Result, sym, refl, ap, ◌∙◌}
use Rattle.std.specs.Result.{result_ok}
use Rattle.faults.specs.declared.Fault.{Fault}
use Rattle.blocks.specs.Blocks.{Placement}
use Rattle.ledger.specs.Free.{free_from}
use Rattle.maps.specs.Steps.{Outcome, assign_step}
use Rattle.pool.specs.Enter.{entered, map_answer, settled_answer, settled_taken}
use Rattle.pool.specs.Pool.{board_size, number_in, taken_also}
use Rattle.pool.proofs.Tokens.{Settled, by_answer, taken_and_settled}
use Rattle.pool.specs.declared.Refusal.{Refusal}
use Rattle.pool.specs.declared.Taken.{Taken}
use Rattle.pool_calls.specs.Two.{Told, if_entered, entering, enter_one, if_first, two_entered}

-- what is told of the place or the map's fault
tell : Settled → Placement → Told
tell w q = (result_ok w.0, w.1, q)

tell_answer : (t : ℕ → Bool) (p : ℕ) (out : Outcome) → ◌≡◌ {A = Told} (tell (by_answer t p out.0) out.1) (if_entered out.0 p t out.1)
unfolding tell
tell_answer t p (Ok u, q) = refl
tell_answer t p (Err f, q) = refl

pub entered_one : (rule : Placement → ℕ) (room size file block : ℕ) (t t1 t2 : ℕ → Bool) (pl q : Placement) (o : Option Taken) (token : Taken) (er : Result ℕ Refusal)
    (ans : Result ℕ Fault) (told : Option ℕ)
    → number_in o ≡ free_from t (board_size size) block → o ≡ Some token → t1 ≡ taken_also t (free_from t (board_size size) block)
    → er ≡ entered token (map_answer er) → ◌≡◌ {A = Outcome} (map_answer er, q) (assign_step rule room pl file block 1 token.number)
    → ans ≡ settled_answer er → t2 ≡ settled_taken t1 er → told ≡ result_ok ans
    → ◌≡◌ {A = Told} (told, t2, q) (enter_one rule room size file block t pl)
unfolding tell
entered_one rule room size file block t t1 t2 pl q o token er ans told f is a h s an b l =
    let p = token.number in
    let z = taken_and_settled t t1 t2 (board_size size) block o token er ans f is a h an b in
    ap (λ (x : Option ℕ). let w : Told = (x, t2, q) in w) l
    ∙ ap (λ (w : Settled). tell w q) z.1
    ∙ ap (λ (out : Outcome). tell (by_answer t p out.0) out.1) s
    ∙ tell_answer t p (assign_step rule room pl file block 1 p)
    ∙ sym (ap (entering rule room file block t pl) z.0)

-- the second is not tried where the first has no place,
pub stops : (rule : Placement → ℕ) (room size file block other : ℕ) (t t2 : ℕ → Bool) (pl q : Placement) (told : Option ℕ)
    → ◌≡◌ {A = Told} (told, t2, q) (enter_one rule room size file block t pl) → told ≡ None
    → ◌≡◌ {A = Told} (None, t2, q) (two_entered rule room size file block other t pl)
stops rule room size file block other t t2 pl q told e n =
    let f : ◌≡◌ {A = Told} (None, t2, q) (enter_one rule room size file block t pl) =
    ap (λ (x : Option ℕ). let w : Told = (x, t2, q) in w) (sym n) ∙ e in
    ap (λ (w : Told). if_first w.0 w (enter_one rule room size file other w.1 w.2)) f

-- and else it is.
pub goes_on : (rule : Placement → ℕ) (room size file block other : ℕ) (t t2 : ℕ → Bool) (pl q : Placement) (told : Option ℕ) (n : ℕ) (then : Told)
    → ◌≡◌ {A = Told} (told, t2, q) (enter_one rule room size file block t pl) → told ≡ Some n
    → then ≡ enter_one rule room size file other t2 q → then ≡ two_entered rule room size file block other t pl
goes_on rule room size file block other t t2 pl q told n then e s g =
    let f : ◌≡◌ {A = Told} (Some n, t2, q) (enter_one rule room size file block t pl) =
    ap (λ (x : Option ℕ). let w : Told = (x, t2, q) in w) (sym s) ∙ e in
    g ∙ ap (λ (w : Told). if_first w.0 w (enter_one rule room size file other w.1 w.2)) f
