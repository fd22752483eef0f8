-- A block that is taken and then given back.
use Rattle.std.proofs.Common.{◌≡◌, ℕ, Bool, true, false, Some, Ok, Err, Option, Result, sym, ap, ◌∙◌, ap₂, inl, inr}
use mathlib.Core.Path.{fun_ext}
use Rattle.std.proofs.lemmas.Bool.{cases_eq}
use Rattle.ledger.specs.Free.{free_from}
use Rattle.ledger.specs.Store.{put}
use Rattle.ledger.proofs.Pool.{put_here, put_other}
use Rattle.ledger.proofs.Search.{found_free}
use Rattle.faults.specs.declared.Fault.{Fault}
use Rattle.pool.specs.Enter.{entered, map_answer, settled_answer, settled_taken}
use Rattle.pool.specs.Pool.{number_in, taken_also}
use Rattle.pool.specs.declared.Refusal.{Refusal}
use Rattle.pool.specs.declared.Taken.{Taken}

-- What is taken and given back is free as before.
pub put_back : (t : ℕ → Bool) (p : ℕ) → t p ≡ false → put (put t p true) p false ≡ t
put_back t p e =
    fun_ext (λ i. elim (cases_eq i p) [
      | inl s ↦ put_here (put t p true) p false i s ∙ sym (ap t s ∙ e)
      | inr d ↦ put_other (put t p true) p false i d ∙ put_other t p true i d
    ])

pub handed_back : (t u v : ℕ → Bool) (size goal p : ℕ) → free_from t size goal ≡ Some p → u ≡ taken_also t (free_from t size goal)
    → v ≡ put u p false → v ≡ t
handed_back t u v size goal p e a b =
    b ∙ ap (λ (w : ℕ → Bool). put w p false) (a ∙ ap (taken_also t) e) ∙ put_back t p (found_free t size goal p e).1

-- ---- a block that is taken and then entered

-- the place or the map's fault, and what is taken then
abbrev pub Settled : Type 0
Settled = Result ℕ Fault × (ℕ → Bool)

-- by what the map answers
abbrev pub by_answer : (ℕ → Bool) → ℕ → Result (Unit {0}) Fault → Settled
by_answer t p (Ok _) = (Ok p, put t p true)
by_answer t p (Err f) = (Err f, t)

settling : (t : ℕ → Bool) (token : Taken) (er : Result ℕ Refusal) → t token.number ≡ false → er ≡ entered token (map_answer er)
    → ◌≡◌ {A = Settled} (settled_answer er, settled_taken (put t token.number true) er) (by_answer t token.number (map_answer er))
settling t token (Ok n) f h =
    let s : n ≡ token.number = cc in
    ap (λ (k : ℕ). let w : Settled = (Ok k, put t token.number true) in w) s
settling t token (Err r) f h =
    let s : r.token ≡ token = cc in
    let e : put (put t token.number true) r.token.number false ≡ t =
    ap (λ (k : Taken). put (put t token.number true) k.number false) s ∙ put_back t token.number f in
    ap (λ (u : ℕ → Bool). let w : Settled = (Err r.fault, u) in w) e

-- A token is of the block that was free. Entered and settled, it comes to what the map's answer says.
pub taken_and_settled : (t t1 t2 : ℕ → Bool) (size from : ℕ) (o : Option Taken) (token : Taken) (er : Result ℕ Refusal) (ans : Result ℕ Fault)
    → number_in o ≡ free_from t size from → o ≡ Some token → t1 ≡ taken_also t (free_from t size from)
    → er ≡ entered token (map_answer er) → ans ≡ settled_answer er → t2 ≡ settled_taken t1 er
    → (free_from t size from ≡ Some token.number) × ◌≡◌ {A = Settled} (ans, t2) (by_answer t token.number (map_answer er))
taken_and_settled t t1 t2 size from o token er ans f is a h an b =
    let e : free_from t size from ≡ Some token.number = sym f ∙ ap number_in is in
    let u : t1 ≡ put t token.number true = a ∙ ap (taken_also t) e in
    let v : t2 ≡ settled_taken (put t token.number true) er = b ∙ ap (λ (w : ℕ → Bool). settled_taken w er) u in (
      e,
      ap₂ (λ (x : Result ℕ Fault) (y : ℕ → Bool). let w : Settled = (x, y) in w) an v ∙ settling t token er (found_free t size from token.number e).1 h,
    )
