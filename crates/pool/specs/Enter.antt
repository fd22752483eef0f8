-- What becomes of a taken block that is to be entered in a map.
use Rattle.std.specs.Prelude.{ℕ, Bool, false, Ok, Err, Result}
use Rattle.faults.specs.declared.Fault.{Fault}
use Rattle.ledger.specs.Store.{put}
use Rattle.pool.specs.declared.Refusal.{Refusal}
use Rattle.pool.specs.declared.Taken.{Taken}

-- By the map's answer, what entering a token answers: its board number, or the token again with the map's fault.
abbrev pub entered : Taken → Result (Unit {0}) Fault → Result ℕ Refusal
entered token (Ok granted) = Ok token.number
entered token (Err fault) = Err (record { token = token; fault = fault })

-- the map's answer in it
abbrev pub map_answer : Result ℕ Refusal → Result (Unit {0}) Fault
map_answer (Ok number) = Ok tt
map_answer (Err refusal) = Err refusal.fault

-- Once the token that came back is handed back: the board number, or the fault alone,
abbrev pub settled_answer : Result ℕ Refusal → Result ℕ Fault
settled_answer (Ok number) = Ok number
settled_answer (Err refusal) = Err refusal.fault

-- and what is taken then.
abbrev pub settled_taken : (ℕ → Bool) → Result ℕ Refusal → ℕ → Bool
settled_taken taken (Ok number) = taken
settled_taken taken (Err refusal) = put taken refusal.token.number false
