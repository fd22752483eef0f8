-- What requests ask, and what they have been told.
use Rattle.std.specs.Prelude.{List, map, vec_items}
use Rattle.calls.specs.declared.Call.{Call}
use Rattle.ledger.specs.Store.{Ask, Told}
use Rattle.requests.specs.declared.Request.{Request}

-- its call, with the bytes that its buffer brings
abbrev pub asked : Request → Ask
asked r = record { call = r.call; sent = vec_items r.buffer }

-- its answer, with the bytes that its buffer holds
abbrev pub heard : Request → Told
heard r = record { answer = r.answer; buffer = vec_items r.buffer }

-- What a list of requests asks, in order.
abbrev pub asks : List Request → List Ask
asks rs = map asked rs

-- What it has been told.
abbrev pub tells : List Request → List Told
tells rs = map heard rs

-- Its calls alone.
abbrev pub calls_of : List Request → List Call
calls_of rs = map (λ (r : Request). r.call) rs
