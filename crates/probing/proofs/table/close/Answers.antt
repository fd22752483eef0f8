use Rattle.std.proofs.Common.{◌≡◌, ℕ, ◌<◌, Option, vec_items, is_some, unwrap_or, sym, ap, ◌∙◌, subst, inl, inr, arith}
use Rattle.tables.specs.declared.row.Row.{Row}
use Rattle.tables.specs.Rows.{blank}
use Rattle.probing.specs.Slots.{used, dist, home_of, Closed}
use Rattle.probing.specs.declared.slots.Slot.{Slot}
use Rattle.probing.proofs.Closing.{Next, turn_moved, turn_stayed, turn_last}
use Rattle.probing.proofs.table.close.Goals as goal

pub returns-in_default-clause-closed : goal.returns-in_default-clause-closed
returns-in_default-clause-closed g c = λ e.
    let t = c.loop-k.invariant.1 in
    let n = c.len-n.result in
    let xs = vec_items c.loop-k.slots.slots in
    let was = vec_items c.args.slots.now.slots in
    let room = c.args.room in
    let home : ℕ → ℕ → ℕ = λ f b. g.S.Spread.place c.args.spread.now f b room in
    let q : n ≡ room = c.len-n.ensures ∙ e in
    subst (λ (m : ℕ). Closed home m was c.args.start xs) q
    (turn_last home n was c.args.start xs c.loop-k.hole c.loop-k.k t
    (λ f b. omega (arith, q, g.met.S.Spread.below c.args.spread.now f b room (omega (arith, t.from))))
    (inr (
      c.onward-place.result,
      c.onward-place.ensures.0,
      c.onward-place.ensures.1,
      sym (ap (λ (s : Slot). used s) c.slot.ensures) ∙ ap (λ (o : Option Row). is_some o) c.in_default.is,
    )))

pub loop-k-preserved-then-distance : goal.loop-k-preserved-then-distance
loop-k-preserved-then-distance g c =
    let n = c.len-n.result in
    let home : ℕ → ℕ → ℕ = λ f b. g.S.Spread.place c.args.spread.now f b c.args.room in
    let begins : home_of home c.slot.result ≡ c.place_of-home.result
    = ap (λ (o : Option Row). home (unwrap_or o blank).file (unwrap_or o blank).block) c.in-Some.is ∙ sym c.place_of-home.ensures in
    let next : Next home n (vec_items c.args.slots.now.slots) c.args.start (vec_items c.loop-k.slots.slots) c.loop-k.hole c.loop-k.k c.onward-place.result c.slot.result
    = record { turn = c.loop-k.invariant.1; j_in = c.onward-place.ensures.0; far = c.onward-place.ensures.1; read = c.slot.ensures; is_used = ap (λ (o : Option Row). is_some o) c.in-Some.is } in (
      c.loop-k.invariant.0,
      turn_stayed home n _ _ _ _ _ _ _ next
          (λ p. let z : dist n c.place_of-home.result c.loop-k.hole < dist n c.place_of-home.result c.onward-place.result
          = subst (λ (h : ℕ). dist n h c.loop-k.hole < dist n h c.onward-place.result) begins p in
          omega (arith, c.distance.ensures, c.distance-in-loop-k.ensures, c.if-distance.true)),
    )

pub loop-k-preserved : goal.loop-k-preserved
loop-k-preserved g c =
    let n = c.len-n.result in
    let home : ℕ → ℕ → ℕ = λ f b. g.S.Spread.place c.args.spread.now f b c.args.room in
    let begins : home_of home c.slot.result ≡ c.place_of-home.result
    = ap (λ (o : Option Row). home (unwrap_or o blank).file (unwrap_or o blank).block) c.in-Some.is ∙ sym c.place_of-home.ensures in
    let next : Next home n (vec_items c.args.slots.now.slots) c.args.start (vec_items c.loop-k.slots.slots) c.loop-k.hole c.loop-k.k c.onward-place.result c.slot.result
    = record { turn = c.loop-k.invariant.1; j_in = c.onward-place.ensures.0; far = c.onward-place.ensures.1; read = c.slot.ensures; is_used = ap (λ (o : Option Row). is_some o) c.in-Some.is } in
    let z : dist n c.place_of-home.result c.loop-k.hole < dist n c.place_of-home.result c.onward-place.result
    = omega (arith, c.distance.ensures, c.distance-in-loop-k.ensures, c.if-distance.false) in
    let moved : record { row = c.take-moved.result } ≡ c.slot.result
    = ap (λ (o : Option Row). record { row = o }) c.take-moved.ensures.value ∙ c.slot_mut.ensures.value ∙ sym c.slot.ensures in (
      c.loop-k.invariant.0,
      turn_moved home n _ _ _ _ _ _ _ _ _ next (subst (λ (h : ℕ). dist n h c.loop-k.hole < dist n h c.onward-place.result) (sym begins) z)
          moved (ap (λ (o : Option Row). record { row = o }) c.take-moved.ensures.after),
    )

pub returns-clause-closed : goal.returns-clause-closed
returns-clause-closed g c = λ e.
    let t = c.loop-k.invariant.1 in
    let n = c.len-n.result in
    let xs = vec_items c.loop-k.slots.slots in
    let was = vec_items c.args.slots.now.slots in
    let room = c.args.room in
    let home : ℕ → ℕ → ℕ = λ f b. g.S.Spread.place c.args.spread.now f b room in
    let q : n ≡ room = c.len-n.ensures ∙ e in
    subst (λ (m : ℕ). Closed home m was c.args.start xs) q
    (turn_last home n was c.args.start xs c.loop-k.hole c.loop-k.k t
    (λ f b. omega (arith, q, g.met.S.Spread.below c.args.spread.now f b room (omega (arith, t.from))))
    (inl c.loop-k-test.false))
