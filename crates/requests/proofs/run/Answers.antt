use Rattle.std.proofs.Common.{◌≡◌, ◌≤◌, length, get_or, refl, ap, ◌∙◌, arith}
use lib.Seq.{map-set_same}
use Rattle.std.proofs.lemmas.List.{with_items_is}
use Rattle.ledger.specs.Store.{answer_to, buffer_after, state_after}
use Rattle.requests.specs.declared.Request.{Request}
use Rattle.requests.proofs.Going.{start, again, all_told, at_end}
use Rattle.requests.proofs.run.Goals as goal

pub loop-request-init : goal.loop-request-init
loop-request-init g c = (start _ _ _, refl)

pub loop-request-preserved : goal.loop-request-preserved
loop-request-preserved g c =
    let rs = c.loop-request.requests in
    let k = c.loop-request.request-index in
    let d = c.request-item.result in
    let x = get_or rs k d in
    let sh = g.S.BlockStore.shape c.loop-request.store in
    let s = g.S.BlockStore.state c.loop-request.store in
    let lent = c.as_mut_slice.ensures in
    let says = c.serve-request.ensures in
    let long : length c.serve-request.new.buffer ≡ x.buffer.len = omega (arith, lent.len, c.serve-request.auto.buffer) in
    let filled = with_items_is x.buffer c.serve-request.new.buffer long in
    let answer = says.answer ∙ ap (answer_to sh s x.call) lent.value in
    let buffer = filled ∙ (says.buffer ∙ ap (buffer_after sh s x.call) lent.value) in (
      again _ _ _ k rs sh s c.loop-request.invariant.0 (omega arith) d _ _ _ (record {
        tells_it = λ j. record { answer = answer j; buffer = buffer j };
        leaves = says.after ∙ ap (state_after sh s x.call) lent.value;
        shape = says.shape;
      }),
      map-set_same (λ (r : Request). r.call) rs k _ d refl ∙ c.loop-request.invariant.1,
    )

pub returns : goal.returns
returns g c =
    let end : length c.loop-request.requests ≤ c.loop-request.request-index = omega arith in
    let going = c.loop-request.invariant.0 in
    record {
      shape = going.shape;
      told = all_told _ _ _ _ _ _ _ going end;
      after = at_end _ _ _ _ _ _ _ going end;
      calls = c.loop-request.invariant.1;
    }
