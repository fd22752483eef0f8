use Rattle.std.proofs.Common.{rules, arith, sym, subst}
use Rattle.extents.proofs.Calls.{key_past}
use Rattle.paths.proofs.Walk.{At, at_start, at_next, first_key, found_key, no_key}
use Rattle.paths.proofs.path_key.Goals as goal

pub returns-in_default : goal.returns-in_default
returns-in_default c = search (rules, key_past)

pub returns-then-k-eq0 : goal.returns-then-k-eq0
returns-then-k-eq0 c = search (rules, first_key)

pub loop-start-init : goal.loop-start-init
loop-start-init c = (
  omega (arith, c.if-k-eq0.false),
  subst (At c.in-Ok.first 1) (sym c.into_iter-start-iterator.ensures.into_iter_gives)
      (at_next c.next.result (at_start c.of-path.ensures) c.next.ensures.steps),
)

pub returns-then-i-k : goal.returns-then-i-k
returns-then-i-k c =
    let h = found_key (omega arith) c.loop-start.invariant.1 c.in-Some.ensures.steps c.if-i-k.true in
    search rules

pub overflow_add-i : goal.overflow_add-i
overflow_add-i c = let h = c.loop-start.invariant.0 in search rules

pub loop-start-preserved : goal.loop-start-preserved
loop-start-preserved c = (
  let h = c.loop-start.invariant.0 in omega (arith, c.if-i-k.false),
  at_next c.next-in-loop-start.result c.loop-start.invariant.1 c.next-in-loop-start.ensures.steps,
)

pub returns : goal.returns
returns c =
    let h = no_key (omega arith) c.loop-start.invariant.1 c.in-None.ensures.steps.0 c.loop-start.invariant.0 in
    search rules
