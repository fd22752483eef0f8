use Rattle.std.proofs.Common.{◌≡◌, ◌≤◌, ◌∙◌, arith, rules}
use Rattle.lines.specs.Lines.{unread}
use Rattle.replies.proofs.Printing.{Turn, printing_start, printing_fits, printing_next, printing_number, printing_output}
use Rattle.lines.proofs.Steps.{unread_some}
use Rattle.key_rule.specs.Keyed.{placing, rule_of_keys}
use Rattle.key_rule.proofs.Mends.{rule_held}
use Rattle.console.proofs.Turns.{turned}
use Rattle.console.proofs.printing.answer_lines.Given as given
use Rattle.console.proofs.printing.answer_lines.Goals as goal
use Rattle.console.proofs.printing.answer_lines.Goals.{After-as_bytes}

pub loop-line-init : goal.loop-line-init
loop-line-init g c =
    let whole : unread c.into_iter-line-iterator.result ≡ c.args.input.now = search rules in (
      c.requires.full_room,
      printing_start c.args.input.now c.args.output.now (unread c.into_iter-line-iterator.result) (placing (g.T.Table.holding c.args.map.now.table))
          c.requires.fresh whole c.requires.room,
    )

-- the line of a turn is answered
turn : (g : given.Over) (c : goal.After-as_bytes g)
    → Turn (placing (g.T.Table.holding c.loop-line.map.table)) c.in-Some.line.now c.as_bytes.result.now (placing (g.T.Table.holding c.reply_to-reply.new.map.table))
turn g c =
    let after = c.reply_to-reply.new.map in
    let held = rule_held (g.T.Table.holding after.table) after.held in
    let few : rule_of_keys (placing (g.T.Table.holding after.table)) ≤ 2048 =
    omega (arith, held, g.met.T.Table.bounded after.table, c.reply_to-reply.ensures.room, c.loop-line.invariant.0) in
    turned (placing (g.T.Table.holding c.loop-line.map.table)) (placing (g.T.Table.holding after.table)) c.in-Some.line.now
    c.reply_to-reply.result (c.reply_to-reply.ensures.step c.loop-line.invariant.0) c.loop-line.map.held.small few
    c.as_bytes.result.now (c.as_bytes.ensures.value ∙ c.deref.ensures.0 ∙ c.text_of-text.ensures)

pub put-printed-requires : goal.put-printed-requires
put-printed-requires g c =
    let s = c.in-Some.ensures.steps in
    printing_fits c.args.input.now c.args.output.now (placing (g.T.Table.holding c.loop-line.map.table)) c.loop-line.output c.loop-line.printed
    (unread c.loop-line.line-iterator) c.loop-line.invariant.1 (unread_some c.loop-line.line-iterator s.0) c.in-Some.line.now s.1
    c.as_bytes.result.now (placing (g.T.Table.holding c.reply_to-reply.new.map.table)) (turn g c)

pub loop-line-preserved : goal.loop-line-preserved
loop-line-preserved g c =
    let s = c.in-Some.ensures.steps in (
      c.reply_to-reply.ensures.room ∙ c.loop-line.invariant.0,
      printing_next c.args.input.now c.args.output.now (placing (g.T.Table.holding c.loop-line.map.table)) c.loop-line.output c.loop-line.printed
          (unread c.loop-line.line-iterator) c.loop-line.invariant.1 (unread_some c.loop-line.line-iterator s.0) c.in-Some.line.now s.1
          c.as_bytes.result.now (placing (g.T.Table.holding c.reply_to-reply.new.map.table)) (turn g (goal.at.loop-line-preserved g c).After-as_bytes)
          (unread c.next.new.self) s.2 c.put-printed.new.buffer c.put-printed.ensures.after c.put-printed.result c.put-printed.ensures.end,
    )

pub returns : goal.returns
returns g c =
    let e = c.in-None.ensures.steps in
    record {
      number = printing_number c.args.input.now c.args.output.now (placing (g.T.Table.holding c.loop-line.map.table)) c.loop-line.output c.loop-line.printed
          (unread c.loop-line.line-iterator) c.loop-line.invariant.1 e;
      output = printing_output c.args.input.now c.args.output.now (placing (g.T.Table.holding c.loop-line.map.table)) c.loop-line.output c.loop-line.printed
          (unread c.loop-line.line-iterator) c.loop-line.invariant.1 e;
    }
