use Rattle.std.proofs.Common.{length, drop, ap, arith, length-append, rules}
use Rattle.replies.specs.Console.{transcript}
use Rattle.console.proofs.print_replies.Goals as goal

pub returns : goal.returns
returns c =
    let text = transcript c.args.input.now in
    let n = c.answer_lines.ensures.number in
    let o = ap length c.answer_lines.ensures.output in
    record {
      answered = search rules;
      inside = omega (arith, length-append text (drop (length text) c.args.output.now));
    }
