use Rattle.std.proofs.Common.{ℕ, ◌-◌, ◌*◌, Some, None, ap, ◌∙◌, arith}
use Rattle.ledger.specs.Free.{first_free}
use Rattle.block_set.specs.Members.{member}
use Rattle.block_set.proofs.Rows.{Word, in_word, told, found_none, joined}
use Rattle.block_set.proofs.BlockSet.first_absent.Goals as goal
use Rattle.block_set.proofs.BlockSet.first_absent.Goals.{In-Some}

-- what the word has shown, where one of its bits is zero
seen : (c : In-Some) → Word c.args.self.now.words c.loop-word.word c.max-next.result (Some c.in-Some.bit)
seen c = in_word c.args.self.now.words c.loop-word.word c.max-next.result (Some c.in-Some.bit) (omega arith) c.in-Some.ensures

pub overflow_add-number : goal.overflow_add-number
overflow_add-number c = let w = seen (goal.at.overflow_add-number c).In-Some in omega (arith, w.0)

pub returns-in-Some : goal.returns-in-Some
returns-in-Some c =
    let w = seen (goal.at.returns-in-Some c).In-Some in
    c.then_some.ensures
    ∙ told c.args.self.now.words c.args.from c.min-limit.result c.loop-word.word c.max-next.result c.in-Some.bit c.max-next.ensures c.loop-word.invariant w
    ∙ ap (λ (n : ℕ). first_free (member c.args.self.now) c.args.from (n - c.args.from)) c.min-limit.ensures

pub loop-word-preserved : goal.loop-word-preserved
loop-word-preserved c =
    let w : Word c.args.self.now.words c.loop-word.word c.max-next.result None =
    in_word c.args.self.now.words c.loop-word.word c.max-next.result None (omega arith) c.in_default.ensures in
    joined (member c.args.self.now) c.args.from (c.loop-word.word * 64) _ c.loop-word.invariant (λ q a m b. w q (omega arith) b)

pub returns : goal.returns
returns c =
    let t = member c.args.self.now in
    found_none t c.args.from c.min-limit.result (λ q a b. c.loop-word.invariant q a (omega arith))
    ∙ ap (λ (n : ℕ). first_free t c.args.from (n - c.args.from)) c.min-limit.ensures
