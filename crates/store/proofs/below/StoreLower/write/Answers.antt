use Rattle.std.proofs.Common.{length, sym, ap, ◌∙◌}
use Rattle.lowers.specs.declared.sizes.Sizes.{Sizes}
use Rattle.lowers.specs.Lowers.{block_answer}
use Rattle.store.proofs.Stacked.{keeps_it, falls_back}
use Rattle.store.proofs.below.StoreLower.write.Goals as goal

pub returns-else-is_err : goal.returns-else-is_err
returns-else-is_err g c =
    keeps_it c.args.file c.args.block c.args.from.now c.args.self.now.in_step
    (sym (c.admit_block.ensures ∙ ap (λ (z : Sizes). block_answer z.files z.width c.args.file c.args.block (length c.args.from.now)) c.sizes.ensures) ∙ c.in_ok-admit_block.was)
    c.write.ensures.shape c.write.ensures.answer c.write.ensures.after
    (sym c.is_err.ensures.value ∙ c.if-is_err.false)

pub returns-then-is_err : goal.returns-then-is_err
returns-then-is_err g c =
    falls_back c.args.file c.args.block c.args.from.now c.args.self.now.in_step
    (sym (c.admit_block.ensures ∙ ap (λ (z : Sizes). block_answer z.files z.width c.args.file c.args.block (length c.args.from.now)) c.sizes.ensures) ∙ c.in_ok-admit_block.was)
    c.write.ensures.shape c.write.ensures.answer c.write.ensures.after
    c.write.new.self.in_step (sym c.is_err.ensures.value ∙ c.if-is_err.true) c.write-then-is_err.ensures.shape
    c.write-then-is_err.ensures.answer c.write-then-is_err.ensures.after
