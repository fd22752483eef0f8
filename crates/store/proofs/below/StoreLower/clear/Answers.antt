use Rattle.std.proofs.Common.{sym, ap, ◌∙◌}
use Rattle.lowers.specs.declared.sizes.Sizes.{Sizes}
use Rattle.lowers.specs.Lowers.{extent_answer}
use Rattle.store.proofs.Stacked.{clears_it, clears_demoted}
use Rattle.store.proofs.below.StoreLower.clear.Goals as goal

pub returns-else-is_err : goal.returns-else-is_err
returns-else-is_err g c =
    clears_it c.args.file c.args.first c.args.n c.args.self.now.in_step
    (sym (c.admit_extent.ensures ∙ ap (λ (z : Sizes). extent_answer z.files z.width c.args.file c.args.first c.args.n) c.sizes.ensures) ∙ c.in_ok-admit_extent.was)
    c.clear.ensures.shape c.clear.ensures.answer c.clear.ensures.after
    (sym c.is_err.ensures.value ∙ c.if-is_err.false)

pub returns-then-is_err : goal.returns-then-is_err
returns-then-is_err g c =
    clears_demoted c.args.file c.args.first c.args.n c.args.self.now.in_step
    (sym (c.admit_extent.ensures ∙ ap (λ (z : Sizes). extent_answer z.files z.width c.args.file c.args.first c.args.n) c.sizes.ensures) ∙ c.in_ok-admit_extent.was)
    c.clear.ensures.shape c.clear.ensures.answer c.clear.ensures.after
    (sym c.is_err.ensures.value ∙ c.if-is_err.true) c.demote.ensures.shape c.clear-then-is_err.ensures.shape
    c.clear.new.self.in_step c.demote.ensures.after c.demote.new.self.in_step c.clear-then-is_err.ensures.answer c.clear-then-is_err.ensures.after
    (g.met.M.Map.lighter (g.M.Map.placed c.args.self.now.map) c.args.file) (g.met.M.Map.roomy c.args.self.now.map)
