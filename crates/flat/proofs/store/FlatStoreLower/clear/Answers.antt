use Rattle.std.proofs.Common.{ℕ, ◌+◌, ◌*◌, ◌<◌, ◌≤◌, List, replicate, refl, ap, ◌∙◌, arith, rules}
use Rattle.memory.specs.Memory.{overlaid}
use Rattle.memory.proofs.Overlays.{overlaid_fill}
use Rattle.flat.specs.Flat.{bytes_in}
use Rattle.flat.specs.Full.{extent_within}
use Rattle.flat.proofs.Laying.{cleared_within}
use Rattle.flat.proofs.store.FlatStoreLower.clear.Goals as goal

pub slice_bounds-fill-end : goal.slice_bounds-fill-end
slice_bounds-fill-end c =
    let self = c.args.self.now in
    let lf : c.args.file < self.sizes.files = search rules in
    let l0 : 0 < c.args.n = search rules in
    let ln : c.args.first + c.args.n ≤ self.sizes.width = search rules in
    omega (arith, extent_within self.bytes.now self.sizes.files self.sizes.width self.laid c.args.file c.args.first c.args.n lf l0 ln)

pub returns-clause-meaning : goal.returns-clause-meaning
returns-clause-meaning c =
    let self = c.args.self.now in
    let memory = self.bytes.now in
    let files = self.sizes.files in
    let width = self.sizes.width in
    let file = c.args.file in
    let first = c.args.first in
    let n = c.args.n in
    let at = c.start-at.result in
    let lf : file < files = search rules in
    let l0 : 0 < n = search rules in
    let ln : first + n ≤ width = search rules in
    let zeros = c.fill.ensures.after (λ _ q. q) in
    let room = extent_within memory files width self.laid file first n lf l0 ln in
    let written =
    overlaid_fill memory c.fill.new.self at (n * 4096) (omega arith) zeros
    ∙ ap (λ (k : ℕ). overlaid memory k (replicate (n * 4096) 0)) c.start-at.ensures in
    record {
      answers = search rules;
      same_files = refl;
      same_width = refl;
      makes = ap (λ (m : List ℕ). bytes_in m files width) written ∙ cleared_within memory files width file first n self.laid lf l0 ln;
    }
