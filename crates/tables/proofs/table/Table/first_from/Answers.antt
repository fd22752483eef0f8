use Rattle.std.proofs.Common.{◌≡◌, sym, ap, ◌∙◌, inl, inr, arith}
use Rattle.std.proofs.lemmas.Bool.{cases_lt}
use Rattle.tables.proofs.Lowest.{lowest_none, lowest_some}
use Rattle.tables.proofs.table.Table.first_from.Goals as goal

pub returns-in-Some : goal.returns-in-Some
returns-in-Some g c =
    sym (lowest_some (g.Self.Table.holding c.args.self.now) c.args.file c.args.block c.loop-b.b c.in-Some.entry
    (omega arith) (omega arith) (sym c.in-Some.ensures) c.loop-b.invariant)

pub loop-b-preserved : goal.loop-b-preserved
loop-b-preserved g c = λ x l m. elim (cases_lt x c.loop-b.b) [
  | inl k ↦ c.loop-b.invariant x l k
  | inr k ↦ ap (g.Self.Table.holding c.args.self.now c.args.file) (let e : x ≡ c.loop-b.b = omega arith in e) ∙ sym c.in_default.ensures
]

pub returns-in_default : goal.returns-in_default
returns-in_default g c =
    sym (lowest_none (g.Self.Table.holding c.args.self.now) c.args.file c.args.block (λ x l m. elim (cases_lt x c.loop-b.b) [
      | inl k ↦ c.loop-b.invariant x l k
      | inr k ↦ ap (g.Self.Table.holding c.args.self.now c.args.file) (let e : x ≡ c.loop-b.b = omega arith in e) ∙ sym c.in_default.ensures
    ]))
