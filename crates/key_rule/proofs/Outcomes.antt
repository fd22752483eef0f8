-- What the calls of a map answer, case by case.
use Rattle.std.proofs.Common.{◌≡◌, ℕ, ◌≤◌, None, Ok, Option, Result, sym, ap, ◌∙◌, subst, arith}
use Rattle.faults.specs.declared.Fault.{Fault}
use Rattle.faults.specs.declared.Ground.{Ground}
use Rattle.blocks.specs.Blocks.{Placement}
use Rattle.tables.specs.Holding.{Holding}
use Rattle.maps.specs.Steps.{Outcome, unless_mapped, unless_ground, ground_of_file, forgotten, forget_step}
use Rattle.key_rule.specs.Keyed.{keyed, placing}
use Rattle.maps.proofs.Forgets.{file_good}
use Rattle.key_rule.proofs.Mends.{placing_keyed}

abbrev outcome : Result (Unit {0}) Fault → Placement → Outcome
outcome r p = (r, p)

module _ (o : Option Ground) (p : Placement) (file first : ℕ) where
  pub granted_by : (x r : Outcome) → None ≡ o → x ≡ r → x ≡ unless_ground o p file first r
  granted_by x r e f = subst (λ (y : Option Ground). x ≡ unless_ground y p file first r) e f

module _ (o : Option ℕ) (p : Placement) (file : ℕ) where
  pub unmapped_by : (x r : Outcome) → None ≡ o → x ≡ r → x ≡ unless_mapped o p file r
  unmapped_by x r e f = subst (λ (y : Option ℕ). x ≡ unless_mapped y p file r) e f

pub forgotten_by : (h g : Holding) (file : ℕ) → file ≤ 65535 → g ≡ keyed (forgotten (placing h) file) → ◌≡◌ {A = Outcome} (Ok tt, placing g) (forget_step (placing h) file)
forgotten_by h g file o e =
    granted_by (ground_of_file file) (placing h) file 0 (Ok tt, placing g) (Ok tt, forgotten (placing h) file) (sym (file_good file (omega arith)))
    (ap (λ (u : Placement). outcome (Ok tt) u) (ap placing e ∙ placing_keyed (forgotten (placing h) file)))
