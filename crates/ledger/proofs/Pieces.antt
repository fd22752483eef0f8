-- Changes to a file of the lower store that are made piece by piece.
use Rattle.std.proofs.Common.{◌≡◌, ℕ, ◌+◌, ◌<◌, ◌≤◌, Bool, true, false, cond, ◌&&◌, eqb, ltb, is_some, Some, None, Option, sym, refl, ap, ◌∙◌, inl, inr, arith}
use mathlib.Core.Path.{fun_ext}
use Rattle.std.proofs.lemmas.Bool.{cases_lt, cases_eq, cond-false, lt-ltb, le-ltb, and_from, and_right}
use Rattle.std.proofs.lemmas.Bool.Decides.{nat_tests}
use Rattle.blocks.specs.Blocks.{Contents, only, inside, changed}
use Rattle.blocks.proofs.Changes.{changed_elsewhere}
use Rattle.ledger.specs.Sound.{Sound}
use Rattle.ledger.specs.Store.{Shape, State, bytes_at, shown}
use Rattle.ledger.proofs.Steps.{changed_cases, only_cases, beyond}

-- ---- an extent after another

module _ {X : Type 0} (h : ℕ → ℕ → X) (file first : ℕ) (v : ℕ → X) where
  pub changed_nothing : changed h file (inside first 0) v ≡ h
  changed_nothing = fun_ext (λ f. fun_ext (λ b. none f b))
    where
      none : (f b : ℕ) → changed h file (inside first 0) v f b ≡ h f b
      none f b = grind (arith, nat_tests)

  pub changed_more : (m n : ℕ) → changed (changed h file (inside first m) v) file (inside (first + m) n) v ≡ changed h file (inside first (m + n)) v
  changed_more m n = fun_ext (λ f. fun_ext (λ b. more f b))
    where
      more : (f b : ℕ) → changed (changed h file (inside first m) v) file (inside (first + m) n) v f b ≡ changed h file (inside first (m + n)) v f b
      more f b = grind (arith, nat_tests)

-- ---- a demote, block by block

-- the lower store once the blocks of the file that have a place, of the first n, are copied there
abbrev pub copied : State → ℕ → ℕ → Contents
copied s file n = changed s.lower file (λ b. is_some (s.place file b) && ltb b n) (shown s file)

module _ (s : State) (file : ℕ) where
  -- only which blocks are chosen counts
  by_chosen : (chosen also : ℕ → Bool) → ((b : ℕ) → chosen b ≡ also b) → changed s.lower file chosen (shown s file) ≡ changed s.lower file also (shown s file)
  by_chosen chosen also e = ap (λ (which : ℕ → Bool). changed s.lower file which (shown s file)) (fun_ext e)

  pub copied_none : copied s file 0 ≡ s.lower
  copied_none =
      by_chosen (λ b. is_some (s.place file b) && ltb b 0) (λ _. false) (λ b. and_right (is_some (s.place file b)) (ltb b 0) (le-ltb b 0 (omega arith)))
      ∙ fun_ext (λ f. fun_ext (λ b. cond-false (eqb f file && false) (shown s file b) (s.lower f b) (and_right (eqb f file) false refl)))

  pub copied_next : (b p : ℕ) → s.place file b ≡ Some p → changed (copied s file b) file (only b) (λ _. s.board p) ≡ copied s file (b + 1)
  copied_next b p e = fun_ext (λ f. fun_ext (λ d. one f d))
    where
      here : (d : ℕ) → d ≡ b → (is_some (s.place file d) && ltb d (b + 1)) ≡ true
      here d h = and_from _ _ (ap is_some (ap (s.place file) h ∙ e)) (lt-ltb d (b + 1) (omega arith))

      bytes : (d : ℕ) → d ≡ b → shown s file d ≡ s.board p
      bytes d h = ap (bytes_at s.board (s.lower file d)) (ap (s.place file) h ∙ e)

      beside : (d : ℕ) → (d ≡ b → ⊥) → ltb d b ≡ ltb d (b + 1)
      beside d n = grind (arith, nat_tests)

      one : (f d : ℕ) → changed (copied s file b) file (only b) (λ _. s.board p) f d ≡ copied s file (b + 1) f d
      one f d = elim (only_cases (copied s file b) file b (s.board p) f d) [
        | inl h ↦ elim (changed_cases s.lower file (λ c. is_some (s.place file c) && ltb c (b + 1)) (shown s file) f d) [
          | inl k ↦ h.2 ∙ (sym (bytes d h.1) ∙ sym k.2)
          | inr k ↦ absurd (k.0 h.0 (here d h.1))
        ]
        | inr h ↦ elim (cases_eq f file) [
          | inl x ↦ h.1 ∙ ap (λ (v : Bool). cond (eqb f file && (is_some (s.place file d) && v)) (shown s file d) (s.lower f d)) (beside d (h.0 x))
          | inr x ↦ h.1 ∙ (changed_elsewhere s.lower file (λ c. is_some (s.place file c) && ltb c b) (shown s file) f d x
              ∙ sym (changed_elsewhere s.lower file (λ c. is_some (s.place file c) && ltb c (b + 1)) (shown s file) f d x))
        ]
      ]

  pub copied_skip : (b c : ℕ) → b ≤ c → ((d : ℕ) → b ≤ d → d < c → s.place file d ≡ None) → copied s file c ≡ copied s file b
  copied_skip b c l none = by_chosen (λ d. is_some (s.place file d) && ltb d c) (λ d. is_some (s.place file d) && ltb d b) same
    where
      same : (d : ℕ) → (is_some (s.place file d) && ltb d c) ≡ (is_some (s.place file d) && ltb d b)
      same d = elim (cases_lt d b) [
        | inl m ↦ ap (λ (v : Bool). is_some (s.place file d) && v) (lt-ltb d c (omega arith) ∙ sym (lt-ltb d b m))
        | inr m ↦ elim (cases_lt d c) [
          | inl k ↦ ap (λ (o : Option ℕ). is_some o && ltb d c) (none d m k) ∙ sym (ap (λ (o : Option ℕ). is_some o && ltb d b) (none d m k))
          | inr k ↦ ap (λ (v : Bool). is_some (s.place file d) && v) (le-ltb d c k ∙ sym (le-ltb d b m))
        ]
      ]

pub copied_all : (sh : Shape) (s : State) → Sound sh s → (file : ℕ)
    → copied s file sh.width ≡ changed s.lower file (λ b. is_some (s.place file b)) (shown s file)
copied_all sh s ok file = by_chosen s file (λ b. is_some (s.place file b) && ltb b sh.width) (λ b. is_some (s.place file b)) same
  where
    both : (v w : Bool) → w ≡ true → (v && w) ≡ v
    both true w e = e
    both false w e = refl

    same : (b : ℕ) → (is_some (s.place file b) && ltb b sh.width) ≡ is_some (s.place file b)
    same b = elim (cases_lt b sh.width) [
      | inl l ↦ both (is_some (s.place file b)) (ltb b sh.width) (lt-ltb b sh.width l)
      | inr l ↦ let e = beyond sh s ok file b l in ap (λ (o : Option ℕ). is_some o && ltb b sh.width) e ∙ sym (ap is_some e)
    ]
