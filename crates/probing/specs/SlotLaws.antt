-- What each change of one slot means.
use Rattle.std.specs.Prelude.{◌≡◌, ℕ, zero, suc, ◌+◌, ◌<◌, ◌≤◌, true, false, ◌≢◌, ◌⊎◌, List, [], ◌∷◌, ◌++◌, length, set, is_some, unwrap_or, Some, None, Option, refl}
use Rattle.std.proofs.Common.{sym, ap, ◌∙◌, inl, inr, arith, length-set, get_or-set_same, get_or-set_other}
use Rattle.std.specs.Option.{option_map}
use Rattle.std.proofs.lemmas.List.{get_or_past}
use Rattle.std.proofs.lemmas.Bool.{cases_eq, cases_lt, cases_Bool, both_ways}
use Rattle.blocks.specs.declared.Entry.{Entry}
use Rattle.blocks.specs.Blocks.{changed, only}
use Rattle.tables.specs.declared.row.Row.{Row}
use Rattle.tables.specs.Rows.{blank}
use Rattle.tables.proofs.Looks.{first_none, first_only, first_set, says_here, says_none, changed_by}
use Rattle.probing.specs.declared.slots.Slot.{Slot}
use Rattle.probing.specs.Slots.{free, used, row_in, slot_at, Used, tells, look, bit, occupied, Has, Single}

pub keyed : (f b : ℕ) (s : Slot) → Has f b s ⊎ (Has f b s → ⊥)
keyed f b s = elim (cases_eq (row_in s).file f) [
  | inl p ↦ elim (cases_eq (row_in s).block b) [ inl q ↦ inl (p, q) | inr q ↦ inr (λ h. q h.1) ]
  | inr p ↦ inr (λ h. p h.0)
]

-- ---- one slot

pub tells_none : (f b : ℕ) (s : Slot) → used s ≡ false → tells f b s ≡ None
tells_none f b s e = rw e

pub tells_here : (f b : ℕ) (s : Slot) → used s ≡ true → Has f b s → tells f b s ≡ Some (row_in s).entry
tells_here f b s u h = rw u (says_here f b (row_in s) h.0 h.1)

pub tells_other : (f b : ℕ) (s : Slot) → (used s ≡ true → Has f b s → ⊥) → tells f b s ≡ None
tells_other f b s n = elim (cases_Bool (used s)) [
  | inl u ↦ rw u (says_none f b (row_in s) (λ p q. n u (p, q)))
  | inr u ↦ tells_none f b s u
]

pub used_within : (xs : List Slot) (q : ℕ) → Used xs q → q < length xs
used_within xs q u = elim (cases_lt q (length xs)) [
  | inl l ↦ l
  | inr l ↦ absurd (both_ways (used (slot_at xs q)) (ap (λ (s : Slot). used s) (get_or_past xs q free l)) u)
]

-- ---- what the slots mean

pub look_found : (xs : List Slot) (f b i : ℕ) → Single xs → Used xs i → Has f b (slot_at xs i) → look xs f b ≡ Some (row_in (slot_at xs i)).entry
look_found xs f b i one_each u h =
    first_only (tells f b) free xs i (used_within xs i u)
    (λ j m n. tells_other f b (slot_at xs j) (λ v k. n (one_each j i v u (k.0 ∙ sym h.0, k.1 ∙ sym h.1))))
    ∙ tells_here f b (slot_at xs i) u h

entry_in : (o : Option Row) → is_some o ≡ true → option_map (λ (r : Row). r.entry) o ≡ Some (unwrap_or o blank).entry
entry_in None u = absurd (both_ways false refl u)
entry_in (Some r) u = refl

pub entry_found : (xs : List Slot) (f b i : ℕ) → Single xs → Used xs i → Has f b (slot_at xs i) → option_map (λ (r : Row). r.entry) (slot_at xs i).row ≡ look xs f b
entry_found xs f b i one_each u h = entry_in (slot_at xs i).row u ∙ sym (look_found xs f b i one_each u h)

pub look_none : (xs : List Slot) (f b : ℕ) → ((q : ℕ) → Used xs q → Has f b (slot_at xs q) → ⊥) → look xs f b ≡ None
look_none xs f b n = first_none (tells f b) free xs (λ q m. tells_other f b (slot_at xs q) (λ u h. n q u h))

-- ---- how many slots are used

pub occupied_set : (xs : List Slot) (i : ℕ) (y : Slot) → i < length xs → occupied (set xs i y) + bit (slot_at xs i) ≡ occupied xs + bit y
occupied_set [] i y l = absurd (omega arith)
occupied_set (x ∷ xs) zero y l = omega arith
occupied_set (x ∷ xs) (suc i) y l = omega (arith, occupied_set xs i y (omega arith))

pub bit_used : (s : Slot) → used s ≡ true → bit s ≡ 1
bit_used s u = rw u

pub bit_free : (s : Slot) → used s ≡ false → bit s ≡ 0
bit_free s u = rw u

bit_le : (s : Slot) → bit s ≤ 1
bit_le s = elim (cases_Bool (used s)) [ inl u ↦ rw u (omega arith) | inr u ↦ rw u (omega arith) ]

pub occupied_le : (xs : List Slot) → occupied xs ≤ length xs
occupied_le [] = omega arith
occupied_le (x ∷ xs) = omega (arith, occupied_le xs, bit_le x)

pub occupied_all : (xs : List Slot) → ((x : ℕ) → x < length xs → Used xs x) → occupied xs ≡ length xs
occupied_all [] h = refl
occupied_all (x ∷ xs) h = omega (arith, bit_used x (h 0 (omega arith)), occupied_all xs (λ i l. h (suc i) (omega arith)))

pub occupied_free : (xs : List Slot) (i : ℕ) → i < length xs → used (slot_at xs i) ≡ false → occupied xs < length xs
occupied_free [] i l u = absurd (omega arith)
occupied_free (x ∷ xs) zero l u = omega (arith, bit_free x u, occupied_le xs)
occupied_free (x ∷ xs) (suc i) l u = omega (arith, occupied_free xs i (omega arith) u, bit_le x)

pub occupied_none : (xs : List Slot) → ((x : ℕ) → used (slot_at xs x) ≡ false) → occupied xs ≡ 0
occupied_none [] h = refl
occupied_none (x ∷ xs) h = omega (arith, bit_free x (h 0), occupied_none xs (λ i. h (suc i)))

pub push_free : (xs : List Slot) (s : Slot) → ((x : ℕ) → used (slot_at xs x) ≡ false) → used s ≡ false → (x : ℕ) → used (slot_at (xs ++ s ∷ []) x) ≡ false
push_free [] s h e zero = e
push_free [] s h e (suc x) = refl
push_free (y ∷ xs) s h e zero = h 0
push_free (y ∷ xs) s h e (suc x) = push_free xs s (λ i. h (suc i)) e x

-- ---- one slot is changed

pub at_same : (xs : List Slot) (i : ℕ) (y : Slot) (q : ℕ) → i < length xs → q ≡ i → slot_at (set xs i y) q ≡ y
at_same xs i y q l e = ap (slot_at (set xs i y)) e ∙ get_or-set_same xs i y free l

pub at_other : (xs : List Slot) (i : ℕ) (y : Slot) (q : ℕ) → q ≢ i → slot_at (set xs i y) q ≡ slot_at xs q
at_other xs i y q n = get_or-set_other xs i q y free n

pub use_of : (s t : Slot) → s ≡ t → used t ≡ true → used s ≡ true
use_of s t e u = ap (λ (s : Slot). used s) e ∙ u

pub has_of : (f b : ℕ) (s t : Slot) → s ≡ t → Has f b t → Has f b s
has_of f b s t e h = (ap (λ (s : Slot). (row_in s).file) e ∙ h.0, ap (λ (s : Slot). (row_in s).block) e ∙ h.1)

-- The same holds of slots that are the same.
pub across : (s s' t t' : Slot) → s ≡ s' → t ≡ t' → Has (row_in t).file (row_in t).block s → Has (row_in t').file (row_in t').block s'
across s s' t t' p q h = (
  sym (ap (λ (s : Slot). (row_in s).file) p) ∙ h.0 ∙ ap (λ (s : Slot). (row_in s).file) q,
  sym (ap (λ (s : Slot). (row_in s).block) p) ∙ h.1 ∙ ap (λ (s : Slot). (row_in s).block) q,
)

pub set_single : (xs : List Slot) (i : ℕ) (y : Slot) → i < length xs → Single xs
    → (used y ≡ true → (q : ℕ) → Used xs q → q ≢ i → Has (row_in y).file (row_in y).block (slot_at xs q) → ⊥) → Single (set xs i y)
set_single xs i y l one_each new p q up uq h =
    let ys = set xs i y in
    elim (cases_eq p i) [
      | inl ep ↦ elim (cases_eq q i) [
        | inl eq ↦ ep ∙ sym eq
        | inr nq ↦
            let sp = at_same xs i y p l ep in
            let sq = at_other xs i y q nq in
            let k = across (slot_at ys p) y (slot_at ys q) (slot_at xs q) sp sq h in
            absurd (new (use_of y (slot_at ys p) (sym sp) up) q (use_of (slot_at xs q) (slot_at ys q) (sym sq) uq) nq (sym k.0, sym k.1))
      ]
      | inr np ↦ elim (cases_eq q i) [
        | inl eq ↦
            let sq = at_same xs i y q l eq in
            let sp = at_other xs i y p np in
            absurd (new (use_of y (slot_at ys q) (sym sq) uq) p (use_of (slot_at xs p) (slot_at ys p) (sym sp) up) np
            (across (slot_at ys p) (slot_at xs p) (slot_at ys q) y sp sq h))
        | inr nq ↦
            let sq = at_other xs i y q nq in
            let sp = at_other xs i y p np in
            one_each p q (use_of (slot_at xs p) (slot_at ys p) (sym sp) up) (use_of (slot_at xs q) (slot_at ys q) (sym sq) uq)
            (across (slot_at ys p) (slot_at xs p) (slot_at ys q) (slot_at xs q) sp sq h)
      ]
    ]

-- A slot is filled with a key that no other slot has.
pub fill_after : (xs : List Slot) (f b i : ℕ) (e : Entry) → i < length xs
    → ((q : ℕ) → Used xs q → q ≢ i → Has f b (slot_at xs q) → ⊥) → (used (slot_at xs i) ≡ true → Has f b (slot_at xs i))
    → look (set xs i (record { row = Some (record { file = f; block = b; entry = e }) })) ≡ changed (look xs) f (only b) (λ _. Some e)
fill_after xs f b i e l new old =
    let y : Slot = record { row = Some (record { file = f; block = b; entry = e }) } in
    let ys = set xs i y in
    let len : length ys ≡ length xs = length-set xs i y in
    changed_by (look xs) (look ys) f b (Some e)
    (first_only (tells f b) free ys i (omega arith)
    (λ j m n. ap (tells f b) (at_other xs i y j n) ∙ tells_other f b (slot_at xs j) (λ u h. new j u n h))
    ∙ ap (tells f b) (at_same xs i y i l refl) ∙ tells_here f b y refl (refl, refl))
    (λ f' b' n. first_set (tells f' b') free xs i y
    (tells_other f' b' (slot_at xs i) (λ u h. n (sym (old u).0 ∙ h.0) (sym (old u).1 ∙ h.1)) ∙ sym (tells_other f' b' y (λ _ h. n h.0 h.1))))
