-- What each call does to the slots of a table.
use Rattle.std.proofs.Common.{◌≡◌, ℕ, ◌+◌, ◌-◌, ◌<◌, ◌≤◌, true, false, cond, not, eqb, ◌≢◌, List, length, set, is_some, Some, None, Option, sym, refl, ap, ◌∙◌, subst, inl, inr, arith, length-set}
use mathlib.Core.Path.{fun_ext}
use mathlib.Core.Logic.{∥∥₁_map}
use Rattle.std.proofs.lemmas.Grind.{merely, not_there}
use Rattle.std.proofs.lemmas.Bool.{cases_eq, cases_order, both_ways, cond-true, cond-false, eq-eqb, ne_eqb}
use Rattle.blocks.specs.declared.Entry.{Entry}
use Rattle.blocks.specs.Blocks.{changed, only, one}
use Rattle.blocks.proofs.Sums.{tally_none}
use Rattle.tables.specs.declared.row.Row.{Row}
use Rattle.tables.specs.Holding.{nothing, full, lowest_row}
use Rattle.tables.proofs.Lowest.{lowest_none, lowest_some}
use Rattle.tables.proofs.Looks.{first_set, changed_by, tally_by, numbered_by, room_old, room_new, no_room}
use Rattle.probing.specs.declared.slots.Slot.{Slot}
use Rattle.probing.specs.declared.slots.Probe.TheVariants.{Found, Free, Full}
use Rattle.probing.specs.Slots.{free, used, row_in, slot_at, Used, tells, look, occupied, Has, dist, Probed, Best, home_of, Passes, Single, Reached, Ages, Sound, Closed}
use Rattle.probing.proofs.Distances.{dist_inj}
use Rattle.probing.specs.SlotLaws.{tells_other, used_within, look_found, look_none, occupied_set, bit_used, bit_free, occupied_all, occupied_free, occupied_none, at_same, at_other, use_of, has_of, set_single, fill_after}

-- Each key stands in one slot, whatever the ages.
pub single_of : (home : ℕ → ℕ → ℕ) (n : ℕ) (xs : List Slot) → ∥ Ages home n xs ∥₁ → Single xs
single_of home n xs t i j u v h = elim (cases_eq i j) [ inl e ↦ e | inr k ↦ absurd (not_there t (λ a. k (a.reached.single i j u v h))) ]

-- ---- a search

-- A key that a search does not find is not there.
pub absent_free : (home : ℕ → ℕ → ℕ) (n : ℕ) (xs : List Slot) (held f b i : ℕ) → home f b < n → Sound home n xs held
    → Probed n xs (home f b) f b (Free i) → (q : ℕ) → Used xs q → Has f b (slot_at xs q) → ⊥
absent_free home n xs held f b i hb s pr q u h =
    let l : q < n = omega (arith, used_within xs q u, s.long) in
    let e : home_of home (slot_at xs q) ≡ home f b = ap (λ (z : ℕ). home z (row_in (slot_at xs q)).block) h.0 ∙ ap (home f) h.1 in
    elim (cases_order (dist n (home f b) q) (dist n (home f b) i)) [
      | inl z ↦ both_ways (used (slot_at xs q)) (ap (λ (k : ℕ). used (slot_at xs k)) (dist_inj n (home f b) q i hb l pr.0 z) ∙ pr.1) u
      | inr z ↦ elim z [
        | inl m ↦ (pr.2 q l m).1 h
        | inr m ↦ not_there s.ages (λ a. both_ways (used (slot_at xs i)) pr.1 (a.reached.way q i u pr.0 (subst (λ (z : ℕ). dist n z i < dist n z q) (sym e) m)).0)
      ]
    ]

pub absent_full : (n : ℕ) (xs : List Slot) (f b from : ℕ) → length xs ≡ n → Probed n xs from f b Full → (q : ℕ) → Used xs q → Has f b (slot_at xs q) → ⊥
absent_full n xs f b from len pr q u h = (pr q (omega (arith, used_within xs q u))).1 h

-- ---- a slot is filled

module _ (home : ℕ → ℕ → ℕ) (n : ℕ) (xs : List Slot) (held f b i : ℕ) (e : Entry) (hf : f < 65536) (hb : b < 65536) (s : Sound home n xs held) where
  abbrev row : Slot
  row = record { row = Some (record { file = f; block = b; entry = e }) }

  abbrev ys : List Slot
  ys = set xs i row

  -- The entry of a key that is there is another.
  pub replaced : Probed n xs (home f b) f b (Found i)
      → Sound home n ys held × (look ys ≡ changed (look xs) f (only b) (λ _. Some e)) × (true ≡ not (full (look xs) n f b))
  replaced pr =
      let l : i < length xs = omega (arith, pr.0, s.long) in
      let u = pr.1 in
      let h = pr.2 in
      let one_each = single_of home n xs s.ages in
      let new : (q : ℕ) → Used xs q → q ≢ i → Has f b (slot_at xs q) → ⊥ = λ q v k a. k (one_each q i v u (a.0 ∙ sym h.0, a.1 ∙ sym h.1)) in
      let after = fill_after xs f b i e l new (λ _. h) in
      let was = ap is_some (look_found xs f b i one_each u h) in
      let count = tally_by (look xs) (look ys) f b (Some e) hf hb after in
      let slots = occupied_set xs i row l in
      let homes : home_of home (slot_at xs i) ≡ home f b = ap (λ (z : ℕ). home z (row_in (slot_at xs i)).block) h.0 ∙ ap (home f) h.1 in
      -- each slot is used as it was, and has its key
      let old : (q : ℕ) → Used ys q → Used xs q = λ q v. elim (cases_eq q i) [
        | inl z ↦ ap (λ (k : ℕ). used (slot_at xs k)) z ∙ u
        | inr z ↦ use_of (slot_at xs q) (slot_at ys q) (sym (at_other xs i row q z)) v
      ] in
      let now : (q : ℕ) → Used xs q → Used ys q = λ q v. elim (cases_eq q i) [
        | inl z ↦ use_of (slot_at ys q) row (at_same xs i row q l z) refl
        | inr z ↦ use_of (slot_at ys q) (slot_at xs q) (at_other xs i row q z) v
      ] in
      let key : (q : ℕ) → home_of home (slot_at ys q) ≡ home_of home (slot_at xs q) = λ q. elim (cases_eq q i) [
        | inl z ↦ ap (home_of home) (at_same xs i row q l z) ∙ sym (ap (λ (k : ℕ). home_of home (slot_at xs k)) z ∙ homes)
        | inr z ↦ ap (home_of home) (at_other xs i row q z)
      ] in (
        record {
          long = length-set xs i row ∙ s.long;
          ages = ∥∥₁_map s.ages (λ a. record {
            age = a.age;
            latest = a.latest;
            reached = record {
              single = set_single xs i row l one_each (λ _. new);
              way = λ q x v lx p.
                  (let w = a.reached.way q x (old q v) lx (subst (λ (k : ℕ). dist n k x < dist n k q) (key q) p) in (now x w.0, w.1));
              young = λ q v. a.reached.young q (old q v);
            };
          });
          numbered = numbered_by (look xs) (look ys) f b (Some e) hf hb after s.numbered;
          counted = omega (arith, s.counted, ap one was);
          filled = omega (arith, s.filled, bit_used (slot_at xs i) u);
        },
        after,
        sym (ap not (room_old (look xs) n f b was)),
      )

  -- A new key is put into a free slot: it is the youngest.
  pub added : home f b < n → Probed n xs (home f b) f b (Free i)
      → Sound home n ys (held + 1) × (look ys ≡ changed (look xs) f (only b) (λ _. Some e)) × (true ≡ not (full (look xs) n f b)) × (held < n)
  added hh pr =
      let l : i < length xs = omega (arith, pr.0, s.long) in
      let u = pr.1 in
      let gone = absent_free home n xs held f b i hh s pr in
      let after = fill_after xs f b i e l (λ q v _ k. gone q v k) (λ v. absurd (both_ways (used (slot_at xs i)) u v)) in
      let was : is_some (look xs f b) ≡ false = ap is_some (look_none xs f b gone) in
      let count = tally_by (look xs) (look ys) f b (Some e) hf hb after in
      let slots = occupied_set xs i row l in
      let space = occupied_free xs i l u in
      let away : (x : ℕ) → Used xs x → x ≢ i = λ x v z. both_ways (used (slot_at xs x)) (ap (λ (k : ℕ). used (slot_at xs k)) z ∙ u) v in
      let now : (x : ℕ) → Used xs x → Used ys x = λ x v. use_of (slot_at ys x) (slot_at xs x) (at_other xs i row x (away x v)) v in
      let old : (q : ℕ) → q ≢ i → Used ys q → Used xs q = λ q z v. use_of (slot_at xs q) (slot_at ys q) (sym (at_other xs i row q z)) v in (
        record {
          long = length-set xs i row ∙ s.long;
          ages = ∥∥₁_map s.ages (λ a. (
              let r = a.reached in
              let age : ℕ → ℕ = λ x. cond (eqb x i) a.latest (a.age x) in
              let age_new : (x : ℕ) → x ≡ i → age x ≡ a.latest = λ x z. cond-true (eqb x i) a.latest (a.age x) (eq-eqb x i z) in
              let age_old : (x : ℕ) → x ≢ i → age x ≡ a.age x = λ x z. cond-false (eqb x i) a.latest (a.age x) (ne_eqb x i z) in
              record {
                age = age;
                latest = a.latest + 1;
                reached = record {
                  single = set_single xs i row l r.single (λ _ q v _ k. gone q v k);
                  way = λ q x v lx p. elim (cases_eq q i) [
                    | inl z ↦
                        let p1 : dist n (home f b) x < dist n (home f b) i
                        = subst (λ (k : ℕ). dist n (home f b) x < dist n (home f b) k) z (subst (λ (k : Slot). Passes home n k q x) (at_same xs i row q l z) p) in
                        let w = (pr.2 x lx p1).0 in
                        (now x w, omega (arith, age_new q z, age_old x (away x w), r.young x w))
                    | inr z ↦
                        let w = r.way q x (old q z v) lx (subst (λ (k : Slot). Passes home n k q x) (at_other xs i row q z) p) in
                        (now x w.0, omega (arith, age_old q z, age_old x (away x w.0), w.1))
                  ];
                  young = λ q v. elim (cases_eq q i) [
                    | inl z ↦ omega (arith, age_new q z)
                    | inr z ↦ omega (arith, age_old q z, r.young q (old q z v))
                  ];
                };
              }));
          numbered = numbered_by (look xs) (look ys) f b (Some e) hf hb after s.numbered;
          counted = omega (arith, s.counted, ap one was);
          filled = omega (arith, s.filled, bit_free (slot_at xs i) u);
        },
        after,
        sym (ap not (room_new (look xs) n f b (omega (arith, s.counted, s.filled, s.long)))),
        omega (arith, s.filled, s.long),
      )

-- A new key finds no free slot.
pub refused : (home : ℕ → ℕ → ℕ) (n : ℕ) (xs : List Slot) (held f b from : ℕ) → Sound home n xs held → Probed n xs from f b Full
    → false ≡ not (full (look xs) n f b)
refused home n xs held f b from s pr =
    let was : is_some (look xs f b) ≡ false = ap is_some (look_none xs f b (absent_full n xs f b from s.long pr)) in
    let all = occupied_all xs (λ x l. (pr x (omega (arith, s.long))).0) in
    sym (ap not (no_room (look xs) n f b was (omega (arith, s.counted, s.filled, s.long))))

-- ---- a key is dropped

-- A slot becomes the hole.
opened : (home : ℕ → ℕ → ℕ) (n : ℕ) (xs : List Slot) (f b i : ℕ) → i < length xs → Used xs i → Has f b (slot_at xs i) → Single xs
    → ((a : Ages home n xs) → Reached home n (set xs i free) (λ x. x ≢ i → Used (set xs i free) x) a.age a.latest)
    × Single (set xs i free) × (look (set xs i free) ≡ changed (look xs) f (only b) (λ _. None)) × (occupied (set xs i free) + 1 ≡ occupied xs)
opened home n xs f b i l u h one_each =
    let ys = set xs i free in
    let off : (q : ℕ) → Used ys q → q ≢ i = λ q v z. both_ways (used (slot_at ys q)) (ap (λ (s : Slot). used s) (at_same xs i free q l z)) v in
    let same : (q : ℕ) → Used ys q → slot_at ys q ≡ slot_at xs q = λ q v. at_other xs i free q (off q v) in
    let old : (q : ℕ) → Used ys q → Used xs q = λ q v. use_of (slot_at xs q) (slot_at ys q) (sym (same q v)) v in
    let single : Single ys = set_single xs i free l one_each (λ v. absurd (both_ways false refl v)) in (
      λ a. record {
        single = single;
        way = λ q x v lx p.
            (let w = a.reached.way q x (old q v) lx (subst (λ (k : Slot). Passes home n k q x) (same q v) p) in
            ((λ z. use_of (slot_at ys x) (slot_at xs x) (at_other xs i free x z) w.0), w.1));
        young = λ q v. a.reached.young q (old q v);
      },
      single,
      changed_by (look xs) (look ys) f b None
          (look_none ys f b (λ q v k. let a = has_of f b (slot_at xs q) (slot_at ys q) (sym (same q v)) k in
          off q v (one_each q i (old q v) u (a.0 ∙ sym h.0, a.1 ∙ sym h.1))))
          (λ f' b' k. first_set (tells f' b') free xs i free
          (tells_other f' b' (slot_at xs i) (λ _ a. k (sym h.0 ∙ a.0) (sym h.1 ∙ a.1)))),
      omega (arith, occupied_set xs i free l, bit_used (slot_at xs i) u),
    )

-- The key is gone and the hole is closed.
pub dropped : (home : ℕ → ℕ → ℕ) (n : ℕ) (xs zs : List Slot) (held f b i : ℕ) → f < 65536 → b < 65536 → length zs ≡ n → Sound home n xs held
    → Probed n xs (home f b) f b (Found i) → Closed home n (set xs i free) i zs
    → Sound home n zs (held - 1) × (true ≡ is_some (look xs f b)) × (look zs ≡ changed (look xs) f (only b) (λ _. None)) × (1 ≤ held)
dropped home n xs zs held f b i hf hb len s pr c =
    let one_each = single_of home n xs s.ages in
    let o = opened home n xs f b i (omega (arith, pr.0, s.long)) pr.1 pr.2 one_each in
    let after : look zs ≡ changed (look xs) f (only b) (λ _. None) = c.same o.1 ∙ o.2 in
    let was = ap is_some (look_found xs f b i one_each pr.1 pr.2) in
    let count = tally_by (look xs) (look zs) f b None hf hb after in (
      record {
        long = len;
        ages = ∥∥₁_map s.ages (λ a. (let d = c.closed a.age a.latest (o.0 a) in record { age = d.0; latest = a.latest; reached = d.1 }));
        numbered = numbered_by (look xs) (look zs) f b None hf hb after s.numbered;
        counted = omega (arith, s.counted, ap one was);
        filled = omega (arith, s.filled, o.3, c.filled);
      },
      sym was,
      after,
      omega (arith, s.filled, o.3),
    )

-- A key that is not there stays away.
pub not_dropped : (xs : List Slot) (f b : ℕ) → ((q : ℕ) → Used xs q → Has f b (slot_at xs q) → ⊥)
    → (false ≡ is_some (look xs f b)) × (look xs ≡ changed (look xs) f (only b) (λ _. None))
not_dropped xs f b gone =
    let z = look_none xs f b gone in
    (sym (ap is_some z), changed_by (look xs) (look xs) f b None z (λ f b _. refl))

-- ---- no slot is used

pub all_free : (home : ℕ → ℕ → ℕ) (n : ℕ) (xs : List Slot) → length xs ≡ n → ((x : ℕ) → used (slot_at xs x) ≡ false) → Sound home n xs 0 × (look xs ≡ nothing)
all_free home n xs len h =
    let none : (f b : ℕ) → look xs f b ≡ None = λ f b. look_none xs f b (λ q u _. both_ways (used (slot_at xs q)) (h q) u) in
    let no : (q : ℕ) → Used xs q → ⊥ = λ q u. both_ways (used (slot_at xs q)) (h q) u in (
      record {
        long = len;
        ages = merely (record {
          age = λ x. 0;
          latest = 0;
          reached = record {
            single = λ i j u _ _. absurd (no i u);
            way = λ q x u _ _. absurd (no q u);
            young = λ q u. absurd (no q u);
          };
        });
        numbered = λ f b e. absurd (both_ways (is_some (look xs f b)) (ap is_some (none f b)) e);
        counted = sym (tally_none (look xs) none);
        filled = sym (occupied_none xs h);
      },
      fun_ext (λ f. fun_ext (λ b. none f b)),
    )

-- ---- the lowest row is that of the lowest key

pub best_lowest : (home : ℕ → ℕ → ℕ) (n : ℕ) (xs : List Slot) (held f b : ℕ) (r : Option Row) → Sound home n xs held → Best xs f b n r → r ≡ lowest_row (look xs) f b
best_lowest home n xs held f b None s best =
    sym (lowest_none (look xs) f b (λ b' l m. look_none xs f b' (λ q u h. best q (omega (arith, used_within xs q u, s.long)) (u, h.0, omega (arith, h.1)))))
best_lowest home n xs held f b (Some r) s best =
    let i = best.0.0 in
    let w = best.0.2 in
    let e = best.0.3 in
    let ef : r.file ≡ f = sym (ap (λ (r : Row). r.file) e) ∙ w.1 in
    let eb : (row_in (slot_at xs i)).block ≡ r.block = ap (λ (r : Row). r.block) e in
    let found : look xs f r.block ≡ Some r.entry = look_found xs f r.block i (single_of home n xs s.ages) w.0 (w.1, eb) ∙ ap (λ (r : Row). Some r.entry) e in
    sym (lowest_some (look xs) f b r.block r.entry (omega (arith, w.2)) (s.numbered f r.block (ap is_some found)).1 found
    (λ b' l m. look_none xs f b' (λ q u h. let k = best.1 q (omega (arith, used_within xs q u, s.long)) (u, h.0, omega (arith, h.1)) in omega (arith, h.1)))
    ∙ ap (λ (k : ℕ). Some (record { file = k; block = r.block; entry = r.entry })) (sym ef))
