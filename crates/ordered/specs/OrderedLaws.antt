-- What each change of rising rows means.
use Rattle.std.specs.Prelude.{◌≡◌, ℕ, ◌+◌, ◌-◌, ◌<◌, ◌≤◌, true, false, not, cond, ◌==◌, ◌≢◌, List, [], length, get_or, is_some, Some, None, Option, slice_get, slice_index_or, slice_set, refl}
use Rattle.std.proofs.Common.{sym, ap, subst, ◌∙◌, inl, inr, arith, length-set, get_or-set_same, get_or-set_other}
use Rattle.std.specs.List.{insert, remove}
use Rattle.std.proofs.lemmas.Bool.{cases_eq, cases_lt, cases_order, cond-true, cond-false, eq-eqb, ne_eqb}
use Rattle.std.proofs.lemmas.Option.{slice_get-get_or, slice_get_past}
use Rattle.std.proofs.lemmas.List.Edits.{length-insert, length-remove, get_or-insert_below, get_or-insert_at, get_or-insert_above, get_or-remove_below, get_or-remove_above}
use Rattle.blocks.specs.declared.Entry.{Entry}
use Rattle.blocks.specs.Blocks.{changed, only, one}
use Rattle.blocks.proofs.Sums.{tally_none}
use Rattle.tables.specs.declared.row.Row.{Row}
use Rattle.tables.specs.Holding.{Numbered, full, lowest_row}
use Rattle.tables.specs.Rows.{blank, Good, says}
use Rattle.tables.proofs.Lowest.{lowest_none, lowest_some}
use Rattle.tables.proofs.Looks.{first_none, first_past, first_only, first_set, first_inserted, first_removed, first_some, says_here, says_none, says_key, changed_by, tally_by, room_old, room_new, no_room}
use Rattle.ordered.specs.Ordered.{lookup, rank, rank_at, Rising, Sound, Stands, Hit, Miss}

abbrev rank_of : Row → ℕ
rank_of x = rank x.file x.block

-- A row of another rank does not have the key.
other : (x : Row) (f b : ℕ) → rank_of x ≢ rank f b → says f b x ≡ None
other x f b n = says_none f b x (λ p q. n (omega arith))

pub empty_sound : (room cap : ℕ) → room ≤ cap → Sound [] room cap
empty_sound room cap l = record {
  rising = λ i j _ m. absurd (omega arith);
  numbered = λ i m. absurd (omega arith);
  counted = sym (tally_none (lookup []) (λ f b. refl));
  fits = omega arith;
  memory = l;
}

-- Keys are file and block numbers.
pub numbered_keys : (xs : List Row) (room cap : ℕ) → Sound xs room cap → Numbered (lookup xs)
numbered_keys xs room cap s f b e =
    let r = first_some (says f b) blank xs e in
    let k = says_key f b (slice_index_or xs r.0 blank) r.2 in
    let n = s.numbered r.0 r.1 in
    (omega (arith, k.0, n.0), omega (arith, k.1, n.1))

apart : (xs : List Row) → Rising xs → (i j : ℕ) → i < length xs → j < length xs → j ≢ i → rank_at xs j ≢ rank_at xs i
apart xs up i j l m n e = elim (cases_lt i j) [ inl k ↦ omega (arith, up i j k m) | inr k ↦ omega (arith, up j i (omega arith) l) ]

-- ---- what is found

pub hit_found : (xs : List Row) (f b i : ℕ) → Rising xs → Hit xs f b i → lookup xs f b ≡ Some (get_or xs i blank).entry
hit_found xs f b i up h =
    first_only (says f b) blank xs i h.within (λ j m n. other (slice_index_or xs j blank) f b (λ e. apart xs up i j h.within m n (omega arith)))
    ∙ says_here f b (slice_index_or xs i blank) h.file h.block

-- below and above the place where a key would stand
below : (xs : List Row) (f b i k : ℕ) → Rising xs → Miss xs f b i → k < i → rank_at xs k < rank f b
below xs f b i k up h l = elim (cases_eq k (i - 1)) [
  | inl e ↦ let z : rank_at xs k ≡ rank_at xs (i - 1) = ap (rank_at xs) e in omega (arith, h.before (omega arith))
  | inr n ↦ omega (arith, h.before (omega arith), up k (i - 1) (omega arith) (omega arith))
]

above : (xs : List Row) (f b i k : ℕ) → Rising xs → Miss xs f b i → i ≤ k → k < length xs → rank f b < rank_at xs k
above xs f b i k up h l m = elim (cases_eq i k) [
  | inl e ↦ let z : rank_at xs i ≡ rank_at xs k = ap (rank_at xs) e in omega (arith, h.after (omega arith))
  | inr n ↦ omega (arith, h.after (omega arith), up i k (omega arith) m)
]

pub miss_none : (xs : List Row) (f b i : ℕ) → Rising xs → Miss xs f b i → lookup xs f b ≡ None
miss_none xs f b i up h = first_none (says f b) blank xs (λ k m. other (slice_index_or xs k blank) f b (λ e. elim (cases_lt k i) [
  | inl l ↦ omega (arith, below xs f b i k up h l)
  | inr l ↦ omega (arith, above xs f b i k up h l m)
]))

-- ---- an entry changed in its place

pub set_after : (xs : List Row) (f b i : ℕ) (e : Entry) → Rising xs → Hit xs f b i
    → lookup (slice_set xs i (record { file = f; block = b; entry = e })) ≡ changed (lookup xs) f (only b) (λ _. Some e)
set_after xs f b i e up h =
    let y : Row = record { file = f; block = b; entry = e } in
    let len = length-set xs i y in
    let new : get_or (slice_set xs i y) i blank ≡ y = get_or-set_same xs i y blank h.within in
    changed_by (lookup xs) (lookup (slice_set xs i y)) f b (Some e)
    (first_only (says f b) blank (slice_set xs i y) i (omega (arith, h.within))
    (λ j m n. ap (says f b) (get_or-set_other xs i j y blank n) ∙ other (slice_index_or xs j blank) f b (λ z. apart xs up i j h.within (omega arith) n (omega (arith, h.file, h.block))))
    ∙ ap (says f b) new ∙ says_here f b y refl refl)
    (λ f' b' n. first_set (says f' b') blank xs i y
    (says_none f' b' (slice_index_or xs i blank) (λ p q. n (sym h.file ∙ p) (sym h.block ∙ q)) ∙ sym (says_none f' b' y n)))

pub set_sound : (xs : List Row) (f b i : ℕ) (e : Entry) (room cap : ℕ) → f < 65536 → b < 65536 → Sound xs room cap → Hit xs f b i
    → Sound (slice_set xs i (record { file = f; block = b; entry = e })) room cap
set_sound xs f b i e room cap hf hb s h =
    let y : Row = record { file = f; block = b; entry = e } in
    let len = length-set xs i y in
    let same : (k : ℕ) → rank_at (slice_set xs i y) k ≡ rank_at xs k = λ k. elim (cases_eq k i) [
      | inl z ↦ ap (rank_at (slice_set xs i y)) z ∙ ap rank_of (get_or-set_same xs i y blank h.within) ∙ omega (arith, h.file, h.block) ∙ sym (ap (rank_at xs) z)
      | inr n ↦ ap rank_of (get_or-set_other xs i k y blank n)
    ] in
    let was : one (is_some (lookup xs f b)) ≡ 1 = ap (λ (o : Option Entry). one (is_some o)) (hit_found xs f b i s.rising h) in
    let count = tally_by (lookup xs) (lookup (slice_set xs i y)) f b (Some e) hf hb (set_after xs f b i e s.rising h) in
    record {
      rising = λ j k l m. omega (arith, same j, same k, s.rising j k l (omega arith));
      numbered = λ k m. elim (cases_eq k i) [
        | inl z ↦ subst Good (sym (ap (λ (n : ℕ). get_or (slice_set xs i y) n blank) z ∙ get_or-set_same xs i y blank h.within)) (hf, hb)
        | inr n ↦ subst Good (sym (get_or-set_other xs i k y blank n)) (s.numbered k (omega arith))
      ];
      counted = omega (arith, s.counted);
      fits = omega (arith, s.fits);
      memory = s.memory;
    }

-- ---- a row put in where it would stand

pub insert_after : (xs : List Row) (f b i : ℕ) (e : Entry) → Rising xs → Miss xs f b i
    → lookup (insert xs i (record { file = f; block = b; entry = e })) ≡ changed (lookup xs) f (only b) (λ _. Some e)
insert_after xs f b i e up h =
    let y : Row = record { file = f; block = b; entry = e } in
    let len = length-insert xs i y h.within in
    changed_by (lookup xs) (lookup (insert xs i y)) f b (Some e)
    (first_only (says f b) blank (insert xs i y) i (omega (arith, h.within))
    (λ j m n. elim (cases_lt j i) [
      | inl l ↦ ap (says f b) (get_or-insert_below xs i y blank j l h.within) ∙ first_past (says f b) blank xs j (miss_none xs f b i up h) (omega (arith, h.within))
      | inr l ↦ ap (λ (k : ℕ). says f b (slice_index_or (insert xs i y) k blank)) (let z : j ≡ (j - 1) + 1 = omega arith in z)
          ∙ ap (says f b) (get_or-insert_above xs i y blank (j - 1) (omega arith) h.within) ∙ first_past (says f b) blank xs (j - 1) (miss_none xs f b i up h) (omega arith)
    ])
    ∙ ap (says f b) (get_or-insert_at xs i y blank h.within) ∙ says_here f b y refl refl)
    (λ f' b' n. first_inserted (says f' b') blank xs i y (says_none f' b' y n))

pub insert_sound : (xs : List Row) (f b i : ℕ) (e : Entry) (room cap cap' : ℕ) → f < 65536 → b < 65536 → Sound xs room cap → Miss xs f b i
    → length xs < room → cap ≤ cap' → Sound (insert xs i (record { file = f; block = b; entry = e })) room cap'
insert_sound xs f b i e room cap cap' hf hb s h space more =
    let y : Row = record { file = f; block = b; entry = e } in
    let ys = insert xs i y in
    let len = length-insert xs i y h.within in
    let row_lower : (k : ℕ) → k < i → slice_index_or ys k blank ≡ get_or xs k blank = λ k l. get_or-insert_below xs i y blank k l h.within in
    let row_here : get_or ys i blank ≡ y = get_or-insert_at xs i y blank h.within in
    let row_upper : (k : ℕ) → i < k → slice_index_or ys k blank ≡ get_or xs (k - 1) blank = λ k l.
    ap (λ (n : ℕ). get_or ys n blank) (let z : k ≡ (k - 1) + 1 = omega arith in z) ∙ get_or-insert_above xs i y blank (k - 1) (omega arith) h.within in
    let lower : (k : ℕ) → k < i → rank_at ys k ≡ rank_at xs k = λ k l. ap rank_of (row_lower k l) in
    let here : rank_at ys i ≡ rank f b = ap rank_of row_here in
    let upper : (k : ℕ) → i < k → rank_at ys k ≡ rank_at xs (k - 1) = λ k l. ap rank_of (row_upper k l) in
    let was : one (is_some (lookup xs f b)) ≡ 0 = ap (λ (o : Option Entry). one (is_some o)) (miss_none xs f b i s.rising h) in
    let count = tally_by (lookup xs) (lookup ys) f b (Some e) hf hb (insert_after xs f b i e s.rising h) in
    record {
      rising = λ j k l m. elim (cases_order j i) [
        | inl p ↦ omega (arith, ap (rank_at ys) p, here, upper k (omega arith), above xs f b i (k - 1) s.rising h (omega arith) (omega arith))
        | inr p ↦ elim p [
          | inl q ↦ elim (cases_order k i) [
            | inl u ↦ omega (arith, ap (rank_at ys) u, here, lower j q, below xs f b i j s.rising h q)
            | inr u ↦ elim u [
              | inl v ↦ omega (arith, lower j q, lower k v, s.rising j k l (omega (arith, h.within)))
              | inr v ↦ omega (arith, lower j q, upper k v, below xs f b i j s.rising h q, above xs f b i (k - 1) s.rising h (omega arith) (omega arith))
            ]
          ]
          | inr q ↦ omega (arith, upper j q, upper k (omega arith), s.rising (j - 1) (k - 1) (omega arith) (omega arith))
        ]
      ];
      numbered = λ k m. elim (cases_order k i) [
        | inl p ↦ subst Good (sym (ap (λ (n : ℕ). get_or ys n blank) p ∙ row_here)) (hf, hb)
        | inr p ↦ elim p [
          | inl q ↦ subst Good (sym (row_lower k q)) (s.numbered k (omega (arith, h.within)))
          | inr q ↦ subst Good (sym (row_upper k q)) (s.numbered (k - 1) (omega arith))
        ]
      ];
      counted = omega (arith, s.counted);
      fits = omega arith;
      memory = omega (arith, s.memory);
    }

-- ---- a row taken out

pub remove_after : (xs : List Row) (f b i : ℕ) → Rising xs → Hit xs f b i → lookup (remove xs i) ≡ changed (lookup xs) f (only b) (λ _. None)
remove_after xs f b i up h =
    let len = length-remove xs i h.within in
    let gone : (k : ℕ) → k < length xs → k ≢ i → says f b (slice_index_or xs k blank) ≡ None
    = λ k m n. other (slice_index_or xs k blank) f b (λ z. apart xs up i k h.within m n (omega (arith, h.file, h.block))) in
    changed_by (lookup xs) (lookup (remove xs i)) f b None
    (first_none (says f b) blank (remove xs i) (λ k m. elim (cases_lt k i) [
      | inl l ↦ ap (says f b) (get_or-remove_below xs i blank k l h.within) ∙ gone k (omega arith) (λ z. omega arith)
      | inr l ↦ ap (says f b) (get_or-remove_above xs i blank k l h.within) ∙ gone (k + 1) (omega arith) (λ z. omega arith)
    ]))
    (λ f' b' n. first_removed (says f' b') blank xs i (says_none f' b' (slice_index_or xs i blank) (λ p q. n (sym h.file ∙ p) (sym h.block ∙ q))))

pub remove_sound : (xs : List Row) (f b i room cap cap' : ℕ) → f < 65536 → b < 65536 → Sound xs room cap → Hit xs f b i → cap ≤ cap' → Sound (remove xs i) room cap'
remove_sound xs f b i room cap cap' hf hb s h more =
    let ys = remove xs i in
    let len = length-remove xs i h.within in
    let row_lower : (k : ℕ) → k < i → slice_index_or ys k blank ≡ get_or xs k blank = λ k l. get_or-remove_below xs i blank k l h.within in
    let row_upper : (k : ℕ) → i ≤ k → slice_index_or ys k blank ≡ get_or xs (k + 1) blank = λ k l. get_or-remove_above xs i blank k l h.within in
    let lower : (k : ℕ) → k < i → rank_at ys k ≡ rank_at xs k = λ k l. ap rank_of (row_lower k l) in
    let upper : (k : ℕ) → i ≤ k → rank_at ys k ≡ rank_at xs (k + 1) = λ k l. ap rank_of (row_upper k l) in
    let was : one (is_some (lookup xs f b)) ≡ 1 = ap (λ (o : Option Entry). one (is_some o)) (hit_found xs f b i s.rising h) in
    let count = tally_by (lookup xs) (lookup ys) f b None hf hb (remove_after xs f b i s.rising h) in
    record {
      rising = λ j k l m. elim (cases_lt k i) [
        | inl p ↦ omega (arith, lower j (omega arith), lower k p, s.rising j k l (omega arith))
        | inr p ↦ elim (cases_lt j i) [
          | inl q ↦ omega (arith, lower j q, upper k p, s.rising j (k + 1) (omega arith) (omega arith))
          | inr q ↦ omega (arith, upper j q, upper k p, s.rising (j + 1) (k + 1) (omega arith) (omega arith))
        ]
      ];
      numbered = λ k m. elim (cases_lt k i) [
        | inl p ↦ subst Good (sym (row_lower k p)) (s.numbered k (omega arith))
        | inr p ↦ subst Good (sym (row_upper k p)) (s.numbered (k + 1) (omega arith))
      ];
      counted = omega (arith, s.counted);
      fits = omega (arith, s.fits);
      memory = omega (arith, s.memory);
    }

pub remove_none : (xs : List Row) (f b i : ℕ) → Rising xs → Miss xs f b i → lookup xs ≡ changed (lookup xs) f (only b) (λ _. None)
remove_none xs f b i up h = changed_by (lookup xs) (lookup xs) f b None (miss_none xs f b i up h) (λ f b _. refl)

-- ---- whether there is room

pub room_hit : (xs : List Row) (f b i room cap : ℕ) → Sound xs room cap → Hit xs f b i → true ≡ not (full (lookup xs) room f b)
room_hit xs f b i room cap s h = sym (ap not (room_old (lookup xs) room f b (ap is_some (hit_found xs f b i s.rising h))))

pub room_miss : (xs : List Row) (f b room cap : ℕ) → Sound xs room cap → length xs < room → true ≡ not (full (lookup xs) room f b)
room_miss xs f b room cap s l = sym (ap not (room_new (lookup xs) room f b (omega (arith, s.counted))))

pub full_miss : (xs : List Row) (f b i room cap : ℕ) → Sound xs room cap → Miss xs f b i → room ≤ length xs → false ≡ not (full (lookup xs) room f b)
full_miss xs f b i room cap s h l = sym (ap not (no_room (lookup xs) room f b (ap is_some (miss_none xs f b i s.rising h)) (omega (arith, s.counted))))

-- ---- the lowest key: no row before the place, and from the place on rows of the file or of higher ones

stands_below : (xs : List Row) (f b r k : ℕ) → Rising xs → Stands xs (rank f b) r → k < r → rank_at xs k < rank f b
stands_below xs f b r k up h l = elim (cases_eq k (r - 1)) [
  | inl e ↦ omega (arith, ap (rank_at xs) e, h.before (omega arith))
  | inr n ↦ omega (arith, h.before (omega arith), h.within, up k (r - 1) (omega arith) (omega (arith, h.within)))
]

stands_above : (xs : List Row) (r k : ℕ) → Rising xs → r ≤ k → k < length xs → rank_at xs r ≤ rank_at xs k
stands_above xs r k up l m = elim (cases_eq r k) [ inl e ↦ omega (arith, ap (rank_at xs) e) | inr n ↦ omega (arith, up r k (omega arith) m) ]

-- no key of a rank between that of the place and that of the row there
gap : (xs : List Row) (f b r b' : ℕ) → Rising xs → Stands xs (rank f b) r → b ≤ b' → (r < length xs → rank f b' < rank_at xs r) → lookup xs f b' ≡ None
gap xs f b r b' up h l hi = first_none (says f b') blank xs (λ k m. other (slice_index_or xs k blank) f b' (λ e. elim (cases_lt k r) [
  | inl q ↦ omega (arith, stands_below xs f b r k up h q)
  | inr q ↦ omega (arith, stands_above xs r k up q m, hi (omega arith))
]))

pub low_none : (xs : List Row) (f b r : ℕ) → Rising xs → Stands xs (rank f b) r → (r < length xs → f < (get_or xs r blank).file) → None ≡ lowest_row (lookup xs) f b
low_none xs f b r up h hi = sym (lowest_none (lookup xs) f b (λ b' l m. gap xs f b r b' up h l (λ q. omega (arith, hi q))))

pub low_some : (xs : List Row) (f b r room cap : ℕ) → Sound xs room cap → Stands xs (rank f b) r → r < length xs → (get_or xs r blank).file ≡ f
    → Some (slice_index_or xs r blank) ≡ lowest_row (lookup xs) f b
low_some xs f b r room cap s h q e =
    let x : Row = get_or xs r blank in
    sym (lowest_some (lookup xs) f b x.block x.entry (omega (arith, h.from q)) (s.numbered r q).1
    (hit_found xs f x.block r s.rising (record { within = q; file = e; block = refl }))
    (λ b' l m. gap xs f b r b' s.rising h l (λ _. omega arith))
    ∙ ap (λ (n : ℕ). Some (record { file = n; block = x.block; entry = x.entry })) (sym e))

-- the row, if it is of the file
abbrev pub of_file : ℕ → Option Row → Option Row
of_file f None = None
of_file f (Some x) = cond (x.file == f) (Some x) None

pub low_here : (xs : List Row) (f b r room cap : ℕ) → Sound xs room cap → Stands xs (rank f b) r → of_file f (slice_get xs r) ≡ lowest_row (lookup xs) f b
low_here xs f b r room cap s h = elim (cases_lt r (length xs)) [
  | inl q ↦ ap (of_file f) (slice_get-get_or xs r blank q) ∙ elim (cases_eq (get_or xs r blank).file f) [
    | inl e ↦ cond-true _ _ _ (eq-eqb _ _ e) ∙ low_some xs f b r room cap s h q e
    | inr n ↦ cond-false _ _ _ (ne_eqb _ _ n) ∙ low_none xs f b r s.rising h (λ _. omega (arith, h.from q, (s.numbered r q).1))
  ]
  | inr q ↦ ap (of_file f) (slice_get_past xs r q) ∙ low_none xs f b r s.rising h (λ z. absurd (omega arith))
]
