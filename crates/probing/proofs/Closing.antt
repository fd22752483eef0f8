-- How a hole is closed in one pass.
use Rattle.std.proofs.Common.{◌≡◌, ℕ, ◌+◌, ◌<◌, ◌≤◌, true, false, cond, eqb, ◌≢◌, ◌⊎◌, List, length, set, Some, None, sym, refl, ap, ◌∙◌, subst, inl, inr, arith, length-set}
use mathlib.Core.Path.{fun_ext}
use Rattle.std.proofs.lemmas.Bool.{cases_eq, cases_lt, both_ways, cond-true, cond-false, eq-eqb, ne_eqb}
use Rattle.std.proofs.lemmas.List.{set_comm}
use Rattle.tables.proofs.Looks.{first_set}
use Rattle.probing.specs.declared.slots.Slot.{Slot}
use Rattle.probing.specs.Slots.{free, used, row_in, slot_at, Used, tells, look, bit, occupied, dist, home_of, Passes, Single, Reached, Closed}
use Rattle.probing.proofs.Distances.{dist_lt, dist_inj, dist_self, between, around}
use Rattle.probing.specs.SlotLaws.{keyed, tells_none, tells_other, used_within, look_found, occupied_set, bit_free, at_same, at_other, use_of, has_of, across}

-- The pass from `start` on has come k slots far, and the hole lies behind it.
pub record Closing (home : ℕ → ℕ → ℕ) (n start : ℕ) (xs : List Slot) (hole k : ℕ) (age : ℕ → ℕ) (latest : ℕ) : Type 0 where
  pub reached : Reached home n xs (λ x. x ≢ hole → Used xs x) age latest
  -- no key that the pass has left behind is searched for over the hole
  pub clear : (q : ℕ) → Used xs q → dist n start q < k → Passes home n (slot_at xs q) q hole → ⊥
  -- a key left behind that is searched for over a slot ahead is no younger than the key that left the hole
  pub older : (q x : ℕ) → Used xs q → dist n start q < k → x < n → k ≤ dist n start x → Passes home n (slot_at xs q) q x → age q ≤ age hole

-- The slot at j is to move into the hole.
pub record Move (home : ℕ → ℕ → ℕ) (n : ℕ) (xs : List Slot) (hole j : ℕ) : Type 0 where
  pub long : length xs ≡ n
  pub hole_in : hole < n
  pub j_in : j < n
  pub apart : hole ≢ j
  pub hole_free : used (slot_at xs hole) ≡ false
  pub j_used : Used xs j
  pub homes : (f b : ℕ) → home f b < n
  pub over : Passes home n (slot_at xs j) j hole

module _ (home : ℕ → ℕ → ℕ) (n : ℕ) (xs : List Slot) (hole j : ℕ) (m : Move home n xs hole j) where
  abbrev ys : List Slot
  ys = set xs hole (slot_at xs j)

  abbrev zs : List Slot
  zs = set ys j free

  len_ys : length ys ≡ length xs
  len_ys = length-set xs hole (slot_at xs j)

  moved_hole : slot_at zs j ≡ free
  moved_hole = at_same ys j free j (omega (arith, len_ys, m.long, m.j_in)) refl

  moved_full : slot_at zs hole ≡ slot_at xs j
  moved_full = at_other ys j free hole m.apart ∙ at_same xs hole (slot_at xs j) hole (omega (arith, m.long, m.hole_in)) refl

  moved_rest : (q : ℕ) → q ≢ hole → q ≢ j → slot_at zs q ≡ slot_at xs q
  moved_rest q a b = at_other ys j free q b ∙ at_other xs hole (slot_at xs j) q a

  -- the slot that a used slot comes from
  origin : (q : ℕ) → Used zs q → ((q ≡ hole) × (slot_at zs q ≡ slot_at xs j)) ⊎ ((q ≢ hole) × (q ≢ j) × (slot_at zs q ≡ slot_at xs q))
  origin q u = elim (cases_eq q hole) [
    | inl e ↦ inl (e, ap (slot_at zs) e ∙ moved_full)
    | inr a ↦ elim (cases_eq q j) [
      | inl e ↦ absurd (both_ways (used (slot_at zs q)) (ap (λ (s : Slot). used s) (ap (slot_at zs) e ∙ moved_hole)) u)
      | inr b ↦ inr (a, b, moved_rest q a b)
    ]
  ]

  back : (s t : Slot) → s ≡ t → used s ≡ true → used t ≡ true
  back s t e u = use_of t s (sym e) u

  moved_single : Single xs → Single zs
  moved_single one_each p q up uq h = elim (origin p up) [
    | inl a ↦ elim (origin q uq) [
      | inl b ↦ a.0 ∙ sym b.0
      | inr b ↦ absurd (b.1 (sym (one_each j q m.j_used (back (slot_at zs q) (slot_at xs q) b.2 uq) (across (slot_at zs p) (slot_at xs j) (slot_at zs q) (slot_at xs q) a.1 b.2 h))))
    ]
    | inr a ↦ elim (origin q uq) [
      | inl b ↦ absurd (a.1 (one_each p j (back (slot_at zs p) (slot_at xs p) a.2 up) m.j_used (across (slot_at zs p) (slot_at xs p) (slot_at zs q) (slot_at xs j) a.2 b.1 h)))
      | inr b ↦ one_each p q (back (slot_at zs p) (slot_at xs p) a.2 up) (back (slot_at zs q) (slot_at xs q) b.2 uq) (across (slot_at zs p) (slot_at xs p) (slot_at zs q) (slot_at xs q) a.2 b.2 h)
    ]
  ]

  pub moved_look : Single xs → look zs ≡ look xs
  moved_look one_each = fun_ext (λ f. fun_ext (λ b. elim (keyed f b (slot_at xs j)) [
    | inl h ↦ look_found zs f b hole (moved_single one_each) (use_of (slot_at zs hole) (slot_at xs j) moved_full m.j_used) (has_of f b (slot_at zs hole) (slot_at xs j) moved_full h)
        ∙ ap (λ (s : Slot). Some (row_in s).entry) moved_full ∙ sym (look_found xs f b j one_each m.j_used h)
    | inr a ↦
        let none : tells f b (slot_at xs j) ≡ None = tells_other f b (slot_at xs j) (λ _ h. a h) in
        first_set (tells f b) free ys j free
        (ap (tells f b) (at_other xs hole (slot_at xs j) j (λ z. m.apart (sym z))) ∙ none)
        ∙ first_set (tells f b) free xs hole (slot_at xs j) (tells_none f b (slot_at xs hole) m.hole_free ∙ sym none)
  ]))

  -- The key takes its age with it.
  abbrev pub aged : (ℕ → ℕ) → ℕ → ℕ
  aged age x = cond (eqb x hole) (age j) (age x)

  aged_here : (age : ℕ → ℕ) (x : ℕ) → x ≡ hole → aged age x ≡ age j
  aged_here age x e = cond-true (eqb x hole) (age j) (age x) (eq-eqb x hole e)

  aged_other : (age : ℕ → ℕ) (x : ℕ) → x ≢ hole → aged age x ≡ age x
  aged_other age x e = cond-false (eqb x hole) (age j) (age x) (ne_eqb x hole e)

  abbrev to : (q x : ℕ) → Slot → Type 0
  to q x s = Passes home n s q x

  pub moved_closing : (start k : ℕ) (age : ℕ → ℕ) (latest : ℕ) → start < n → dist n start hole < k → dist n start j ≡ k
      → Closing home n start xs hole k age latest → Closing home n start zs j (k + 1) (aged age) latest
  moved_closing start k age latest ls lh lj c =
      let r = c.reached in
      let in_xs : (q : ℕ) → Used xs q → q < n = λ q u. omega (arith, used_within xs q u, m.long) in
      let in_home : (q : ℕ) → home_of home (slot_at xs q) < n = λ q. m.homes (row_in (slot_at xs q)).file (row_in (slot_at xs q)).block in
      let jo : age hole < age j = (r.way j hole m.j_used m.hole_in m.over).1 in
      let aj : aged age j ≡ age j = aged_other age j (λ e. m.apart (sym e)) in
      record {
        reached = record {
          single = moved_single r.single;
          young = λ q u. elim (origin q u) [
            | inl a ↦ omega (arith, aged_here age q a.0, r.young j m.j_used)
            | inr a ↦ omega (arith, aged_other age q a.0, r.young q (back (slot_at zs q) (slot_at xs q) a.2 u))
          ];
          way = λ q x u lx p. elim (origin q u) [
            | inl a ↦
                let p1 : Passes home n (slot_at xs j) hole x = subst (λ (z : ℕ). Passes home n (slot_at xs j) z x) a.0 (subst (to q x) a.1 p) in
                let nh : x ≢ hole = λ e. omega (arith, ap (dist n (home_of home (slot_at xs j))) e) in
                let w = r.way j x m.j_used lx (omega (arith, m.over)) in
                ((λ nj. use_of (slot_at zs x) (slot_at xs x) (moved_rest x nh nj) (w.0 nh)), omega (arith, aged_here age q a.0, aged_other age x nh, w.1))
            | inr a ↦
                let uq = back (slot_at zs q) (slot_at xs q) a.2 u in
                let p1 : Passes home n (slot_at xs q) q x = subst (to q x) a.2 p in
                let w = r.way q x uq lx p1 in
                let aq = aged_other age q a.0 in
                elim (cases_eq x hole) [
                  | inl e ↦
                      let p2 : Passes home n (slot_at xs q) q hole = subst (λ (z : ℕ). Passes home n (slot_at xs q) q z) e p1 in
                      let far : k < dist n start q = elim (cases_lt (dist n start q) k) [
                        | inl l ↦ absurd (c.clear q uq l p2)
                        | inr l ↦ elim (cases_eq (dist n start q) k) [
                          | inl s ↦ absurd (a.1 (dist_inj n start q j ls (in_xs q uq) m.j_in (s ∙ sym lj)))
                          | inr s ↦ omega arith
                        ]
                      ] in
                      let w2 = r.way q j uq m.j_in (between n (home_of home (slot_at xs q)) start hole j q (in_home q) ls m.hole_in m.j_in (in_xs q uq) (omega arith) (omega arith) p2) in
                      ((λ _. use_of (slot_at zs x) (slot_at xs j) (ap (slot_at zs) e ∙ moved_full) m.j_used), omega (arith, aged_here age x e, aq, w2.1))
                  | inr nh ↦ ((λ nj. use_of (slot_at zs x) (slot_at xs x) (moved_rest x nh nj) (w.0 nh)), omega (arith, aged_other age x nh, aq, w.1))
                ]
          ];
        };
        clear = λ q u l p. elim (origin q u) [
          | inl a ↦
              let p1 : Passes home n (slot_at xs j) hole j = subst (λ (z : ℕ). Passes home n (slot_at xs j) z j) a.0 (subst (to q j) a.1 p) in
              omega (arith, m.over)
          | inr a ↦
              let uq = back (slot_at zs q) (slot_at xs q) a.2 u in
              let p1 : Passes home n (slot_at xs q) q j = subst (to q j) a.2 p in
              elim (cases_eq (dist n start q) k) [
                | inl s ↦ a.1 (dist_inj n start q j ls (in_xs q uq) m.j_in (s ∙ sym lj))
                | inr s ↦ omega (arith, c.older q j uq (omega arith) m.j_in (omega arith) p1, (r.way q j uq m.j_in p1).1)
              ]
        ];
        older = λ q x u l lx f p. elim (origin q u) [
          | inl a ↦ omega (arith, aged_here age q a.0)
          | inr a ↦
              let uq = back (slot_at zs q) (slot_at xs q) a.2 u in
              let p1 : Passes home n (slot_at xs q) q x = subst (to q x) a.2 p in
              elim (cases_eq (dist n start q) k) [
                | inl s ↦ absurd (a.1 (dist_inj n start q j ls (in_xs q uq) m.j_in (s ∙ sym lj)))
                | inr s ↦ omega (arith, aged_other age q a.0, c.older q x uq (omega arith) lx (omega arith) p1)
              ]
        ];
      }

-- The next slot stays.
pub stayed : (home : ℕ → ℕ → ℕ) (n start : ℕ) (xs : List Slot) (hole j k : ℕ) (age : ℕ → ℕ) (latest : ℕ) → length xs ≡ n → start < n → hole < n → j < n
    → ((f b : ℕ) → home f b < n) → dist n start hole < k → dist n start j ≡ k → (Passes home n (slot_at xs j) j hole → ⊥)
    → Closing home n start xs hole k age latest → Closing home n start xs hole (k + 1) age latest
stayed home n start xs hole j k age latest len ls lh lj homes bh dj d c =
    let same : (q : ℕ) → Used xs q → dist n start q < k + 1 → (dist n start q < k) ⊎ (q ≡ j)
    = λ q u l. elim (cases_lt (dist n start q) k) [
      | inl m ↦ inl m
      | inr m ↦ inr (dist_inj n start q j ls (omega (arith, used_within xs q u)) lj (omega arith))
    ] in
    record {
      reached = c.reached;
      clear = λ q u l p. elim (same q u l) [
        | inl m ↦ c.clear q u m p
        | inr e ↦ d (subst (λ (z : ℕ). Passes home n (slot_at xs z) z hole) e p)
      ];
      older = λ q x u l lx f p. elim (same q u l) [
        | inl m ↦ c.older q x u m lx (omega arith) p
        | inr e ↦
            let p1 : Passes home n (slot_at xs j) j x = subst (λ (z : ℕ). Passes home n (slot_at xs z) z x) e p in
            absurd (d (around n (home_of home (slot_at xs j)) start hole j x (homes (row_in (slot_at xs j)).file (row_in (slot_at xs j)).block) ls lh lj lx (omega arith) (omega arith) p1))
      ];
    }

-- The hole is closed when the next slot is free, or when no slot is left.
pub settled : (home : ℕ → ℕ → ℕ) (n start : ℕ) (xs : List Slot) (hole k : ℕ) (age : ℕ → ℕ) (latest : ℕ) → length xs ≡ n → start < n → hole < n
    → ((f b : ℕ) → home f b < n) → dist n start hole < k
    → ((n ≤ k) ⊎ ((j : ℕ) × (j < n) × (dist n start j ≡ k) × (used (slot_at xs j) ≡ false)))
    → Closing home n start xs hole k age latest → Reached home n xs (λ x. Used xs x) age latest
settled home n start xs hole k age latest len ls lh homes bh stop c =
    let r = c.reached in
    let off : (q : ℕ) → Used xs q → Passes home n (slot_at xs q) q hole → ⊥ = λ q u p.
    (let lq : q < n = omega (arith, used_within xs q u) in
    elim (cases_lt (dist n start q) k) [
      | inl l ↦ c.clear q u l p
      | inr l ↦ elim stop [
        | inl end ↦ omega (arith, dist_lt n start q ls lq)
        | inr f ↦ elim (cases_eq (dist n start q) k) [
          | inl s ↦ both_ways (used (slot_at xs q)) (ap (λ (z : ℕ). used (slot_at xs z)) (dist_inj n start q f.0 ls lq f.1 (s ∙ sym f.2)) ∙ f.3) u
          | inr s ↦
              let p2 = between n (home_of home (slot_at xs q)) start hole f.0 q (homes (row_in (slot_at xs q)).file (row_in (slot_at xs q)).block) ls lh f.1 lq (omega (arith, f.2)) (omega (arith, f.2)) p in
              both_ways (used (slot_at xs f.0)) f.3 ((r.way q f.0 u f.1 p2).0 (λ e. omega (arith, f.2, ap (dist n start) e)))
        ]
      ]
    ]) in
    record {
      single = r.single;
      young = r.young;
      way = λ q x u lx p. ((r.way q x u lx p).0 (λ e. off q u (subst (λ (z : ℕ). Passes home n (slot_at xs q) q z) e p)), (r.way q x u lx p).1);
    }

-- The hole as it was left.
pub opening : (home : ℕ → ℕ → ℕ) (n start : ℕ) (xs : List Slot) (age : ℕ → ℕ) (latest : ℕ) → length xs ≡ n → start < n → used (slot_at xs start) ≡ false
    → Reached home n xs (λ x. x ≢ start → Used xs x) age latest → Closing home n start xs start 1 age latest
opening home n start xs age latest len ls free r =
    let no : (q : ℕ) → Used xs q → dist n start q < 1 → ⊥ = λ q u l.
    both_ways (used (slot_at xs q))
    (ap (λ (z : ℕ). used (slot_at xs z)) (dist_inj n start q start ls (omega (arith, used_within xs q u)) ls (omega (arith, dist_self n start))) ∙ free) u in
    record { reached = r; clear = λ q u l p. no q u l; older = λ q x u l lx f p. absurd (no q u l) }

-- ---- the pass, turn by turn

-- What a turn of the pass keeps, from the slots as they were.
pub record Turn (home : ℕ → ℕ → ℕ) (n : ℕ) (was : List Slot) (start : ℕ) (xs : List Slot) (hole k : ℕ) : Type 0 where
  pub long : length xs ≡ n
  pub from : start < n
  pub within : hole < n
  pub behind : dist n start hole < k
  pub empty : used (slot_at xs hole) ≡ false
  pub filled : occupied xs ≡ occupied was
  pub closing : ((f b : ℕ) → home f b < n) → (age : ℕ → ℕ) (latest : ℕ) → Reached home n was (λ x. x ≢ start → Used was x) age latest
      → (age' : ℕ → ℕ) × Closing home n start xs hole k age' latest
  pub same : ((f b : ℕ) → home f b < n) → Single was → Single xs × (look xs ≡ look was)

-- The slot x at j is the next, and is used.
pub record Next (home : ℕ → ℕ → ℕ) (n : ℕ) (was : List Slot) (start : ℕ) (xs : List Slot) (hole k j : ℕ) (x : Slot) : Type 0 where
  pub turn : Turn home n was start xs hole k
  pub j_in : j < n
  pub far : dist n start j ≡ k
  pub read : x ≡ slot_at xs j
  pub is_used : used x ≡ true

pub turn_first : (home : ℕ → ℕ → ℕ) (n : ℕ) (xs : List Slot) (start : ℕ) → length xs ≡ n → start < n → used (slot_at xs start) ≡ false
    → Turn home n xs start xs start 1
turn_first home n xs start len ls e = record {
  long = len;
  from = ls;
  within = ls;
  behind = omega (arith, dist_self n start);
  empty = e;
  filled = refl;
  closing = λ homes age latest r. (age, opening home n start xs age latest len ls e r);
  same = λ homes one_each. (one_each, refl);
}

apart_from : (home : ℕ → ℕ → ℕ) (n : ℕ) (was : List Slot) (start : ℕ) (xs : List Slot) (hole k j : ℕ) (x : Slot) → Next home n was start xs hole k j x → hole ≢ j
apart_from home n was start xs hole k j x s e = omega (arith, s.turn.behind, s.far, ap (dist n start) e)

pub turn_moved : (home : ℕ → ℕ → ℕ) (n : ℕ) (was : List Slot) (start : ℕ) (xs : List Slot) (hole k j : ℕ) (x y z : Slot) → Next home n was start xs hole k j x
    → Passes home n x j hole → y ≡ x → z ≡ free
    → Turn home n was start (set (set xs j z) hole y) j (k + 1)
turn_moved home n was start xs hole k j x y z s o ey ez =
    let t = s.turn in
    let ne = apart_from home n was start xs hole k j x s in
    let u : Used xs j = use_of (slot_at xs j) x (sym s.read) s.is_used in
    let lx : j < length xs = omega (arith, t.long, s.j_in) in
    let lh : hole < length xs = omega (arith, t.long, t.within) in
    let y_is : y ≡ slot_at xs j = ey ∙ s.read in
    let ys = set xs hole (slot_at xs j) in
    let zs = set ys j free in
    let l1 : length ys ≡ length xs = length-set xs hole (slot_at xs j) in
    let move : ((f b : ℕ) → home f b < n) → Move home n xs hole j = λ homes. record {
      long = t.long;
      hole_in = t.within;
      j_in = s.j_in;
      apart = ne;
      hole_free = t.empty;
      j_used = u;
      homes = homes;
      over = subst (λ (v : Slot). Passes home n v j hole) s.read o;
    } in
    let done : Turn home n was start zs j (k + 1) = record {
      long = length-set ys j free ∙ l1 ∙ t.long;
      from = t.from;
      within = s.j_in;
      behind = omega (arith, s.far);
      empty = ap (λ (v : Slot). used v) (at_same ys j free j (omega arith) refl);
      filled = (
          let p = occupied_set xs hole (slot_at xs j) lh in
          let q = occupied_set ys j free (omega arith) in
          let e : bit (slot_at ys j) ≡ bit (slot_at xs j) = ap bit (at_other xs hole (slot_at xs j) j (λ w. ne (sym w))) in
          let v = bit_free (slot_at xs hole) t.empty in
          let w : occupied zs ≡ occupied xs = omega arith in
          w ∙ t.filled);
      closing = λ homes age latest r. (
          let m = move homes in
          let c = t.closing homes age latest r in
          (aged home n xs hole j m c.0, moved_closing home n xs hole j m start k c.0 latest t.from t.behind s.far c.1));
      same = λ homes one_each. (
          let m = move homes in
          let o = t.same homes one_each in
          (moved_single home n xs hole j m o.0, moved_look home n xs hole j m o.0 ∙ o.1));
    } in
    subst (λ (v : List Slot). Turn home n was start v j (k + 1)) (set_comm xs hole j y z ne)
    (subst (λ (w : Slot). Turn home n was start (set (set xs hole w) j z) j (k + 1)) (sym y_is)
    (subst (λ (w : Slot). Turn home n was start (set ys j w) j (k + 1)) (sym ez) done))

pub turn_stayed : (home : ℕ → ℕ → ℕ) (n : ℕ) (was : List Slot) (start : ℕ) (xs : List Slot) (hole k j : ℕ) (x : Slot) → Next home n was start xs hole k j x
    → (Passes home n x j hole → ⊥) → Turn home n was start xs hole (k + 1)
turn_stayed home n was start xs hole k j x s o =
    let t = s.turn in
    record {
      long = t.long;
      from = t.from;
      within = t.within;
      behind = omega (arith, t.behind);
      empty = t.empty;
      filled = t.filled;
      closing = λ homes age latest r. (
          let c = t.closing homes age latest r in (
            c.0,
            stayed home n start xs hole j k c.0 latest t.long t.from t.within s.j_in homes t.behind s.far
                (λ p. o (subst (λ (v : Slot). Passes home n v j hole) (sym s.read) p)) c.1,
          ));
      same = t.same;
    }

pub turn_last : (home : ℕ → ℕ → ℕ) (n : ℕ) (was : List Slot) (start : ℕ) (xs : List Slot) (hole k : ℕ) → Turn home n was start xs hole k → ((f b : ℕ) → home f b < n)
    → ((n ≤ k) ⊎ ((j : ℕ) × (j < n) × (dist n start j ≡ k) × (used (slot_at xs j) ≡ false))) → Closed home n was start xs
turn_last home n was start xs hole k t homes stop = record {
  closed = λ age latest r. (
      let c = t.closing homes age latest r in
      (c.0, settled home n start xs hole k c.0 latest t.long t.from t.within homes t.behind stop c.1));
  same = λ one_each. (t.same homes one_each).1;
  filled = t.filled;
}
