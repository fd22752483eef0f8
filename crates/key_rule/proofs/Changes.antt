-- What the calls of an extent map rest on.

use Rattle.std.proofs.Common.{◌≡◌, ℕ, ◌+◌, ◌-◌, ◌%◌, ◌<◌, ◌≤◌, ◌⊎◌, is_some, Some, None, Option, sym, refl, ap, ◌∙◌, subst, inl, inr, arith}
use mathlib.Core.Path.{fun_ext}
use Rattle.std.proofs.lemmas.Bool.{cases_lt, cases_eq}
use Rattle.extents.specs.Extents.{FileMap, Barrier, Outside, KeysOf, key_at}
use Rattle.extents.specs.Runs.{Run}
use Rattle.extents.proofs.Straights.{known, some-none}
use Rattle.extents.proofs.Found.{key_at_keys}
use Rattle.extents.proofs.Barriers.{barrier_hole, barrier_after}
use Rattle.blocks.specs.Blocks.{Placement, changed, inside, one, tally}
use Rattle.tables.specs.Holding.{Holding, nothing}
use Rattle.blocks.proofs.Changes.{changed_here, changed_beside, changed_elsewhere, inside_yes, inside_before, inside_after}
use Rattle.blocks.proofs.Sums.{tally_fewer, one_le}
use Rattle.maps.specs.Steps.{nowhere, assigned, cleared, forgotten, lowest_mapped_block}
use Rattle.maps.proofs.Forgets.{forgotten_here, forgotten_other}
use Rattle.key_rule.specs.Keyed.{Held, Within, Exact, keyed, placing, rule_of_keys}
use Rattle.key_rule.specs.Mends.{blend, none, Mending, Leftward, Rightward, LeftEdge, RightEdge}
use Rattle.key_rule.proofs.Tallies.{blend_in, blend_out}
use Rattle.key_rule.proofs.Looks.{held_is_key}
use Rattle.key_rule.proofs.Edges.{run_none, run_join, barrier_left, barrier_right, lowest_free, some_same}
use Rattle.key_rule.proofs.Mends.{hole_key, placing_keyed, held_keyed, rule_held}

-- ---- an extent of one file changed

changed_in : (file first n : ℕ) (g : ℕ → Option ℕ) (p : Placement) (b : ℕ) → first ≤ b → b < first + n → changed p file (inside first n) g file b ≡ g b
changed_in file first n g p b l r = changed_here p file (inside first n) g b (inside_yes first n b l r)

changed_out : (file first n : ℕ) (g : ℕ → Option ℕ) (p : Placement) (f b : ℕ) → (f ≡ file → ⊥) ⊎ ((b < first) ⊎ (first + n ≤ b))
    → changed p file (inside first n) g f b ≡ p f b
changed_out file first n g p f b (inl d) = changed_elsewhere p file (inside first n) g f b d
changed_out file first n g p f b (inr d) = at (cases_eq f file) d
  where
    at : (f ≡ file) ⊎ (f ≡ file → ⊥) → (b < first) ⊎ (first + n ≤ b) → changed p file (inside first n) g f b ≡ p f b
    at (inr ne) _ = changed_elsewhere p file (inside first n) g f b ne
    at (inl e) (inl o) = subst (λ y. changed p file (inside first n) g y b ≡ p y b) (sym e) (changed_beside p file (inside first n) g b (inside_before first n b o))
    at (inl e) (inr o) = subst (λ y. changed p file (inside first n) g y b ≡ p y b) (sym e) (changed_beside p file (inside first n) g b (inside_after first n b o))

-- what a changed block is
changed_cases : (file first n : ℕ) (g : ℕ → Option ℕ) (p : Placement) (f b : ℕ)
    → ((f ≡ file) × (first ≤ b) × (b < first + n) × (changed p file (inside first n) g f b ≡ g b)) ⊎ (changed p file (inside first n) g f b ≡ p f b)
changed_cases file first n g p f b = at (cases_eq f file) (cases_lt b first) (cases_lt b (first + n))
  where
    at : (f ≡ file) ⊎ (f ≡ file → ⊥) → (b < first) ⊎ (first ≤ b) → (b < first + n) ⊎ (first + n ≤ b)
        → ((f ≡ file) × (first ≤ b) × (b < first + n) × (changed p file (inside first n) g f b ≡ g b)) ⊎ (changed p file (inside first n) g f b ≡ p f b)
    at (inr nf) _ _ = inr (changed_out file first n g p f b (inl nf))
    at (inl e) (inl o) _ = inr (changed_out file first n g p f b (inr (inl o)))
    at (inl e) (inr o) (inr q) = inr (changed_out file first n g p f b (inr (inr q)))
    at (inl e) (inr o) (inl q) = inl (e, o, q, subst (λ y. changed p file (inside first n) g y b ≡ g b) (sym e) (changed_in file first n g p b o q))

-- ---- fewer blocks

abbrev pub Fewer : Placement → Placement → Type 0
Fewer n m = (f b v : ℕ) → n f b ≡ Some v → m f b ≡ Some v

fewer_within : (n m : Placement) → Fewer n m → Within m → Within n
fewer_within n m less w f b o = at (known (n f b))
  where
    at : (n f b ≡ None) ⊎ ((v : ℕ) × (n f b ≡ Some v)) → n f b ≡ None
    at (inl e) = e
    at (inr (v, e)) = some-none (m f b) v (less f b v e) (w f b o)

barrier_fewer : (n m : FileMap) (x : ℕ) → ((b v : ℕ) → n b ≡ Some v → m b ≡ Some v) → Barrier m x → Barrier n x
barrier_fewer n m x less bar k a p st = bar k a p (record { aligned = st.aligned; runs = λ i l. less (a + i) (p + i) (st.runs i l) })

cleared_fewer : (file first n : ℕ) (m : Placement) → Fewer (cleared m file first n) m
cleared_fewer file first n m f b v e = at (changed_cases file first n (λ _. None) m f b)
  where
    at : ((f ≡ file) × (first ≤ b) × (b < first + n) × (cleared m file first n f b ≡ None)) ⊎ (cleared m file first n f b ≡ m f b) → m f b ≡ Some v
    at (inl (_, _, _, z)) = some-none (cleared m file first n f b) v e z
    at (inr z) = sym z ∙ e

-- ---- clear

pub clear_mending : (m : Placement) (file first n l p r q : ℕ) → file < 65536 → 0 < n → l ≤ first → first + n ≤ r
    → LeftEdge (m file) first l p → RightEdge (m file) (first + n) r q → Mending m (cleared m file first n) file l first p (first + n) q r
clear_mending m file first n l p r q lf ln lo hi left right = record {
  known = lf;
  others = λ f ne. fun_ext (λ b. sym (changed_out file first n (λ _. None) m f b (inl ne)));
  agree = λ x out. sym (changed_out file first n (λ _. None) m file x (inr (away x out)));
  left = left.barrier;
  right = right.barrier;
  first = record {
    run = λ i o. changed_out file first n (λ _. None) m file (l + i) (inr (inl o)) ∙ left.run i o;
    left = barrier_fewer _ _ l less left.barrier;
    right = barrier_hole _ first (hole first (omega arith) (omega arith));
  };
  second = record {
    run = λ i o. changed_out file first n (λ _. None) m file (first + n + i) (inr (inr (omega arith))) ∙ right.run i o;
    left = let e : first + n - 1 + 1 ≡ first + n = omega arith in
        subst (Barrier (cleared m file first n file)) e (barrier_after _ (first + n - 1) (hole (first + n - 1) (omega arith) (omega arith)));
    right = barrier_fewer _ _ r less right.barrier;
  };
  hole = hole;
}
  where
    hole : (x : ℕ) → first ≤ x → x < first + n → cleared m file first n file x ≡ None
    hole x a b = changed_in file first n (λ _. None) m x a b

    less : (b v : ℕ) → cleared m file first n file b ≡ Some v → m file b ≡ Some v
    less b v e = cleared_fewer file first n m file b v e

    away : (x : ℕ) → Outside l r x → (x < first) ⊎ (first + n ≤ x)
    away x (inl o) = inl (omega arith)
    away x (inr o) = inr (omega arith)

-- ---- assign

pub assign_mending : (m : Placement) (file first n board l p r : ℕ) → file < 65536 → 0 < n → l ≤ first → first + n ≤ r → p + first ≡ board + l
    → None ≡ lowest_mapped_block (m file) first n → Leftward (m file) first l p → Rightward (m file) (first + n) (board + n) r
    → Mending m (assigned m file first n board) file l r p r 0 r
assign_mending m file first n board l p r lf ln lo hi level free left right = record {
  known = lf;
  others = λ f ne. fun_ext (λ b. sym (changed_out file first n (λ b. Some (board + (b - first))) m f b (inl ne)));
  agree = λ x out. sym (same x (away x out));
  left = left.barrier (barrier_hole (m file) first (let e : first + 0 ≡ first = omega arith in sym (ap (m file) e) ∙ unmapped 0 ln));
  right = right.barrier;
  first = record { run = run; left = bar_left; right = bar_right };
  second = record { run = run_none (assigned m file first n board file) r 0; left = bar_right; right = bar_right };
  hole = λ x a b. absurd (omega arith);
}
  where
    away : (x : ℕ) → Outside l r x → (x < first) ⊎ (first + n ≤ x)
    away x (inl o) = inl (omega arith)
    away x (inr o) = inr (omega arith)

    same : (x : ℕ) → (x < first) ⊎ (first + n ≤ x) → assigned m file first n board file x ≡ m file x
    same x o = changed_out file first n (λ b. Some (board + (b - first))) m file x (inr o)

    unmapped : (d : ℕ) → d < n → m file (first + d) ≡ None
    unmapped = lowest_free (m file) first n free

    run : Run (assigned m file first n board file) l r p
    run =
        let mid : Run (assigned m file first n board file) first (first + n) board
        = (λ i o. let e : board + (first + i - first) ≡ board + i = omega arith in changed_in file first n (λ b. Some (board + (b - first))) m (first + i) (omega arith) o ∙ ap Some e) in
        let end : Run (assigned m file first n board file) (first + n) r (board + n) = (λ i o. same (first + n + i) (inr (omega arith)) ∙ right.run i o) in
        let begin : Run (assigned m file first n board file) l first p = (λ i o. same (l + i) (inl o) ∙ left.run i o) in
        run_join (assigned m file first n board file) l first r p board begin
        (run_join (assigned m file first n board file) first (first + n) r board (board + n) mid end (omega arith) (omega arith))
        (omega arith) lo

    at_left : assigned m file first n board file l ≡ Some p
    at_left =
        let e : l + 0 ≡ l = omega arith in
        let f : p + 0 ≡ p = omega arith in
        sym (ap (assigned m file first n board file) e) ∙ run 0 (omega arith) ∙ ap Some f

    edge_left : (l % 4096 ≡ 0) ⊎ ((v : ℕ) → m file (l - 1) ≡ Some v → v + 1 ≡ p → ⊥) → (0 < l) ⊎ (l ≤ 0)
        → (l % 4096 ≡ 0) ⊎ ((v : ℕ) → assigned m file first n board file (l - 1) ≡ Some v → v + 1 ≡ p → ⊥)
    edge_left (inl e) _ = inl e
    edge_left (inr f) (inl o) = inr (λ v e w. f v (sym (same (l - 1) (inl (omega arith))) ∙ e) w)
    edge_left (inr f) (inr o) = inl (let z : l ≡ 0 = omega arith in subst (λ y. y % 4096 ≡ 0) (sym z) refl)

    bar_left : Barrier (assigned m file first n board file) l
    bar_left = barrier_left (assigned m file first n board file) l p at_left (edge_left left.edge (cases_lt 0 l))

    before_right : assigned m file first n board file (r - 1) ≡ Some (p + (r - 1 - l))
    before_right =
        let e : l + (r - 1 - l) ≡ r - 1 = omega arith in
        sym (ap (assigned m file first n board file) e) ∙ run (r - 1 - l) (omega arith)

    edge_right : (r % 4096 ≡ 0) ⊎ (m file r ≡ Some (board + n + (r - (first + n))) → ⊥)
        → (r % 4096 ≡ 0) ⊎ (assigned m file first n board file r ≡ Some (p + (r - 1 - l) + 1) → ⊥)
    edge_right (inl e) = inl e
    edge_right (inr f) = inr (λ e.
        let w : p + (r - 1 - l) + 1 ≡ board + n + (r - (first + n)) = omega arith in
        f (sym (same r (inr hi)) ∙ e ∙ ap Some w))

    bar_right : Barrier (assigned m file first n board file) r
    bar_right = barrier_right (assigned m file first n board file) r (p + (r - 1 - l)) (omega arith) before_right (edge_right right.edge)

-- the end of an unmapped extent
pub after_extent : (m : FileMap) (first n : ℕ) → 0 < n → None ≡ lowest_mapped_block m first n → Barrier m (first + n)
after_extent m first n o free =
    let e : first + (n - 1) + 1 ≡ first + n = omega arith in
    subst (Barrier m) e (barrier_after m (first + (n - 1)) (lowest_free m first n free (n - 1) (omega arith)))

-- ---- what is kept

pub held_cleared : (h : Holding) → Held h → (file first n : ℕ) → Held (keyed (cleared (placing h) file first n))
held_cleared h v file first n =
    held_keyed (cleared (placing h) file first n) (fewer_within _ (placing h) (cleared_fewer file first n (placing h)) v.within)
    (λ f b x e. v.small f b x (cleared_fewer file first n (placing h) f b x e))

pub held_assigned : (h : Holding) → Held h → (file first n board : ℕ) → file < 65536 → first + n ≤ 65536 → board + n ≤ 4096 → Held (keyed (assigned (placing h) file first n board))
held_assigned h v file first n board lf top low =
    held_keyed (assigned (placing h) file first n board)
    (λ f b o. within f b o (changed_cases file first n (λ b. Some (board + (b - first))) (placing h) f b))
    (λ f b x e. small f b x e (changed_cases file first n (λ b. Some (board + (b - first))) (placing h) f b))
  where
    within : (f b : ℕ) → (65536 ≤ f) ⊎ (65536 ≤ b)
        → ((f ≡ file) × (first ≤ b) × (b < first + n) × (assigned (placing h) file first n board f b ≡ Some (board + (b - first)))) ⊎ (assigned (placing h) file first n board f b ≡ placing h f b)
        → assigned (placing h) file first n board f b ≡ None
    within f b (inl o) (inl (e, x, y, z)) = absurd (omega arith)
    within f b (inr o) (inl (e, x, y, z)) = absurd (omega arith)
    within f b o (inr z) = z ∙ v.within f b o

    small : (f b x : ℕ) → assigned (placing h) file first n board f b ≡ Some x
        → ((f ≡ file) × (first ≤ b) × (b < first + n) × (assigned (placing h) file first n board f b ≡ Some (board + (b - first)))) ⊎ (assigned (placing h) file first n board f b ≡ placing h f b)
        → x < 4096
    small f b x e (inl (i, y, w, z)) = let s = some_same _ x (board + (b - first)) e z in omega arith
    small f b x e (inr z) = v.small f b x (sym z ∙ e)

-- ---- forget

pub forgotten_keys : (h : Holding) → Held h → (file : ℕ) → blend file 0 65536 none h ≡ keyed (forgotten (placing h) file)
unfolding keyed
forgotten_keys h v file = fun_ext (λ f. fun_ext (λ x. at f x (cases_eq f file) (cases_lt x 65536)))
  where
    gone : (f x : ℕ) → f ≡ file → key_at (forgotten (placing h) file f) x ≡ None
    gone f x e = hole_key (forgotten (placing h) file f) x (ap (λ y. forgotten (placing h) file y x) e ∙ forgotten_here (placing h) file x)

    at : (f x : ℕ) → (f ≡ file) ⊎ (f ≡ file → ⊥) → (x < 65536) ⊎ (65536 ≤ x) → blend file 0 65536 none h f x ≡ key_at (forgotten (placing h) file f) x
    at f x (inl e) (inl o) = ap (λ y. blend file 0 65536 none h y x) e ∙ blend_in file 0 65536 none h x (omega arith) o ∙ sym (gone f x e)
    at f x (inl e) (inr o) = blend_out file 0 65536 none h f x (inr (inr o)) ∙ held_is_key h v f x ∙ hole_key (placing h f) x (v.within f x (inr o)) ∙ sym (gone f x e)
    at f x (inr ne) _ =
        blend_out file 0 65536 none h f x (inl ne) ∙ held_is_key h v f x
        ∙ ap (λ (m : FileMap). key_at m x) (fun_ext (λ b. sym (forgotten_other (placing h) file f b ne)))

forgotten_fewer : (m : Placement) (file : ℕ) → Fewer (forgotten m file) m
forgotten_fewer m file f b v e = at (cases_eq f file)
  where
    at : (f ≡ file) ⊎ (f ≡ file → ⊥) → m f b ≡ Some v
    at (inl i) = some-none (forgotten m file f b) v e (ap (λ y. forgotten m file y b) i ∙ forgotten_here m file b)
    at (inr ne) = sym (forgotten_other m file f b ne) ∙ e

pub held_forgotten : (h : Holding) → Held h → (file : ℕ) → Held (keyed (forgotten (placing h) file))
held_forgotten h v file =
    held_keyed (forgotten (placing h) file) (fewer_within _ (placing h) (forgotten_fewer (placing h) file) v.within)
    (λ f b x e. v.small f b x (forgotten_fewer (placing h) file f b x e))

-- ---- an empty table

pub nothing_keyed : nothing ≡ keyed nowhere
unfolding keyed
nothing_keyed = fun_ext (λ f. fun_ext (λ b. sym (hole_key (nowhere f) b refl)))

pub held_nothing : Held nothing
held_nothing = subst Held (sym nothing_keyed) (held_keyed nowhere (λ f b _. refl) (λ f b v s. some-none None v s refl))

pub placing_nothing : placing nothing ≡ nowhere
placing_nothing = ap placing nothing_keyed ∙ placing_keyed nowhere

-- ---- what the rule says

pub exact : Exact
unfolding keyed
exact = record {
  keys = λ h v f. subst (KeysOf (placing h f)) (sym (ap (λ (u : Holding). u f) v.exact)) (key_at_keys (placing h f));
  number = rule_held;
}

-- a key's first block is mapped
pub rule_bounded : (p : Placement) → rule_of_keys p ≤ tally p
unfolding rule_of_keys keyed
rule_bounded p = tally_fewer (keyed p) p (λ f b. at f b (known (p f b)))
  where
    at : (f b : ℕ) → (p f b ≡ None) ⊎ ((v : ℕ) × (p f b ≡ Some v)) → one (is_some (key_at (p f) b)) ≤ one (is_some (p f b))
    at f b (inl e) = rw (hole_key (p f) b e) (omega arith)
    at f b (inr (v, e)) = rw e (one_le (is_some (key_at (p f) b)))

pub rule_lighter : (p : Placement) (file : ℕ) → rule_of_keys (forgotten p file) ≤ rule_of_keys p
unfolding rule_of_keys keyed
rule_lighter p file = tally_fewer (keyed (forgotten p file)) (keyed p) (λ f b. at f b (cases_eq f file))
  where
    at : (f b : ℕ) → (f ≡ file) ⊎ (f ≡ file → ⊥) → one (is_some (key_at (forgotten p file f) b)) ≤ one (is_some (key_at (p f) b))
    at f b (inl e) = rw (hole_key (forgotten p file f) b (ap (λ y. forgotten p file y b) e ∙ forgotten_here p file b)) (omega arith)
    at f b (inr ne) =
        let e = ap (λ (m : FileMap). one (is_some (key_at m b))) (fun_ext (λ x. forgotten_other p file f x ne)) in
        omega (arith, e)
