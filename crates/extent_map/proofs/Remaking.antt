-- What a call answers that makes a file's blocks anew, and the table that it leaves.
use Rattle.std.proofs.Common.{◌≡◌, ℕ, ◌+◌, ◌≤◌, ltb, None, Ok, Err, Result, sym, ap, ◌∙◌, subst}
use Rattle.std.proofs.lemmas.Bool.{lt-ltb, le-ltb, cond-true, cond-false}
use Rattle.faults.specs.declared.Fault.{Fault}
use Rattle.faults.specs.declared.Ground.{Ground}
use Rattle.faults.specs.declared.Ground.TheVariants.{TooManyKeys}
use Rattle.blocks.specs.Blocks.{Placement}
use Rattle.tables.specs.Holding.{Holding}
use Rattle.maps.specs.Steps.{Outcome, if_room, unless_mapped, unless_ground, assigned, cleared, assign_step, clear_step, ground_of_assign, ground_of_extent, lowest_mapped_block, fault_of}
use Rattle.key_rule.specs.Keyed.{Held, keyed, placing, rule_of_keys}
use Rattle.key_rule.specs.Mends.{Mending, Leftward, Rightward, LeftEdge, RightEdge}
use Rattle.key_rule.proofs.Mends.{placing_keyed}
use Rattle.key_rule.proofs.Changes.{assign_mending, clear_mending, held_assigned, held_cleared}
use Rattle.key_rule.proofs.Outcomes.{granted_by, unmapped_by}
use Rattle.maps.specs.declared.extent.Extent.{Extent}
use Rattle.extent_map.specs.Calls.{Remade}
use Rattle.extent_map.proofs.Numbers.{Granted}

-- a ground told as the map's refusal
abbrev pub told : ℕ → ℕ → Result (Unit {0}) Ground → Result (Unit {0}) Fault
told file first (Ok _) = Ok tt
told file first (Err e) = Err (fault_of e file first)

module _ (h g : Holding) (room : ℕ) (q : Placement) (file first : ℕ) where
  pub remade_held : (done : Result (Unit {0}) Ground) → Held h → Held (keyed q) → Remade h room q done g → Held g
  remade_held (Ok _) v w (o, e) = subst Held (sym e) w
  remade_held (Err _) v w (o, t, e) = subst Held (sym e) v

  pub remade_outcome : (done : Result (Unit {0}) Ground) (r : Result (Unit {0}) Fault) → r ≡ told file first done → Remade h room q done g
      → ◌≡◌ {A = Outcome} (r, placing g) (if_room rule_of_keys room (placing h) q file first)
  remade_outcome (Ok _) r is (o, e) =
      let p : placing g ≡ q = ap placing e ∙ placing_keyed q in
      let z : ◌≡◌ {A = Outcome} (r, placing g) (Ok tt, q) = cc in
      z ∙ sym (cond-false (ltb room (rule_of_keys q)) _ _ (le-ltb room (rule_of_keys q) o))
  remade_outcome (Err t) r is (o, f, e) =
      let p : placing g ≡ placing h = ap placing e in
      let z : ◌≡◌ {A = Outcome} (r, placing g) (Err (fault_of TooManyKeys file first), placing h) = cc in
      z ∙ sym (cond-true (ltb room (rule_of_keys q)) _ _ (lt-ltb room (rule_of_keys q) o))

-- by the extent that the call names
module _ (h g : Holding) (v : Held h) (room file first n : ℕ) (e : Extent) (done : Result (Unit {0}) Ground) where
  module _ (board l p y : ℕ) (a : Granted file first n (ground_of_assign file first n board) e) (fits : board + n ≤ 4096)
      (free : None ≡ lowest_mapped_block (placing h e.file) first n)
      (lo : l ≤ first) (hi : first + n ≤ y) (level : p + first ≡ board + l)
      (left : Leftward (placing h e.file) first l p) (right : Rightward (placing h e.file) (first + n) (board + n) y)
      (made : (q : Placement) → Mending (placing h) q e.file l y p y 0 y → Remade h room q done g) where
    assign_made : Remade h room (assigned (placing h) e.file first n board) done g
    assign_made = made _ (assign_mending (placing h) e.file first n board l p y a.known a.some lo hi level free left right)

    pub assign_held : Held g
    assign_held = remade_held h g room _ file first done v (held_assigned h v e.file first n board a.known a.top fits) assign_made

    pub assign_outcome : (r : Result (Unit {0}) Fault) → r ≡ told file first done → ◌≡◌ {A = Outcome} (r, placing g) (assign_step rule_of_keys room (placing h) file first n board)
    assign_outcome r is =
        subst (λ f. ◌≡◌ {A = Outcome} (r, placing g) (unless_ground (ground_of_assign file first n board) (placing h) file first
        (unless_mapped (lowest_mapped_block (placing h f) first n) (placing h) file (if_room rule_of_keys room (placing h) (assigned (placing h) f first n board) file first)))) a.same
        (granted_by (ground_of_assign file first n board) (placing h) file first _ _ a.free
        (unmapped_by (lowest_mapped_block (placing h e.file) first n) (placing h) file _ _ free (remade_outcome h g room _ file first done r is assign_made)))

  module _ (l p y q : ℕ) (a : Granted file first n (ground_of_extent file first n) e) (lo : l ≤ first) (hi : first + n ≤ y)
      (left : LeftEdge (placing h e.file) first l p) (right : RightEdge (placing h e.file) (first + n) y q)
      (made : (q′ : Placement) → Mending (placing h) q′ e.file l first p (first + n) q y → Remade h room q′ done g) where
    clear_made : Remade h room (cleared (placing h) e.file first n) done g
    clear_made = made _ (clear_mending (placing h) e.file first n l p y q a.known a.some lo hi left right)

    pub clear_held : Held g
    clear_held = remade_held h g room _ file first done v (held_cleared h v e.file first n) clear_made

    pub clear_outcome : (r : Result (Unit {0}) Fault) → r ≡ told file first done → ◌≡◌ {A = Outcome} (r, placing g) (clear_step rule_of_keys room (placing h) file first n)
    clear_outcome r is =
        subst (λ f. ◌≡◌ {A = Outcome} (r, placing g) (unless_ground (ground_of_extent file first n) (placing h) file first
        (if_room rule_of_keys room (placing h) (cleared (placing h) f first n) file first))) a.same
        (granted_by (ground_of_extent file first n) (placing h) file first _ _ a.free (remade_outcome h g room _ file first done r is clear_made))
