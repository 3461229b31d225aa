-- The edges of two records as the tables of a merge, run by run.
--     edge_tables                    the tables
--     key_fronts                    a key at the front, as the code reads it
--     run_looking, run_putting      a run: how long it is, and its bytes
--     EdgeMerge, edge_merging       the loop
--     turning                       one turn
--     turn_laid, turn_less          the loop's next turn; a row goes by in every turn, since no two edges have one key
use mathlib.Core.Path.{◌≡◌, refl, sym, ap, ◌∙◌, subst}
use mathlib.Core.Bool.{Bool, true, false, cond}
use mathlib.Core.List.{List, [], ◌∷◌, ◌++◌, append_assoc}
use Prim.Native.Nat.{ℕ, ◌+◌, ◌*◌, ◌-◌, ◌^◌, ◌≤◌, ◌<◌}
use native.Mathlib.Nat.{mul-le-mul_right}
use native.Mathlib.Omega.{arith}
use lib.Dec.{leb, ltb}
use lib.ListN.{length, take, drop, length-append}
use lib.Seq.{sets}
use mir.Syntax.{w64}
use mir.Val.{Fits}
use borrow.Author.Tests.{lt-ltb, le-ltb, ltb-true, ltb-false, leb-true, leb-false}
use Rattle.lists.specs.Laid.{over}
use Rattle.lists.specs.Rows.{rows, laid_rows}
use Rattle.lists.specs.Stride.{at}
use Rattle.lists.proofs.Codec.{rows_forth}
use Rattle.lists.specs.First.{first_bad}
use Rattle.lists.proofs.First.{first_le, first_all, first_fails, first_ext}
use Rattle.lists.proofs.Laid.{Laid, lend_fits, laid_lend, laid_head, laid_last, laid_within, laid_done, over_none, stored_over}
use Rattle.lists.proofs.Rows.{length_rows, length_laid_rows, rows_end}
use Rattle.lists.proofs.Stride.{at_zero, at_next}
use Rattle.lists.proofs.Walk.{Walk, walk_start, walk_next, walk_bad, walk_end}
use Rattle.numbers.specs.BigEndian.{u32_at}
use Rattle.numbers.proofs.Codecs.{u16_below}
use Rattle.networks.specs.Join.{first_wire, joining}
use Rattle.networks.specs.Network.{Wire, wire_key}
use Rattle.layout.specs.Layout.{Room, edge_count, edge_part, edge_offset}
use Rattle.layout.specs.declared.Form.{Form}
use Rattle.layout.proofs.Places.{edge_room}
use Rattle.records.specs.Checked.{CheckedNetwork}
use Rattle.records.specs.Edge.{edge_to, edge_from, edge_key}
use Rattle.reading.specs.Parts.{wire_at, wire_bytes}
use Rattle.reading.specs.Whole.{read_network}
use Rattle.reading.proofs.RowCodecs.{wire}
use Rattle.reading.proofs.Said.{read_keys}
use Rattle.merging.specs.Front.{front_key}
use Rattle.merging.specs.Merged.{joined_in, edges_merged, Two}
use Rattle.merging.specs.Runs.{key_below, run_below, run_bytes, gone_first, gone_second, turn_bytes, KeysApart}
use Rattle.merging.proofs.MergeLaws.{Table, Tables, front, left, whole, run, run_ahead, run_behind}

abbrev pub edge_table : Form → List ℕ → Table Wire
edge_table f b = record { value = wire_at b; base = edge_part f b; count = edge_count b }

abbrev pub edge_tables : Form → List ℕ → List ℕ → Tables Wire
edge_tables f first second =
    record { key = wire_key; meet = first_wire; top = 4294967296; width = 5; one = edge_table f first; other = edge_table f second }

module _ (f : Form) (b : List ℕ) (p : ℕ) where
  key_low : CheckedNetwork f b → edge_key f b p < 4294967296
  unfolding edge_key edge_to edge_from
  key_low c = omega (arith, u16_below b (edge_offset f b p) (c.bytes _, c.bytes _), u16_below b (edge_offset f b p + 2) (c.bytes _, c.bytes _))

  module _ (n : ℕ) (e : n ≡ edge_count b) where
    pub front_key_lem : p < n → (o x y : ℕ) → o ≡ edge_offset f b p → x ≡ y → y ≡ u32_at b o → x ≡ front_key f b p
    unfolding front_key edge_key edge_to edge_from u32_at
    front_key_lem l o x y q r h = rw (lt-ltb p (edge_count b) (omega arith)) (r ∙ h ∙ rw q refl)

    pub front_none : n ≤ p → 4294967296 ≡ front_key f b p
    unfolding front_key
    front_none l = rw (le-ltb p (edge_count b) (omega arith)) refl

  pub key_there : Room f b → (o : ℕ) → o ≡ edge_offset f b p → p < edge_count b → o + 4 ≤ length b
  key_there r o q l = omega (arith, edge_room f b r p l)

pub ruleset key_fronts = (front_key_lem, front_none, key_there)

module _ (f : Form) (first second : List ℕ) where
  abbrev T : Tables Wire
  T = edge_tables f first second

  -- the fronts and the lower wire of the merge are those that the code reads
  front_is : (b : List ℕ) (p : ℕ) → front T (edge_table f b) p ≡ front_key f b p
  unfolding front_key
  front_is b p = ap (λ (x : ℕ). cond (ltb p (edge_count b)) x 4294967296) (read_keys f b p)

  left_is : left T 0 0 ≡ (joined_in f first second).wires
  unfolding joined_in joining read_network
  left_is =
      let all : (n : ℕ) → n - 0 ≡ n = λ n. omega arith in
      rw (at_zero (edge_part f first) 5, at_zero (edge_part f second) 5, all (edge_count first), all (edge_count second)) refl

  whole_is : whole T wire_bytes ≡ edges_merged f first second
  whole_is = rw left_is refl

-- bytes of two lists
laid_both : {A : Type 0} (bytes : A → List ℕ) (xs ys : List A) → laid_rows bytes (xs ++ ys) ≡ laid_rows bytes xs ++ laid_rows bytes ys
laid_both bytes [] ys = refl
laid_both bytes (x ∷ xs) ys = ap (◌++◌ (bytes x)) (laid_both bytes xs ys) ∙ sym (append_assoc (bytes x) (laid_rows bytes xs) (laid_rows bytes ys))

-- the loop that looks for the end of a run of n edges, the first of which stands at an offset
module _ (b : List ℕ) (limit n start : ℕ) where
  abbrev under : ℕ → Bool
  under i = ltb (u32_at b (at start 5 i)) limit

  abbrev pub Run : ℕ → ℕ → Type 0
  Run k o = Walk (at start 5) under n k o

  pub run_start : Run 0 start
  run_start = walk_start (at start 5) under n start (sym (at_zero start 5))

  -- the edges are those from row p on, as many as the code counts
  module _ (f : Form) (p x : ℕ) (e : x ≡ edge_count b) (m : n ≡ x - p) (s : start ≡ edge_offset f b p) where
    key_at : (i : ℕ) → u32_at b (at start 5 i) ≡ edge_key f b (p + i)
    unfolding edge_key edge_to edge_from u32_at edge_offset at
    key_at i = let z : start + i * 5 ≡ edge_part f b + (p + i) * 5 = omega (arith, s) in rw z refl

    same_run : first_bad under n ≡ run_below f b p limit
    unfolding run_below
    same_run =
        let all : n ≡ edge_count b - p = omega arith in
        rw all (first_ext under (key_below f b p limit) (edge_count b - p) (λ i l. rw (key_at i) refl))

    module _ (k o : ℕ) (w : Run k o) where
      pub run_end : n ≤ k → n ≡ run_below f b p limit
      run_end l = walk_end (at start 5) under n k o w l ∙ same_run

      module _ (l : k < n) where
        edge_there : Room f b → o + 5 ≤ length b
        unfolding edge_offset at
        edge_there r = omega (arith, w.here, s, edge_room f b r (p + k) (omega arith))

        pub run_sum : Room f b → length b < 2 ^ 64 → Fits w64 (o + 5)
        run_sum r g = omega (arith, edge_there r)

        pub run_stop : (v u : ℕ) → v ≡ u → u ≡ u32_at b o → limit ≤ v → k ≡ run_below f b p limit
        run_stop v u q r h = walk_bad (at start 5) under n k o w l (rw (← w.here, ← r, ← q) (le-ltb v limit h)) ∙ same_run

  pub run_next : (k o : ℕ) → Run k o → k < n → (v u : ℕ) → v ≡ u → u ≡ u32_at b o → v < limit → Run (k + 1) (o + 5)
  run_next k o w l v u q r h = walk_next (at start 5) under n k o w (o + 5) l (rw (← w.here, ← r, ← q) (lt-ltb v limit h)) (omega (arith, w.here, at_next start 5 k))

pub run_there : (b : List ℕ) (limit n start k o : ℕ) → Run b limit n start k o → k < n → (f : Form) (p x : ℕ) → start ≡ edge_offset f b p → n ≡ x - p
    → x ≡ edge_count b → Room f b → o + 4 ≤ length b
run_there b limit n start k o w l f p x s m e c = omega (arith, edge_there b limit n start f p x e m s k o w l c)

pub run_rest : (b : List ℕ) (p x : ℕ) → x ≡ edge_count b → p ≤ edge_count b → p ≤ x
run_rest b p x e l = omega arith

pub ruleset run_looking = (run_rest, run_start, run_end, run_sum, run_stop, run_next)

-- what the length of a run tells
module _ (f : Form) (b : List ℕ) (p : ℕ) where
  pub run_within : (a limit : ℕ) → p ≤ edge_count b → a ≡ run_below f b p limit → p + a ≤ edge_count b
  unfolding run_below
  run_within a limit l e = omega (arith, e, first_le (key_below f b p limit) (edge_count b - p))

  run_under : (a limit : ℕ) → a ≡ run_below f b p limit → (i : ℕ) → i < a → wire_key (wire_at b (at (edge_part f b) 5 (p + i))) < limit
  unfolding run_below
  run_under a limit e i l = rw (read_keys f b (p + i))
      (ltb-true (edge_key f b (p + i)) limit (first_all (key_below f b p limit) (edge_count b - p) i (omega (arith, e, l))))

  here : p + 0 ≡ p
  here = omega arith

  run_none : (limit : ℕ) → p < edge_count b → run_below f b p limit ≡ 0 → limit ≤ edge_key f b p
  unfolding run_below
  run_none limit l z = ltb-false (edge_key f b p) limit
      (ap (λ (r : ℕ). ltb (edge_key f b r) limit) (sym here) ∙ rw z at (first_fails (key_below f b p limit) (edge_count b - p) (omega (arith, z, l))))

  run_some : (limit : ℕ) → p < edge_count b → edge_key f b p < limit → 1 ≤ run_below f b p limit
  run_some limit l m = go (leb 1 (run_below f b p limit)) refl
    where
      go : (t : Bool) → leb 1 (run_below f b p limit) ≡ t → 1 ≤ run_below f b p limit
      go true e = leb-true 1 (run_below f b p limit) e
      go false e = absurd (omega (arith, m, run_none limit l (omega (arith, leb-false 1 (run_below f b p limit) e))))

-- a run as it is laid
module _ (f : Form) (b : List ℕ) (p k : ℕ) where
  pub run_length : length (run_bytes f b p k) ≡ k * 5
  run_length = length_laid_rows 5 wire_bytes wire.size (rows (wire_at b) 5 (edge_offset f b p) k) ∙ rw (length_rows (wire_at b) 5 (edge_offset f b p) k) refl

  module _ (size o : ℕ) (s : size ≡ at 0 5 k) (e : o ≡ edge_offset f b p) where
    five : size ≡ k * 5
    unfolding at
    five = s ∙ omega arith

    pub run_size : size ≡ length (run_bytes f b p k)
    run_size = five ∙ sym run_length

    module _ (c : CheckedNetwork f b) (l : p + k ≤ edge_count b) where
      pub run_source : o + size ≤ length b
      unfolding edge_offset at
      run_source =
          let r = c.room.whole in
          let m : (p + k) * 5 ≤ edge_count b * 5 = mul-le-mul_right 5 l in
          omega (arith, five)

      module _ (out : List ℕ) (room : length (run_bytes f b p k) ≤ length out) where
        pub run_target : 0 + size ≤ length out
        run_target = omega (arith, run_size)

        pub run_laid : (out' : List ℕ) → out' ≡ sets out 0 (take size (drop o b)) → out' ≡ over (run_bytes f b p k) out
        run_laid out' h =
            let copied : run_bytes f b p k ≡ take (k * 5) (drop (edge_offset f b p) b) =
            rows_forth wire b (edge_offset f b p) k (rw (← e, ← five) run_source) (λ i m. c.bytes) in
            let same : take size (drop o b) ≡ run_bytes f b p k = rw (five, e) (sym copied) in
            stored_over out out' _ room (h ∙ ap (sets out 0) same)

pub run_few : (f : Form) (b : List ℕ) (p k : ℕ) → CheckedNetwork f b → p + k ≤ edge_count b → (p ≤ 65535) × (k ≤ 65535)
run_few f b p k c l = let few = c.sound.few_edges in (omega arith, omega arith)

pub ruleset run_putting = (run_size, run_source, run_target, run_laid)

-- In every turn a row goes by: where the first network has none below the second's front, the second's front is below the first's.
module _ (f : Form) (first second : List ℕ) (two : Two f first second) (apart : KeysApart f first second) (p q a b i j : ℕ)
    (x : p ≤ edge_count first) (y : q ≤ edge_count second) (some : p + q < edge_count first + edge_count second)
    (e : a ≡ run_below f first p j) (d : j ≡ front_key f second q) (g : b ≡ run_below f second q i) (h : i ≡ front_key f first (p + a)) where
  second_below : q < edge_count second → edge_key f second q < i → 1 ≤ b
  second_below l m = rw (← g) at (run_some f second q i l m)

  mine : a ≡ 0 → i ≡ front_key f first p
  mine z = h ∙ ap (front_key f first) (let u : p + a ≡ p = omega arith in u)

  lower : edge_key f second q ≤ edge_key f first p → (edge_key f first p ≡ edge_key f second q → ⊥) → edge_key f second q < edge_key f first p
  lower l differ = go (ltb (edge_key f second q) (edge_key f first p)) refl
    where
      go : (t : Bool) → ltb (edge_key f second q) (edge_key f first p) ≡ t → edge_key f second q < edge_key f first p
      go true w = ltb-true (edge_key f second q) (edge_key f first p) w
      go false w = absurd (differ (omega (arith, ltb-false (edge_key f second q) (edge_key f first p) w)))

  -- none of the first network goes by
  stuck : a ≡ 0 → (s t : Bool) → ltb p (edge_count first) ≡ s → ltb q (edge_count second) ≡ t → 1 ≤ b
  unfolding KeysApart front_key
  stuck z true true u v =
      let l = ltb-true p (edge_count first) u in
      let m = ltb-true q (edge_count second) v in
      let one : i ≡ edge_key f first p = mine z ∙ rw u refl in
      let other : j ≡ edge_key f second q = d ∙ rw v refl in
      second_below m (rw one (lower (omega (arith, other, run_none f first p j l (sym e ∙ z))) (apart p q l m)))
  stuck z true false u v =
      let l = ltb-true p (edge_count first) u in
      let other : j ≡ 4294967296 = d ∙ rw v refl in
      absurd (omega (arith, run_none f first p j l (sym e ∙ z), key_low f first p two.one, other))
  stuck z false t u v =
      let n = ltb-false p (edge_count first) u in
      let one : i ≡ 4294967296 = mine z ∙ rw u refl in
      second_below (omega arith) (omega (arith, one, key_low f second q two.other))

  progress : 1 ≤ a + b
  progress = go (leb 1 a) refl
    where
      go : (t : Bool) → leb 1 a ≡ t → 1 ≤ a + b
      go true u = omega (arith, leb-true 1 a u)
      go false u = omega (arith, stuck (omega (arith, leb-false 1 a u)) (ltb p (edge_count first)) (ltb q (edge_count second)) refl refl)

-- one turn, as the code lays it
module _ (f : Form) (first second : List ℕ) (p q : ℕ) (x : p ≤ edge_count first) (y : q ≤ edge_count second)
    (a j : ℕ) (e : a ≡ run_below f first p j) (d : j ≡ front_key f second q) where
  pub first_gone : a ≡ gone_first f first second p q
  unfolding gone_first
  first_gone = e ∙ rw d refl

  first_run : p + a ≤ edge_count first
  first_run = run_within f first p a j x e

  pub first_add : CheckedNetwork f first → Fits w64 (p + a)
  first_add c = let few = c.sound.few_edges in omega (arith, first_run)

  module _ (out : List ℕ) (room : length (turn_bytes f first second p q) ≤ length out) where
    pub first_room : length (run_bytes f first p a) ≤ length out
    first_room = rw first_gone (omega (arith, room, length-append (run_bytes f first p (gone_first f first second p q)) (run_bytes f second q (gone_second f first second p q))))

  module _ (b i : ℕ) (g : b ≡ run_below f second q i) (h : i ≡ front_key f first (p + a)) where
    pub second_gone : b ≡ gone_second f first second p q
    unfolding gone_second
    second_gone = g ∙ rw (h, first_gone) refl

    turn_bytes_lem : turn_bytes f first second p q ≡ run_bytes f first p a ++ run_bytes f second q b
    turn_bytes_lem = rw (← first_gone, ← second_gone) refl

    module _ (out : List ℕ) (room : length (turn_bytes f first second p q) ≤ length out) (half : List ℕ) (size : ℕ)
        (n : size ≡ length (run_bytes f first p a)) (m : half ≡ over (run_bytes f first p a) out) where
      half_laid : Laid out half size (run_bytes f second q b ++ []) (turn_bytes f first second p q)
      half_laid = laid_last out half size (run_bytes f second q b) (turn_bytes f first second p q)
          (laid_head out half (run_bytes f first p a) (run_bytes f second q b) (turn_bytes f first second p q) size turn_bytes_lem n m room)

      pub half_within : size ≤ length half
      half_within = laid_within out half _ (turn_bytes f first second p q) size room half_laid

      pub second_room : length (run_bytes f second q b) ≤ length (take (length half - size) (drop size half))
      second_room = lend_fits out half size (run_bytes f second q b) [] (turn_bytes f first second p q) room half_laid

      pub turn_done : (back : List ℕ) → back ≡ over (run_bytes f second q b) (take (length half - size) (drop size half))
          → take size half ++ (back ++ drop (length half - size) (drop size half)) ≡ over (turn_bytes f first second p q) out
      turn_done back r = (laid_done out _ _ [] (turn_bytes f first second p q)
          (laid_lend out half size (run_bytes f second q b) [] (turn_bytes f first second p q) room half_laid back (length (run_bytes f second q b)) refl r) refl).1

pub ruleset turning = (run_within, first_gone, first_add, first_room, second_gone, half_within)

-- the merge, run by run: what is laid, and what is left
pub record EdgeMerge (f : Form) (first second out₀ out : List ℕ) (p q o : ℕ) : Type 0 where
  pub one_within : p ≤ edge_count first
  pub other_within : q ≤ edge_count second
  pub laid : Laid out₀ out o (laid_rows wire_bytes (left (edge_tables f first second) p q)) (edges_merged f first second)

module _ (f : Form) (first second : List ℕ) where
  abbrev U : Tables Wire
  U = edge_tables f first second

  pub edges_start : (out₀ : List ℕ) → EdgeMerge f first second out₀ out₀ 0 0 0
  edges_start out₀ = record {
    one_within = omega arith;
    other_within = omega arith;
    laid = record { written = []; is = sym (over_none out₀); there = refl; left = whole_is f first second; long = refl; count = omega (arith, ap length (whole_is f first second)) };
  }

  module _ (out₀ out : List ℕ) (p q o : ℕ) (c : EdgeMerge f first second out₀ out p q o) (room : length (edges_merged f first second) ≤ length out₀) where
    pub edges_at : o ≤ length out
    edges_at = laid_within out₀ out _ (edges_merged f first second) o room c.laid

    pub edges_done : (edges : ℕ) → edges ≡ edge_count first + edge_count second → edges ≤ p + q → out ≡ over (edges_merged f first second) out₀
    edges_done edges e l =
        let x = c.one_within in
        let y = c.other_within in
        (laid_done out₀ out o _ (edges_merged f first second) c.laid (ap (laid_rows wire_bytes) (none (omega arith) (omega arith)))).1
      where
        none : edge_count first ≤ p → edge_count second ≤ q → left (edge_tables f first second) p q ≡ []
        none x y = rw (rows_end (wire_at first) 5 (edge_part f first) (edge_count first) p x, rows_end (wire_at second) 5 (edge_part f second) (edge_count second) q y) refl

    -- what a turn lays, and what is left behind it
    abbrev a : ℕ
    a = gone_first f first second p q

    abbrev b : ℕ
    b = gone_second f first second p q

    first_within : p + a ≤ edge_count first
    unfolding gone_first
    first_within = run_within f first p a (front_key f second q) c.one_within refl

    second_within : q + b ≤ edge_count second
    unfolding gone_second
    second_within = run_within f second q b (front_key f first (p + a)) c.other_within refl

    turn_is : left U p q ≡ run U (edge_table f first) p a ++ (run U (edge_table f second) q b ++ left U (p + a) (q + b))
    unfolding gone_first gone_second
    turn_is =
        run_ahead U p q a first_within (λ i l. rw (front_is f first second second q) (run_under f first p a (front_key f second q) refl i l))
        ∙ ap (◌++◌ (run U (edge_table f first) p a))
        (run_behind U (p + a) q b second_within (λ i l. rw (front_is f first second first (p + a)) (run_under f second q b (front_key f first (p + a)) refl i l)))

    bytes_are : laid_rows wire_bytes (left U p q) ≡ turn_bytes f first second p q ++ laid_rows wire_bytes (left U (p + a) (q + b))
    unfolding edge_offset
    bytes_are =
        ap (laid_rows wire_bytes) turn_is
        ∙ laid_both wire_bytes (run U (edge_table f first) p a) (run U (edge_table f second) q b ++ left U (p + a) (q + b))
        ∙ ap (◌++◌ (laid_rows wire_bytes (run U (edge_table f first) p a))) (laid_both wire_bytes (run U (edge_table f second) q b) (left U (p + a) (q + b)))
        ∙ sym (append_assoc (laid_rows wire_bytes (run U (edge_table f first) p a)) (laid_rows wire_bytes (run U (edge_table f second) q b)) (laid_rows wire_bytes (left U (p + a) (q + b))))

    ready : Laid out₀ out o (turn_bytes f first second p q ++ laid_rows wire_bytes (left U (p + a) (q + b))) (edges_merged f first second)
    ready = subst (λ (xs : List ℕ). Laid out₀ out o xs (edges_merged f first second)) bytes_are c.laid

    pub turn_fits : length (turn_bytes f first second p q) ≤ length (take (length out - o) (drop o out))
    turn_fits = lend_fits out₀ out o (turn_bytes f first second p q) _ (edges_merged f first second) room ready

    turn_long : length (turn_bytes f first second p q) ≡ (a + b) * 5
    turn_long = length-append (run_bytes f first p a) (run_bytes f second q b) ∙ omega (arith, run_length f first p a, run_length f second q b)

    -- as the code counts it
    module _ (g h : ℕ) (e : g ≡ a) (d : h ≡ b) where
      pub first_sum : Two f first second → Fits w64 (p + g)
      first_sum two = let few = two.one.sound.few_edges in omega (arith, first_within)

      pub second_sum : Two f first second → Fits w64 (q + h)
      second_sum two = let few = two.other.sound.few_edges in omega (arith, second_within)

      pub both_sum : Two f first second → Fits w64 (g + h)
      both_sum two = let x = two.one.sound.few_edges in let y = two.other.sound.few_edges in omega (arith, first_within, second_within)

      pub both_few : Two f first second → g + h ≤ 65535
      both_few two = let x = two.one.sound.few_edges in let y = two.other.sound.few_edges in omega (arith, first_within, second_within)

      module _ (r : ℕ) (s : r ≡ at 0 5 (g + h)) where
        size_is : r ≡ length (turn_bytes f first second p q)
        unfolding at
        size_is = s ∙ omega (arith, turn_long, e, d)

        pub turn_sum : length out₀ < 2 ^ 64 → Fits w64 (o + r)
        turn_sum g₆ = omega (arith, size_is, ready.count, length-append (turn_bytes f first second p q) (laid_rows wire_bytes (left U (p + a) (q + b))))

        pub turn_laid : (back : List ℕ) → back ≡ over (turn_bytes f first second p q) (take (length out - o) (drop o out))
            → EdgeMerge f first second out₀ (take o out ++ (back ++ drop (length out - o) (drop o out))) (p + g) (q + h) (o + r)
        turn_laid back m = rw (e, d) (record {
          one_within = first_within;
          other_within = second_within;
          laid = laid_lend out₀ out o (turn_bytes f first second p q) _ (edges_merged f first second) room ready back r size_is m;
        })

      -- In every turn a row goes by: where the first network has none below the second's front, the second's front is below the first's.
      pub turn_less : Two f first second → KeysApart f first second → (edges : ℕ) → edges ≡ edge_count first + edge_count second → p + q < edges
          → edges - (p + g + (q + h)) < edges - (p + q)
      unfolding gone_first gone_second
      turn_less two apart edges n l =
          let some : 1 ≤ a + b = progress f first second two apart p q a b _ _ c.one_within c.other_within (omega arith) refl refl refl refl in
          omega (arith, e, d, some)

pub ruleset edge_merging = (edges_start, edges_at, edges_done, turn_fits, first_sum, second_sum, both_sum, both_few, turn_sum)
