-- The nodes of two records as the tables of a merge.
--     node_tables                      the tables
--     id_fronts                       an id at the front, as the code reads it
--     node_lower, meeting_laws        the box at the lower front
--     node_merging                    the loop
use mathlib.Core.Path.{◌≡◌, refl, sym, ap, ◌∙◌}
use mathlib.Core.Bool.{Bool, true, false, cond, false≢true, true≢false}
use mathlib.Core.List.{List, ◌++◌}
use mathlib.Core.Option.{some}
use Prim.Native.Nat.{ℕ, ◌+◌, ◌-◌, ◌^◌, ◌≤◌, ◌<◌}
use native.Mathlib.Omega.{arith}
use lib.Dec.{eqb, leb, ltb}
use lib.ListN.{length, get_or, take, drop}
use mir.Syntax.{w64}
use mir.Val.{Fits, bool_byte}
use borrow.Author.Tests.{lt-ltb, le-ltb}
use Rattle.lists.specs.Laid.{over}
use Rattle.lists.specs.Rising.{least}
use Rattle.lists.specs.Stride.{at}
use Rattle.lists.proofs.Gather.{count_one, count_most}
use Rattle.lists.proofs.Stride.{at_zero}
use Rattle.lists.proofs.Test.{and_r}
use Rattle.numbers.proofs.Codecs.{u16_below}
use Rattle.routes.specs.declared.Demand.{Demand}
use Rattle.routes.specs.declared.Route.{Route}
use Rattle.networks.specs.Join.{meeting, joining}
use Rattle.networks.specs.Network.{Box, own, input, box_id, is_own_box}
use Rattle.layout.specs.Form.{node_width}
use Rattle.layout.specs.Layout.{node_count, node_part, node_offset}
use Rattle.layout.specs.declared.Form.{Form}
use Rattle.layout.proofs.Places.{node_room}
use Rattle.nodes.specs.Node.{node_id, node_formed, node_ok}
use Rattle.records.specs.Checked.{CheckedNetwork}
use Rattle.reading.specs.Parts.{box_at, box_bytes}
use Rattle.reading.specs.Whole.{read_network}
use Rattle.reading.proofs.Said.{box_own_at, read_ids}
use Rattle.writing.specs.Rows.{NodeAt}
use Rattle.writing.proofs.RowLaws.{box_long}
use Rattle.merging.specs.Front.{front_id}
use Rattle.merging.specs.Merged.{joined_in, nodes_merged, Two, Left, lower_box}
use Rattle.merging.proofs.MergeLaws.{Table, Tables, Low, front, lower, left, whole, Merging, below_one, below_other, level, merge_start, merge_size, merge_done, some_left, merge_at, merge_fits, merge_sum, merge_next}

abbrev pub node_table : Form → List ℕ → Table (Box Route Demand)
node_table f b = record { value = box_at f.route b; base = node_part b; count = node_count b }

abbrev pub node_tables : Form → List ℕ → List ℕ → Tables (Box Route Demand)
node_tables f first second =
    record { key = box_id; meet = meeting; top = 65536; width = node_width f; one = node_table f first; other = node_table f second }

module _ (f : Form) (b : List ℕ) (p : ℕ) where
  module _ (n : ℕ) (e : n ≡ node_count b) where
    pub front_id_lem : p < n → (x y : ℕ) → x ≡ y → y ≡ node_id f b p → x ≡ front_id f b p
    unfolding front_id
    front_id_lem l x y q r = rw (lt-ltb p (node_count b) (omega arith)) (q ∙ r)

    pub front_none : n ≤ p → 65536 ≡ front_id f b p
    unfolding front_id
    front_none l = rw (le-ltb p (node_count b) (omega arith)) refl

  -- read by the form of a record that has the same one
  pub id_form : (g : Form) → g ≡ f → (x : ℕ) → x ≡ front_id g b p → x ≡ front_id f b p
  id_form g one x e = rw one at e

  pub node_at : CheckedNetwork f b → (o : ℕ) → p < node_count b → o ≡ node_offset f b p → NodeAt f b o
  unfolding node_ok
  node_at c o l e =
      let sound = and_r (leb (least (node_id f b) p) (node_id f b p)) (node_formed f.route b (node_offset f b p)) (c.sound.nodes p l) in
      record { usable = c.room.usable; bytes = c.bytes; there = rw e (node_room f b c.room p l); formed = rw e sound }

  -- read by the form of a record that has the same one
  pub other_at : CheckedNetwork f b → (g : Form) → g ≡ f → (o : ℕ) → p < node_count b → o ≡ node_offset g b p → NodeAt f b o
  other_at c g one o l e = node_at c o l (rw one at e)

pub ruleset id_fronts = (front_id_lem, front_none)

-- a node's kind is there
pub kind_there : (f : Form) (b : List ℕ) (o : ℕ) → NodeAt f b o → o + 2 < length b
unfolding node_width
kind_there f b o n = omega (arith, n.there)

-- what is laid is the box that is meant
pub box_size : (w : ℕ) (v u : Box Route Demand) → v ≡ u → (r : ℕ) → r ≡ length (box_bytes w v) → r ≡ length (box_bytes w u)
box_size w v u e r h = rw (← e) h

pub box_laid : (w : ℕ) (v u : Box Route Demand) → v ≡ u → (out out' : List ℕ) → out' ≡ over (box_bytes w v) out → out' ≡ over (box_bytes w u) out
box_laid w v u e out out' h = rw (← e) h

-- of two boxes with one id, by their kinds
module _ (w : ℕ) (first : List ℕ) (at : ℕ) (second : List ℕ) (bt : ℕ) where
  abbrev stays : Box Route Demand
  stays = meeting (box_at w first at) (box_at w second bt)

  own_stays : (t : Bool) → t ≡ eqb (get_or first (at + 2) 0) 0 → t ≡ true → box_at w first at ≡ stays
  own_stays t e y = go (box_at w first at) (box_own_at w first at ∙ sym e ∙ y)
    where
      go : (v : Box Route Demand) → is_own_box (some v) ≡ true → v ≡ meeting v (box_at w second bt)
      go (own b) q = refl
      go (input a) q = absurd (false≢true q)

  module _ (t : Bool) (e : t ≡ eqb (get_or first (at + 2) 0) 0) (y : t ≡ false) (s : Bool) (d : s ≡ eqb (get_or second (bt + 2) 0) 0) where
    owner_stays : s ≡ true → box_at w second bt ≡ stays
    owner_stays z = go (box_at w first at) (box_own_at w first at ∙ sym e ∙ y) (box_at w second bt) (box_own_at w second bt ∙ sym d ∙ z)
      where
        go : (v : Box Route Demand) → is_own_box (some v) ≡ false → (u : Box Route Demand) → is_own_box (some u) ≡ true → u ≡ meeting v u
        go (own b) q u r = absurd (true≢false q)
        go (input a) q (own b) r = refl
        go (input a) q (input c) r = absurd (false≢true r)

    input_stays : s ≡ false → box_at w first at ≡ stays
    input_stays z = go (box_at w first at) (box_own_at w first at ∙ sym e ∙ y) (box_at w second bt) (box_own_at w second bt ∙ sym d ∙ z)
      where
        go : (v : Box Route Demand) → is_own_box (some v) ≡ false → (u : Box Route Demand) → is_own_box (some u) ≡ false → v ≡ meeting v u
        go (own b) q u r = absurd (true≢false q)
        go (input a) q (own b) r = absurd (true≢false r)
        go (input a) q (input c) r = refl

module _ (w : ℕ) (first : List ℕ) (at : ℕ) (second : List ℕ) (bt : ℕ) (t : Bool) (e : t ≡ eqb (get_or first (at + 2) 0) 0) where
  module _ (y : t ≡ true) where
    pub own_size : (r : ℕ) → r ≡ length (box_bytes w (box_at w first at)) → r ≡ length (box_bytes w (meeting (box_at w first at) (box_at w second bt)))
    own_size = box_size w _ _ (own_stays w first at second bt t e y)

    pub own_laid : (out out' : List ℕ) → out' ≡ over (box_bytes w (box_at w first at)) out → out' ≡ over (box_bytes w (meeting (box_at w first at) (box_at w second bt))) out
    own_laid = box_laid w _ _ (own_stays w first at second bt t e y)

  module _ (y : t ≡ false) (s : Bool) (d : s ≡ eqb (get_or second (bt + 2) 0) 0) where
    module _ (z : s ≡ true) where
      pub owner_size : (r : ℕ) → r ≡ length (box_bytes w (box_at w second bt)) → r ≡ length (box_bytes w (meeting (box_at w first at) (box_at w second bt)))
      owner_size = box_size w _ _ (owner_stays w first at second bt t e y s d z)

      pub owner_laid : (out out' : List ℕ) → out' ≡ over (box_bytes w (box_at w second bt)) out → out' ≡ over (box_bytes w (meeting (box_at w first at) (box_at w second bt))) out
      owner_laid = box_laid w _ _ (owner_stays w first at second bt t e y s d z)

    module _ (z : s ≡ false) where
      pub input_size : (r : ℕ) → r ≡ length (box_bytes w (box_at w first at)) → r ≡ length (box_bytes w (meeting (box_at w first at) (box_at w second bt)))
      input_size = box_size w _ _ (input_stays w first at second bt t e y s d z)

      pub input_laid : (out out' : List ℕ) → out' ≡ over (box_bytes w (box_at w first at)) out → out' ≡ over (box_bytes w (meeting (box_at w first at) (box_at w second bt))) out
      input_laid = box_laid w _ _ (input_stays w first at second bt t e y s d z)

pub ruleset meeting_laws = (kind_there, own_size, own_laid, owner_size, owner_laid, input_size, input_laid)

module _ (f : Form) (first second : List ℕ) where
  abbrev T : Tables (Box Route Demand)
  T = node_tables f first second

  -- the fronts and the lower box of the merge are those that the code reads
  front_is : (b : List ℕ) (p : ℕ) → front T (node_table f b) p ≡ front_id f b p
  unfolding front_id
  front_is b p = ap (λ (x : ℕ). cond (ltb p (node_count b)) x 65536) (read_ids f b p)

  lower_is : (p q : ℕ) → lower T p q ≡ lower_box f first second p q
  unfolding lower_box node_offset
  lower_is p q = rw (front_is first p, front_is second q) refl

  left_is : left T 0 0 ≡ (joined_in f first second).boxes
  unfolding joined_in joining read_network
  left_is =
      let all : (n : ℕ) → n - 0 ≡ n = λ n. omega arith in
      rw (at_zero (node_part first) (node_width f), at_zero (node_part second) (node_width f), all (node_count first), all (node_count second)) refl

  module _ (two : Two f first second) where
    low : (b : List ℕ) → CheckedNetwork f b → Low T (node_table f b)
    unfolding node_id
    low b c p l = rw (read_ids f b p) (u16_below b (node_offset f b p) (c.bytes _, c.bytes _))

    module _ (p q i j : ℕ) (e : i ≡ front_id f first p) (d : j ≡ front_id f second q) where
      pub lower_first : i < j → p < node_count first
      lower_first l = below_one T (low first two.one) (low second two.other) p q (rw (front_is first p, front_is second q, ← e, ← d) l)

      pub lower_second : j < i → q < node_count second
      lower_second l = below_other T (low first two.one) (low second two.other) p q (rw (front_is first p, front_is second q, ← e, ← d) l)

      module _ (le : j ≤ i) (ge : i ≤ j) (some : Left f first second p (node_count first) q (node_count second)) where
        both : (p < node_count first) × (q < node_count second)
        both = level T (low first two.one) (low second two.other) p q some.one_within some.other_within some.left
            (front_is first p ∙ sym e ∙ (let z : i ≡ j = omega arith in z) ∙ d ∙ sym (front_is second q))

        pub level_first : p < node_count first
        level_first = both.0

        pub level_second : q < node_count second
        level_second = both.1

  -- the box that is next
  module _ (p q i j : ℕ) (e : i ≡ front_id f first p) (d : j ≡ front_id f second q) where
    pub next_first : i < j → (at : ℕ) → at ≡ node_offset f first p → box_at f.route first at ≡ lower_box f first second p q
    unfolding lower_box
    next_first l at a = rw (← e, ← d, lt-ltb i j l, a) refl

    pub next_second : j < i → (g : Form) → g ≡ f → (bt : ℕ) → bt ≡ node_offset g second q → box_at f.route second bt ≡ lower_box f first second p q
    unfolding lower_box
    next_second l g one bt b = rw (← e, ← d, le-ltb i j (omega arith), lt-ltb j i l, b, one) refl

    pub next_both : j ≤ i → i ≤ j → (g : Form) → g ≡ f → (at bt : ℕ) → at ≡ node_offset f first p → bt ≡ node_offset g second q
        → meeting (box_at f.route first at) (box_at f.route second bt) ≡ lower_box f first second p q
    unfolding lower_box
    next_both l m g one at bt a b = rw (← e, ← d, le-ltb i j l, le-ltb j i m, a, b, one) refl

  -- the loop
  abbrev pub NodeMerge : ℕ → List ℕ → List ℕ → ℕ → ℕ → ℕ → ℕ → Type 0
  NodeMerge = Merging T (box_bytes f.route)

  pub nodes_start : (nodes : ℕ) (out₀ : List ℕ) → nodes ≡ length (joined_in f first second).boxes → NodeMerge nodes out₀ out₀ 0 0 0 0
  nodes_start nodes out₀ e = merge_start T (box_bytes f.route) nodes out₀ (e ∙ ap length (sym left_is))

  whole_is : whole T (box_bytes f.route) ≡ nodes_merged f first second
  whole_is = rw left_is refl

  module _ (nodes : ℕ) (out₀ out : List ℕ) (p q k o : ℕ) (c : NodeMerge nodes out₀ out p q k o) (room : length (nodes_merged f first second) ≤ length out₀) where
    enough : length (whole T (box_bytes f.route)) ≤ length out₀
    enough = rw whole_is room

    pub nodes_size : nodes ≤ k → o ≡ length (nodes_merged f first second)
    nodes_size l = rw (← whole_is) (merge_size T (box_bytes f.route) nodes out₀ out p q k o c enough l)

    pub nodes_done : nodes ≤ k → out ≡ over (nodes_merged f first second) out₀
    nodes_done l = rw (← whole_is) (merge_done T (box_bytes f.route) nodes out₀ out p q k o c enough l)

    module _ (l : k < nodes) where
      pub nodes_left : Left f first second p (node_count first) q (node_count second)
      nodes_left = record { one_within = c.one_within; other_within = c.other_within; left = some_left T (box_bytes f.route) nodes out₀ out p q k o c enough l }

      pub nodes_at : o ≤ length out
      nodes_at = merge_at T (box_bytes f.route) nodes out₀ out p q k o c enough l

      module _ (two : Two f first second) where
        next_room : length (box_bytes f.route (lower T p q)) ≤ length (take (length out - o) (drop o out))
        next_room = merge_fits T (box_bytes f.route) nodes out₀ out p q k o c enough l (low two first two.one) (low two second two.other)

        pub nodes_room : node_width f ≤ length (take (length out - o) (drop o out))
        nodes_room = omega (arith, next_room, box_long f two.one.room.usable (lower T p q))

        module _ (r : ℕ) (e : r ≡ length (box_bytes f.route (lower_box f first second p q))) where
          same_size : r ≡ length (box_bytes f.route (lower T p q))
          same_size = rw (lower_is p q) e

          pub nodes_sum : length out₀ < 2 ^ 64 → Fits w64 (o + r)
          nodes_sum = merge_sum T (box_bytes f.route) nodes out₀ out p q k o c enough l (low two first two.one) (low two second two.other) r same_size

          pub nodes_next : (back : List ℕ) → back ≡ over (box_bytes f.route (lower_box f first second p q)) (take (length out - o) (drop o out))
              → (i j s t : ℕ) → i ≡ front_id f first p → j ≡ front_id f second q → s ≡ bool_byte (leb i j) → t ≡ bool_byte (leb j i)
              → NodeMerge nodes out₀ (take o out ++ (back ++ drop (length out - o) (drop o out))) (p + s) (q + t) (k + 1) (o + r)
          nodes_next back h i j s t u v x y =
              merge_next T (box_bytes f.route) nodes out₀ out p q k o c enough l (low two first two.one) (low two second two.other) r same_size back
              (rw (lower_is p q) h) s t (x ∙ rw (u, v, front_is first p, front_is second q, count_one) refl) (y ∙ rw (u, v, front_is first p, front_is second q, count_one) refl)

-- the rows that are behind stay small
module _ (f : Form) (first second : List ℕ) (two : Two f first second) (nodes : ℕ) (out₀ out : List ℕ) (p q k o : ℕ) (c : NodeMerge f first second nodes out₀ out p q k o)
    (t : Bool) (s : ℕ) (e : s ≡ bool_byte t) where
  pub first_sum : Fits w64 (p + s)
  first_sum =
      let few = two.one.room.few in
      let most = two.one.room.usable.few in
      let within = c.one_within in
      omega (arith, count_most t)

  pub second_sum : Fits w64 (q + s)
  second_sum =
      let few = two.other.room.few in
      let most = two.other.room.usable.few in
      let within = c.other_within in
      omega (arith, count_most t)

pub ruleset node_lower = (node_at, other_at, lower_first, lower_second, level_first, level_second, next_first, next_second, next_both, box_size, box_laid)

pub ruleset node_merging = (id_form, nodes_start, nodes_size, nodes_done, nodes_left, nodes_at, nodes_room, nodes_sum, nodes_next, first_sum, second_sum)
