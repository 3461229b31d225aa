-- The wires from a row on: wires stand by their to end, so that those into a box follow one another, and behind the last there is none.
--     wires_from, into              the wires from a row on, and those of them that lead to a box
--     wires_start, wire_other, wire_mine, wires_skipped     one wire, and the wires to lower boxes, passed over
--     edges_rise, to_climbs, wires_past     wires by their to end
--     leads, leads_..              whether a wire leads to a box
--     NextAt, next_..              the next wire, as the code holds it, is the j-th
use Rattle.std.proofs.Common.{Option, Some, None}
use Rattle.std.specs.Option.{option_eq}
use mathlib.Core.Path.{◌≡◌, sym, ap, ap₂, ◌∙◌}
use mathlib.Core.Bool.{Bool, true, false, not}
use mathlib.Core.List.{List, [], ◌∷◌}
use mathlib.Core.Logic.{⊎_elim}
use Prim.Native.Nat.{ℕ, zero, suc, ◌+◌, ◌-◌, ◌≤◌, ◌<◌}
use native.Mathlib.Nat.{sub-zero, eq-or-lt_of_le}
use native.Mathlib.Numerals.{add-one}
use native.Mathlib.Omega.{arith}
use lib.Dec.{eqb}
use lib.ListN.{length}
use borrow.Author.Rules.{rules}
use borrow.Author.Tests.{eq-eqb, ne_eqb, lt-ltb, le-ltb}
use Rattle.lists.specs.Filter.{filter}
use Rattle.lists.specs.Rising.{Rising, least}
use Rattle.lists.specs.Rows.{rows}
use Rattle.lists.specs.Stride.{at}
use Rattle.lists.proofs.Rising.{Climbing, least_rising}
use Rattle.lists.proofs.Rows.{rows_next, rows_end}
use Rattle.lists.proofs.Stride.{at_zero}
use Rattle.lists.proofs.Test.{le_or_lt}
use Rattle.numbers.specs.BigEndian.{u16_at}
use Rattle.numbers.proofs.Codecs.{u16_below}
use Rattle.networks.specs.Network.{Wire}
use Rattle.layout.specs.Layout.{edge_count, edge_part, edge_offset}
use Rattle.layout.specs.declared.Form.{Form}
use Rattle.layout.proofs.Places.{edge_after, edge_room}
use Rattle.records.specs.Checked.{CheckedNetwork}
use Rattle.records.specs.Edge.{edge_to, edge_from, edge_key}
use Rattle.reading.specs.Parts.{wire_at}
use Rattle.reading.specs.Whole.{HouseNetwork, read_network}
use Rattle.reading.proofs.Said.{edge_parts}
use Rattle.boxes.specs.Wires.{WireAt, next_from}
use Rattle.boxes.specs.declared.NextWire.{NextWire}

module _ (f : Form) (network : List ℕ) where
  abbrev N : HouseNetwork
  N = read_network f network

  abbrev pub wires_from : ℕ → List Wire
  wires_from j = rows (wire_at network) 5 (at (edge_part f network) 5 j) (edge_count network - j)

  abbrev pub into : ℕ → List Wire → List Wire
  into node ws = filter (λ (w : Wire). eqb w.to node) ws

  pub wires_start : N.wires ≡ wires_from 0
  unfolding read_network
  wires_start = ap₂ (rows (wire_at network) 5) (sym (at_zero (edge_part f network) 5)) (sym (sub-zero (edge_count network)))

  -- one wire
  module _ (j : ℕ) (l : j < edge_count network) where
    one : wires_from j ≡ wire_at network (at (edge_part f network) 5 j) ∷ wires_from (j + 1)
    one = rows_next (wire_at network) 5 (edge_part f network) (edge_count network) j l

    pub wire_other : (node : ℕ) → (edge_to f network j ≡ node → ⊥) → into node (wires_from j) ≡ into node (wires_from (j + 1))
    unfolding edge_to edge_offset wire_at
    wire_other node n = ap (into node) one ∙ rw (ne_eqb (u16_at network (at (edge_part f network) 5 j)) node n)

    pub wire_mine : (node : ℕ) → edge_to f network j ≡ node
        → into node (wires_from j) ≡ wire_at network (edge_offset f network j) ∷ into node (wires_from (j + 1))
    unfolding edge_to edge_offset wire_at
    wire_mine node e = ap (into node) one ∙ rw (eq-eqb (u16_at network (at (edge_part f network) 5 j)) node e)

  pub wires_skipped : (node j : ℕ) → j ≤ edge_count network → ((k : ℕ) → k < j → edge_to f network k < node)
      → into node N.wires ≡ into node (wires_from j)
  wires_skipped node zero l h = ap (into node) wires_start
  wires_skipped node (suc j) l h =
      wires_skipped node j (omega arith) (λ k m. h k (omega arith))
      ∙ wire_other j (omega arith) node (λ e. let z = h j (omega arith) in omega arith)
      ∙ ap (λ (k : ℕ). into node (wires_from k)) (add-one j)

  -- wires by their to end
  module _ (checked : CheckedNetwork f network) where
    pub edges_rise : (j : ℕ) → j < edge_count network → least (edge_key f network) j ≤ edge_key f network j
    edges_rise j l = (edge_parts f network j (checked.sound.edges j l)).rises

    keys_rise : Rising (edge_key f network) (edge_count network)
    keys_rise = least_rising (edge_key f network) (edge_count network) edges_rise

    pub to_climbs : Climbing (edge_to f network) (edge_count network)
    unfolding Rising edge_key edge_from
    to_climbs p q l m = ⊎_elim
        (λ (e : p ≡ q). rw e (omega arith))
        (λ (g : p < q).
        let h = keys_rise p q g m in
        let b = u16_below network (edge_offset f network q + 2) (checked.bytes _, checked.bytes _) in
        omega arith)
        (eq-or-lt_of_le l)

    past : (node m j : ℕ) → j + m ≡ edge_count network → (j < edge_count network → node < edge_to f network j) → into node (wires_from j) ≡ []
    past node zero j q h = ap (into node) (rows_end (wire_at network) 5 (edge_part f network) (edge_count network) j (omega arith))
    past node (suc m) j q h =
        let here : node < edge_to f network j = h (omega arith) in
        wire_other j (omega arith) node (λ e. omega arith)
        ∙ past node m (j + 1) (omega arith) (λ l. let r = to_climbs j (j + 1) (omega arith) l in omega arith)

    pub wires_past : (node j : ℕ) → j ≤ edge_count network → (j < edge_count network → node < edge_to f network j) → into node (wires_from j) ≡ []
    wires_past node j l h = past node (edge_count network - j) j (omega arith) h

-- a to end that is there is one number
some_same : (a b : ℕ) → Some a ≡ Some b → a ≡ b
some_same a b = ap (elim [ None ↦ 0 | Some x ↦ x ])

some_none : (a : ℕ) → Some a ≡ None → ⊥
some_none a e = let z : ◌≡◌ {A = ℕ} 1 0 = ap (elim [ None ↦ 0 | Some x ↦ 1 ]) e in omega arith

-- whether a wire leads to a box, by the test of its to end
module _ (id : ℕ) (t : Bool) where
  pub leads : (to : Option ℕ) → t ≡ option_eq eqb to (Some id) → t ≡ true → to ≡ Some id
  leads None e y = search rules
  leads (Some k) e y = search rules

  pub leads_here : (to : Option ℕ) → t ≡ not (option_eq eqb to (Some id)) → t ≡ false → to ≡ Some id
  leads_here None e y = search rules
  leads_here (Some k) e y = search rules

  pub leads_elsewhere : (to : Option ℕ) → t ≡ not (option_eq eqb to (Some id)) → t ≡ true → to ≡ Some id → ⊥
  leads_elsewhere to e y q = search rules

-- the next wire is the j-th
pub record NextAt (f : Form) (network : List ℕ) (wire : NextWire) (j : ℕ) : Type 0 where
  pub within : j ≤ edge_count network
  pub is : wire ≡ next_from network (edge_offset f network j)

module _ (f : Form) (network : List ℕ) (checked : CheckedNetwork f network) (wire : NextWire) (j : ℕ) (n : NextAt f network wire j) where
  pub next_at : wire.at ≡ edge_offset f network j
  unfolding next_from
  next_at = ap (λ (x : NextWire). x.at) n.is

  -- its to end, by whether there is one
  pub next_to : j < edge_count network → wire.to ≡ Some (edge_to f network j)
  unfolding next_from edge_to
  next_to l =
      ap (λ (x : NextWire). x.to) n.is
      ∙ rw (lt-ltb (edge_offset f network j) (length network) (let r = edge_room f network checked.room j l in omega arith))

  next_none : edge_count network ≤ j → wire.to ≡ None
  unfolding next_from
  next_none l =
      let last : j ≡ edge_count network = let k = n.within in omega arith in
      ap (λ (x : NextWire). x.to) n.is
      ∙ rw (le-ltb (edge_offset f network j) (length network) (let e = checked.sound.whole in omega (arith, ap (edge_offset f network) last)))

  module _ (node : ℕ) where
    -- a wire into a box
    module _ (e : wire.to ≡ Some node) where
      pub next_there : j < edge_count network
      next_there = ⊎_elim (λ (g : edge_count network ≤ j). absurd (some_none node (sym e ∙ next_none g))) (λ g. g) (le_or_lt (edge_count network) j)

      pub next_into : edge_to f network j ≡ node
      next_into = some_same _ _ (sym (next_to next_there) ∙ e)

      pub next_wire : WireAt f network wire.at
      next_wire = record { row = j; there = next_there; at = next_at }

      module _ (next : NextWire) (g : next ≡ next_from network (wire.at + 5)) where
        pub next_less : length network - next.at < length network - wire.at
        unfolding next_from
        next_less =
            let a : next.at ≡ wire.at + 5 = ap (λ (x : NextWire). x.at) g in
            let r = edge_room f network checked.room j next_there in
            omega (arith, next_at)

        pub next_next : NextAt f network next (j + 1)
        next_next = record {
          within = let l = next_there in omega arith;
          is = g ∙ ap (next_from network) (ap (λ (o : ℕ). o + 5) next_at ∙ sym (edge_after f network j));
        }

    -- no further wire into it
    pub next_past : (wire.to ≡ Some node → ⊥) → (j < edge_count network → node ≤ edge_to f network j) → j < edge_count network → node < edge_to f network j
    next_past ne ahead m =
        let a = ahead m in
        let z : edge_to f network j ≡ node → ⊥ = λ p. ne (next_to m ∙ ap Some p) in
        omega arith
