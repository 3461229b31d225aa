-- How many nodes and edges the joint network has: those of both, less the ids that both have; and all edges, since no box is owned by both.
use Prim.Native.Nat.{ℕ, ◌+◌, ◌-◌, ◌≤◌, ◌<◌}
use native.Mathlib.Omega.{arith}
use mathlib.Core.Bool.{true≢false}
use mathlib.Core.List.{List}
use mathlib.Core.Path.{◌≡◌, refl, sym, ◌∙◌}
use lib.ListN.{length}
use mir.Syntax.{w16}
use mir.Val.{Fits}
use Rattle.lists.specs.Gather.{count}
use Rattle.numbers.proofs.Codecs.{u16_below}
use Rattle.lists.proofs.Rows.{length_rows}
use Rattle.lists.proofs.Union.{length_union}
use Rattle.networks.specs.Join.{meeting, joining}
use Rattle.networks.specs.Network.{box_id}
use Rattle.networks.specs.Sound.{Sound}
use Rattle.networks.proofs.Laws.JoinRows.{none_once}
use Rattle.networks.proofs.Laws.JointWires.{length_wires}
use Rattle.layout.specs.Form.{node_width}
use Rattle.layout.specs.Layout.{node_count, edge_count, node_part, edge_part, edge_offset}
use Rattle.layout.specs.declared.Form.{Form}
use Rattle.matching.specs.Rows.{in_other}
use Rattle.matching.proofs.Said.{shared_said}
use Rattle.merging.specs.Merged.{Two, joined_in}
use Rattle.merging.specs.Runs.{KeysApart}
use Rattle.records.specs.Checked.{CheckedNetwork}
use Rattle.records.specs.Edge.{edge_to, edge_from, edge_key}
use Rattle.reading.specs.Parts.{box_at, wire_at}
use Rattle.reading.specs.Whole.{bounds, read_network}
use Rattle.reading.proofs.ReadSound.{read_sound}
use Rattle.reading.proofs.Said.{owns_read, edge_parts}
use Rattle.joining.specs.Parts.{Counted}
use Rattle.joining.specs.Stages.{Apart}

module _ (f : Form) (first second : List ℕ) (c : CheckedNetwork f first) (d : CheckedNetwork f second) where
  rows_length : (b : List ℕ) → length (read_network f b).boxes ≡ node_count b
  unfolding read_network
  rows_length b = length_rows (box_at f.route b) (node_width f) (node_part b) (node_count b)

  boxes_counted : length (joined_in f first second).boxes + count (in_other f first second) (node_count first) ≡ node_count first + node_count second
  unfolding joined_in joining
  boxes_counted =
      let rise : (b : List ℕ) → CheckedNetwork f b → Sound (bounds f) (read_network f b) = λ b k. read_sound f b k.bytes k.sound in
      rw (← shared_said f first second, ← rows_length first, ← rows_length second)
      (length_union box_id meeting 0 (read_network f first).boxes (read_network f second).boxes (rise first c).boxes_rise (rise second d).boxes_rise)

  -- as the code counts them
  module _ (n m s : ℕ) (p : n ≡ node_count first) (q : m ≡ node_count second) (e : s ≡ count (in_other f first second) (node_count first)) where
    pub shared_within : s ≤ n + m
    shared_within = omega (arith, boxes_counted)

    pub nodes_joined : n + m - s ≡ length (joined_in f first second).boxes
    nodes_joined = omega (arith, boxes_counted)

-- an end of an edge is an id
from_below : (f : Form) (b : List ℕ) → CheckedNetwork f b → (j : ℕ) → edge_from f b j < 65536
unfolding edge_from
from_below f b c j = u16_below b (edge_offset f b j + 2) (c.bytes _, c.bytes _)

module _ (f : Form) (first second : List ℕ) (c : CheckedNetwork f first) (d : CheckedNetwork f second) (apart : Apart f first second) where
  wires_length : (b : List ℕ) → length (read_network f b).wires ≡ edge_count b
  unfolding read_network
  wires_length b = length_rows (wire_at b) 5 (edge_part f b) (edge_count b)

  wires_counted : length (joined_in f first second).wires ≡ edge_count first + edge_count second
  unfolding joined_in Apart
  wires_counted =
      length_wires (bounds f) (read_network f first) (read_network f second) (read_sound f first c.bytes c.sound) (read_sound f second d.bytes d.sound)
      (none_once (read_network f first) (read_network f second) apart)
      ∙ rw (wires_length first, wires_length second) refl

  pub edges_all : (n m : ℕ) → n ≡ edge_count first → m ≡ edge_count second → n + m ≡ edge_count first + edge_count second
  edges_all n m p q = omega arith

  pub edges_joined : (n m : ℕ) → n ≡ edge_count first → m ≡ edge_count second → n + m ≡ length (joined_in f first second).wires
  edges_joined n m p q = omega (arith, wires_counted)

  -- an edge of both would lead to a box that both own
  pub keys_apart : KeysApart f first second
  unfolding KeysApart Apart edge_key
  keys_apart p q l m e =
      let one = (edge_parts f first p (c.sound.edges p l)).to_own in
      let other = (edge_parts f second q (d.sound.edges q m)).to_own in
      let from = from_below f first c p in
      let from' = from_below f second d q in
      let to : edge_to f first p ≡ edge_to f second q = omega arith in
      let once = none_once (read_network f first) (read_network f second) apart (edge_to f first p) (owns_read f first (edge_to f first p) ∙ one) in
      true≢false (sym other ∙ rw (← to) (sym (owns_read f second (edge_to f first p)) ∙ once))

-- the counts are 16-bit numbers where they are within their bounds
pub nodes_fit : (f : Form) (b : List ℕ) (nodes : ℕ) → CheckedNetwork f b → nodes ≤ f.most → Fits w16 nodes
nodes_fit f b nodes c l = let few = c.room.usable.few in omega arith

pub edges_fit : (edges : ℕ) → edges ≤ 4096 → Fits w16 edges
edges_fit edges l = omega arith

pub counted : (f : Form) (first second : List ℕ) (nodes edges nodes' edges' : ℕ) → nodes' ≡ nodes → edges' ≡ edges
    → nodes ≡ length (joined_in f first second).boxes → edges ≡ length (joined_in f first second).wires → edges ≡ edge_count first + edge_count second
    → KeysApart f first second → Counted f first second nodes' edges'
counted f first second nodes edges nodes' edges' p q r s t u = record { boxes = p ∙ r; wires = q ∙ s; all = q ∙ t; apart = u }

pub both_checked : (f : Form) (first second : List ℕ) → CheckedNetwork f first → CheckedNetwork f second → Two f first second
both_checked f first second c d = record { one = c; other = d }

pub ruleset counting_joint = (shared_within, nodes_joined, edges_all, edges_joined, keys_apart, nodes_fit, edges_fit, counted, both_checked)
