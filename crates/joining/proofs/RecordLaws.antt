-- The record of the joint network is the four parts that are laid down: the first network's policies, and the merged nodes and edges.
--     joint_parts, joint_long, joint_kept     the record, its length, and the buffer where there is no room
use Prim.Native.Nat.{ℕ, ◌+◌, ◌<◌}
use mathlib.Core.List.{List}
use mathlib.Core.Path.{◌≡◌, refl, ◌∙◌}
use lib.ListN.{length}
use Rattle.lists.specs.Laid.{placed}
use Rattle.networks.specs.Join.{joining}
use Rattle.layout.specs.Layout.{policy_count, edge_count}
use Rattle.layout.specs.declared.Form.{Form}
use Rattle.merging.specs.Merged.{Two, joined_in}
use Rattle.merging.specs.Runs.{KeysApart}
use Rattle.reading.specs.Whole.{read_network, write_network}
use Rattle.writing.specs.Heads.{size_of}
use Rattle.writing.proofs.Parts.{record_kept}
use Rattle.writing.proofs.Selected.{written_parts}
use Rattle.joining.specs.Parts.{JoinParts, Counted}

module _ (f : Form) (first second : List ℕ) (two : Two f first second) (nodes edges : ℕ) (c : Counted f first second nodes edges)
    (size : ℕ) (s : size ≡ size_of f (policy_count first) nodes edges) where
  pub joint_parts : JoinParts f first second size nodes edges
  unfolding joined_in joining read_network
  joint_parts =
      let one = two.one in
      written_parts f first one.room.usable one.bytes one.sound (joined_in f first second) refl size nodes edges c.boxes c.wires s

  pub joint_long : size ≡ length (write_network f (joined_in f first second))
  joint_long = joint_parts.long

  pub joint_kept : (out : List ℕ) → length out < size → out ≡ placed (write_network f (joined_in f first second)) out
  joint_kept out h = record_kept _ size _ _ _ _ joint_parts out h

-- the counts, as the writers of the parts are handed them
pub parts_nodes : (f : Form) (first second : List ℕ) (nodes edges n : ℕ) → Counted f first second nodes edges → n ≡ nodes → n ≡ length (joined_in f first second).boxes
parts_nodes f first second nodes edges n c e = e ∙ c.boxes

pub parts_edges : (f : Form) (first second : List ℕ) (nodes edges n : ℕ) → Counted f first second nodes edges → n ≡ edges → n ≡ edge_count first + edge_count second
parts_edges f first second nodes edges n c e = e ∙ c.all

pub parts_apart : (f : Form) (first second : List ℕ) (nodes edges : ℕ) → Counted f first second nodes edges → KeysApart f first second
parts_apart f first second nodes edges c = c.apart

pub ruleset parts_counted = (parts_nodes, parts_edges, parts_apart)

pub ruleset recording = (joint_parts, joint_long, joint_kept)
