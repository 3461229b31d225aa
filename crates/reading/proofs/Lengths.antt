-- How long a written network is, and how many own boxes a read one has.
--     network_length                   by its counts
--     network_short, within_largest    within the bounds it is no longer than the largest
--     own_few                          no more own boxes than a table has rows
use mathlib.Core.Path.{◌≡◌, ap, ◌∙◌}
use mathlib.Core.List.{List}
use Prim.Native.Nat.{ℕ, ◌+◌, ◌*◌, ◌≤◌}
use native.Mathlib.Nat.{mul-le-mul_right}
use native.Mathlib.Omega.{arith}
use lib.ListN.{length}
use Rattle.lists.proofs.Filter.{length_filter_map}
use Rattle.lists.proofs.Rows.{length_rows}
use Rattle.networks.specs.Network.{as_own, own_boxes}
use Rattle.networks.specs.Sound.{Sound}
use Rattle.layout.specs.Form.{node_width}
use Rattle.layout.specs.Layout.{node_count, node_part}
use Rattle.layout.specs.declared.Form.{Form}
use Rattle.reading.specs.Largest.{largest_network}
use Rattle.reading.specs.Parts.{box_at}
use Rattle.reading.specs.Whole.{HouseNetwork, bounds, write_network, read_network}
use Rattle.reading.proofs.NetworkBytes.{length_written, parts_counted}

module _ (f : Form) (enough : 9 ≤ f.route) (N : HouseNetwork) where
  pub network_length : length (write_network f N) ≡ 10 + (length N.policies * 13 + length N.boxes * node_width f + length N.wires * 5)
  unfolding node_width
  network_length = length_written f enough N ∙ ap (◌+◌ 10) (parts_counted f enough N)

  pub network_short : length N.policies ≤ (bounds f).policies → length N.boxes ≤ (bounds f).boxes → length N.wires ≤ (bounds f).wires
      → length (write_network f N) ≤ largest_network f
  unfolding largest_network
  network_short p b w = rw network_length (omega (arith, mul-le-mul_right (node_width f) b))

  pub within_largest : Sound (bounds f) N → length (write_network f N) ≤ largest_network f
  within_largest sound = network_short sound.policies_within sound.boxes_within sound.wires_within

pub own_few : (f : Form) (b : List ℕ) → node_count b ≤ f.most → f.most ≤ 1024 → length (own_boxes (read_network f b)) ≤ 1024
unfolding read_network
own_few f b few most =
    let rows = length_rows (box_at f.route b) (node_width f) (node_part b) (node_count b) in
    let ours = length_filter_map as_own (read_network f b).boxes in
    omega arith
