-- What the joiner answers of two records, by what their bytes say.
--     join_said_lem, said     records that are not refused are joined by what they say; what is given is given of such records
--     joint_within        the joint network is within the bounds of its form
use mathlib.Core.Path.{◌≡◌, refl}
use mathlib.Core.List.{List}
use Prim.Native.Nat.{ℕ, ◌≤◌}
use native.Mathlib.Omega.{arith}
use lib.ListN.{length}
use Rattle.lists.specs.Answer.{given}
use Rattle.lists.proofs.Answer.{then_given}
use Rattle.lists.proofs.Rows.{length_rows}
use Rattle.routes.specs.Carry.{highest}
use Rattle.routes.specs.Form.{policy_at}
use Rattle.networks.specs.Join.{Fitting, joining, join}
use Rattle.networks.proofs.Laws.Fitted.{joined_fitting}
use Rattle.layout.specs.Form.{form_of}
use Rattle.layout.specs.Layout.{policy_count}
use Rattle.layout.specs.declared.Form.{Form}
use Rattle.layout.proofs.OneForm.{form_usable}
use Rattle.records.specs.Network.{network_refusal, SoundRecord}
use Rattle.records.proofs.Checked.{given_network}
use Rattle.records.proofs.Fine.{network_fine}
use Rattle.reading.specs.House.{house, house_telling}
use Rattle.reading.specs.Largest.{largest_network}
use Rattle.reading.specs.Whole.{HouseNetwork, bounds, read_network, network_of, write_network}
use Rattle.reading.proofs.Lengths.{network_short}
use Rattle.joining.specs.Joining.{join_networks}

module _ (first second : List ℕ) where
  abbrev f : Form
  f = form_of first

  abbrev N : HouseNetwork
  N = network_of first

  abbrev M : HouseNetwork
  M = network_of second

  pub join_said_lem : SoundRecord first → SoundRecord second → join_networks first second ≡ join (house highest) (house_telling highest) (bounds f) N M
  unfolding join_networks
  join_said_lem n m = rw (n, m) refl

  pub said : (F : HouseNetwork) → join_networks first second ≡ given F
      → SoundRecord first × SoundRecord second × (join (house highest) (house_telling highest) (bounds f) N M ≡ given F)
  unfolding join_networks
  said F e =
      let n = then_given (network_refusal first) _ F e in
      let m = then_given (network_refusal second) _ F n.2 in
      (given_network first n.0 n.1, given_network second m.0 m.1, m.2)

  policies_long : length N.policies ≡ policy_count first
  unfolding read_network
  policies_long = length_rows (policy_at first) 13 10 (policy_count first)

  fitting_short : policy_count first ≤ 64 → Fitting (house highest) (bounds f) N M → length (write_network f (joining N M)) ≤ largest_network f
  unfolding joining
  fitting_short few fit = network_short f (form_usable first).wide (joining N M) (omega (arith, policies_long)) fit.boxes_within fit.wires_within

  pub joint_within : (F : HouseNetwork) → join_networks first second ≡ given F → length (write_network f F) ≤ largest_network f
  joint_within F e =
      let v = said F e in
      let w = joined_fitting (house highest) (house_telling highest) (bounds f) N M F v.2 in
      rw (← w.1) (fitting_short (network_fine first v.0).few_policies w.0)
