-- What a join leaves in a buffer, by the joint network, and what that network's record has.
--     first_sound, second_sound          what two records say that are not refused is sound within the first's bounds
--     join_joining, joint_told           what is given is the joint network, and what its record has
--     into_left, into_joint              the record at the buffer's start is the joint network's
use mathlib.Core.Path.{◌≡◌, refl, ◌∙◌, subst}
use mathlib.Core.List.{List}
use Prim.Native.Nat.{ℕ}
use native.Mathlib.Omega.{arith}
use Rattle.lists.specs.Answer.{given, and_then}
use Rattle.lists.specs.Bytes.{Bytes}
use Rattle.routes.specs.Carry.{highest}
use Rattle.networks.specs.Join.{joining}
use Rattle.networks.specs.Sound.{Sound}
use Rattle.networks.proofs.Joining.{join_sound}
use Rattle.networks.proofs.Laws.Fitted.{joined_fitting}
use Rattle.networks.proofs.Laws.Joins.{boxes_both, wires_both, policies_joining}
use Rattle.layout.specs.Form.{form_of}
use Rattle.layout.specs.declared.Form.{Form}
use Rattle.layout.proofs.OneForm.{one_form}
use Rattle.records.specs.Network.{SoundRecord}
use Rattle.records.proofs.Fine.{network_fine}
use Rattle.reading.specs.House.{house_telling}
use Rattle.reading.specs.Whole.{HouseNetwork, bounds, network_of}
use Rattle.reading.proofs.BoxCodec.{BoxFits}
use Rattle.reading.proofs.Bridges.{read_network_lem}
use Rattle.reading.proofs.Fits.{network_fits}
use Rattle.reading.proofs.NetworkBytes.{NetworkFits}
use Rattle.reading.proofs.RowCodecs.{WireFits}
use Rattle.joining.specs.Joining.{join_networks, join_records, join_buffer}
use Rattle.joining.proofs.OnBytes.{said, joint_within}
use Rattle.promises.specs.Calls.{house1, join_into, Roomy}
use Rattle.promises.proofs.Left.{written, left, left_roomy, Told, told}

-- every number of the joint network is a number of one of the two
joining_fits : (N M : HouseNetwork) → NetworkFits N → NetworkFits M → NetworkFits (joining N M)
joining_fits N M n m = record {
  policies_fit = rw (policies_joining N M) n.policies_fit;
  boxes_fit = boxes_both N M BoxFits n.boxes_fit m.boxes_fit;
  wires_fit = wires_both N M WireFits n.wires_fit m.wires_fit;
}

module _ (first second : List ℕ) where
  abbrev f : Form
  f = form_of first

  abbrev N : HouseNetwork
  N = network_of first

  abbrev M : HouseNetwork
  M = network_of second

  pub into_left : (out : List ℕ) → join_into first second out ≡ left f (join_networks first second) out
  unfolding join_into join_records join_buffer
  into_left out = refl

  module _ (small : Bytes first) (second_small : Bytes second) where
    pub first_sound : SoundRecord first → Sound (bounds f) N
    first_sound n = (read_network_lem first small n).0

    pub second_sound : SoundRecord second → Sound (bounds f) M
    second_sound m = subst (λ (g : Form). Sound (bounds g) M) (one_form second first) (read_network_lem second second_small m).0

    module _ (F : HouseNetwork) (e : join_networks first second ≡ given F) where
      pub join_joining : joining N M ≡ F
      join_joining = (joined_fitting house1 (house_telling highest) (bounds f) N M F (said first second F e).2).1

      pub joint_told : Told f F
      joint_told = let v = said first second F e in told first F
          (join_sound house1 (house_telling highest) (bounds f) N M (first_sound v.0) (second_sound v.1) F v.2)
          (subst NetworkFits join_joining (joining_fits N M (network_fits f first small (network_fine first v.0))
          (network_fits (form_of second) second second_small (network_fine second v.1))))

  pub into_joint : (out : List ℕ) → Roomy f out → join_into first second out ≡ and_then (join_networks first second) (written f)
  into_joint out roomy = into_left out
      ∙ left_roomy f (join_networks first second) out (λ G q. let l = joint_within first second G q in omega arith)
