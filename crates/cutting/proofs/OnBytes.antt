-- What the cutter answers of two records, by what their bytes say: the theorems about networks, carried over by the bridges.
--     cut_said_lem, said                  records that are not refused are cut by what they say; what is given is given of such records
--     cut_fragment, cut_sound         what is given is the fragment, and a sound network
--     record_fine, record_form, record_read, record_small     its record is not refused, has the network's form, says the fragment, and is bytes: so it can be judged, and cut again
--     record_shorter, record_largest  its record is no longer than the network's, and than the largest
--     one_record                      all own boxes in one fragment: the record is the network's own bytes
--     cut_laid, cut_short, cut_kept   the buffer with room, without, and on every refusal
--     cut_refuses                     a refusal: the network's, else the sheet's, else 17, 18 or 19, else 20
use mathlib.Core.Path.{◌≡◌, ap, ◌∙◌}
use mathlib.Core.Bool.{true}
use mathlib.Core.List.{List, ◌++◌}
use mathlib.Core.Logic.{◌⊎◌, inl, inr, ⊎_elim}
use mathlib.Core.Option.{none}
use Prim.Native.Nat.{ℕ, ◌≤◌, ◌<◌}
use native.Mathlib.Nat.{mul-le-mul_right}
use native.Mathlib.Omega.{arith}
use lib.ListN.{length, drop}
use Rattle.lists.specs.All.{All}
use Rattle.lists.specs.Bytes.{Bytes}
use Rattle.routes.specs.declared.Demand.{Demand}
use Rattle.routes.specs.declared.Route.{Route}
use Rattle.lists.specs.Answer.{given, refused}
use Rattle.networks.specs.Lowest.{LowestOwn, Entered}
use Rattle.networks.specs.Cut.{only, fragment, Clashes, cut}
use Rattle.reading.specs.House.{house}
use Rattle.networks.specs.Network.{Own, own_boxes, owns}
use Rattle.networks.specs.Sheets.{number, note}
use Rattle.networks.specs.Sound.{Sound, NoMore}
use Rattle.networks.proofs.FragmentSound as sound
use Rattle.lists.proofs.Answer.{then_given, then_refused}
use Rattle.networks.proofs.OneFragment.{one_fragment}
use Rattle.networks.proofs.Refusals as refusals
use Rattle.entries.specs.Entries.{sheet_refusal, WellFormed}
use Rattle.records.proofs.Fine.{network_fine}
use Rattle.layout.specs.Form.{node_width, sheet_lead, form_of}
use Rattle.records.specs.Network.{network_refusal, SoundRecord}
use Rattle.reading.specs.Largest.{largest_network}
use Rattle.reading.specs.Whole.{HouseNetwork, HouseSheet, bounds, read_network, write_network, network_of, sheet_of}
use Rattle.reading.proofs.Bridges.{read_network_lem, write_network_lem, network_small, network_form}
use Rattle.reading.proofs.Lengths.{network_length, within_largest}
use Rattle.reading.proofs.Fits.{network_fits, sheet_fits, fragment_fits}
use Rattle.reading.proofs.NetworkBytes.{NetworkFits}
use Rattle.routes.specs.Carry.{highest}
use Rattle.outcomes.proofs.RoomLaws.{record_laid, record_unlaid, refusal_keeps}
use Rattle.cutting.specs.Cutting.{cut_network, cut_records, cut_buffer}
use Rattle.layout.specs.declared.Form.{Form}
use Rattle.layout.proofs.OneForm.{form_usable, form_known}
use Rattle.records.proofs.Checked.{given_network, given_entries}

module _ (network sheet : List ℕ) (k : ℕ) where
  abbrev f : Form
  f = form_of network

  abbrev N : HouseNetwork
  N = network_of network

  abbrev S : HouseSheet
  S = sheet_of sheet

  pub cut_said_lem : SoundRecord network → WellFormed sheet_lead sheet → cut_network network sheet k ≡ cut (house highest) N S k
  unfolding cut_network
  cut_said_lem n s = rw (n, s)

  -- what is answered with a fragment is not refused
  pub said : (F : HouseNetwork) → cut_network network sheet k ≡ given F
      → SoundRecord network × WellFormed sheet_lead sheet × (cut (house highest) N S k ≡ given F)
  unfolding cut_network
  said F e =
      let n = then_given (network_refusal network) _ F e in
      let s = then_given (sheet_refusal sheet) _ F n.2 in
      (given_network network n.0 n.1, given_entries sheet_lead sheet s.0 s.1, s.2)

  module _ (small : Bytes network) where
    read_sound : SoundRecord network → Sound (bounds f) N
    read_sound n = (read_network_lem network small n).0

    module _ (F : HouseNetwork) (e : cut_network network sheet k ≡ given F) where
      pub cut_fragment : F ≡ fragment N S k
      cut_fragment = let v = said F e in refusals.cut_fragment (house highest) (bounds f) N (read_sound v.0) S k F v.2

      kept : Sound (bounds f) F × NoMore F N
      kept = let v = said F e in sound.cut_sound (house highest) (bounds f) N F S k (read_sound v.0) v.2

      pub cut_sound : Sound (bounds f) F
      cut_sound = kept.0

      pub record_shorter : length (write_network f F) ≤ length network
      record_shorter =
          let less = kept.1 in
          let boxes = less.boxes in
          let wires = less.wires in
          let policies = less.policies in
          let u = (form_usable network).wide in
          let p = network_length f u F in
          let n = network_length f u N in
          let b : length (write_network f N) ≡ length network = ap length (read_network_lem network small (said F e).0).1 in
          omega (arith, mul-le-mul_right (node_width f) boxes)

      pub record_largest : length (write_network f F) ≤ largest_network f
      record_largest = within_largest f (form_usable network).wide F cut_sound

      module _ (sheet_small : Bytes sheet) where
        cut_fits : NetworkFits F
        cut_fits = rw cut_fragment
            (fragment_fits N S (network_fits f network small (network_fine network (said F e).0)) (sheet_fits (form_of sheet) sheet sheet_small) (only k))

        pub record_fine : SoundRecord (write_network f F)
        record_fine = (write_network_lem f (form_known network) F cut_sound cut_fits).0

        pub record_form : form_of (write_network f F) ≡ f
        record_form = network_form f (form_known network) F cut_sound cut_fits

        pub record_read : read_network f (write_network f F) ≡ F
        record_read = (write_network_lem f (form_known network) F cut_sound cut_fits).1

        pub record_small : Bytes (write_network f F)
        record_small = network_small f (form_known network) F cut_sound cut_fits

    -- No promise has to be added, since no wire is cut.
    pub one_record : SoundRecord network → WellFormed sheet_lead sheet → Entered N (note S)
        → All (λ (b : Own Route Demand). number S b.id ≡ k) (own_boxes N)
        → (cut_network network sheet k ≡ given N) × (write_network f N ≡ network)
    one_record n s entered one = (
      cut_said_lem n s ∙ one_fragment (house highest) (bounds f) N S k (read_sound n) entered one,
      (read_network_lem network small n).1,
    )

  -- the lent buffer
  module _ (out : List ℕ) where
    module _ (F : HouseNetwork) (e : cut_network network sheet k ≡ given F) where
      abbrev W : List ℕ
      W = write_network f F

      pub cut_laid : length W ≤ length out
          → (cut_records network sheet k (length out) ≡ given (length W)) × (cut_buffer network sheet k out ≡ W ++ drop (length W) out)
      unfolding cut_records cut_buffer
      cut_laid = record_laid f (cut_network network sheet k) out F e

      pub cut_short : length out < length W → (cut_records network sheet k (length out) ≡ refused 20 (length W)) × (cut_buffer network sheet k out ≡ out)
      unfolding cut_records cut_buffer
      cut_short = record_unlaid f (cut_network network sheet k) out F e

    pub cut_kept : (at place : ℕ) → cut_records network sheet k (length out) ≡ refused at place → cut_buffer network sheet k out ≡ out
    unfolding cut_records cut_buffer
    cut_kept = refusal_keeps f (cut_network network sheet k) out

  pub cut_refuses : Bytes network → (at place : ℕ) → cut_network network sheet k ≡ refused at place
      → (network_refusal network ≡ refused at place)
      ⊎ ((SoundRecord network × (sheet_refusal sheet ≡ refused at place))
      ⊎ (SoundRecord network × WellFormed sheet_lead sheet × (
      ((at ≡ 17) × LowestOwn N (λ (b : Own Route Demand). note S b.id ≡ none) place)
      ⊎ (((at ≡ 18) × (place ≡ k) × ((w : ℕ) → owns N w ≡ true → number S w ≡ k → ⊥) × Entered N (note S))
      ⊎ ((at ≡ 19) × LowestOwn N (Clashes (house highest) N S) place × Entered N (note S))))))
  unfolding cut_network
  cut_refuses small at place e = ⊎_elim inl
      (λ n. let ok = given_network network n.0 n.1 in inr (⊎_elim (λ s. inl (ok, s))
      (λ s. inr (
        ok,
        given_entries sheet_lead sheet s.0 s.1,
        refusals.cut_refused (house highest) (bounds f) N (read_sound small ok) S k at place s.2,
      ))
      (then_refused (sheet_refusal sheet) _ at place n.2)))
      (then_refused (network_refusal network) _ at place e)
