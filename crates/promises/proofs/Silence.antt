-- What a pass carried, proved: a pass of two records is one of what they say, and what a cut leaves says the fragment, so that the
-- theorems about networks hold of them.
use mathlib.Core.Path.{◌≡◌, sym, ap, ◌∙◌, subst, fun_ext}
use mathlib.Core.List.{List}
use mathlib.Core.Logic.{◌↔◌}
use mathlib.Core.Option.{some, none-ne-some, some-injective}
use Prim.Native.Nat.{ℕ, ◌<◌}
use native.Mathlib.Omega.{arith}
use lib.ListN.{length-map}
use Rattle.lists.specs.All.{All}
use Rattle.lists.proofs.All.{all_map}
use Rattle.lists.specs.Answer.{given}
use Rattle.lists.specs.Bytes.{Bytes}
use Rattle.lists.proofs.Filter.{all_mapped, all_filter_map, length_filter_map}
use Rattle.routes.specs.declared.Demand.{Demand}
use Rattle.routes.specs.declared.Route.{Route}
use Rattle.routes.specs.declared.Route.TheVariants.{None}
use Rattle.networks.specs.Judge.{Passes as Passing}
use Rattle.networks.specs.Network.{Own, Box, own, input, ids, box_id, as_own, own_boxes}
use Rattle.networks.specs.Sheets.{ListEntry}
use Rattle.networks.specs.Silence.{Census, taken, AddsUp, census, Empty, ListsNone, silent_list}
use Rattle.networks.specs.Silence as networks
use Rattle.networks.specs.Sound.{Sound}
use Rattle.networks.proofs.Silence as silence
use Rattle.networks.proofs.Laws.Silence.{listed_silent, silent_rises}
use Rattle.entries.specs.Entries.{WellFormed}
use Rattle.layout.specs.Form.{form_of, list_lead}
use Rattle.layout.specs.declared.Form.{Form}
use Rattle.layout.proofs.OneForm.{form_known}
use Rattle.records.specs.Network.{SoundRecord}
use Rattle.reading.specs.Asking.{house_asking}
use Rattle.reading.specs.Whole.{HouseNetwork, HouseList, bounds, read_list, write_list, network_of, sheet_of, list_of, ListFormed}
use Rattle.reading.proofs.Bridges.{read_network_lem, list_form, write_list_lem}
use Rattle.reading.proofs.RowCodecs.{ListEntryFits}
use Rattle.reading.proofs.HouseRoutes.{house_choice}
use Rattle.routes.specs.Carry.{highest}
use Rattle.cutting.proofs.OnBytes.{cut_fragment}
use Rattle.promises.specs.Calls.{house1, Roomy, SheetCuts}
use Rattle.counting.specs.Text.{census_of}
use Rattle.promises.specs.Silence.{census_in, QuietRecord, SilencePasses, EmptyPass, QuietCounts, CountsQuiet}
use Rattle.promises.specs.Silence.{AskedHold, NoneSilent, Accounted, SilenceWritten, SilentPart, CensusAddsUp}
use Rattle.promises.proofs.Cuts.{into_given, record_said, cuts_sound, cuts_said, of_part, parts_low, said_passes, passes_said}

-- what a record says that is not refused
sound : (network : List ℕ) → Bytes network → SoundRecord network → Sound (bounds (form_of network)) (network_of network)
sound network small n = (read_network_lem network small n).0

pub silence_passes : (network list : List ℕ) → SilencePasses network list
silence_passes network list small n l none_listed =
    let theorem = silence.silence_passes house1 (house_choice highest) house_asking (bounds (form_of network)) (network_of network)
    (sound network small n) (list_of list) none_listed in
    (λ p. theorem.0 (passes_said network list small p).2, λ q. said_passes network list n l (theorem.1 q))

pub empty_pass : (network list : List ℕ) → EmptyPass network list
empty_pass network list small = (
  counts,
  (
    λ h.
        let v = passes_said network list small h.0 in
        let e = (theorem v.0).0 (v.2, counts.0 h.1) in
        (v.0, v.1, e.0, e.1),
    λ h. let e = (theorem h.0).1 (h.2, h.3) in (said_passes network list h.0 h.1 e.0, counts.1 e.1),
  ),
)
  where
    counts : ((census_of network list).holding ≡ 0) ↔ Empty house1 (network_of network) (list_of list)
    counts = silence.holding_none house1 house_asking (network_of network) (list_of list)

    theorem : SoundRecord network → (Passing house1 (network_of network) (list_of list) × Empty house1 (network_of network) (list_of list))
        ↔ (ListsNone house1 (network_of network) (list_of list) × QuietRecord network)
    theorem n = silence.empty_pass house1 (house_choice highest) house_asking (bounds (form_of network)) (network_of network)
        (sound network small n) (list_of list)

pub quiet_counts : (network list : List ℕ) → QuietCounts network list
quiet_counts network list = silence.quiet_counts house1 house_asking (network_of network) (list_of list)

pub counts_quiet : (network list : List ℕ) → CountsQuiet network list
counts_quiet network list = silence.counts_quiet house1 house_asking (network_of network) (list_of list) (house_choice highest)

pub asked_hold : (network list : List ℕ) → AskedHold network list
asked_hold network list small p =
    let v = (passes_said network list small p).2 in (
      silence.asked_hold house1 house_asking (network_of network) (list_of list) v,
      silence.asked_holding house1 house_asking (network_of network) (list_of list) v,
    )

pub none_silent : (network list : List ℕ) → NoneSilent network list
none_silent network list small asked p = silence.none_silent house1 house_asking (network_of network) (list_of list) (passes_said network list small p).2 asked

pub accounted : (network list : List ℕ) → Accounted network list
accounted network list small p = silence.accounted house1 house_asking (network_of network) (list_of list) (passes_said network list small p).2

-- the record of the list without a route
module _ (network : List ℕ) (small : Bytes network) (n : SoundRecord network) where
  abbrev f : Form
  f = form_of network

  abbrev quiet : HouseList
  quiet = silent_list house1 (network_of network)

  list_formed : ListFormed f quiet
  list_formed = record {
    few =
        let e = length-map {B = ListEntry Route} (own_boxes (network_of network)) (λ (b : Own Route Demand). record { id = b.id; route = None }) in
        let l = length_filter_map as_own (network_of network).boxes in
        let m = (sound network small n).boxes_within in
        omega arith;
    rises = silent_rises house1 (network_of network) (sound network small n).boxes_rise;
  }

  fits : All ListEntryFits quiet
  fits = all_mapped ListEntryFits _ (own_boxes (network_of network)) (all_filter_map _ as_own (network_of network).boxes
      (all_map (network_of network).boxes (λ v l b e. (id_fits v b e l, tt)) (sound network small n).ids_within))
    where
      id_fits : (v : Box Route Demand) (b : Own Route Demand) → as_own v ≡ some b → box_id v < ids → b.id < 65536
      id_fits (own c) b e l = subst (λ (d : Own Route Demand). d.id < 65536) (some-injective _ _ e) l
      id_fits (input a) b e l = absurd (none-ne-some _ e)

  abbrev W : List ℕ
  W = write_list f quiet

  record_formed : WellFormed list_lead W × (read_list f W ≡ quiet)
  record_formed = write_list_lem f (form_known network) quiet list_formed fits

  says : list_of W ≡ quiet
  says = ap (λ (g : Form). read_list g W) (list_form f (form_known network) quiet list_formed fits) ∙ record_formed.1

pub silence_written : (network : List ℕ) → SilenceWritten network
silence_written network small n = silence_passes network (W network small n) small n (record_formed network small n).0
    (subst (ListsNone house1 (network_of network)) (sym (says network small n))
    (listed_silent house1 (network_of network) (sound network small n).boxes_rise))

pub silent_part : (network sheet list : List ℕ) (k : ℕ) → SilentPart network sheet list k
silent_part network sheet list k small sheet_small out F e =
    let g = into_given network sheet k out F e in
    ap (λ (G : HouseNetwork). (census house1 G house_asking (list_of list)).silent)
    (ap network_of g.2 ∙ record_said network sheet k small sheet_small g.0 g.1 ∙ cut_fragment network sheet k small g.0 g.1)
    ∙ silence.silent_part house1 house_asking (network_of network) (sheet_of sheet) (list_of list) k

module _ (network sheet list : List ℕ) (small : Bytes network) (sheet_small : Bytes sheet) (cuts : SheetCuts network sheet) where
  -- what the cutter gives of what the records say
  abbrev part : ℕ → Census
  part = networks.census_in house1 (network_of network) (sheet_of sheet) house_asking (list_of list)

  -- a fragment's record has the census of the fragment
  part_is : (out : ℕ → List ℕ) → ((k : ℕ) → Roomy (form_of network) (out k)) → (k : ℕ) → census_in network sheet list out k ≡ part k
  part_is out roomy k = ap taken (of_part network sheet small cuts _ (λ (G : HouseNetwork). given (census house1 G house_asking (list_of list))) k (out k) (roomy k)
      (λ G q. ap (λ (H : HouseNetwork). given (census house1 H house_asking (list_of list))) (record_said network sheet k small sheet_small G q)))

  parts_add_up : AddsUp part 64 (census_of network list)
  parts_add_up = silence.cut_adds_up house1 house_asking (network_of network) (sheet_of sheet) (list_of list) 64 (parts_low network sheet small cuts sheet_small) (bounds (form_of network))
      (cuts_sound network sheet cuts small) (cuts_said network sheet cuts small sheet_small)

pub census_adds_up : (network sheet list : List ℕ) → CensusAddsUp network sheet list
census_adds_up network sheet list small sheet_small cuts out roomy = subst (λ (counts : ℕ → Census). AddsUp counts 64 (census_of network list))
    (fun_ext (λ k. sym (part_is network sheet list small sheet_small cuts out roomy k))) (parts_add_up network sheet list small sheet_small cuts)
