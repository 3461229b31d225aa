-- The fragments of one cut, proved: what a cut leaves says the fragment, so that the theorems about networks hold of it.
use mathlib.Core.Path.{◌≡◌, sym, ap, ◌∙◌, fun_ext}
use mathlib.Core.Bool.{true}
use mathlib.Core.List.{List}
use Prim.Native.Nat.{ℕ, ◌≤◌, ◌<◌}
use native.Mathlib.Omega.{arith}
use lib.ListN.{length}
use Rattle.lists.specs.Bytes.{Bytes}
use Rattle.lists.specs.Answer.{given}
use Rattle.networks.specs.Counts as networks
use Rattle.networks.specs.Cut.{fragment, cut}
use Rattle.networks.specs.Judge.{pass, judged, judge, Passes as Passing}
use Rattle.networks.specs.Network.{owns}
use Rattle.networks.specs.Sheets.{number}
use Rattle.networks.proofs.Counting.{counts_add_up}
use Rattle.networks.proofs.Laws.Cutting.{Fits, own_cut, cuts_fits}
use Rattle.networks.proofs.Laws.Together.{parts_cover}
use Rattle.networks.proofs.Recutting as recutting
use Rattle.entries.specs.Entries.{WellFormed}
use Rattle.layout.specs.Form.{form_of, list_lead}
use Rattle.layout.specs.declared.Form.{Form}
use Rattle.reading.specs.Whole.{HouseNetwork, HouseSheet, HouseList, bounds, write_network, network_of, sheet_of, list_of}
use Rattle.reading.proofs.Bridges.{read_network_lem}
use Rattle.judging.specs.Judging.{judge_records}
use Rattle.judging.proofs.OnBytes.{judge_said}
use Rattle.cutting.specs.Cutting.{cut_network}
use Rattle.cutting.proofs.OnBytes.{said, cut_said_lem, cut_fragment, record_fine, record_form, record_largest}
use Rattle.promises.specs.Calls.{house1, cut_into, Roomy, SheetCuts}
use Rattle.promises.specs.Fragments.{CutOut, FragmentsCover, judged_in, CountsAddUp, CutAgain}
use Rattle.promises.proofs.Cuts.{into_laid, into_given, record_said, given_asked}
use Rattle.promises.proofs.Cuts.{cuts_network, cuts_sheet, cuts_sound, cuts_said, of_part, parts_low}
use Rattle.promises.proofs.Demand3.{blank, blank_roomy, fragment_passes}

module _ (network sheet : List ℕ) (small : Bytes network) (sheet_small : Bytes sheet) (cuts : SheetCuts network sheet) where
  abbrev f : Form
  f = form_of network

  abbrev N : HouseNetwork
  N = network_of network

  abbrev S : HouseSheet
  S = sheet_of sheet

  fits : Fits N S
  fits = (cuts_fits house1 N S (bounds f) (cuts_sound network sheet cuts small)).0 (cuts_said network sheet cuts small sheet_small)

  cut_is : (k : ℕ) → cut_network network sheet k ≡ cut house1 N S k
  cut_is k = cut_said_lem network sheet k (cuts_network network sheet cuts) (cuts_sheet network sheet cuts)

  -- a fragment that the cutter gives was asked for by a byte, and leaves its record in a buffer with room
  module _ (k : ℕ) (G : HouseNetwork) (c : cut house1 N S k ≡ given G) where
    asked : k < 256
    asked = given_asked network sheet sheet_small (cuts_sheet network sheet cuts) k G c

    laid : (out : List ℕ) → Roomy f out → cut_into network sheet k out ≡ given (write_network f G)
    laid out roomy = let short = record_largest network sheet k small G (cut_is k ∙ c) in into_laid network sheet k out G (cut_is k ∙ c) (omega arith)

  -- what is cut out for fragment k says it
  out_is : (k : ℕ) (F : HouseNetwork) → CutOut network sheet k F → F ≡ fragment N S k
  out_is k F h =
      let g = into_given network sheet k h.0 h.1 h.3 in
      sym h.4 ∙ ap network_of g.2 ∙ record_said network sheet k small sheet_small g.0 g.1 ∙ cut_fragment network sheet k small g.0 g.1

  -- and the fragment of each own box is cut out
  own_out : (u : ℕ) → owns N u ≡ true → CutOut network sheet (number S u) (fragment N S (number S u))
  own_out u t =
      let k = number S u in
      let G = fragment N S k in
      let c : cut house1 N S k ≡ given G = own_cut house1 N S fits u t in
      (blank f, write_network f G, asked k G c, laid k G c (blank f) (blank_roomy f), record_said network sheet k small sheet_small G (cut_is k ∙ c))

  module _ (list : List ℕ) (l : WellFormed list_lead list) where
    abbrev L : HouseList
    L = list_of list

    -- a fragment's record is judged as the fragment
    count_is : (out : ℕ → List ℕ) → ((k : ℕ) → Roomy f (out k)) → (k : ℕ) → judged_in network sheet list out k ≡ networks.judged_in house1 N S L k
    count_is out roomy k = ap judged (of_part network sheet small cuts (λ (F : List ℕ). judge_records F list) (λ (G : HouseNetwork). judge house1 G L) k (out k) (roomy k)
        (λ G q. judge_said (write_network f G) list (record_fine network sheet k small G q sheet_small) l
        ∙ ap (λ (H : HouseNetwork). judge house1 H L) (record_said network sheet k small sheet_small G q)))

pub fragments_cover : (network sheet : List ℕ) → FragmentsCover network sheet
fragments_cover network sheet small sheet_small cuts = parts_cover (bounds (form_of network)) (network_of network) (sheet_of sheet)
    (cuts_sound network sheet cuts small) (fits network sheet small sheet_small cuts) (CutOut network sheet)
    (out_is network sheet small sheet_small cuts) (own_out network sheet small sheet_small cuts)

pub counts_add : (network sheet list : List ℕ) → CountsAddUp network sheet list
counts_add network sheet list small sheet_small cuts l entered out roomy parts =
    judge_said network list (cuts_network network sheet cuts) l
    ∙ counts_add_up house1 (bounds (form_of network)) (network_of network) (sheet_of sheet) (list_of list) (cuts_sound network sheet cuts small)
    (cuts_said network sheet cuts small sheet_small) passing entered 64 (parts_low network sheet small cuts sheet_small)
    ∙ ap (λ (count : ℕ → ℕ). given (pass (networks.sum count 64))) (fun_ext (λ k. sym (count_is network sheet small sheet_small cuts list l out roomy k)))
  where
    passing : (k : ℕ) (G : HouseNetwork) → cut house1 (network_of network) (sheet_of sheet) k ≡ given G → Passing house1 G (list_of list)
    passing k G c = fragment_passes network sheet list small sheet_small l k G (cut_is network sheet small sheet_small cuts k ∙ c)
        (parts k (write_network (form_of network) G) (asked network sheet small sheet_small cuts k G c)
        (laid network sheet small sheet_small cuts k G c (out k) (roomy k)))

pub cut_again : (network sheet : List ℕ) (k : ℕ) → CutAgain network sheet k
cut_again network sheet k small sheet_small out again F e room =
    let g = into_given network sheet k out F e in
    rw g.2 (once g.0 g.1 (rw g.2 at room))
  where
    once : (G : HouseNetwork) → cut_network network sheet k ≡ given G → length (write_network (form_of network) G) ≤ length again
        → cut_into (write_network (form_of network) G) sheet k again ≡ given (write_network (form_of network) G)
    once G q r =
        let W = write_network (form_of network) G in
        let v = said network sheet k G q in
        let form : form_of W ≡ form_of network = record_form network sheet k small G q sheet_small in
        let c : cut_network W sheet k ≡ given G = cut_said_lem W sheet k (record_fine network sheet k small G q sheet_small) v.1
        ∙ ap (λ (H : HouseNetwork). cut house1 H (sheet_of sheet) k) (record_said network sheet k small sheet_small G q)
        ∙ recutting.cut_again house1 (bounds (form_of network)) (network_of network) (sheet_of sheet) (read_network_lem network small v.0).0 k G v.2 in
        into_laid W sheet k again G c (rw form r) ∙ ap (λ (h : Form). given (write_network h G)) form
