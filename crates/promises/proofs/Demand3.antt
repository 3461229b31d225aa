-- Demand 3, proved: the theorems about networks, on the bytes that cuts leave.
use mathlib.Core.Path.{◌≡◌, sym, ap, ◌∙◌, subst}
use mathlib.Core.List.{List}
use mathlib.Core.Logic.{◌↔◌}
use Prim.Native.Nat.{ℕ, ◌<◌}
use native.Mathlib.Omega.{arith}
use lib.ListN.{replicate, length-replicate}
use Rattle.lists.specs.Bytes.{Bytes}
use Rattle.lists.specs.Answer.{Answer, given, and_then}
use Rattle.networks.specs.Cut.{fragment, Agrees, cut, cut_twice as twice, Cuts}
use Rattle.networks.specs.Judge.{Passes as Passing}
use Rattle.networks.specs.Sheets.{number, listed}
use Rattle.networks.specs.Sound.{Sound}
use Rattle.networks.proofs.FragmentsAndWhole.{fragments_and_whole}
use Rattle.networks.proofs.TwiceRefused.{apart_place_lem}
use Rattle.networks.proofs.Recutting.{swapped, first_then_second, second_then_first, third_given}
use Rattle.reading.specs.Largest.{largest_network}
use Rattle.reading.specs.Whole.{HouseNetwork, bounds, write_network, network_of, sheet_of, list_of}
use Rattle.cutting.specs.Cutting.{cut_network}
use Rattle.cutting.proofs.OnBytes.{cut_said_lem, record_fine, record_small}
use Rattle.promises.specs.Calls.{house1, Passes, cut_into, Roomy}
use Rattle.promises.specs.Demand3.{FragmentsAndWhole, Refined, CommonRefinement, ApartRefused}
use Rattle.promises.proofs.Cuts.{into_fragment, into_given, record_said, twice_said, given_asked, cuts_network, cuts_sheet, cuts_sound, cuts_said, said_passes, passes_said}
use Rattle.promises.proofs.Left.{written}
use Rattle.records.specs.Network.{SoundRecord}
use Rattle.layout.specs.declared.Form.{Form}
use Rattle.entries.specs.Entries.{WellFormed}
use Rattle.layout.specs.Form.{form_of, list_lead}

-- a buffer with room
abbrev pub blank : Form → List ℕ
blank f = replicate (largest_network f) 0

pub blank_roomy : (f : Form) → Roomy f (blank f)
blank_roomy f = let e = length-replicate {A = ℕ} (largest_network f) 0 in omega arith

module _ (network sheet list : List ℕ) (small : Bytes network) (sheet_small : Bytes sheet) (l : WellFormed list_lead list) (k : ℕ) (G : HouseNetwork)
    (e : cut_network network sheet k ≡ given G) where
  abbrev W : List ℕ
  W = write_network (form_of network) G

  -- what its record says
  said : network_of W ≡ G
  said = record_said network sheet k small sheet_small G e

  -- a list passes on a fragment's record where it passes on the fragment
  record_passes : Passing house1 G (list_of list) → Passes W list
  record_passes h = said_passes W list (record_fine network sheet k small G e sheet_small) l
      (subst (λ (H : HouseNetwork). Passing house1 H (list_of list)) (sym said) h)

  pub fragment_passes : Passes W list → Passing house1 G (list_of list)
  fragment_passes p = subst (λ (H : HouseNetwork). Passing house1 H (list_of list)) said
      (passes_said W list (record_small network sheet k small G e sheet_small) p).2

pub fragments_whole : (network sheet list : List ℕ) → FragmentsAndWhole network sheet list
fragments_whole network sheet list small sheet_small cuts l entered = (
  λ h.
      let w = theorem.0 (λ k G e. in_part h k G (said k ∙ e)) in
      (said_passes network list n l w.0, w.1),
  λ h k out F asked roomy e.
      let g = into_given network sheet k out F e in
      subst (λ (b : List ℕ). Passes b list) (sym g.2) (record_passes network sheet list small sheet_small l k g.0 g.1
      (theorem.1 ((passes_said network list small h.0).2, h.1) k g.0 (sym (said k) ∙ g.1))),
)
  where
    n : SoundRecord network
    n = cuts_network network sheet cuts

    said : (k : ℕ) → cut_network network sheet k ≡ cut house1 (network_of network) (sheet_of sheet) k
    said k = cut_said_lem network sheet k n (cuts_sheet network sheet cuts)

    theorem : ((k : ℕ) (F : HouseNetwork) → cut house1 (network_of network) (sheet_of sheet) k ≡ given F → Passing house1 F (list_of list))
        ↔ (Passing house1 (network_of network) (list_of list) × Agrees (network_of network) (sheet_of sheet) (listed (list_of list)))
    theorem = fragments_and_whole house1 (bounds (form_of network)) (network_of network) (sheet_of sheet) (list_of list)
        (cuts_sound network sheet cuts small) (cuts_said network sheet cuts small sheet_small) entered

    in_part : ((k : ℕ) (out F : List ℕ) → k < 256 → Roomy (form_of network) out → cut_into network sheet k out ≡ given F → Passes F list)
        → (k : ℕ) (G : HouseNetwork) → cut_network network sheet k ≡ given G → Passing house1 G (list_of list)
    in_part h k G e = fragment_passes network sheet list small sheet_small l k G e
        (h k (blank (form_of network)) (write_network (form_of network) G) (given_asked network sheet sheet_small (cuts_sheet network sheet cuts) k G (sym (said k) ∙ e)) (blank_roomy (form_of network))
        (into_fragment network sheet k (blank (form_of network)) small (blank_roomy (form_of network)) ∙ ap (λ (a : Answer HouseNetwork). and_then a (written (form_of network))) e))

module _ (network X Y Z : List ℕ) (r : Refined network X Y Z) where
  abbrev N : HouseNetwork
  N = network_of network

  n : SoundRecord network
  n = cuts_network network Z r.cuts

  -- the third sheet's cut, by the fragment
  third_said : (k : ℕ) (out : List ℕ) → Roomy (form_of network) out → cut_into network Z k out ≡ and_then (cut house1 N (sheet_of Z) k) (written (form_of network))
  third_said k out roomy = into_fragment network Z k out r.bytes.0 roomy
      ∙ ap (λ (a : Answer HouseNetwork). and_then a (written (form_of network))) (cut_said_lem network Z k n (cuts_sheet network Z r.cuts))

  sound : Sound (bounds (form_of network)) N
  sound = cuts_sound network Z r.cuts r.bytes.0

  cuts : Cuts house1 N (sheet_of Z)
  cuts = cuts_said network Z r.cuts r.bytes.0 r.bytes.3

pub common_refinement : (network X Y Z : List ℕ) → CommonRefinement network X Y Z
common_refinement network X Y Z r w own o₁ o₂ o₃ roomy₁ roomy₂ roomy₃ = (
  twice_said network X Y (number (sheet_of X) w) (number (sheet_of Y) w) o₁ o₂ r.bytes.0 r.bytes.1 roomy₁ roomy₂ m r.first_formed r.second_formed
      ∙ ap (λ (a : Answer HouseNetwork). and_then a (written (form_of network))) once
      ∙ sym third,
  twice_said network Y X (number (sheet_of Y) w) (number (sheet_of X) w) o₁ o₂ r.bytes.0 r.bytes.2 roomy₁ roomy₂ m r.second_formed r.first_formed
      ∙ ap (λ (a : Answer HouseNetwork). and_then a (written (form_of network))) (other ∙ once)
      ∙ sym third,
  (
    write_network (form_of network) (fragment (network_of network) (sheet_of Z) (number (sheet_of Z) w)),
    third ∙ ap (λ (a : Answer HouseNetwork). and_then a (written (form_of network)))
        (third_given house1 (bounds (form_of network)) (network_of network) (sheet_of X) (sheet_of Y) (sheet_of Z) (sound network X Y Z r) r.third (cuts network X Y Z r) w own),
  ),
)
  where
    m : SoundRecord network
    m = n network X Y Z r

    third : cut_into network Z (number (sheet_of Z) w) o₃ ≡ and_then (cut house1 (network_of network) (sheet_of Z) (number (sheet_of Z) w)) (written (form_of network))
    third = third_said network X Y Z r (number (sheet_of Z) w) o₃ roomy₃

    once : twice house1 (network_of network) (sheet_of X) (number (sheet_of X) w) (sheet_of Y) (number (sheet_of Y) w) ≡ cut house1 (network_of network) (sheet_of Z) (number (sheet_of Z) w)
    once = first_then_second house1 (bounds (form_of network)) (network_of network) (sheet_of X) (sheet_of Y) (sheet_of Z) (sound network X Y Z r) r.third (cuts network X Y Z r) w own

    other : twice house1 (network_of network) (sheet_of Y) (number (sheet_of Y) w) (sheet_of X) (number (sheet_of X) w)
        ≡ twice house1 (network_of network) (sheet_of X) (number (sheet_of X) w) (sheet_of Y) (number (sheet_of Y) w)
    other = second_then_first house1 (bounds (form_of network)) (network_of network) (sheet_of X) (sheet_of Y) (sheet_of Z) (sound network X Y Z r) r.third (cuts network X Y Z r) w own

pub apart_refuses : (network X Y Z : List ℕ) → ApartRefused network X Y Z
apart_refuses network X Y Z r x y apart o₁ o₂ roomy₁ roomy₂ = (
  twice_said network X Y x y o₁ o₂ r.bytes.0 r.bytes.1 roomy₁ roomy₂ (n network X Y Z r) r.first_formed r.second_formed
      ∙ ap (λ (b : Answer HouseNetwork). and_then b (written (form_of network)))
      (apart_place_lem house1 (bounds (form_of network)) (network_of network) (sheet_of X) (sheet_of Y) (sheet_of Z) (sound network X Y Z r) r.third (cuts network X Y Z r) x y apart),
  twice_said network Y X y x o₁ o₂ r.bytes.0 r.bytes.2 roomy₁ roomy₂ (n network X Y Z r) r.second_formed r.first_formed
      ∙ ap (λ (b : Answer HouseNetwork). and_then b (written (form_of network)))
      (apart_place_lem house1 (bounds (form_of network)) (network_of network) (sheet_of Y) (sheet_of X) (sheet_of Z) (sound network X Y Z r)
      (swapped (sheet_of X) (sheet_of Y) (sheet_of Z) r.third) (cuts network X Y Z r) y x (λ w o p q. apart w o q p)),
)
