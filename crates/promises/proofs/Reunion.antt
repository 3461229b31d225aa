-- The fragments of one cut, joined again, proved: a plan is followed from its parts. What each part leaves is the record of the fragment of all its
-- numbers, which is sound, so that two of them are joined by what they say; and the network with promises added is the fragment of all numbers.
--     two_said                       two records of networks that they are known to say
--     part_told, promising_told      a fragment's record, and the record with promises added
--     plan_left, whole_left          what a plan leaves
--     same_cut, record_cuts          the network with promises added is cut as the network is
use mathlib.Core.Path.{◌≡◌, refl, sym, ap, ap₂, ◌∙◌, subst}
use mathlib.Core.Bool.{Bool, true}
use mathlib.Core.List.{List}
use Prim.Native.Nat.{ℕ, ◌+◌, ◌*◌}
use lib.ListN.{length, length-map}
use Rattle.lists.specs.All.{All, any, Distinct}
use Rattle.lists.proofs.All.{all_of}
use Rattle.lists.specs.Answer.{Answer, given, and_then}
use Rattle.lists.specs.Bytes.{Bytes}
use Rattle.lists.proofs.Answer.{given_same}
use Rattle.routes.specs.Carry.{highest}
use Rattle.networks.specs.Cut.{fragment_of, numbered, cut, Cuts}
use Rattle.networks.specs.Join.{join}
use Rattle.networks.specs.Network.{own_boxes}
use Rattle.networks.specs.Reunion.{promising, Plan, part, both, numbers, among}
use Rattle.networks.specs.Sound.{Sound}
use Rattle.networks.proofs.Laws.Promising.{covered}
use Rattle.networks.proofs.Laws.Reunion.{halves}
use Rattle.networks.proofs.Reunion as again
use Rattle.networks.proofs.Reunion.{some_joined, some_sound, joined_sound}
use Rattle.layout.specs.Form.{node_width, form_of}
use Rattle.layout.specs.declared.Form.{Form}
use Rattle.layout.proofs.OneForm.{form_usable}
use Rattle.records.specs.Network.{SoundRecord}
use Rattle.records.proofs.Fine.{network_fine}
use Rattle.reading.specs.House.{house_telling}
use Rattle.reading.specs.Whole.{HouseNetwork, HouseSheet, bounds, write_network, network_of, sheet_of}
use Rattle.reading.proofs.Bridges.{read_network_lem}
use Rattle.reading.proofs.Fits.{network_fits, sheet_fits, fragment_fits}
use Rattle.reading.proofs.Lengths.{network_length}
use Rattle.cutting.specs.Cutting.{cut_network, cut_records}
use Rattle.cutting.proofs.OnBytes.{cut_said_lem}
use Rattle.outcomes.specs.Room.{record_answer}
use Rattle.joining.specs.Joining.{join_networks}
use Rattle.joining.proofs.OnBytes.{join_said_lem}
use Rattle.promises.specs.Calls.{house1, cut_into, join_into, Roomy, SheetCuts}
use Rattle.promises.specs.Reunion.{join_all, AllRoomy, Whole, promising_record, PartsJoin, PlansAlike, PromisingSound, CutBack}
use Rattle.promises.proofs.Cuts.{into_fragment, cuts_network, cuts_sheet, cuts_sound, cuts_said}
use Rattle.promises.proofs.Left.{written, Told, told}
use Rattle.promises.proofs.Joined.{into_joint}

-- two records of networks that they are known to say
two_said : (f : Form) (F G H : HouseNetwork) (out : List ℕ) → Told f F → Told f G → join house1 (house_telling highest) (bounds f) F G ≡ given H → Roomy f out
    → join_into (write_network f F) (write_network f G) out ≡ given (write_network f H)
two_said f F G H out t u e roomy =
    into_joint (write_network f F) (write_network f G) out (rw t.form roomy)
    ∙ ap₂ (λ (a : Answer HouseNetwork) (g : Form). and_then a (written g)) joined t.form
  where
    joined : join_networks (write_network f F) (write_network f G) ≡ given H
    joined = join_said_lem (write_network f F) (write_network f G) t.fine u.fine
        ∙ ap (λ (g : Form). join house1 (house_telling highest) (bounds g) (network_of (write_network f F)) (network_of (write_network f G))) t.form
        ∙ ap₂ (join house1 (house_telling highest) (bounds f)) t.says u.says ∙ e

module _ (network sheet : List ℕ) (small : Bytes network) (sheet_small : Bytes sheet) where
  abbrev f : Form
  f = form_of network

  abbrev N : HouseNetwork
  N = network_of network

  abbrev S : HouseSheet
  S = sheet_of sheet

  -- a sound fragment's record
  part_told : SoundRecord network → (κ : ℕ → Bool) → Sound (bounds f) (fragment_of N S κ) → Told f (fragment_of N S κ)
  part_told n κ sound = told network (fragment_of N S κ) sound
      (fragment_fits N S (network_fits f network small (network_fine network n)) (sheet_fits (form_of sheet) sheet sheet_small) κ)

  -- the network with promises added is the fragment of all numbers
  promising_told : SoundRecord network → Told f (promising N S)
  promising_told n =
      let sound = (read_network_lem network small n).0 in
      let all = covered N S (λ (k : ℕ). true) sound.wires_joined sound.inputs_used (all_of (own_boxes N) (λ b. refl)) in
      subst (Told f) all (part_told n (λ (k : ℕ). true) (subst (Sound (bounds f)) (sym all) (joined_sound house1 (bounds f) N S sound)))

  module _ (cuts : SheetCuts network sheet) where
    n : SoundRecord network
    n = cuts_network network sheet cuts

    sound : Sound (bounds f) N
    sound = cuts_sound network sheet cuts small

    said_cuts : Cuts house1 N S
    said_cuts = cuts_said network sheet cuts small sheet_small

    cut_part : (k : ℕ) → cut_network network sheet k ≡ cut house1 N S k
    cut_part k = cut_said_lem network sheet k n (cuts_sheet network sheet cuts)

    plan_left : (plan : Plan (List ℕ)) → Distinct (numbers plan) → All (λ (k : ℕ). any (numbered N S k) (own_boxes N) ≡ true) (numbers plan)
        → AllRoomy f plan → join_all network sheet plan ≡ given (write_network f (fragment_of N S (among (numbers plan))))
    plan_left (part k out) once there roomy =
        into_fragment network sheet k out small roomy
        ∙ ap (λ (a : Answer HouseNetwork). and_then a (written f)) (cut_part k ∙ some_joined house1 (house_telling highest) (bounds f) N S sound said_cuts (part k out) once there)
    plan_left (both l r out) once there roomy =
        let h = halves N S l r out once there in
        let F = fragment_of N S (among (numbers l)) in
        let G = fragment_of N S (among (numbers r)) in
        let first = some_sound house1 (house_telling highest) (bounds f) N S sound said_cuts l h.first_once h.first_there in
        let second = some_sound house1 (house_telling highest) (bounds f) N S sound said_cuts r h.second_once h.second_there in
        let whole = some_joined house1 (house_telling highest) (bounds f) N S sound said_cuts (both l r out) once there in
        let a = some_joined house1 (house_telling highest) (bounds f) N S sound said_cuts l h.first_once h.first_there in
        let b = some_joined house1 (house_telling highest) (bounds f) N S sound said_cuts r h.second_once h.second_there in
        ap (λ (x : Answer (List ℕ)). and_then x (λ (v : List ℕ). and_then (join_all network sheet r) (λ (w : List ℕ). join_into v w out)))
        (plan_left l h.first_once h.first_there roomy.0)
        ∙ ap (λ (x : Answer (List ℕ)). and_then x (λ (w : List ℕ). join_into (write_network f F) w out))
        (plan_left r h.second_once h.second_there roomy.1)
        ∙ two_said f F G (fragment_of N S (among (numbers (both l r out)))) out (part_told n (among (numbers l)) first) (part_told n (among (numbers r)) second)
        (rw (a, b) at whole) roomy.2

    whole_left : (plan : Plan (List ℕ)) → Whole network sheet plan → join_all network sheet plan ≡ given (promising_record network sheet)
    whole_left plan w =
        plan_left plan w.once w.there w.roomy
        ∙ ap (λ (F : HouseNetwork). given (write_network f F))
        (covered N S (among (numbers plan)) sound.wires_joined sound.inputs_used w.every)

    -- the network with promises added is cut as the network is
    same_cut : (k : ℕ) → cut_network (promising_record network sheet) sheet k ≡ cut_network network sheet k
    same_cut k =
        let t = promising_told n in
        cut_said_lem (promising_record network sheet) sheet k t.fine (cuts_sheet network sheet cuts)
        ∙ ap (λ (F : HouseNetwork). cut house1 F S k) t.says ∙ again.cut_back house1 N S k ∙ sym (cut_part k)

    record_cuts : SheetCuts (promising_record network sheet) sheet
    unfolding cut_records
    record_cuts k room number place asked e = cuts k room number place asked
        (sym (ap₂ (λ (g : Form) (a : Answer HouseNetwork). record_answer g room a) (promising_told n).form (same_cut k)) ∙ e)

    cuts_back : (k : ℕ) (out out' : List ℕ) → Roomy f out → Roomy f out' → cut_into (promising_record network sheet) sheet k out ≡ cut_into network sheet k out'
    cuts_back k out out' roomy roomy' =
        let t = promising_told n in
        into_fragment (promising_record network sheet) sheet k out t.small (rw t.form roomy)
        ∙ ap₂ (λ (a : Answer HouseNetwork) (g : Form). and_then a (written g)) (same_cut k) t.form
        ∙ sym (into_fragment network sheet k out' small roomy')

  same_length : SoundRecord network → length (promising_record network sheet) ≡ length network
  unfolding promising
  same_length n =
      network_length f (form_usable network).wide (promising N S)
      ∙ ap (λ (k : ℕ). 10 + (length N.policies * 13 + k * node_width f + length N.wires * 5)) (length-map N.boxes _)
      ∙ sym (network_length f (form_usable network).wide N)
      ∙ ap length (read_network_lem network small n).1

pub parts_join : (network sheet : List ℕ) (plan : Plan (List ℕ)) → PartsJoin network sheet plan
parts_join network sheet plan small sheet_small cuts w = whole_left network sheet small sheet_small cuts plan w

pub plans_alike : (network sheet : List ℕ) (plan other : Plan (List ℕ)) → PlansAlike network sheet plan other
plans_alike network sheet plan other small sheet_small cuts w v =
    whole_left network sheet small sheet_small cuts plan w ∙ sym (whole_left network sheet small sheet_small cuts other v)

pub promising_sound : (network sheet : List ℕ) → PromisingSound network sheet
promising_sound network sheet small sheet_small n =
    let t = promising_told network sheet small sheet_small n in
    (t.fine, t.small, t.form, t.says, same_length network sheet small sheet_small n)

pub cut_back : (network sheet : List ℕ) (plan : Plan (List ℕ)) → CutBack network sheet plan
cut_back network sheet plan small sheet_small cuts w J e =
    let same = given_same (sym (whole_left network sheet small sheet_small cuts plan w) ∙ e) in (
      subst (λ (b : List ℕ). SheetCuts b sheet) same (record_cuts network sheet small sheet_small cuts),
      λ k out out' roomy roomy'. ap (λ (b : List ℕ). cut_into b sheet k out) (sym same) ∙ cuts_back network sheet small sheet_small cuts k out out' roomy roomy',
    )
