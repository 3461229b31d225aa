-- What the judge answers of two records, by what their bytes say: the theorems about networks, carried over by the bridges.
--     judge_said               records that are not refused are judged by what they say
--     judge_passes             demand 2: a list passes exactly where equations 6 to 8 hold of what it says and every demand is met
--     pass_judged              on a pass all own boxes are judged
--     judge_finds, found_judged    a finding is the first by rising id; its count is of the own boxes up to the named one
--     judge_refuses            a refusal: the network's, else the list's, else 17 at the lowest own box without an entry
--     judge_same               lists that agree on the own boxes get the same answer
use mathlib.Core.Path.{◌≡◌, ◌∙◌}
use mathlib.Core.List.{List}
use mathlib.Core.Logic.{◌⊎◌, inl, inr, ◌↔◌, ⊎_elim}
use mathlib.Core.Option.{none, some}
use Prim.Native.Nat.{ℕ, ◌<◌}
use lib.ListN.{length}
use Rattle.lists.specs.All.{All}
use Rattle.lists.specs.Bytes.{Bytes}
use Rattle.routes.specs.declared.Demand.{Demand}
use Rattle.routes.specs.declared.Route.{Route}
use Rattle.lists.specs.Answer.{given, refused}
use Rattle.networks.specs.Lowest.{LowestOwn, Entered}
use Rattle.reading.specs.House.{house}
use Rattle.networks.specs.Judge.{Verdict, pass, found, fault, judge, up_to}
use Rattle.networks.specs.Network.{Own, own, own_boxes, box}
use Rattle.networks.specs.Sheets.{listed}
use Rattle.networks.specs.Solution.{mapping, Solution, Demands}
use Rattle.networks.specs.Sound.{Sound}
use Rattle.networks.proofs.Passing.{passing, pass_count, finding, found_count}
use Rattle.networks.proofs.Refusals.{judge_refused}
use Rattle.networks.proofs.SameAnswer.{same_answer}
use Rattle.entries.specs.Entries.{list_refusal, WellFormed}
use Rattle.layout.specs.Form.{list_lead, form_of}
use Rattle.records.specs.Network.{network_refusal, SoundRecord}
use Rattle.reading.specs.Whole.{HouseNetwork, HouseList, bounds, network_of, list_of}
use Rattle.reading.proofs.Bridges.{read_network_lem}
use Rattle.routes.specs.Carry.{highest}
use Rattle.judging.specs.Judging.{judge_records}
use Rattle.lists.proofs.Answer.{then_given, then_refused}
use Rattle.records.proofs.Checked.{given_network, given_entries}

module _ (network list : List ℕ) where
  abbrev N : HouseNetwork
  N = network_of network

  abbrev L : HouseList
  L = list_of list

  -- what the list maps each box to
  abbrev ℒ : ℕ → Route
  ℒ = mapping (house highest) N L

  pub judge_said : SoundRecord network → WellFormed list_lead list → judge_records network list ≡ judge (house highest) N L
  unfolding judge_records
  judge_said n l = rw (n, l)

  -- what is answered with a verdict is not refused
  pub judged : (v : Verdict Route) → judge_records network list ≡ given v
      → SoundRecord network × WellFormed list_lead list × (judge (house highest) N L ≡ given v)
  unfolding judge_records
  judged v e =
      let n = then_given (network_refusal network) _ v e in
      let l = then_given (list_refusal list) _ v n.2 in
      (given_network network n.0 n.1, given_entries list_lead list l.0 l.1, l.2)

  module _ (small : Bytes network) where
    sound : SoundRecord network → Sound (bounds (form_of network)) N
    sound n = (read_network_lem network small n).0

    pub judge_passes : ((count : ℕ) × (judge_records network list ≡ given (pass count))) ↔
        (SoundRecord network × WellFormed list_lead list × Entered N (listed L) × Solution (house highest) N ℒ × Demands (house highest) N ℒ)
    judge_passes = (
      λ p.
          let v = judged (pass p.0) p.1 in
          let all = pass_count (house highest) (bounds (form_of network)) N L (sound v.0) p.0 v.2 in
          let h = (passing (house highest) (bounds (form_of network)) N L (sound v.0)).0 (rw all at v.2) in
          (v.0, v.1, h.0, h.1, h.2),
      λ h. (
        length (own_boxes N),
        judge_said h.0 h.1 ∙ (passing (house highest) (bounds (form_of network)) N L (sound h.0)).1 (h.2, h.3, h.4),
      ),
    )

    pub pass_judged : (count : ℕ) → judge_records network list ≡ given (pass count) → count ≡ length (own_boxes N)
    pass_judged count e = let v = judged (pass count) e in pass_count (house highest) (bounds (form_of network)) N L (sound v.0) count v.2

    module _ (number node count : ℕ) (route : Route) (e : judge_records network list ≡ given (found number node route count)) where
      pub judge_finds : (b : Own Route Demand) × (box N node ≡ some (own b))
          × (fault (house highest) N L b ≡ some (record { number = number; route = route }))
          × All (λ (d : Own Route Demand). d.id < node → fault (house highest) N L d ≡ none) (own_boxes N)
      judge_finds = let v = judged (found number node route count) e in
          finding (house highest) (bounds (form_of network)) N L (sound v.0) number node count route v.2

      pub found_judged : count ≡ up_to N node
      found_judged = let v = judged (found number node route count) e in
          found_count (house highest) (bounds (form_of network)) N L (sound v.0) number node count route v.2

    pub judge_refuses : (number place : ℕ) → judge_records network list ≡ refused number place
        → (network_refusal network ≡ refused number place)
        ⊎ ((SoundRecord network × (list_refusal list ≡ refused number place))
        ⊎ (SoundRecord network × WellFormed list_lead list × (number ≡ 17) × LowestOwn N (λ (b : Own Route Demand). listed L b.id ≡ none) place))
    unfolding judge_records
    judge_refuses number place e = ⊎_elim inl
        (λ n. let ok = given_network network n.0 n.1 in inr (⊎_elim (λ l. inl (ok, l))
        (λ l. let r = judge_refused (house highest) (bounds (form_of network)) N (sound ok) L number place l.2 in
        inr (ok, given_entries list_lead list l.0 l.1, r.0, r.1))
        (then_refused (list_refusal list) _ number place n.2)))
        (then_refused (network_refusal network) _ number place e)

-- To agree on a box is to list the same route for it, or none of the two to have an entry.
pub judge_same : (network list other : List ℕ) → WellFormed list_lead list → WellFormed list_lead other
    → All (λ (b : Own Route Demand). listed (list_of list) b.id ≡ listed (list_of other) b.id) (own_boxes (network_of network))
    → judge_records network list ≡ judge_records network other
unfolding judge_records
judge_same network list other l m agree = rw (l, m, same_answer (house highest) (network_of network) (list_of list) (list_of other) agree)
