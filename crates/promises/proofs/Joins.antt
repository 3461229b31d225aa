-- Any two records, joined, proved: the theorems about networks, on the bytes that a join leaves. What is left is the record of the joint network of
-- what the two say, which is sound, and says it; so a list is judged by that network, and the record can be joined again.
use mathlib.Core.Path.{◌≡◌, sym, ap, ap₂, ◌∙◌}
use mathlib.Core.List.{List}
use mathlib.Core.Logic.{◌↔◌, ⊎_elim}
use lib.ListN.{length}
use Prim.Native.Nat.{ℕ}
use Rattle.lists.specs.Answer.{Answer, given, refused, and_then, NoneApplies}
use Rattle.lists.specs.Bytes.{Bytes}
use Rattle.lists.proofs.Answer.{then_given, none_first}
use Rattle.routes.specs.Carry.{highest}
use Rattle.networks.specs.Join.{joining, join}
use Rattle.networks.specs.Judge.{pass}
use Rattle.networks.proofs.JoinPasses as passing
use Rattle.networks.specs.Joint.{JoinRefused}
use Rattle.networks.proofs.JoinRefusals.{join_refused}
use Rattle.networks.proofs.Joining as networks
use Rattle.networks.proofs.Joining.{join_comm, join_assoc}
use Rattle.layout.specs.Form.{form_of}
use Rattle.layout.specs.declared.Form.{Form}
use Rattle.layout.proofs.OneForm.{one_form}
use Rattle.records.specs.Network.{SoundRecord}
use Rattle.reading.specs.House.{house_telling}
use Rattle.reading.specs.Whole.{HouseNetwork, bounds, write_network, network_of, list_of}
use Rattle.judging.proofs.OnBytes.{judge_said, judged}
use Rattle.outcomes.specs.Room.{record_answer, laid_answer}
use Rattle.outcomes.proofs.RoomLaws as room
use Rattle.joining.specs.Joining.{join_networks, join_records, join_buffer}
use Rattle.joining.proofs.OnBytes.{join_said_lem, said}
use Rattle.promises.specs.Calls.{house1, join_into}
use Rattle.promises.specs.Demand1.{joining_table}
use Rattle.promises.specs.Joins.{JoinLays, JoinSays, JoinSound, JoinIs, JoinCommutes, JoinAssociates, JoinPasses, JoinCounts}
use Rattle.promises.proofs.Cuts.{said_passes, passes_said}
use Rattle.promises.proofs.Demand1.{join_rows}
use Rattle.promises.proofs.Left.{left, left_given, left_same}
use Rattle.promises.proofs.Joined.{first_sound, second_sound, join_joining, joint_told, into_left}

module _ (first second : List ℕ) where
  abbrev f : Form
  f = form_of first

  abbrev N : HouseNetwork
  N = network_of first

  abbrev M : HouseNetwork
  M = network_of second

  joint_given : NoneApplies (joining_table first second {A = ℕ}) → join_networks first second ≡ given (joining N M)
  joint_given h = join_rows first second ∙ none_first (joining_table first second) _ h

  pub join_lays : (out : List ℕ) → JoinLays first second out
  unfolding join_records join_buffer
  join_lays out h = (
    room.record_laid f (join_networks first second) out _ (joint_given h),
    room.record_unlaid f (join_networks first second) out _ (joint_given h),
  )

  pub join_says : JoinSays first second
  unfolding join_records
  join_says small second_small n m number place size other = (
    λ e. ⊎_elim (λ r. words.0 (sym same ∙ r)) (λ s. absurd (other s.2)) (room.room_refuses f (join_networks first second) size number place e),
    λ h. ap (record_answer f size) (same ∙ words.1 h),
  )
    where
      same : join_networks first second ≡ join house1 (house_telling highest) (bounds f) N M
      same = join_said_lem first second n m

      words : (join house1 (house_telling highest) (bounds f) N M ≡ refused number place) ↔ JoinRefused house1 (bounds f) N M number place
      words = join_refused house1 (house_telling highest) (bounds f) N M (first_sound first second small second_small n)
          (second_sound first second small second_small m) number place

  -- a record that was left is the joint network's
  given_left : (out J : List ℕ) → join_into first second out ≡ given J
      → (F : HouseNetwork) × (join_networks first second ≡ given F) × (J ≡ write_network f F)
  given_left out J e = left_given f (join_networks first second) out J (sym (into_left first second out) ∙ e)

  pub join_sound : JoinSound first second
  join_sound small second_small out J e =
      let g = given_left out J e in
      let t = joint_told first second small second_small g.0 g.1 in
      rw g.2 (t.fine, t.small, t.form, t.short, t.says ∙ sym (join_joining first second small second_small g.0 g.1))

  -- what it says, as the network that is given
  left_says : Bytes first → Bytes second → (out J : List ℕ) → join_into first second out ≡ given J
      → join house1 (house_telling highest) (bounds f) N M ≡ given (network_of J)
  left_says small second_small out J e =
      let g = given_left out J e in
      (said first second g.0 g.1).2 ∙ ap given (sym (ap network_of g.2 ∙ (joint_told first second small second_small g.0 g.1).says))

  -- neither record is refused
  both_sound : (out J : List ℕ) → join_into first second out ≡ given J → SoundRecord first × SoundRecord second
  both_sound out J e = let g = given_left out J e in let v = said first second g.0 g.1 in (v.0, v.1)

  pub join_is : JoinIs first second
  join_is small second_small out J e =
      let v = both_sound out J e in
      networks.join_is house1 (house_telling highest) (bounds f) N M (first_sound first second small second_small v.0)
      (second_sound first second small second_small v.1) (network_of J) (left_says small second_small out J e)

  pub join_passes : (list : List ℕ) → JoinPasses first second list
  join_passes list small second_small out J e =
      let v = both_sound out J e in
      let r = join_sound small second_small out J e in
      let theorem = passing.join_passes house1 (house_telling highest) (bounds f) N M (network_of J)
      (first_sound first second small second_small v.0) (second_sound first second small second_small v.1) (left_says small second_small out J e)
      (list_of list) in (
        λ p.
            let w = passes_said J list r.1 p in
            let b = theorem.0 w.2 in
            (said_passes first list v.0 w.1 b.0, said_passes second list v.1 w.1 b.1),
        λ p.
            let a = passes_said first list small p.0 in
            let b = passes_said second list second_small p.1 in
            said_passes J list r.0 a.1 (theorem.1 (a.2, b.2)),
      )

  pub join_counts : (list : List ℕ) → JoinCounts first second list
  join_counts list small second_small out J e k l p q =
      let v = both_sound out J e in
      let r = join_sound small second_small out J e in
      let a = judged first list (pass k) p in
      let b = judged second list (pass l) q in
      judge_said J list r.0 a.1
      ∙ passing.join_count house1 (house_telling highest) (bounds f) N M (network_of J)
      (first_sound first second small second_small v.0) (second_sound first second small second_small v.1) (left_says small second_small out J e)
      (list_of list) k l a.2 b.2

-- two sound records in either order: the joint network, its record's form, and with it the answer and the buffer
module _ (first second : List ℕ) (small : Bytes first) (second_small : Bytes second) (n : SoundRecord first) (m : SoundRecord second) where
  same_joint : join_networks first second ≡ join_networks second first
  same_joint = join_said_lem first second n m
      ∙ join_comm house1 (house_telling highest) (bounds (form_of first)) (network_of first) (network_of second)
      (first_sound first second small second_small n) (second_sound first second small second_small m)
      ∙ ap (λ (g : Form). join house1 (house_telling highest) (bounds g) (network_of second) (network_of first)) (one_form first second)
      ∙ sym (join_said_lem second first m n)

  pub same_join : (out : List ℕ)
      → (join_records first second (length out) ≡ join_records second first (length out)) × (join_buffer first second out ≡ join_buffer second first out)
  unfolding join_records join_buffer
  same_join out = (
    ap₂ (λ (g : Form) (a : Answer HouseNetwork). record_answer g (length out) a) (one_form first second) same_joint,
    ap₂ (λ (g : Form) (a : Answer HouseNetwork). laid_answer g a out) (one_form first second) same_joint,
  )

pub join_commutes : (first second : List ℕ) → JoinCommutes first second
join_commutes first second small second_small n m out out' long =
    into_left first second out
    ∙ left_same (form_of first) (join_networks first second) out out' long
    ∙ ap₂ (λ (g : Form) (a : Answer HouseNetwork). left g a out') (one_form first second) (same_joint first second small second_small n m)
    ∙ sym (into_left second first out')

pub join_associates : (first second third : List ℕ) → JoinAssociates first second third
join_associates first second third small second_small third_small o₁ o₂ o₃ o₄ X Y p q =
    let l = then_given (join_into first second o₁) _ X p in
    let r = then_given (join_into second third o₃) _ Y q in
    let ls = join_sound first second small second_small o₁ l.0 l.1 in
    let rs = join_sound second third second_small third_small o₃ r.0 r.1 in
    let x = given_left l.0 third o₂ X l.2 in
    let y = given_left first r.0 o₄ Y r.2 in
    let v = both_sound first second o₁ l.0 l.1 in
    let w = both_sound second third o₃ r.0 r.1 in
    let left_way = said l.0 third x.0 x.1 in
    let right_way = said first r.0 y.0 y.1 in
    x.2
    ∙ ap₂ write_network ls.2
    (join_assoc house1 (house_telling highest) (bounds (form_of first)) (network_of first) (network_of second) (network_of third) x.0 y.0
    (first_sound first second small second_small v.0) (second_sound first second small second_small v.1)
    (second_sound first third small third_small w.1)
    (ap (λ (a : Answer HouseNetwork). and_then a (λ (F : HouseNetwork). join house1 (house_telling highest) (bounds (form_of first)) F (network_of third)))
    (left_says first second small second_small o₁ l.0 l.1)
    ∙ ap (λ (g : Form). join house1 (house_telling highest) (bounds g) (network_of l.0) (network_of third)) (one_form first l.0) ∙ left_way.2)
    (ap (λ (g : Form). and_then (join house1 (house_telling highest) (bounds g) (network_of second) (network_of third))
    (λ (F : HouseNetwork). join house1 (house_telling highest) (bounds (form_of first)) (network_of first) F)) (one_form first second)
    ∙ ap (λ (a : Answer HouseNetwork). and_then a (λ (F : HouseNetwork). join house1 (house_telling highest) (bounds (form_of first)) (network_of first) F))
    (left_says second third second_small third_small o₃ r.0 r.1) ∙ right_way.2))
    ∙ sym y.2
