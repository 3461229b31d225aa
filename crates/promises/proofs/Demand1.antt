-- Demand 1, proved: the refusals of a call are one table, made of the tables of the calls that it rests on.
use mathlib.Core.Path.{◌≡◌, refl, sym, ap, ◌∙◌}
use mathlib.Core.Bool.{Bool, true, false, cond}
use mathlib.Core.List.{List, [], ◌∷◌, ◌++◌}
use Prim.Native.Nat.{ℕ}
use lib.Dec.{leb, ltb}
use lib.ListN.{length}
use borrow.Author.Tests.{leb-true, leb-false, lt-ltb, le-ltb}
use Rattle.lists.specs.Answer.{Answer, given, refused}
use Rattle.lists.specs.Test.{first_applying}
use Rattle.lists.proofs.Answer.{first_append, first_then}
use Rattle.networks.specs.Cut.{fragment, cut, cut_table}
use Rattle.networks.specs.Join.{joining, join, join_table}
use Rattle.networks.specs.Judge.{judge, judge_table}
use Rattle.routes.specs.Carry.{highest}
use Rattle.layout.specs.Form.{form_of, list_lead, sheet_lead}
use Rattle.entries.specs.Entries.{entries_table, entries_refusal}
use Rattle.records.specs.Network.{network_table, network_refusal}
use Rattle.reading.specs.House.{house_telling}
use Rattle.reading.specs.Whole.{bounds, network_of, sheet_of, list_of}
use Rattle.judging.specs.Judging.{judge_records}
use Rattle.cutting.specs.Cutting.{cut_network, cut_records}
use Rattle.cutting.proofs.OnBytes.{cut_kept}
use Rattle.promises.specs.Calls.{house1}
use Rattle.outcomes.proofs.RoomLaws as room
use Rattle.joining.specs.Joining.{join_networks, join_records, join_buffer}
use Rattle.promises.specs.Demand1.{cutting_table, joining_table, fragment_record, joint_record, JudgeRefuses, CutRefuses, RefusalKeeps, JoinRefuses, JoinKeeps}

-- three tables, one after the other
three : {A : Type 0} (first second third : List (Bool × Answer A)) (a : Answer A)
    → first_applying first (first_applying second (first_applying third a)) ≡ first_applying (first ++ (second ++ third)) a
three first second third a = ap (first_applying first) (sym (first_append second third a)) ∙ sym (first_append first (second ++ third) a)

pub judge_refuses : (network list : List ℕ) → JudgeRefuses network list
unfolding judge_records judge network_refusal entries_refusal
judge_refuses network list =
    first_then (network_table (form_of network) network) (given (form_of network)) _
    ∙ ap (first_applying (network_table (form_of network) network)) (first_then (entries_table (form_of list) list_lead list) (given (form_of list)) _)
    ∙ three (network_table (form_of network) network) (entries_table (form_of list) list_lead list) (judge_table house1 (network_of network) (list_of list)) _

-- the cutter's rows up to 19
pub cut_rows : (network sheet : List ℕ) (k : ℕ)
    → cut_network network sheet k ≡ first_applying (cutting_table network sheet k) (given (fragment (network_of network) (sheet_of sheet) k))
unfolding cut_network cut network_refusal entries_refusal
cut_rows network sheet k =
    first_then (network_table (form_of network) network) (given (form_of network)) _
    ∙ ap (first_applying (network_table (form_of network) network)) (first_then (entries_table (form_of sheet) sheet_lead sheet) (given (form_of sheet)) _)
    ∙ three (network_table (form_of network) network) (entries_table (form_of sheet) sheet_lead sheet) (cut_table house1 (network_of network) (sheet_of sheet) k) _

-- the room as a row
room_row : (room n : ℕ) → cond (leb n room) (given n) (refused 20 n) ≡ cond (ltb room n) (refused 20 n) (given n)
room_row room n = go (leb n room) refl
  where
    go : (t : Bool) → leb n room ≡ t → cond t (given n) (refused 20 n) ≡ cond (ltb room n) (refused 20 n) (given n)
    go true q = rw (le-ltb room n (leb-true n room q)) refl
    go false q = rw (lt-ltb room n (leb-false n room q)) refl

pub cut_refuses : (network sheet : List ℕ) (k room : ℕ) → CutRefuses network sheet k room
unfolding cut_records
cut_refuses network sheet k room =
    rw (cut_rows network sheet k)
    (first_then (cutting_table network sheet k) (given (fragment (network_of network) (sheet_of sheet) k)) _
    ∙ ap (first_applying (cutting_table network sheet k)) (room_row room (length (fragment_record network sheet k)))
    ∙ sym (first_append (cutting_table network sheet k)
    ((ltb room (length (fragment_record network sheet k)), refused 20 (length (fragment_record network sheet k))) ∷ []) _))

pub refusal_keeps : (network sheet : List ℕ) (k : ℕ) (out : List ℕ) → RefusalKeeps network sheet k out
refusal_keeps = cut_kept

-- the joiner's rows up to 24
pub join_rows : (first second : List ℕ)
    → join_networks first second ≡ first_applying (joining_table first second) (given (joining (network_of first) (network_of second)))
unfolding join_networks join network_refusal
join_rows first second =
    first_then (network_table (form_of first) first) (given (form_of first)) _
    ∙ ap (first_applying (network_table (form_of first) first)) (first_then (network_table (form_of second) second) (given (form_of second)) _)
    ∙ three (network_table (form_of first) first) (network_table (form_of second) second)
    (join_table house1 (house_telling highest) (bounds (form_of first)) (network_of first) (network_of second)) _

pub join_refuses : (first second : List ℕ) (size : ℕ) → JoinRefuses first second size
unfolding join_records
join_refuses first second size =
    rw (join_rows first second)
    (first_then (joining_table first second) (given (joining (network_of first) (network_of second))) _
    ∙ ap (first_applying (joining_table first second)) (room_row size (length (joint_record first second)))
    ∙ sym (first_append (joining_table first second)
    ((ltb size (length (joint_record first second)), refused 20 (length (joint_record first second))) ∷ []) _))

pub join_keeps : (first second out : List ℕ) → JoinKeeps first second out
unfolding join_records join_buffer
join_keeps first second = room.refusal_keeps (form_of first) (join_networks first second)
